-- Up to where the terms of a log rise, kept beside it.
use Rattle.std.proofs.Common.{◌≡◌, ℕ, zero, suc, ◌+◌, ◌<◌, ◌≤◌, min, List, [], ◌∷◌, ◌++◌, length, take, Bool, true, false, refl, ap, sym, ◌∙◌, arith}
use Rattle.std.specs.Prelude.{◌==◌, nat_le, ◌&&◌, if◌then◌else◌}
use Rattle.std.specs.Bool.{OnTrue}
use Rattle.std.proofs.Math.Dec.{eqb-suc-suc, eqb-zero-suc}
use Rattle.std.proofs.lemmas.Bool.{cond_both, leb-true}
use Rattle.raft_log.specs.declared.entry.Entry.{Entry}
use Rattle.raft_log.specs.Log.{term_at, last_of}
use Rattle.raft_log.specs.Rising.{rising_from, rising, risen, IsOlder}

-- the last term, or this one
abbrev top : ℕ → List Entry → ℕ
top low [] = low
top low (entry ∷ log) = top entry.term log

top_there : (entry : Entry) (log : List Entry) → top entry.term log ≡ term_at (entry ∷ log) (suc (length log))
top_there entry [] = refl
top_there entry (next ∷ log) = top_there next log

top_is : (log : List Entry) → top 0 log ≡ term_at log (length log)
top_is [] = refl
top_is (entry ∷ log) = top_there entry log

-- one entry more, of this term
abbrev goes_on : ℕ → ℕ → Bool → ℕ
goes_on known count more = if (known == count) && more then known + 1 else known

one_up : (more : Bool) (known after : ℕ) → (if more then known + 1 else known) ≡ after → (if more then suc known + 1 else suc known) ≡ suc after
one_up true known after is = omega (arith, is)
one_up false known after is = omega (arith, is)

one_before : (first more : Bool) (known count after : ℕ) → goes_on known count more ≡ after → goes_on (if first then suc known else 0) (suc count) more ≡ (if first then suc after else 0)
one_before true more known count after is =
    ap (λ (same : Bool). if same && more then suc known + 1 else suc known) (eqb-suc-suc known count) ∙ one_up ((known == count) && more) known after is
one_before false more known count after is = ap (λ (same : Bool). if same && more then 0 + 1 else 0) (eqb-zero-suc count)

grown : (low : ℕ) (log : List Entry) (entry : Entry) → goes_on (rising_from low log) (length log) (nat_le (top low log) entry.term) ≡ rising_from low (log ++ entry ∷ [])
grown low [] entry = refl
grown low (first ∷ log) entry =
    one_before (nat_le low first.term) (nat_le (top first.term log) entry.term) (rising_from first.term log) (length log) (rising_from first.term (log ++ entry ∷ [])) (grown first.term log entry)

pub risen_is : (log : List Entry) (entry : Entry) → risen (rising log) (last_of log) entry.term ≡ rising (log ++ entry ∷ [])
risen_is log entry = ap (λ (last : ℕ). goes_on (rising log) (length log) (nat_le last entry.term)) (sym (top_is log)) ∙ grown 0 log entry

-- they rise within the log
within_from : (low : ℕ) (log : List Entry) → rising_from low log ≤ length log
within_from low [] = omega arith
within_from low (entry ∷ log) = cond_both (nat_le low entry.term) (suc (rising_from entry.term log)) 0 (λ n. n ≤ length (entry ∷ log)) (λ rises. let w = within_from entry.term log in omega (arith, w)) (λ stops. omega arith)

pub within : (log : List Entry) → rising log ≤ length log
within log = within_from 0 log

one_off : (first : Bool) (before after count : ℕ) → min after count ≡ before → min (if first then suc after else 0) (suc count) ≡ (if first then suc before else 0)
one_off true before after count is = omega (arith, is)
one_off false before after count is = omega arith

cut : (low : ℕ) (log : List Entry) (entry : Entry) → min (rising_from low (log ++ entry ∷ [])) (length log) ≡ rising_from low log
cut low [] entry = omega arith
cut low (first ∷ log) entry = one_off (nat_le low first.term) (rising_from first.term log) (rising_from first.term (log ++ entry ∷ [])) (length log) (cut first.term log entry)

pub cut_is : (log : List Entry) (entry : Entry) → min (rising (log ++ entry ∷ [])) (length log) ≡ rising log
cut_is log entry = cut 0 log entry

-- where the terms rise up to an index, each entry up to it is as old as the one there, or older
first_rises : (first : Bool) (known i : ℕ) → suc i ≤ (if first then suc known else 0) → (first ≡ true) × (i ≤ known)
first_rises true known i is = (refl, omega (arith, is))
first_rises false known i is = absurd (omega (arith, is))

older_from : (low : ℕ) (log : List Entry) (i term : ℕ) → suc i ≤ rising_from low log → term_at log (suc i) < term → (low < term) × IsOlder term (take (suc i) log)
older_from low [] i term known below = absurd (omega (arith, known))
older_from low (entry ∷ log) zero term known below =
    let above = leb-true low entry.term (first_rises (nat_le low entry.term) (rising_from entry.term log) 0 known).0 in
    (omega (arith, above, below), (below, tt))
older_from low (entry ∷ log) (suc i) term known below =
    let first = first_rises (nat_le low entry.term) (rising_from entry.term log) (suc i) known in
    let above = leb-true low entry.term first.0 in
    let behind = older_from entry.term log i term first.1 below in
    let n : entry.term < term = behind.0 in
    (omega (arith, above, n), (n, behind.1))

pub older : (index term : ℕ) (log : List Entry) → index ≤ rising log → term_at log index < term → IsOlder term (take index log)
older zero term log known below = tt
older (suc i) term log known below = (older_from 0 log i term known below).1

pub on_true : {P : Type 0} (b : Bool) → (b ≡ true → P) → OnTrue b P
on_true true holds = holds refl
on_true false holds = tt
