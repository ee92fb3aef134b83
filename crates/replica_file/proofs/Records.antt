-- Entries and records of a replica: what is read is spelled so, and what is spelled so is read again, whatever follows it.
use Rattle.std.proofs.Common.{◌≡◌, ℕ, ◌^◌, ◌<◌, true, cond, List, [], ◌∷◌, ◌++◌, length, Ok, Err, refl, sym, subst, ◌∙◌, append_assoc}
use Rattle.std.specs.List.{flat_map, AllByRecursion}
use Rattle.byte_fields.specs.Fields.{number}
use Rattle.byte_fields.specs.Reading.{◌>>=◌, misfit, number_at, many_at}
use Rattle.byte_fields.proofs.Steps.{IsBytes, Takes, Takes-then, bind_ok, test_ok, ok_is}
use Rattle.byte_fields.proofs.Numbers.{wide4, wide8, number_takes, number_again}
use Rattle.byte_fields.proofs.FieldLaws.{many_takes, many_again, whole_takes, whole_again}
use Rattle.raft_log.specs.Config.{AreEntries, IsItem}
use Rattle.raft_log.specs.declared.entry.Entry.{Entry}
use Rattle.raft_log.specs.declared.entry.Item.{Item}
use Rattle.raft_log.specs.declared.entry.Item.TheVariants.{NoOp, Members, Payload}
use Rattle.raft_log.specs.declared.record.Record.{Record}
use Rattle.wal_frames.specs.Reading.{entry_at}
use Rattle.wal_frames.specs.Spelling.{FitsEntry, FitsItem, FitEntries, FitsRecord, entry, entries, body}
use Rattle.wal_frames.proofs.Laws.{entry_takes, entry_again}
use Rattle.replica_file.specs.Grammar.{Allowed, payload_of, may_stand, own_entry_at, record_at, record_in, IsRecord}

-- an entry that fits, and may stand in the part's log
pub record IsOwn (allowed : Allowed) (e : Entry) : Type 0 where
  pub fits : FitsEntry e
  pub own : may_stand allowed e ≡ true

-- ---- entries

pub own_takes : (allowed : Allowed) (bytes : List ℕ) (x : Entry) (rest : List ℕ) → IsBytes bytes → own_entry_at allowed bytes ≡ Ok (x, rest) → Takes bytes (entry x) rest × IsOwn allowed x
unfolding own_entry_at
own_takes allowed bytes x rest fits e =
    let a = bind_ok (entry_at bytes) (λ y. cond (may_stand allowed y.0) (Ok y) (Err (misfit (payload_of y.0.item ++ y.1)))) (x, rest) e in
    let u = entry_takes bytes a.0.0 a.0.1 fits a.1 in
    let g = test_ok (may_stand allowed a.0.0) (misfit (payload_of a.0.0.item ++ a.0.1)) a.0 (x, rest) a.2 in
    let is : IsOwn allowed a.0.0 = record { fits = u.1; own = g.0 } in
    subst (λ (p : Entry × List ℕ). Takes bytes (entry p.0) p.1 × IsOwn allowed p.0) g.1 (u.0, is)

pub own_again : (allowed : Allowed) (x : Entry) (rest : List ℕ) → IsOwn allowed x → own_entry_at allowed (entry x ++ rest) ≡ Ok (x, rest)
unfolding own_entry_at
own_again allowed x rest is = rw (entry_again x rest is.fits, is.own) refl

-- entries that fit, and entries that may stand there
are_fit : (allowed : Allowed) (es : List Entry) → AllByRecursion (IsOwn allowed) es → AllByRecursion FitsEntry es
are_fit allowed [] all = tt
are_fit allowed (e ∷ es) all = (all.0.fits, are_fit allowed es all.1)

may_all : (allowed : Allowed) (es : List Entry) → AllByRecursion (IsOwn allowed) es → AllByRecursion (λ (e : Entry). may_stand allowed e ≡ true) es
may_all allowed [] all = tt
may_all allowed (e ∷ es) all = (all.0.own, may_all allowed es all.1)

are_own : (allowed : Allowed) (es : List Entry) → AllByRecursion FitsEntry es → AllByRecursion (λ (e : Entry). may_stand allowed e ≡ true) es → AllByRecursion (IsOwn allowed) es
are_own allowed [] fit may = tt
are_own allowed (e ∷ es) fit may = (record { fits = fit.0; own = may.0 }, are_own allowed es fit.1 may.1)

item_is : (i : Item) → FitsItem i → IsItem i
item_is NoOp fits = tt
item_is (Members config) fits = fits.is
item_is (Payload bytes) fits = tt

pub items_are : (es : List Entry) → AllByRecursion FitsEntry es → AreEntries es
items_are [] all = tt
items_are (e ∷ es) all = (item_is e.item all.0.item_fits, items_are es all.1)

-- ---- records

pub record_takes : (allowed : Allowed) (bytes : List ℕ) (r : Record) (rest : List ℕ) → IsBytes bytes → record_at allowed bytes ≡ Ok (r, rest) → Takes bytes (body r) rest × IsRecord allowed r
unfolding record_at
record_takes allowed bytes r rest fits e =
    let a = bind_ok (number_at 8 bytes) (λ term. number_at 4 term.1 >>= λ vote. number_at 8 vote.1 >>= λ keep. number_at 4 keep.1 >>= λ count. many_at (own_entry_at allowed) count.0 count.1 >>= λ es. Ok (record { term = term.0; vote = vote.0; keep = keep.0; entries = es.0 }, es.1)) (r, rest) e in
    let b = bind_ok (number_at 4 a.0.1) (λ vote. number_at 8 vote.1 >>= λ keep. number_at 4 keep.1 >>= λ count. many_at (own_entry_at allowed) count.0 count.1 >>= λ es. Ok (record { term = a.0.0; vote = vote.0; keep = keep.0; entries = es.0 }, es.1)) (r, rest) a.2 in
    let k = bind_ok (number_at 8 b.0.1) (λ keep. number_at 4 keep.1 >>= λ count. many_at (own_entry_at allowed) count.0 count.1 >>= λ es. Ok (record { term = a.0.0; vote = b.0.0; keep = keep.0; entries = es.0 }, es.1)) (r, rest) b.2 in
    let n = bind_ok (number_at 4 k.0.1) (λ count. many_at (own_entry_at allowed) count.0 count.1 >>= λ es. Ok (record { term = a.0.0; vote = b.0.0; keep = k.0.0; entries = es.0 }, es.1)) (r, rest) k.2 in
    let d = bind_ok (many_at (own_entry_at allowed) n.0.0 n.0.1) (λ es. Ok (record { term = a.0.0; vote = b.0.0; keep = k.0.0; entries = es.0 }, es.1)) (r, rest) n.2 in
    let t = number_takes 8 wide8 bytes a.0.0 a.0.1 fits a.1 in
    let u = number_takes 4 wide4 a.0.1 b.0.0 b.0.1 t.0.rest_fits b.1 in
    let v = number_takes 8 wide8 b.0.1 k.0.0 k.0.1 u.0.rest_fits k.1 in
    let m = number_takes 4 wide4 k.0.1 n.0.0 n.0.1 v.0.rest_fits n.1 in
    let w = many_takes (own_entry_at allowed) entry (IsOwn allowed) (own_takes allowed) n.0.0 n.0.1 d.0.0 d.0.1 m.0.rest_fits d.1 in
    let listed = Takes-then k.0.1 (number 4 n.0.0) n.0.1 (flat_map entry d.0.0) d.0.1 m.0 w.0 in
    let counted : Takes k.0.1 (entries d.0.0) d.0.1 = subst (λ (c : ℕ). Takes k.0.1 (number 4 c ++ flat_map entry d.0.0) d.0.1) (sym w.2) listed in
    let two = Takes-then bytes (number 8 a.0.0) a.0.1 (number 4 b.0.0) b.0.1 t.0 u.0 in
    let three = Takes-then bytes (number 8 a.0.0 ++ number 4 b.0.0) b.0.1 (number 8 k.0.0) k.0.1 two v.0 in
    let four = Takes-then bytes (number 8 a.0.0 ++ number 4 b.0.0 ++ number 8 k.0.0) k.0.1 (entries d.0.0) d.0.1 three counted in
    let made : Record × List ℕ = (record { term = a.0.0; vote = b.0.0; keep = k.0.0; entries = d.0.0 }, d.0.1) in
    let fit : FitEntries d.0.0 = record { count = subst (λ (c : ℕ). c < 2 ^ 32) (sym w.2) m.1; each = are_fit allowed d.0.0 w.1 } in
    let is : FitsRecord made.0 = record { term = t.1; vote = u.1; keep = v.1; entries_fit = fit } in
    let own : IsRecord allowed made.0 = record { fits = is; own = may_all allowed d.0.0 w.1 } in
    subst (λ (p : Record × List ℕ). Takes bytes (body p.0) p.1 × IsRecord allowed p.0) (ok_is made (r, rest) d.2) (four, own)

pub record_again : (allowed : Allowed) (r : Record) (rest : List ℕ) → IsRecord allowed r → record_at allowed (body r ++ rest) ≡ Ok (r, rest)
unfolding record_at
record_again allowed r rest is =
    let listed = flat_map entry r.entries ++ rest in
    let counted = number 4 (length r.entries) ++ listed in
    let e1 = append_assoc (number 8 r.term ++ number 4 r.vote ++ number 8 r.keep) (entries r.entries) rest in
    let e2 = append_assoc (number 8 r.term ++ number 4 r.vote) (number 8 r.keep) (entries r.entries ++ rest) in
    let e3 = append_assoc (number 8 r.term) (number 4 r.vote) (number 8 r.keep ++ (entries r.entries ++ rest)) in
    let e4 = append_assoc (number 4 (length r.entries)) (flat_map entry r.entries) rest in
    let grouped : body r ++ rest ≡ number 8 r.term ++ (number 4 r.vote ++ (number 8 r.keep ++ (entries r.entries ++ rest))) = e1 ∙ e2 ∙ e3 in
    let regrouped : body r ++ rest ≡ number 8 r.term ++ (number 4 r.vote ++ (number 8 r.keep ++ counted)) = rw (← e4) grouped in
    let own = are_own allowed r.entries is.fits.entries_fit.each is.own in
    rw (regrouped, number_again 8 r.term (number 4 r.vote ++ (number 8 r.keep ++ counted)) is.fits.term, number_again 4 r.vote (number 8 r.keep ++ counted) is.fits.vote, number_again 8 r.keep counted is.fits.keep, number_again 4 (length r.entries) listed is.fits.entries_fit.count, many_again (own_entry_at allowed) entry (IsOwn allowed) (own_again allowed) r.entries rest own) refl

-- all of a body
pub body_is : (allowed : Allowed) (bytes : List ℕ) (r : Record) → IsBytes bytes → record_in allowed bytes ≡ Ok r → (bytes ≡ body r) × IsRecord allowed r
body_is allowed bytes r fits e = whole_takes (record_at allowed) body (IsRecord allowed) (record_takes allowed) bytes r fits e

pub body_again : (allowed : Allowed) (r : Record) → IsRecord allowed r → record_in allowed (body r) ≡ Ok r
body_again allowed r is = whole_again (record_at allowed) body (IsRecord allowed) (record_again allowed) r is
