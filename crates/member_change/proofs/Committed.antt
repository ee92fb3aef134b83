-- Looking back through the entries that are committed.
use Rattle.std.proofs.Common.{◌≡◌, inl, inr, min, take_all, ℕ, zero, suc, ◌-◌, ◌<◌, ◌≤◌, List, [], ◌∷◌, length, take, get_or, false, refl, ap, sym, ◌∙◌, arith, add-one}
use Rattle.std.specs.Prelude.{◌==◌, ◌||◌}
use Rattle.std.proofs.lemmas.Bool.{cases_lt, ne_eqb}
use Rattle.raft_log.specs.Rising.{IsOlder}
use Rattle.std.proofs.lemmas.List.Folds.{list_any_more}
use Rattle.std.proofs.lemmas.Option.{slice_get-get_or}
use Rattle.raft_log.specs.declared.entry.Entry.{Entry}
use Rattle.raft_log.specs.declared.entry.Item.TheVariants.{NoOp}
use Rattle.raft_log.specs.Log.{matches, has_term, has_entry_of}

-- the entries up to an index have one of the term where those before it have one, or the entry there
pub one_back : (log : List Entry) (left term : ℕ) → 0 < left → left ≤ length log → has_entry_of term (take left log) ≡ (has_entry_of term (take (left - 1) log) || matches log left term)
one_back log zero term above within = absurd (omega arith)
one_back log (suc i) term above within =
    let none : Entry = record { term = 0; item = NoOp } in
    let e : suc i - 1 ≡ i = omega arith in
    let there : matches log (suc i) term ≡ (get_or log i none).term == term = ap (λ o. has_term o term) (slice_get-get_or log i none (omega arith)) in
    let step = list_any_more (λ (entry : Entry). entry.term == term) log i none (omega arith) in
    rw (e, there, ← add-one) step

-- none of older entries has the term
pub none_older : (term : ℕ) (log : List Entry) → IsOlder term log → has_entry_of term log ≡ false
none_older term [] is = refl
none_older term (entry ∷ log) is = let apart : entry.term == term ≡ false = ne_eqb entry.term term (λ same. let below = is.0 in omega (arith, same, below)) in rw apart (none_older term log is.1)

-- all up to an index, which may be past the end
pub take_within : (log : List Entry) (commit last : ℕ) → last ≡ min (length log) commit → take last log ≡ take commit log
take_within log commit last e = elim (cases_lt (length log) commit) [
  | inl past ↦ take_all last log (omega (arith, e, past)) ∙ sym (take_all commit log (omega (arith, past)))
  | inr inside ↦ (let same : last ≡ commit = omega (arith, e, inside) in ap (λ n. take n log) same)
]
