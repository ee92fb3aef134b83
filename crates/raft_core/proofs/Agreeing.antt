-- Entries that agree with those of a log: the code's walk, and what the rule takes from it.
use Rattle.std.proofs.Common.{◌≡◌, inl, inr, ℕ, suc, ◌+◌, ◌<◌, ◌≤◌, min, List, [], ◌∷◌, length, take, drop, get_or, true, false, refl, ap, sym, ◌∙◌, arith, add-one}
use Rattle.std.specs.Prelude.{◌==◌, nat_lt, ◌&&◌, if◌then◌else◌}
use Rattle.std.proofs.Math.Seq.{drop-cons}
use Rattle.std.proofs.lemmas.Bool.{cases_Bool, cases_lt, and_right, lt-ltb, le-ltb, eq-eqb, ne_eqb}
use Rattle.std.proofs.lemmas.List.{drop_all, length-take, get_or-take}
use Rattle.std.proofs.lemmas.Option.{slice_get-get_or}
use Rattle.raft_log.specs.declared.entry.Entry.{Entry}
use Rattle.raft_log.specs.declared.entry.Item.TheVariants.{NoOp}
use Rattle.raft_log.specs.Log.{term_at, term_of}
use Rattle.raft_core.specs.Appends.{conflicts, stays, missing}
use Rattle.raft_core.specs.Ahead.{agreeing}

pub agreeing_nil : (own : List Entry) → agreeing own [] ≡ 0
agreeing_nil [] = refl
agreeing_nil (entry ∷ own) = refl

pub agreeing_within : (own new : List Entry) → (agreeing own new ≤ length own) × (agreeing own new ≤ length new)
agreeing_within [] new = (omega arith, omega arith)
agreeing_within (entry ∷ own) [] = (omega arith, omega arith)
agreeing_within (entry ∷ own) (other ∷ new) = let h = agreeing_within own new in elim (cases_Bool (entry.term == other.term)) [
  | inl same ↦ rw same (omega (arith, h.0), omega (arith, h.1))
  | inr apart ↦ rw apart (omega arith, omega arith)
]

pub missing_is : (own new : List Entry) → missing own new ≡ drop (agreeing own new) new
missing_is [] new = refl
missing_is (entry ∷ own) [] = refl
missing_is (entry ∷ own) (other ∷ new) = elim (cases_Bool (entry.term == other.term)) [
  | inl same ↦ rw same (missing_is own new)
  | inr apart ↦ rw apart refl
]

pub stays_all : (own new : List Entry) → agreeing own new ≡ length new → stays own new ≡ length own
stays_all [] new e = refl
stays_all (entry ∷ own) [] e = refl
stays_all (entry ∷ own) (other ∷ new) e = elim (cases_Bool (entry.term == other.term)) [
  | inl same ↦ (let h : suc (agreeing own new) ≡ suc (length new) = rw same at e in rw same (ap suc (stays_all own new (omega (arith, h)))))
  | inr apart ↦ absurd (let h : 0 ≡ suc (length new) = rw apart at e in omega (arith, h))
]

pub stays_some : (own new : List Entry) → agreeing own new < length new → stays own new ≡ agreeing own new
stays_some [] new e = refl
stays_some (entry ∷ own) [] e = absurd (omega (arith, e))
stays_some (entry ∷ own) (other ∷ new) e = elim (cases_Bool (entry.term == other.term)) [
  | inl same ↦ (let h : suc (agreeing own new) < suc (length new) = rw same at e in rw same (ap suc (stays_some own new (omega (arith, h)))))
  | inr apart ↦ rw apart refl
]

lt_suc : (a b : ℕ) → nat_lt (suc a) (suc b) ≡ nat_lt a b
lt_suc a b = elim (cases_lt a b) [
  | inl below ↦ lt-ltb (suc a) (suc b) (omega (arith, below)) ∙ sym (lt-ltb a b below)
  | inr above ↦ le-ltb (suc a) (suc b) (omega (arith, above)) ∙ sym (le-ltb a b above)
]

pub conflicts_is : (own new : List Entry) → conflicts own new ≡ (nat_lt (agreeing own new) (length own) && nat_lt (agreeing own new) (length new))
conflicts_is [] new = refl
conflicts_is (entry ∷ own) [] = sym (and_right (nat_lt 0 (suc (length own))) false refl)
conflicts_is (entry ∷ own) (other ∷ new) = elim (cases_Bool (entry.term == other.term)) [
  | inl same ↦ rw (same, lt_suc (agreeing own new) (length own), lt_suc (agreeing own new) (length new)) (conflicts_is own new)
  | inr apart ↦ rw (apart, lt-ltb 0 (suc (length own)) (omega arith), lt-ltb 0 (suc (length new)) (omega arith)) refl
]

-- ---- the walk

module _ (log entries : List Entry) (bound behind count : ℕ) where
  abbrev own : List Entry
  own = drop (behind + count) (take bound log)

  pub walk_ends : length log ≤ behind + count → agreeing own (drop count entries) ≡ 0
  walk_ends past = let none : own ≡ [] = drop_all (behind + count) (take bound log) (let e = length-take bound log in omega (arith, e, past)) in rw none refl

  pub walk_out : min (length log) bound ≤ behind + count → agreeing own (drop count entries) ≡ 0
  walk_out past = let none : own ≡ [] = drop_all (behind + count) (take bound log) (let e = length-take bound log in omega (arith, e, past)) in rw none refl

  pub walk_all : length entries ≤ count → agreeing own (drop count entries) ≡ 0
  walk_all past = let none : drop count entries ≡ [] = drop_all count entries past in rw none (agreeing_nil own)

  none : Entry
  none = record { term = 0; item = NoOp }

  pub walk_step : (d : Entry) → behind + count < min (length log) bound → count < length entries
      → agreeing own (drop count entries) ≡ (if term_at log (behind + count + 1) == (get_or entries count d).term then suc (agreeing (drop (behind + count + 1) (take bound log)) (drop (count + 1) entries)) else 0)
  walk_step d inside within =
      let long = length-take bound log in
      let first : own ≡ get_or (take bound log) (behind + count) none ∷ drop (suc (behind + count)) (take bound log) = drop-cons (take bound log) (behind + count) none (omega (arith, long, inside)) in
      let second : drop count entries ≡ get_or entries count d ∷ drop (suc count) entries = drop-cons entries count d within in
      let there : get_or (take bound log) (behind + count) none ≡ get_or log (behind + count) none = get_or-take bound log (behind + count) none (omega (arith, inside)) in
      let term : term_at log (suc (behind + count)) ≡ (get_or log (behind + count) none).term = ap term_of (slice_get-get_or log (behind + count) none (omega (arith, inside))) in
      rw (first, second, there, add-one, add-one, term) refl

  pub walk_apart : (item : Entry) → behind + count < min (length log) bound → count < length entries → item ≡ get_or entries count item → (term_at log (behind + count + 1) ≡ item.term → ⊥)
      → agreeing own (drop count entries) ≡ 0
  walk_apart item inside within is ne =
      let differs : term_at log (behind + count + 1) == (get_or entries count item).term ≡ false = ne_eqb _ _ (λ e. ne (e ∙ sym (ap (λ (x : Entry). x.term) is))) in
      walk_step item inside within ∙ rw differs refl

  pub walk_same : (item : Entry) → behind + count < min (length log) bound → count < length entries → item ≡ get_or entries count item → term_at log (behind + count + 1) ≡ item.term
      → agreeing own (drop count entries) ≡ suc (agreeing (drop (behind + (count + 1)) (take bound log)) (drop (count + 1) entries))
  walk_same item inside within is same =
      let agrees : term_at log (behind + count + 1) == (get_or entries count item).term ≡ true = eq-eqb _ _ (same ∙ ap (λ (x : Entry). x.term) is) in
      let e : behind + count + 1 ≡ behind + (count + 1) = omega arith in
      walk_step item inside within ∙ rw agrees (ap (λ n. suc (agreeing (drop n (take bound log)) (drop (count + 1) entries))) e)
