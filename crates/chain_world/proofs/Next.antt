-- Decide is lawful exactly for the next entry of a leadership.
use Rattle.std.proofs.Common.{◌≡◌, ℕ, ◌≤◌, List, [], ◌∷◌, Bool, true, ◌&&◌, refl, ap, sym, ◌∙◌, eqb-true}
use Rattle.std.specs.Prelude.{◌==◌, nat_le, slice_get, is_some}
use Rattle.std.specs.List.{AllByRecursion}
use Rattle.std.proofs.lemmas.Bool.{and_parts, leb-true, le-leb, eq-eqb}
use Rattle.raft_log.specs.Decided.{count_term}
use Rattle.part_keys.specs.declared.proposal.Proposal.{Proposal}
use Rattle.chain_world.specs.State.{decided_of, made_by}
use Rattle.chain_world.specs.World.{are_at_most, is_part, may_decide}
use Rattle.chain_world.specs.Next.{DecidesNext}

both : {a b : Bool} → a ≡ true → b ≡ true → (a && b) ≡ true
both {a} {b} e f = ap (λ (x : Bool). x && b) e ∙ f

-- a test of each entry's term, and what it says
all_rising : (t : ℕ) (es : List (ℕ × Proposal)) → are_at_most t es ≡ true → AllByRecursion (λ (e : ℕ × Proposal). e.0 ≤ t) es
all_rising t [] e = tt
all_rising t (x ∷ es) e = let a = and_parts (nat_le x.0 t) (are_at_most t es) e in (leb-true x.0 t a.0, all_rising t es a.1)

rising_all : (t : ℕ) (es : List (ℕ × Proposal)) → AllByRecursion (λ (e : ℕ × Proposal). e.0 ≤ t) es → are_at_most t es ≡ true
rising_all t [] all = refl
rising_all t (x ∷ es) all = both (le-leb x.0 t all.0) (rising_all t es all.1)

pub decides_next : DecidesNext
decides_next ids parts s p leaders part made t x = (
  λ h. (let its = (and_parts (is_part parts p) (may_decide s p t h.0 && is_some (slice_get (made_by s p t) h.0)) h.1).1 in
      let a = and_parts (are_at_most t (decided_of s p)) (h.0 == count_term (decided_of s p) t) (and_parts (may_decide s p t h.0) (is_some (slice_get (made_by s p t) h.0)) its).0 in record {
        rising = all_rising t (decided_of s p) a.0;
        made = ap (λ (xs : List Proposal). slice_get xs (count_term (decided_of s p) t)) (made t) ∙ ap (slice_get (made_by s p t)) (sym (eqb-true h.0 (count_term (decided_of s p) t) a.1)) ∙ h.2;
      }),
  λ next. (let there = ap (λ (xs : List Proposal). slice_get xs (count_term (decided_of s p) t)) (sym (made t)) ∙ next.made in (
    count_term (decided_of s p) t,
    both part (both (both (rising_all t (decided_of s p) next.rising) (eq-eqb (count_term (decided_of s p) t) (count_term (decided_of s p) t) refl)) (ap is_some there)),
    there,
  )),
)
