-- The moments of rounds behind a step: a new round has the moment before the step, all others theirs.
use Rattle.std.proofs.Common.{◌≡◌, ◌≢◌, ◌⊎◌, inl, inr, ℕ, zero, suc, ◌<◌, ◌≤◌, Bool, true, false, refl, ap, ◌∙◌, arith}
use Rattle.std.specs.Prelude.{◌==◌, ◌&&◌, nat_lt}
use Rattle.std.proofs.lemmas.Bool.{and_from, and_parts, cond-true, cond-false, eq-eqb, ltb-true, ne_eqb}
use Rattle.raft_core.specs.Core.{Core, is_leading}
use Rattle.world_model.specs.State.{moment_in}
use Rattle.world_model.specs.After.{begins_round, asked_behind}

-- a round from 1 on has its moment
pub moment_above : (asked : ℕ → ℕ) (round : ℕ) → 0 < round → moment_in asked round ≡ asked round
moment_above asked zero above = absurd (let a = above in omega arith)
moment_above asked (suc round) above = refl

pub moment_same : (asked other : ℕ → ℕ) (round : ℕ) → other round ≡ asked round → moment_in other round ≡ moment_in asked round
moment_same asked other zero same = refl
moment_same asked other (suc round) same = same

module _ (asked : ℕ → ℕ → ℕ → ℕ) (now p : ℕ) (before behind : Core) where
  abbrev is_new : ℕ → ℕ → ℕ → Bool
  is_new q t round = begins_round before behind && ((q == p) && ((t == behind.term) && (round == behind.round)))

  off : (q t round : ℕ) → is_new q t round ≡ false → asked_behind asked now p before behind q t round ≡ asked q t round
  off q t round old = cond-false (is_new q t round) now (asked q t round) old

  last_false : (a b : Bool) → b ≡ false → (a && b) ≡ false
  last_false true b e = e
  last_false false b e = refl

  pub kept_part : (q t round : ℕ) → q ≢ p → asked_behind asked now p before behind q t round ≡ asked q t round
  kept_part q t round other = off q t round (last_false (begins_round before behind) _ (ap (λ b. b && ((t == behind.term) && (round == behind.round))) (ne_eqb q p other)))

  pub kept_term : (q t round : ℕ) → t ≢ behind.term → asked_behind asked now p before behind q t round ≡ asked q t round
  kept_term q t round other = off q t round (last_false (begins_round before behind) _ (last_false (q == p) _ (ap (λ b. b && (round == behind.round)) (ne_eqb t behind.term other))))

  pub kept_off : (q t round : ℕ) → is_leading behind.role ≡ false → asked_behind asked now p before behind q t round ≡ asked q t round
  kept_off q t round idle = off q t round (ap (λ b. (b && nat_lt before.round behind.round) && ((q == p) && ((t == behind.term) && (round == behind.round)))) idle)

  pub kept_below : (q t round : ℕ) → round ≤ before.round → asked_behind asked now p before behind q t round ≡ asked q t round
  kept_below q t round low = go (begins_round before behind) refl
    where
      go : (b : Bool) → begins_round before behind ≡ b → asked_behind asked now p before behind q t round ≡ asked q t round
      go false e = off q t round (ap (λ b. b && ((q == p) && ((t == behind.term) && (round == behind.round)))) e)
      go true e =
          (let rose = ltb-true before.round behind.round (and_parts (is_leading behind.role) (nat_lt before.round behind.round) e).1 in
          off q t round (last_false (begins_round before behind) _ (last_false (q == p) _ (last_false (t == behind.term) _ (ne_eqb round behind.round (λ same. (let r = rose in let l = low in omega arith)))))))

  -- of another part or another term's leader
  pub kept_other : (t round : ℕ) → (t ≢ behind.term) ⊎ (is_leading behind.role ≡ false) → asked_behind asked now p before behind p t round ≡ asked p t round
  kept_other t round other = elim other [ inl term ↦ kept_term p t round term | inr idle ↦ kept_off p t round idle ]

  pub now_at : is_leading behind.role ≡ true → nat_lt before.round behind.round ≡ true → asked_behind asked now p before behind p behind.term behind.round ≡ now
  now_at led rose = cond-true (is_new p behind.term behind.round) now (asked p behind.term behind.round)
      (and_from (begins_round before behind) _ (and_from (is_leading behind.role) (nat_lt before.round behind.round) led rose)
      (and_from (p == p) _ (eq-eqb p p refl) (and_from (behind.term == behind.term) (behind.round == behind.round) (eq-eqb behind.term behind.term refl) (eq-eqb behind.round behind.round refl))))

  pub moment_now : is_leading behind.role ≡ true → nat_lt before.round behind.round ≡ true → moment_in (asked_behind asked now p before behind p behind.term) behind.round ≡ now
  moment_now led rose =
      moment_above (asked_behind asked now p before behind p behind.term) behind.round (let r = ltb-true before.round behind.round rose in omega arith)
      ∙ now_at led rose

-- a step that is none of the peer's begins no round
pub kept_still : (asked : ℕ → ℕ → ℕ → ℕ) (now p : ℕ) (core : Core) (q t round : ℕ) → asked_behind asked now p core core q t round ≡ asked q t round
kept_still asked now p core q t round = cond-false (is_new asked now p core core q t round) now (asked q t round)
    (ap (λ b. b && ((q == p) && ((t == core.term) && (round == core.round)))) (never (is_leading core.role) (nat_lt core.round core.round) (ltb-irrefl core.round)))
  where
    never : (a b : Bool) → b ≡ false → (a && b) ≡ false
    never true b e = e
    never false b e = refl

    ltb-irrefl : (n : ℕ) → nat_lt n n ≡ false
    ltb-irrefl n = go (nat_lt n n) refl
      where
        go : (b : Bool) → nat_lt n n ≡ b → nat_lt n n ≡ false
        go false e = e
        go true e = absurd (let l = ltb-true n n e in omega arith)
