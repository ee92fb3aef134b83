-- What one leader has to keep itself where it moves: the others, and what they sent, stay as they are.
use Rattle.std.proofs.Common.{◌≡◌, ◌⊎◌, inl, inr, ℕ, ◌<◌, List, ◌++◌, Option, Some, Bool, true, false, ◌&&◌, cond, refl, ap, sym, subst, ◌∙◌, eqb-true}
use Rattle.std.specs.Prelude.{is_some, ◌==◌, if◌then◌else◌}
use Rattle.std.proofs.lemmas.Bool.{false≢true, cond_both, eq-eqb, eqb-false, and_parts}
use Rattle.std.proofs.lemmas.Option.{same_Some}
use Rattle.part_keys.specs.declared.proposal.Proposal.{Proposal}
use Rattle.chain_leader.specs.Rules.{Table}
use Rattle.chain_world.specs.declared.packet.ChainEnd.{ChainEnd}
use Rattle.chain_world.specs.declared.packet.ChainEnd.TheVariants as ends
use Rattle.chain_world.specs.Places.{Among, At}
use Rattle.chain_world.specs.Course.{Course, Courses, Aborted}
use Rattle.chain_world.specs.State.{Post, Leader, Chains, made_by, made_by_leader}
use Rattle.chain_world.specs.World.{part_from}
use Rattle.chain_world.specs.Invariant.Protocol.{HasPut, HasFenced, IsMeant, IsProposed, IsLed, IsKept, IsReadyIf}
use Rattle.chain_world.proofs.Members.{among_either, at_front}
use Rattle.chain_world.proofs.Staying.{is_chains, gone_on, put_split, fenced_split, Onward, going, kept_behind}
use Rattle.chain_world.specs.Invariant.Going.{Goes}

-- the term of a leader
abbrev term_from : ChainEnd → ℕ
term_from (ends.Client c) = 0
term_from (ends.Part q) = 0
term_from (ends.Leader q u) = u

pub same_leader : (q u p t : ℕ) → ends.Leader q u ≡ ends.Leader p t → (q ≡ p) × (u ≡ t)
same_leader q u p t e = (ap part_from e, ap term_from e)

-- one leader's new state
abbrev pub leader_set : (ℕ → ℕ → Option Leader) → ℕ → ℕ → Leader → ℕ → ℕ → Option Leader
leader_set leaders p t l q u = if (q == p) && (u == t) then Some l else leaders q u

pub set_here : (leaders : ℕ → ℕ → Option Leader) (p t : ℕ) (l : Leader) → leader_set leaders p t l p t ≡ Some l
set_here leaders p t l = go (p == p) (t == t) (eq-eqb p p refl) (eq-eqb t t refl)
  where
    go : (a b : Bool) → a ≡ true → b ≡ true → cond (a && b) (Some l) (leaders p t) ≡ Some l
    go true true e f = refl
    go true false e f = absurd (false≢true f)
    go false b e f = absurd (false≢true e)

pub set_split : (leaders : ℕ → ℕ → Option Leader) (p t : ℕ) (l : Leader) (q u : ℕ) (x : Leader) → leader_set leaders p t l q u ≡ Some x
    → ((q ≡ p) × (u ≡ t) × (x ≡ l)) ⊎ ((leaders q u ≡ Some x) × ((q ≡ p) → (u ≡ t) → ⊥))
set_split leaders p t l q u x = cond_both ((q == p) && (u == t)) (Some l) (leaders q u) (λ (o : Option Leader). o ≡ Some x → ((q ≡ p) × (u ≡ t) × (x ≡ l)) ⊎ ((leaders q u ≡ Some x) × ((q ≡ p) → (u ≡ t) → ⊥)))
    (λ here e. (let a = and_parts (q == p) (u == t) here in inl (eqb-true q p a.0, eqb-true u t a.1, same_Some x l (sym e))))
    (λ other e. inr (e, λ f g. false≢true (sym other ∙ both (eq-eqb q p f) (eq-eqb u t g))))
  where
    both : {a b : Bool} → a ≡ true → b ≡ true → (a && b) ≡ true
    both {a} {b} e f = ap (λ (x : Bool). x && b) e ∙ f

pub set_some : (leaders : ℕ → ℕ → Option Leader) (p t : ℕ) (l : Leader) (q u : ℕ) → is_some (leaders q u) ≡ true → is_some (leader_set leaders p t l q u) ≡ true
set_some leaders p t l q u there = cond_both ((q == p) && (u == t)) (Some l) (leaders q u) (λ (o : Option Leader). is_some o ≡ true) (λ _. refl) (λ _. there)

-- a leader that sent no more is as ready as before
pub ready_less : (parts : ℕ) (decided : List (ℕ × Proposal)) (t n : ℕ) (table : Table) (puts fences puts_now fences_now : ℕ → Type 0)
    → ((v : ℕ) → puts_now v → puts v) → ((v : ℕ) → fences_now v → fences v)
    → (b : Bool) → IsReadyIf parts decided puts fences t n table b → IsReadyIf parts decided puts_now fences_now t n table b
ready_less parts decided t n table puts fences puts_now fences_now less_puts less_fences true r = record {
  noop = r.noop;
  started = r.started;
  applied = r.applied;
  rows = r.rows;
  own = r.own;
  put = λ v h. r.put v (less_puts v h);
  fenced = λ v h. r.fenced v (less_fences v h);
}
ready_less parts decided t n table puts fences puts_now fences_now less_puts less_fences false r =
    record { empty = r.empty; unput = λ v h. r.unput v (less_puts v h); unfenced = λ v h. r.unfenced v (less_fences v h) }

module _ (parts : ℕ) (s : Chains) (k : Courses) (kept : IsKept parts s k) (p t : ℕ) (l : Leader) (is : s.leaders p t ≡ Some l) (behind : Leader) (xs : List Proposal) (made : behind.made ≡ l.made ++ xs) (more : List Post) where
  abbrev pub moved : Chains
  moved = gone_on s s.ledger.steps s.founded (leader_set s.leaders p t behind) more s.clients

  onward : Onward s s.ledger.steps s.founded (leader_set s.leaders p t behind) more s.clients parts k kept
  onward = record { led = set_some s.leaders p t behind; invoked = λ id op h. h; rights = λ id a m r. r }

  pub moved_goes : Goes parts s k moved k
  moved_goes = going s s.ledger.steps s.founded (leader_set s.leaders p t behind) more s.clients parts k kept onward

  -- what the leader has to keep
  pub record Moves : Type 0 where
    pub mine : (post : Post) → Among post more → is_chains post.packet.body ≡ true → post.packet.from ≡ ends.Leader p t
    pub proposes : (x : Proposal) → Among x xs → IsProposed parts moved k p t x
    pub says : (post : Post) → Among post more → IsMeant parts moved k post
    pub one_mode : (v : ℕ) → HasPut moved p t v → HasFenced moved p t v → ⊥
    pub unput : (v u : ℕ) (c : Course) → HasPut moved p t v → k p v ≡ Some c → c.fate ≡ Aborted u → t < u
    pub led : IsLed parts moved p t behind

  module _ (moves : Moves) where
    -- another leader has sent nothing more
    other_put : (q u v : ℕ) → ((q ≡ p) → (u ≡ t) → ⊥) → HasPut moved q u v → HasPut s q u v
    other_put q u v other h = elim (put_split s s.ledger.steps s.founded (leader_set s.leaders p t behind) more s.clients q u v h) [
      | inl old ↦ old
      | inr new ↦ absurd (let e = same_leader q u p t (moves.mine _ new.3 refl) in other e.0 e.1)
    ]

    other_fenced : (q u v : ℕ) → ((q ≡ p) → (u ≡ t) → ⊥) → HasFenced moved q u v → HasFenced s q u v
    other_fenced q u v other h = elim (fenced_split s s.ledger.steps s.founded (leader_set s.leaders p t behind) more s.clients q u v h) [
      | inl old ↦ old
      | inr new ↦ absurd (let e = same_leader q u p t (moves.mine _ new.3 refl) in other e.0 e.1)
    ]

    other_led : (q u : ℕ) (x : Leader) → ((q ≡ p) → (u ≡ t) → ⊥) → IsLed parts s q u x → IsLed parts moved q u x
    other_led q u x other led = record { above = led.above; within = led.within; senders = led.senders; rules = ready_less parts (s.ledger.decided q) u x.applied x.lead.table (HasPut s q u) (HasFenced s q u) (HasPut moved q u) (HasFenced moved q u) (λ v. other_put q u v other) (λ v. other_fenced q u v other) x.lead.ready led.rules }

    its : (q u : ℕ) → ((q == p) && (u == t)) ≡ true → (q ≡ p) × (u ≡ t)
    its q u e = let a = and_parts (q == p) (u == t) e in (eqb-true q p a.0, eqb-true u t a.1)

    here : (q u : ℕ) → ((q == p) && (u == t)) ≡ true → s.leaders q u ≡ Some l
    here q u e = let a = its q u e in ap (λ (n : ℕ). s.leaders n u) a.0 ∙ ap (s.leaders p) a.1 ∙ is

    -- what was proposed is there still, and the rest is new
    made_front : (q u i : ℕ) (x : Proposal) → At (made_by s q u) i x → At (made_by moved q u) i x
    made_front q u i x = go (u == 0) ((q == p) && (u == t)) (here q u)
      where
        go : (a b : Bool) → (b ≡ true → s.leaders q u ≡ Some l) → At (cond a (s.founded q) (made_by_leader (s.leaders q u))) i x → At (cond a (s.founded q) (made_by_leader (cond b (Some behind) (s.leaders q u)))) i x
        go true b h at = at
        go false true h at = subst (λ (zs : List Proposal). At zs i x) (sym made) (at_front x l.made xs i (subst (λ (o : Option Leader). At (made_by_leader o) i x) (h refl) at))
        go false false h at = at

    made_split : (q u : ℕ) (x : Proposal) → Among x (made_by moved q u) → Among x (made_by s q u) ⊎ IsProposed parts moved k q u x
    made_split q u x = go (u == 0) ((q == p) && (u == t)) (here q u) (its q u)
      where
        go : (a b : Bool) → (b ≡ true → s.leaders q u ≡ Some l) → (b ≡ true → (q ≡ p) × (u ≡ t)) → Among x (cond a (s.founded q) (made_by_leader (cond b (Some behind) (s.leaders q u))))
            → Among x (cond a (s.founded q) (made_by_leader (s.leaders q u))) ⊎ IsProposed parts moved k q u x
        go true b h f among = inl among
        go false true h f among = elim (among_either x l.made xs (subst (Among x) made among)) [
          | inl old ↦ inl (subst (λ (o : Option Leader). Among x (made_by_leader o)) (sym (h refl)) old)
          | inr new ↦ inr (let e = f refl in subst (λ (n : ℕ). IsProposed parts moved k n u x) (sym e.0) (subst (λ (n : ℕ). IsProposed parts moved k p n x) (sym e.1) (moves.proposes x new)))
        ]
        go false false h f among = inl among

    both_modes : (q u v : ℕ) → HasPut moved q u v → HasFenced moved q u v → ⊥
    both_modes q u v a b = by_leader (q == p) (u == t) refl refl
      where
        by_leader : (c d : Bool) → (q == p) ≡ c → (u == t) ≡ d → ⊥
        by_leader true true e f = moves.one_mode v (subst (λ (n : ℕ). HasPut moved n t v) (eqb-true q p e) (subst (λ (n : ℕ). HasPut moved q n v) (eqb-true u t f) a))
            (subst (λ (n : ℕ). HasFenced moved n t v) (eqb-true q p e) (subst (λ (n : ℕ). HasFenced moved q n v) (eqb-true u t f) b))
        by_leader true false e f = kept.one_mode q u v (other_put q u v (λ x y. eqb-false u t f y) a) (other_fenced q u v (λ x y. eqb-false u t f y) b)
        by_leader false d e f = kept.one_mode q u v (other_put q u v (λ x y. eqb-false q p e x) a) (other_fenced q u v (λ x y. eqb-false q p e x) b)

    later_aborted : (q u v w : ℕ) (c : Course) → HasPut moved q u v → k q v ≡ Some c → c.fate ≡ Aborted w → u < w
    later_aborted q u v w c a known fate = by_leader (q == p) (u == t) refl refl
      where
        by_leader : (b d : Bool) → (q == p) ≡ b → (u == t) ≡ d → u < w
        by_leader true true e f = subst (λ (n : ℕ). n < w) (sym (eqb-true u t f)) (moves.unput v w c
            (subst (λ (n : ℕ). HasPut moved n t v) (eqb-true q p e) (subst (λ (n : ℕ). HasPut moved q n v) (eqb-true u t f) a)) (subst (λ (n : ℕ). k n v ≡ Some c) (eqb-true q p e) known) fate)
        by_leader true false e f = kept.unput q u v w c (other_put q u v (λ x y. eqb-false u t f y) a) known fate
        by_leader false d e f = kept.unput q u v w c (other_put q u v (λ x y. eqb-false q p e x) a) known fate

    all_led : (q u : ℕ) (x : Leader) → leader_set s.leaders p t behind q u ≡ Some x → IsLed parts moved q u x
    all_led q u x e = elim (set_split s.leaders p t behind q u x e) [
      | inl own ↦ subst (λ (n : ℕ). IsLed parts moved n u x) (sym own.0) (subst (λ (n : ℕ). IsLed parts moved p n x) (sym own.1) (subst (IsLed parts moved p t) (sym own.2) moves.led))
      | inr other ↦ other_led q u x other.1 (kept.leaders q u x other.0)
    ]

    pub moves_kept : IsKept parts moved k
    moves_kept = kept_behind s s.ledger.steps s.founded (leader_set s.leaders p t behind) more s.clients parts k kept onward (record {
      made = made_front;
      proposed = made_split;
      meant = moves.says;
      one_mode = both_modes;
      unput = later_aborted;
      leaders_new = all_led;
    })
