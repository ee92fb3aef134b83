-- Runs cut in two, and the step of a run at which something came about.
use Rattle.std.proofs.Common.{◌≡◌, ◌⊎◌, inl, inr, ℕ, zero, suc, ◌<◌, arith, length, List, [], ◌∷◌, ◌++◌, Some, Ok, refl, ap, sym, subst}
use Rattle.std.specs.Prelude.{slice_get}
use Rattle.first_graph.proofs.Places.{some_same}
use Rattle.first_graph.specs.declared.graph_step.GStep.{GStep}
use Rattle.first_graph.specs.Machine.{Machine, Step}
use Rattle.first_graph.specs.Run.{Run}

pub run_append : (g : Machine) (xs ys : List GStep) (mid h : Machine) → Run g xs mid → Run mid ys h → Run g (xs ++ ys) h
run_append g [] ys mid h r q = subst (λ n. Run n ys h) r q
run_append g (s ∷ xs) ys mid h r q = (r.0, r.1, run_append r.0 xs ys mid h r.2 q)

pub run_cut : (g : Machine) (xs ys : List GStep) (h : Machine) → Run g (xs ++ ys) h → (mid : Machine) × Run g xs mid × Run mid ys h
run_cut g [] ys h r = (g, refl, r)
run_cut g (s ∷ xs) ys h r = let c = run_cut r.0 xs ys h r.2 in (c.0, (r.0, r.1, c.1), c.2)

-- each of the steps is of this kind
abbrev pub Each : (GStep → Type 0) → List GStep → Type 0
Each K [] = Unit {0}
Each K (s ∷ steps) = K s × Each K steps

-- a step of the run of which P holds, with the machines before and after it; all steps after it are of kind K
pub record Met (P : Machine → GStep → Machine → Type 0) (K : GStep → Type 0) (g : Machine) (steps : List GStep) (h : Machine) : Type 0 where
  pub before : List GStep
  pub step : GStep
  pub after : List GStep
  pub was : Machine
  pub now : Machine
  pub is : steps ≡ before ++ step ∷ after
  pub first : Run g before was
  pub taken : Step was step (Ok now)
  pub rest : Run now after h
  pub met : P was step now
  pub since : Each K after

module _ (P : Machine → GStep → Machine → Type 0) (K : GStep → Type 0) where
  met_now : (g : Machine) (s : GStep) (mid : Machine) (steps : List GStep) (h : Machine) → Step g s (Ok mid) → Run mid steps h → P g s mid → Each K steps → Met P K g (s ∷ steps) h
  met_now g s mid steps h e r p k = record { before = []; step = s; after = steps; was = g; now = mid; is = refl; first = refl; taken = e; rest = r; met = p; since = k }

  met_later : (g : Machine) (s : GStep) (mid : Machine) (steps : List GStep) (h : Machine) → Step g s (Ok mid) → Met P K mid steps h → Met P K g (s ∷ steps) h
  met_later g s mid steps h e m = record {
    before = s ∷ m.before;
    step = m.step;
    after = m.after;
    was = m.was;
    now = m.now;
    is = ap (λ xs. s ∷ xs) m.is;
    first = (mid, e, m.first);
    taken = m.taken;
    rest = m.rest;
    met = m.met;
    since = m.since;
  }

-- what holds at the end held all along, or came about at a step
module _ (Q : Machine → Type 0) (P : Machine → GStep → Machine → Type 0) (K : GStep → Type 0) (back : (g : Machine) (s : GStep) (h : Machine) → Step g s (Ok h) → Q h → (Q g × K s) ⊎ P g s h) where
  came_at : (g : Machine) (s : GStep) (mid : Machine) (steps : List GStep) (h : Machine) → Step g s (Ok mid) → Run mid steps h → (Q mid × Each K steps) ⊎ Met P K mid steps h → (Q g × Each K (s ∷ steps)) ⊎ Met P K g (s ∷ steps) h
  came_at g s mid steps h e r (inr m) = inr (met_later P K g s mid steps h e m)
  came_at g s mid steps h e r (inl q) =
      elim (back g s mid e q.0) [
        | inl was ↦ inl (was.0, (was.1, q.1))
        | inr p ↦ inr (met_now P K g s mid steps h e r p q.1)
      ]

  pub came : (g : Machine) (steps : List GStep) (h : Machine) → Run g steps h → Q h → (Q g × Each K steps) ⊎ Met P K g steps h
  came g [] h r q = inl (subst Q r q, tt)
  came g (s ∷ steps) h r q = came_at g s r.0 steps h r.1 r.2 (came r.0 steps h r.2 q)

abbrev pub Any : GStep → Type 0
Any s = Unit {0}

pub each_any : (steps : List GStep) → Each Any steps
each_any [] = tt
each_any (s ∷ steps) = (tt, each_any steps)

-- what holds at the start holds to the end, or something came about at a step
module _ (Q : Machine → Type 0) (P : Machine → GStep → Machine → Type 0) (keep : (g : Machine) (s : GStep) (h : Machine) → Step g s (Ok h) → Q g → Q h ⊎ P g s h) where
  kept_at : (g : Machine) (s : GStep) (mid : Machine) (steps : List GStep) (h : Machine) → Step g s (Ok mid) → Q h ⊎ Met P Any mid steps h → Q h ⊎ Met P Any g (s ∷ steps) h
  kept_at g s mid steps h e (inl q) = inl q
  kept_at g s mid steps h e (inr m) = inr (met_later P Any g s mid steps h e m)

  pub kept : (g : Machine) (steps : List GStep) (h : Machine) → Run g steps h → Q g → Q h ⊎ Met P Any g steps h
  kept g [] h r q = inl (subst Q (sym r) q)
  kept g (s ∷ steps) h r q =
      elim (keep g s r.0 r.1 q) [
        | inl mid ↦ kept_at g s r.0 steps h r.1 (kept r.0 steps h r.2 mid)
        | inr p ↦ inr (met_now P Any g s r.0 steps h r.1 r.2 p (each_any steps))
      ]

each_in : (K : GStep → Type 0) (steps back : List GStep) (k : ℕ) (s : GStep) → Each K steps → k < length steps → slice_get (steps ++ back) k ≡ Some s → K s
each_in K [] back k s each l e = absurd (omega arith)
each_in K (x ∷ steps) back zero s each l e = subst K (some_same x s e) each.0
each_in K (x ∷ steps) back (suc k) s each l e = each_in K steps back k s each.1 (omega arith) e

-- a step that stands after another, within the steps of one kind, is of this kind
pub each_since : (K : GStep → Type 0) (before : List GStep) (x : GStep) (after back : List GStep) (k : ℕ) (s : GStep)
    → Each K after → length before < k → k < length (before ++ x ∷ after) → slice_get ((before ++ x ∷ after) ++ back) k ≡ Some s → K s
each_since K [] x after back zero s each m l e = absurd (omega arith)
each_since K [] x after back (suc k) s each m l e = each_in K after back k s each (omega arith) e
each_since K (z ∷ before) x after back zero s each m l e = absurd (omega arith)
each_since K (z ∷ before) x after back (suc k) s each m l e = each_since K before x after back k s each (omega arith) (omega arith) e
