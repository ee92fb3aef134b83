-- A call keeps its op and its moment, and a read's moment lies after its call.
use Rattle.std.proofs.Common.{◌≡◌, ◌⊎◌, inl, inr, ℕ, ◌+◌, ◌<◌, ◌≤◌, arith, length, List, ◌∷◌, ◌++◌, Option, Some, None, Ok, false, refl, ap, sym, subst, ◌∙◌}
use Rattle.std.specs.Prelude.{slice_get}
use Rattle.std.proofs.lemmas.Option.{slice_get_within}
use Rattle.std.specs.FinMap.{get}
use Rattle.first_graph.specs.declared.call_id.CallId.{CallId}
use Rattle.first_graph.specs.declared.query.Query.{Query}
use Rattle.first_graph.specs.declared.op.Op.{Op}
use Rattle.first_graph.specs.declared.op.Op.TheVariants.{Read as ReadOp}
use Rattle.first_graph.specs.declared.answer.Answer.TheVariants.{Fine}
use Rattle.first_graph.specs.declared.call.CallState.{CallState}
use Rattle.first_graph.specs.declared.call.CallState.TheVariants.{Open, Begun, Done}
use Rattle.first_graph.specs.declared.call.Call.{Call}
use Rattle.first_graph.specs.declared.graph_step.GStep.{GStep}
use Rattle.first_graph.specs.declared.graph_step.GStep.TheVariants.{Invoke, Read}
use Rattle.first_graph.specs.Machine.{Machine, Step, start}
use Rattle.first_graph.specs.Run.{Run}
use Rattle.first_graph.proofs.KeyLemmas.{calls_total}
use Rattle.first_graph.proofs.Updates.{with_at_here}
use Rattle.first_graph.proofs.Never as never
use Rattle.first_graph.proofs.Never.{At, IsSoundMachine, step_sound, run_sound, start_sound, run_stays}
use Rattle.first_graph.proofs.Moments.{past_long}
use Rattle.first_graph.proofs.Places.{cut_at}
use Rattle.first_graph.proofs.Runs.{run_cut}
use Rattle.first_graph.proofs.Told.{OpIs, IsFine}
use Rattle.first_graph.proofs.Held.{invoke_held, read_within}

-- what a call was invoked with and when stay, and that it is done with Fine
pub op_stays : (op : Op) → never.Stays (OpIs op)
op_stays op = record { moved = λ call s now p. p; shown = λ call p. p; said = λ call p. p }

abbrev pub MomentIs : ℕ → Call → Type 0
MomentIs m call = call.moment ≡ m

pub moment_stays : (m : ℕ) → never.Stays (MomentIs m)
moment_stays m = record { moved = λ call s now p. p; shown = λ call p. p; said = λ call p. p }

pub not_fine : {A : Type 0} (s : CallState) → (s ≡ Open) ⊎ (s ≡ Begun) → s ≡ Done Fine → A
not_fine s (inl o) e = cc
not_fine s (inr b) e = cc

pub fine_stays : never.Stays IsFine
fine_stays = record { moved = λ call s now p. not_fine call.state now p; shown = λ call p. p; said = λ call p. p }

pub sound_at : (steps : List GStep) (g : Machine) → Run start steps g → IsSoundMachine g
sound_at steps g r = run_sound start steps g r start_sound

pub known_at : (P : Call → Type 0) (o : Option Call) → At P o → (call : Call) × (o ≡ Some call) × P call
known_at P None p = absurd p
known_at P (Some call) p = (call, refl, p)

same_op : (o : Option Call) (a b : Op) → At (OpIs a) o → At (OpIs b) o → a ≡ b
same_op None a b p q = absurd p
same_op (Some call) a b p q = sym p ∙ q

same_moment : (o : Option Call) (a b : ℕ) → At (MomentIs a) o → At (MomentIs b) o → a ≡ b
same_moment None a b p q = absurd p
same_moment (Some call) a b p q = sym p ∙ q

-- a call has all along the op that it has in the end
pub op_is : (g : Machine) (steps : List GStep) (h : Machine) (id : CallId) (call : Call) (op : Op) → Run g steps h → IsSoundMachine g → get g.calls id ≡ Some call → At (OpIs op) (get h.calls id) → call.op ≡ op
op_is g steps h id call op r v known p = same_op (get h.calls id) call.op op (run_stays (OpIs call.op) (op_stays call.op) g steps h id r v (subst (At (OpIs call.op)) (sym known) refl)) p

pub moment_is : (g : Machine) (steps : List GStep) (h : Machine) (id : CallId) (call : Call) (m : ℕ) → Run g steps h → IsSoundMachine g → get g.calls id ≡ Some call → At (MomentIs m) (get h.calls id) → call.moment ≡ m
moment_is g steps h id call m r v known p = same_moment (get h.calls id) call.moment m (run_stays (MomentIs call.moment) (moment_stays call.moment) g steps h id r v (subst (At (MomentIs call.moment)) (sym known) refl)) p

-- the step at a place of a run, with the machines before and after it
pub record Placed (steps : List GStep) (k : ℕ) (s : GStep) (h : Machine) : Type 0 where
  pub before : List GStep
  pub after : List GStep
  pub was : Machine
  pub now : Machine
  pub is : steps ≡ before ++ s ∷ after
  pub place : length before ≡ k
  pub first : Run start before was
  pub taken : Step was s (Ok now)
  pub rest : Run now after h

pub placed : (steps : List GStep) (h : Machine) (k : ℕ) (s : GStep) → Run start steps h → slice_get steps k ≡ Some s → Placed steps k s h
placed steps h k s r e =
    let c = cut_at steps k s e in
    let q = run_cut start c.before (s ∷ c.after) h (subst (λ l. Run start l h) c.is r) in
    record { before = c.before; after = c.after; was = q.0; now = q.2.0; is = c.is; place = c.place; first = q.1; taken = q.2.1; rest = q.2.2 }

-- an invoked call has its op and its moment in the end
pub record Asked (g : Machine) (id : CallId) (op : Op) (k : ℕ) : Type 0 where
  pub op_then : At (OpIs op) (get g.calls id)
  pub moment_then : At (MomentIs (k + 1)) (get g.calls id)

pub asked_at : (steps : List GStep) (h : Machine) (k : ℕ) (id : CallId) (op : Op) → Run start steps h → slice_get steps k ≡ Some (Invoke id op) → Asked h id op k
asked_at steps h k id op r e =
    let p = placed steps h k (Invoke id op) r e in
    let t = invoke_held p.was id op p.now p.taken in
    let new : Call = record { op = op; moment = length p.was.past + 1; state = Open; shown = false; said = false } in
    let now : get p.now.calls id ≡ Some new = ap (λ m. get m.calls id) t.is ∙ with_at_here calls_total p.was.calls id (Some new) in
    let long : length p.was.past + 1 ≡ k + 1 = ap (λ n. n + 1) (past_long p.before p.was p.first ∙ p.place) in
    let sound = step_sound p.was (Invoke id op) p.now p.taken (sound_at p.before p.was p.first) in
    record {
      op_then = run_stays (OpIs op) (op_stays op) p.now p.after h id p.rest sound (subst (At (OpIs op)) (sym now) refl);
      moment_then = run_stays (MomentIs (k + 1)) (moment_stays (k + 1)) p.now p.after h id p.rest sound (subst (At (MomentIs (k + 1))) (sym now) long);
    }

-- the moment of a read lies after its call, and within the run
pub within : (steps : List GStep) (h : Machine) (asked read m : ℕ) (id : CallId) (q : Query) → Run start steps h → slice_get steps asked ≡ Some (Invoke id (ReadOp q)) → slice_get steps read ≡ Some (Read id m) → (asked < m) × (m ≤ length steps)
within steps h asked read m id q r a e =
    let p = placed steps h read (Read id m) r e in
    let w = read_within p.was id m p.now p.taken in
    let since : w.call.moment ≡ asked + 1 = moment_is p.was (Read id m ∷ p.after) h id w.call (asked + 1) (p.now, p.taken, p.rest) (sound_at p.before p.was p.first) w.known (asked_at steps h asked id (ReadOp q) r a).moment_then in
    let long : length p.was.past ≡ read = past_long p.before p.was p.first ∙ p.place in
    let short : read < length steps = slice_get_within steps read (Read id m) e in
    let from = w.since in
    let to = w.until in
    (omega arith, omega arith)
