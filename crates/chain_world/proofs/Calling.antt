-- A call that meets the discipline keeps a ledger sound.
use Rattle.std.proofs.Common.{◌≡◌, ◌⊎◌, inl, inr, ℕ, zero, suc, ◌+◌, List, [], ◌∷◌, ◌++◌, take, Option, None, Some, true, false, refl, ap, sym, subst, ◌∙◌, arith}
use Rattle.std.specs.FinMap.{get}
use Rattle.graph_model.specs.declared.answer.Answer.{Answer}
use Rattle.graph_model.specs.declared.call.Call.{Call}
use Rattle.graph_model.specs.declared.call.CallState.TheVariants.{Open}
use Rattle.graph_model.specs.declared.call_id.CallId.{CallId}
use Rattle.graph_model.specs.declared.op.Op.{Op}
use Rattle.graph_model.specs.declared.graph_step.GStep.{GStep}
use Rattle.graph_model.specs.declared.graph_step.GStep.TheVariants.{Invoke, Reply}
use Rattle.graph_model.specs.After.{after_invoke}
use Rattle.graph_model.specs.Lookups.{holds_of, is_right}
use Rattle.graph_model.specs.Ops.{is_op}
use Rattle.graph_model.specs.State.{GraphState, start, now}
use Rattle.graph_model.proofs.Calls.{invoke_taken}
use Rattle.graph_model.proofs.Moments.{past_long}
use Rattle.graph_model.proofs.Runs.{run_append}
use Rattle.chain_world.specs.Ledger.{Ledger, machine_of, invokes}
use Rattle.chain_world.specs.Course.{Courses}
use Rattle.chain_world.specs.Invariant.Discipline.{IsOneOf, IsInvoked, MayInvoke}
use Rattle.chain_world.specs.Invariant.Sound.{AreNoted, IsSoundAt, IsSound}
use Rattle.chain_world.proofs.Setting.{Moves, insert_moves}
use Rattle.chain_world.proofs.Pends.{found_same, pends_stay}
use Rattle.chain_world.proofs.Clients.{calls_more}
use Rattle.chain_world.proofs.Progress.{go_still}
use Rattle.chain_world.proofs.Steps.{one_of_left, one_of_right, one_of_either, taken_either}
use Rattle.chain_world.proofs.Deciding.{meant_on}

module _ (parts : ℕ) (l : Ledger) (k : Courses) (g : GraphState) (sound : IsSoundAt parts l k g) (id : CallId) (op : Op) (may : MayInvoke l id op) where
  -- nobody knows the call yet
  none_yet : get g.calls id ≡ None
  none_yet = go (get g.calls id) refl
    where
      go : (o : Option Call) → get g.calls id ≡ o → o ≡ None
      go None e = refl
      go (Some call) e = absurd (may.fresh call.op (sound.noted.invoked id call e))

  -- the graph with the call
  abbrev h : GraphState
  h = after_invoke g id op

  abbrev call : Call
  call = record { op = op; moment = now g + 1; state = Open; shown = false; said = false }

  -- its calls are one more
  moves : Moves (get g.calls) (get h.calls) id (Some call)
  moves = insert_moves g.calls id call

  -- each other call is as it was
  before : (i : CallId) (c : Call) → get g.calls i ≡ Some c → get h.calls i ≡ Some c
  before i c is = elim (moves.each i) [
    | inl same ↦ (let f : None ≡ Some c = sym none_yet ∙ ap (get g.calls) (sym same) ∙ is in cc)
    | inr other ↦ other.1 ∙ is
  ]

  -- a call behind it is the new one or was there
  behind : (i : CallId) (c : Call) → get h.calls i ≡ Some c → ((i ≡ id) × (c ≡ call)) ⊎ (get g.calls i ≡ Some c)
  behind i c is = elim (moves.each i) [
    | inl same ↦ inl (same, found_same (get h.calls i) c call is (ap (get h.calls) same ∙ moves.here))
    | inr other ↦ inr (sym other.1 ∙ is)
  ]

  -- the steps with the call
  abbrev steps : List GStep
  steps = l.steps ++ Invoke id op ∷ []

  -- the calls that are noted
  noted : AreNoted steps (get h.calls)
  noted = record {
    invoked = λ i c is. elim (behind i c is) [
      | inl new ↦ one_of_right l.steps (Invoke id op ∷ []) (Invoke i c.op) (inl (ap (λ j. Invoke j op) (sym new.0) ∙ ap (λ (x : Call). Invoke i x.op) (sym new.1)))
      | inr old ↦ one_of_left l.steps (Invoke id op ∷ []) (Invoke i c.op) (sound.noted.invoked i c old)
    ];
    known = λ i o among. elim (one_of_either l.steps (Invoke id op ∷ []) (Invoke i o) among) [
      | inl old ↦ (let n = sound.noted.known i o old in (n.0, before i n.0 n.1, n.2))
      | inr new ↦ elim new [
        | inl same ↦ (let e : id ≡ i = cc in let f : op ≡ o = cc in (call, ap (get h.calls) (sym e) ∙ moves.here, f))
        | inr none ↦ absurd none
      ]
    ];
    sized = λ i c is. elim (behind i c is) [
      | inl new ↦ ap (λ (x : Call). is_op x.op) new.1 ∙ may.sized
      | inr old ↦ sound.noted.sized i c old
    ];
    said = λ i c is said. elim (behind i c is) [
      | inl new ↦ (let f : false ≡ true = ap (λ (x : Call). x.said) (sym new.1) ∙ said in cc)
      | inr old ↦ (let r = sound.noted.said i c old said in (r.0, one_of_left l.steps (Invoke id op ∷ []) (Reply i r.0) r.1))
    ];
    unread = λ i c is reads unsaid. elim (behind i c is) [
      | inl new ↦ ap (λ (x : Call). x.state) new.1
      | inr old ↦ sound.noted.unread i c old reads unsaid
    ];
    moments = λ i c is n o among. elim (taken_either l.steps (Invoke id op ∷ []) n (Invoke i o) among) [
      | inl old ↦ elim (behind i c is) [
        | inl new ↦ absurd (may.fresh o (subst (λ j. IsInvoked l.steps j o) new.0 (among_all l.steps n (Invoke i o) old)))
        | inr was ↦ sound.noted.moments i c was n o old
      ]
      | inr new ↦ elim (behind i c is) [
        | inl its ↦ (let m = ap (λ (x : Call). x.moment) its.1 in let p = past_long l.steps g sound.run in let b = new.0 in omega arith)
        | inr was ↦ elim (new.1) [
          | inl same ↦ (let e : id ≡ i = cc in let f : None ≡ Some c = sym none_yet ∙ ap (get g.calls) e ∙ was in cc)
          | inr none ↦ absurd none
        ]
      ]
    ];
  }
    where
      among_all : (xs : List GStep) (n : ℕ) (s : GStep) → IsOneOf (take n xs) s → IsOneOf xs s
      among_all [] zero s is = is
      among_all [] (suc n) s is = is
      among_all (x ∷ xs) zero s is = absurd is
      among_all (x ∷ xs) (suc n) s (inl same) = inl same
      among_all (x ∷ xs) (suc n) s (inr more) = inr (among_all xs n s more)

  -- right answers stay right
  rights : (i : CallId) (a : Answer) → holds_of (is_right a) (get g.calls i) ≡ true → holds_of (is_right a) (get h.calls i) ≡ true
  rights i a e = go (get g.calls i) refl e
    where
      go : (o : Option Call) → get g.calls i ≡ o → holds_of (is_right a) o ≡ true → holds_of (is_right a) (get h.calls i) ≡ true
      go None was f = cc
      go (Some c) was f = ap (holds_of (is_right a)) (before i c was) ∙ f

  -- all holds behind it
  sound_at : IsSoundAt parts (invokes l id op) k h
  sound_at = record {
    run = run_append start l.steps (Invoke id op ∷ []) g h sound.run (h, invoke_taken g id op (record { fresh = none_yet }), refl);
    holds = record {
      halves = (let a = sound.holds.halves in record { tags = a.tags; out = a.out; inn = a.inn });
      chains = sound.holds.chains;
      kept = sound.holds.kept;
      pends = pends_stay parts k (get g.pend) (get g.calls) sound.holds.pends (get h.calls) (λ i c is begun. (c, before i c is, begun, refl, refl));
      calls = calls_more parts (λ q. get (machine_of parts l q).clients) (get g.calls) sound.holds.calls id call none_yet (record { opened = refl; unshown = refl }) (get h.calls) moves;
    };
    named = sound.named;
    noted = noted;
    meant = λ q i term entry answer was. meant_on k k (get g.calls) (get h.calls) entry answer (go_still k) rights (sound.meant q i term entry answer was);
  }

-- a call that meets the discipline keeps a ledger sound
pub invokes_sound : (parts : ℕ) (l : Ledger) (k : Courses) → IsSound parts l k → (id : CallId) (op : Op) → MayInvoke l id op → IsSound parts (invokes l id op) k
invokes_sound parts l k sound id op may = record { graph = after_invoke sound.graph id op; sound = sound_at parts l k sound.graph sound.sound id op may }
