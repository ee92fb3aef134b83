-- An answer that meets the discipline keeps a ledger sound.
use Rattle.std.proofs.Common.{◌≡◌, ◌≢◌, ◌⊎◌, inl, inr, ℕ, zero, suc, List, [], ◌∷◌, ◌++◌, length, length-take, take, drop, take-append-drop, None, Some, Ok, true, false, ◌&&◌, refl, ap, sym, subst, ◌∙◌, arith}
use Rattle.std.specs.FinMap.{get}
use Rattle.std.proofs.lemmas.Bool.{cases_Bool}
use Rattle.graph_model.specs.declared.answer.Answer.{Answer}
use Rattle.graph_model.specs.declared.answer.Answer.TheVariants as said
use Rattle.graph_model.specs.declared.call.Call.{Call}
use Rattle.graph_model.specs.declared.call.CallState.TheVariants.{Open, Begun, Done}
use Rattle.graph_model.specs.declared.call_id.CallId.{CallId}
use Rattle.graph_model.specs.declared.found.Found.{Found}
use Rattle.graph_model.specs.declared.op.Op.{Op}
use Rattle.graph_model.specs.declared.op.Op.TheVariants as op
use Rattle.graph_model.specs.declared.graph_step.GStep.{GStep}
use Rattle.graph_model.specs.declared.graph_step.GStep.TheVariants.{Invoke, Read, Reply}
use Rattle.graph_model.specs.After.{after_read, after_reply}
use Rattle.graph_model.specs.Lookups.{holds_of, is_right, is_done_with}
use Rattle.graph_model.specs.Ops.{is_op, query_of}
use Rattle.graph_model.specs.Run.{Run}
use Rattle.graph_model.specs.Same.{is_pending, is_unknown}
use Rattle.graph_model.specs.State.{GraphState, start, contents_at, with_state, with_said}
use Rattle.graph_model.specs.Steps.{Outcome}
use Rattle.graph_model.specs.Views.{view_of}
use Rattle.graph_model.proofs.Calls.{read_taken, reply_taken}
use Rattle.graph_model.proofs.Moments.{past_long, moments}
use Rattle.graph_model.proofs.Runs.{run_append, run_cut}
use Rattle.graph_model.proofs.SameLemmas.{right}
use Rattle.chain_world.specs.Ledger.{Ledger, machine_of, replies}
use Rattle.chain_world.specs.Course.{Courses}
use Rattle.chain_world.specs.Invariant.Discipline.{IsOneOf, IsInvoked, WasTold, WasSeen, IsRightReply, MayReply}
use Rattle.chain_world.specs.Invariant.Sound.{AreHalves, ArePends, AreNoted, IsSoundAt, IsSound}
use Rattle.chain_world.proofs.Setting.{Moves, altered_moves, moves_twice}
use Rattle.chain_world.proofs.Pends.{found_same, begun_or_open, pends_stay}
use Rattle.chain_world.proofs.Clients.{calls_stay}
use Rattle.chain_world.proofs.Progress.{go_still, or_more}
use Rattle.chain_world.proofs.Steps.{one_of_left, one_of_right, one_of_either, taken_either}
use Rattle.chain_world.proofs.Deciding.{meant_on}

-- a step has one outcome
same_ok : (x y : GraphState) → ◌≡◌ {A = Outcome} (Ok x) (Ok y) → x ≡ y
same_ok x y e = cc

-- a run leads to one graph
run_same : (g : GraphState) (steps : List GStep) (h k : GraphState) → Run g steps h → Run g steps k → h ≡ k
run_same g [] h k r q = r ∙ sym q
run_same g (s ∷ steps) h k r q = run_same r.0 steps h k r.2 (subst (λ m. Run m steps k) (same_ok q.0 r.0 (sym q.1 ∙ r.1)) q.2)

-- a step of the first n is one of all
among_all : (xs : List GStep) (n : ℕ) (s : GStep) → IsOneOf (take n xs) s → IsOneOf xs s
among_all [] zero s is = is
among_all [] (suc n) s is = is
among_all (x ∷ xs) zero s is = absurd is
among_all (x ∷ xs) (suc n) s (inl same) = inl same
among_all (x ∷ xs) (suc n) s (inr more) = inr (among_all xs n s more)

module _ (parts : ℕ) (l : Ledger) (k : Courses) (g : GraphState) (sound : IsSoundAt parts l k g) (id : CallId) (call : Call) (known : get g.calls id ≡ Some call) where
  -- A call is answered: nothing else changes. It is as far as before, or it was an open read.
  module _ (extra : List GStep) (a : Answer) (h : GraphState) (after : Call)
      (calls_none : (i : CallId) (o : Op) → IsOneOf extra (Invoke i o) → ⊥) (replied : IsOneOf extra (Reply id a)) (run : Run g extra h)
      (contents : h.contents ≡ g.contents) (pend : h.pend ≡ g.pend) (moves : Moves (get g.calls) (get h.calls) id (Some after))
      (op : after.op ≡ call.op) (shown : after.shown ≡ call.shown) (moment : after.moment ≡ call.moment) (is_said : after.said ≡ true)
      (how : (after.state ≡ call.state) ⊎ ((call.state ≡ Open) × (query_of call.op ≢ None))) where
    behind : (i : CallId) (c : Call) → get h.calls i ≡ Some c → ((i ≡ id) × (c ≡ after)) ⊎ (get g.calls i ≡ Some c)
    behind i c is = elim (moves.each i) [
      | inl same ↦ inl (same, found_same (get h.calls i) c after is (ap (get h.calls) same ∙ moves.here))
      | inr other ↦ inr (sym other.1 ∙ is)
    ]

    its : (i : CallId) (c : Call) → i ≡ id → get g.calls i ≡ Some c → c ≡ call
    its i c same is = found_same (get g.calls i) c call is (ap (get g.calls) same ∙ known)

    noted : AreNoted (l.steps ++ extra) (get h.calls)
    noted = record {
      invoked = λ i c is. elim (behind i c is) [
        | inl new ↦ one_of_left l.steps extra (Invoke i c.op) (subst (λ j. IsInvoked l.steps j c.op) (sym new.0) (subst (IsInvoked l.steps id) (sym op ∙ ap (λ (x : Call). x.op) (sym new.1)) (sound.noted.invoked id call known)))
        | inr old ↦ one_of_left l.steps extra (Invoke i c.op) (sound.noted.invoked i c old)
      ];
      known = λ i o among. elim (one_of_either l.steps extra (Invoke i o) among) [
        | inl old ↦ (let n = sound.noted.known i o old in elim (moves.each i) [
          | inl same ↦ (after, ap (get h.calls) same ∙ moves.here, op ∙ ap (λ (x : Call). x.op) (sym (its i n.0 same n.1)) ∙ n.2)
          | inr other ↦ (n.0, other.1 ∙ n.1, n.2)
        ])
        | inr new ↦ absurd (calls_none i o new)
      ];
      sized = λ i c is. elim (behind i c is) [
        | inl new ↦ ap (λ (x : Call). is_op x.op) new.1 ∙ ap is_op op ∙ sound.noted.sized id call known
        | inr old ↦ sound.noted.sized i c old
      ];
      said = λ i c is was. elim (behind i c is) [
        | inl new ↦ (a, one_of_right l.steps extra (Reply i a) (subst (λ j. IsOneOf extra (Reply j a)) (sym new.0) replied))
        | inr old ↦ (let r = sound.noted.said i c old was in (r.0, one_of_left l.steps extra (Reply i r.0) r.1))
      ];
      unread = λ i c is reads unsaid. elim (behind i c is) [
        | inl new ↦ (let f : true ≡ false = sym is_said ∙ ap (λ (x : Call). x.said) (sym new.1) ∙ unsaid in cc)
        | inr old ↦ sound.noted.unread i c old reads unsaid
      ];
      moments = λ i c is n o among. elim (taken_either l.steps extra n (Invoke i o) among) [
        | inl old ↦ elim (behind i c is) [
          | inl new ↦ (let low = sound.noted.moments id call known n o (subst (λ j. IsInvoked (take n l.steps) j o) new.0 old) in let e = ap (λ (x : Call). x.moment) new.1 in let f = moment in omega arith)
          | inr was ↦ sound.noted.moments i c was n o old
        ]
        | inr new ↦ absurd (calls_none i o new.1)
      ];
    }

    right_on : (b : Answer) → is_right b call ≡ true → is_right b after ≡ true
    right_on b e = or_more (is_done_with b call.state) (is_pending b && call.shown) (is_unknown b) (is_done_with b after.state) (is_pending b && after.shown)
        (λ d. elim how [
          | inl as_far ↦ ap (is_done_with b) as_far ∙ d
          | inr was_open ↦ (let f : false ≡ true = ap (is_done_with b) (sym was_open.0) ∙ d in cc)
        ])
        (λ s. ap (λ x. is_pending b && x) shown ∙ s) e

    rights : (i : CallId) (b : Answer) → holds_of (is_right b) (get g.calls i) ≡ true → holds_of (is_right b) (get h.calls i) ≡ true
    rights i b e = elim (moves.each i) [
      | inl same ↦ ap (holds_of (is_right b)) (ap (get h.calls) same ∙ moves.here) ∙ right_on b (sym (ap (holds_of (is_right b)) (ap (get g.calls) same ∙ known)) ∙ e)
      | inr other ↦ ap (holds_of (is_right b)) other.1 ∙ e
    ]

    begun_stays : (i : CallId) (c : Call) → get g.calls i ≡ Some c → c.state ≡ Begun → (later : Call) × (get h.calls i ≡ Some later) × (later.state ≡ Begun) × (later.shown ≡ c.shown) × (later.op ≡ c.op)
    begun_stays i c is begun = elim (moves.each i) [
      | inl same ↦ (let e = its i c same is in elim how [
        | inl as_far ↦ (after, ap (get h.calls) same ∙ moves.here, as_far ∙ ap (λ (x : Call). x.state) (sym e) ∙ begun, shown ∙ ap (λ (x : Call). x.shown) (sym e), op ∙ ap (λ (x : Call). x.op) (sym e))
        | inr was_open ↦ absurd (begun_or_open c call e begun was_open.0)
      ])
      | inr other ↦ (c, other.1 ∙ is, begun, refl, refl)
    ]

    answered : IsSoundAt parts (record l { steps = l.steps ++ extra }) k h
    answered = record {
      run = run_append start l.steps extra g h sound.run run;
      holds = record {
        halves = subst (AreHalves parts (machine_of parts l)) (sym contents) sound.holds.halves;
        chains = sound.holds.chains;
        kept = sound.holds.kept;
        pends = subst (λ f. ArePends parts k (get f) (get h.calls)) (sym pend) (pends_stay parts k (get g.pend) (get g.calls) sound.holds.pends (get h.calls) begun_stays);
        calls = calls_stay parts (λ q. get (machine_of parts l q).clients) (get g.calls) sound.holds.calls id call after known (get h.calls) moves op
            (elim how [ inl as_far ↦ inl (as_far, shown) | inr was_open ↦ inr was_open ]);
      };
      named = sound.named;
      noted = noted;
      meant = λ q i term entry answer was. meant_on k k (get g.calls) (get h.calls) entry answer (go_still k) rights (sound.meant q i term entry answer was);
    }

  -- a plain answer
  plain : (a : Answer) → call.said ≡ false → is_right a call ≡ true → IsSoundAt parts (record l { steps = l.steps ++ Reply id a ∷ [] }) k (after_reply g id)
  plain a unsaid rightly = answered (Reply id a ∷ []) a (after_reply g id) (with_said call)
      (λ i o is. elim is [ inl same ↦ cc | inr none ↦ none ]) (inl refl)
      (after_reply g id, reply_taken g id a (record { call = call; known = known; unsaid = unsaid; right = rightly }), refl)
      refl refl (altered_moves g.calls id with_said call known) refl refl refl refl (inl refl)

  -- what an entry told is right
  told_right : (a : Answer) → WasTold parts l id a → is_right a call ≡ true
  told_right a was = sym (ap (holds_of (is_right a)) known) ∙ (sound.meant was.part was.place was.term was.entry was.answer was.answered).told id a was.tells

  -- a view that was seen
  module _ (view : List Found) (m : ℕ) (unsaid : call.said ≡ false) (seen : WasSeen l id view m) where
    reads : query_of call.op ≡ Some seen.query
    reads =
        let n = sound.noted.known id (op.Read seen.query) (among_all l.steps m (Invoke id (op.Read seen.query)) seen.invoked) in
        ap query_of (ap (λ (x : Call). x.op) (found_same (get g.calls id) call n.0 known n.1) ∙ n.2)

    reads_some : query_of call.op ≢ None
    reads_some none = let f : Some seen.query ≡ None = sym reads ∙ none in cc

    -- the graph at that moment
    same_then : view_of seen.query (contents_at g m) ≡ view
    same_then =
        let cut = run_cut start (take m l.steps) (drop m l.steps) g (subst (λ s. Run start s g) (sym (take-append-drop m l.steps)) sound.run) in
        let long : length (take m l.steps) ≡ m = (let t = length-take m l.steps in let w = seen.within in omega arith) in
        ap (λ n. view_of seen.query (contents_at g n)) (sym long) ∙ ap (view_of seen.query) (moments (take m l.steps) (drop m l.steps) cut.0 g cut.1 cut.2)
        ∙ ap (λ (x : GraphState). view_of seen.query x.contents) (run_same start (take m l.steps) cut.0 seen.graph cut.1 seen.run) ∙ seen.is

    abbrev read_call : Call
    read_call = with_state (Done (said.Shown (view_of seen.query (contents_at g m)))) call

    abbrev g1 : GraphState
    g1 = after_read g id m seen.query

    opened : call.state ≡ Open
    opened = sound.noted.unread id call known reads_some unsaid

    read_moves : Moves (get g.calls) (get g1.calls) id (Some read_call)
    read_moves = altered_moves g.calls id (with_state (Done (said.Shown (view_of seen.query (contents_at g m))))) call known

    shown_answer : IsSoundAt parts (record l { steps = l.steps ++ Read id m ∷ Reply id (said.Shown view) ∷ [] }) k (after_reply g1 id)
    shown_answer = answered (Read id m ∷ Reply id (said.Shown view) ∷ []) (said.Shown view) (after_reply g1 id) (with_said read_call)
        (λ i o is. elim is [ inl same ↦ cc | inr more ↦ elim more [ inl same ↦ cc | inr none ↦ none ] ]) (inr (inl refl)) (
          g1,
          read_taken g id m (record { call = call; known = known; open_then = opened; query = seen.query; asks = reads; since = sound.noted.moments id call known m (op.Read seen.query) seen.invoked; until = (let p = past_long l.steps g sound.run in let w = seen.within in omega arith) }),
          (after_reply g1 id, reply_taken g1 id (said.Shown view) (record { call = read_call; known = read_moves.here; unsaid = unsaid; right = right (said.Shown view) read_call (inl (ap (λ v. Done (said.Shown v)) same_then)) }), refl),
        )
        refl refl (moves_twice (get g.calls) (get g1.calls) (get (after_reply g1 id).calls) id (Some read_call) (Some (with_said read_call)) read_moves (altered_moves g1.calls id with_said read_call read_moves.here))
        refl refl refl refl (inr (opened, reads_some))

  -- any answer that is right
  by_answer : (a : Answer) (m : ℕ) → call.said ≡ false → IsRightReply parts l id a m → IsSound parts (replies l id a m) k
  by_answer said.Fine m unsaid rightly = record { graph = after_reply g id; sound = plain said.Fine unsaid (told_right said.Fine rightly) }
  by_answer said.Skipped m unsaid rightly = record { graph = after_reply g id; sound = plain said.Skipped unsaid (told_right said.Skipped rightly) }
  by_answer said.Pending m unsaid rightly = record { graph = after_reply g id; sound = plain said.Pending unsaid (told_right said.Pending rightly) }
  by_answer (said.Conflict other) m unsaid rightly = record { graph = after_reply g id; sound = plain (said.Conflict other) unsaid (told_right (said.Conflict other) rightly) }
  by_answer said.Cancelled m unsaid rightly = record { graph = after_reply g id; sound = plain said.Cancelled unsaid (told_right said.Cancelled rightly) }
  by_answer said.Unknown m unsaid rightly = record { graph = after_reply g id; sound = plain said.Unknown unsaid (right said.Unknown call (inr (inr refl))) }
  by_answer (said.Shown view) m unsaid rightly = record { graph = after_reply (g1 view m unsaid rightly) id; sound = shown_answer view m unsaid rightly }

-- an answer that meets the discipline keeps a ledger sound
pub replies_sound : (parts : ℕ) (l : Ledger) (k : Courses) → IsSound parts l k → (id : CallId) (a : Answer) (m : ℕ) → MayReply parts l id a m → IsSound parts (replies l id a m) k
replies_sound parts l k sound id a m may =
    let s = sound.sound in
    let n = s.noted.known id may.op may.invoked in
    by_answer parts l k sound.graph s id n.0 n.1 a m (unsaid n.0 n.1) may.right
  where
    unsaid : (call : Call) → get sound.graph.calls id ≡ Some call → call.said ≡ false
    unsaid call known = elim (cases_Bool call.said) [
      | inl before ↦ absurd (may.unsaid (sound.sound.noted.said id call known before))
      | inr none ↦ none
    ]
