-- Local, Double, Close and Abort of a chain that stands.
use Rattle.std.proofs.Common.{◌≡◌, inl, inr, ℕ, [], ◌∷◌, None, Some, true, false, refl, ap, sym, subst, ◌∙◌}
use Rattle.std.specs.FinMap.{get, remove}
use Rattle.std.specs.Option.{option_map}
use Rattle.graph_model.specs.declared.answer.Answer.TheVariants.{Fine, Pending, Cancelled}
use Rattle.graph_model.specs.declared.call.Call.{Call}
use Rattle.graph_model.specs.declared.call.CallState.TheVariants.{Begun, Done}
use Rattle.graph_model.specs.declared.graph_step.GStep.TheVariants.{OutHalf, Settle, Cancel}
use Rattle.graph_model.specs.After.{after_out, after_settle, after_cancel}
use Rattle.graph_model.specs.State.{GraphState, with_state, with_shown, with_out_done}
use Rattle.graph_model.proofs.Pends.{out_taken, settle_taken, cancel_taken}
use Rattle.graph_model.proofs.SameLemmas.{right}
use Rattle.maps.specs.Maps.{altered}
use Rattle.maps.proofs.Keys.{nat_keys, same_or_apart}
use Rattle.maps.proofs.Updates.{insert_here, insert_apart, remove_here}
use Rattle.part_keys.specs.declared.chain.PrimeRec.{PrimeRec}
use Rattle.part_keys.specs.Routing.{part_of}
use Rattle.part_rules.specs.declared.kept.Outcome.{Outcome}
use Rattle.part_rules.specs.declared.kept.Outcome.TheVariants as kept
use Rattle.part_rules.specs.Part.{Part}
use Rattle.part_rules.specs.Machine.{with_outcome, settling, doubling, closing, aborting, out_written}
use Rattle.chain_world.specs.Course.{Fate, Primed, Doubled, Settled, Closed, Aborted, Course, Courses, stands, is_settled, is_aborted, with_course, with_fate}
use Rattle.chain_world.specs.Invariant.ChainFacts.{AreChains}
use Rattle.chain_world.specs.Invariant.Sound.{chain_of, IsServed, AreKept, Holds, kept_of}
use Rattle.chain_world.proofs.Setting.{set_at, Moves, altered_moves, remove_moves, moves_twice}
use Rattle.chain_world.proofs.Pends.{pends_go_on, pends_end}
use Rattle.chain_world.proofs.Clients.{KeptMoves, calls_come}
use Rattle.chain_world.proofs.Courses.{nothing_changes, fate_goes_on}
use Rattle.chain_world.proofs.EdgesHalves.{halves_same, halves_out}
use Rattle.chain_world.proofs.Progress.{go_set, told_one, IsProgress, moved_progress}
use Rattle.chain_world.proofs.Reaching.{taken_out, Reaches, Rises, client_altered, kept_goes, numbers_stay}
pub use Rattle.chain_world.proofs.Standing.{IsCourse, course_found}
use Rattle.chain_world.proofs.Standing.{primed_of, doubled_of, none_of_end}

module _ (parts : ℕ) (machine : ℕ → Part) (next : ℕ → ℕ) (k : Courses) (g : GraphState) (holds : Holds parts machine next k g) (p v : ℕ) (later : ℕ → ℕ) (rises : Rises next later p)
    (chain : PrimeRec) (found : get (machine p).chains v ≡ Some chain) where
  -- the chain's course, its call and its pend
  course : IsCourse (k p v) v chain
  course = course_found v (k p v) chain (sym (holds.kept p v) ∙ found)

  abbrev c : Course
  c = course.its

  serves : IsServed parts p c (get g.calls c.id)
  serves = holds.pends.served p v c course.is course.stands

  pending : get g.pend c.id ≡ Some (chain_of c)
  pending = holds.pends.pending p v c course.is course.stands

  -- the course with another fate is what the entry makes of it
  fated : (fate : Fate) → with_fate fate (k p v) ≡ Some (record c { fate = fate })
  fated fate = ap (with_fate fate) course.is

  -- a chain ends: its fate, its call's answer, and the graph that has no pend of it
  module _ (x : Part) (fate : Fate) (over : stands fate ≡ false) (settles : is_settled fate ≡ true → c.wrote ≡ true) (aborts : is_aborted fate ≡ true → c.wrote ≡ false)
      (inn : x.inn ≡ (machine p).inn) (chains : x.chains ≡ remove (machine p).chains v) where
    ended_chains : AreChains (part_of parts) (with_course k p v (Some (record c { fate = fate }))) later (kept_of parts (set_at machine p x))
    ended_chains = numbers_stay parts machine next k g holds p x inn later (with_course k p v (Some (record c { fate = fate })))
        (nothing_changes (part_of parts) (with_course k p v (Some (record c { fate = fate }))) next (kept_of parts machine)
        (fate_goes_on (part_of parts) k next (kept_of parts machine) holds.chains p v c course.is course.stands fate settles aborts) later rises.all)

    ended_kept : AreKept (set_at machine p x) (with_course k p v (Some (record c { fate = fate })))
    ended_kept = kept_goes parts machine next k g holds p x v (Some (record c { fate = fate }))
        (ap (λ m. get m v) chains ∙ remove_here nat_keys (machine p).chains v ∙ none_of_end v c fate over) (taken_out parts machine next k g holds p x v chains)

  -- what the part keeps of the call's client, where an outcome comes
  comes : (x : Part) (outcome : Outcome) → x.clients ≡ altered (machine p).clients chain.id.client (with_outcome chain.id.number outcome)
      → KeptMoves (λ q. get (machine q).clients) (λ q. get (set_at machine p x q).clients) p c.id.client (option_map (with_outcome c.id.number outcome) (get (machine p).clients c.id.client))
  comes x outcome is = client_altered parts machine next k g holds p x c.id.client (with_outcome c.id.number outcome) (is ∙ ap (λ i. altered (machine p).clients i.client (with_outcome i.number outcome)) course.id)

  -- a begun call has no answer yet, so it has gone on
  goes : (now : Call) → now.op ≡ serves.its.op → now.said ≡ serves.its.said → now.moment ≡ serves.its.moment → (serves.its.shown ≡ true → now.shown ≡ true) → IsProgress serves.its now
  goes now op said moment shown = record { op = op; said = said; done = λ a e. (let f : Begun ≡ Done a = sym serves.begun ∙ e in cc); shown = shown; moment = moment; unread = λ r. absurd (r serves.writes) }

  -- Local of a chain that isn't doubled, and that wrote its in-halves: its out-halves are written, and it settles
  pub local_reaches : chain.double ≡ false → ((c : Course) → k p v ≡ Some c → c.fate ≡ Primed → c.wrote ≡ true) → Reaches parts (set_at machine p (settling (machine p) v chain)) later k (with_course k p v (with_fate Settled (k p v))) g (OutHalf chain.id ∷ Settle chain.id ∷ []) (Some (chain.id, Fine))
  local_reaches single meets =
      subst (λ l. Reaches parts (set_at machine p x) later k (with_course k p v l) g (OutHalf chain.id ∷ Settle chain.id ∷ []) (Some (chain.id, Fine))) (sym (fated Settled))
      (subst (λ i. Reaches parts (set_at machine p x) later k (with_course k p v (Some d)) g (OutHalf i ∷ Settle i ∷ []) (Some (i, Fine))) (sym course.id)
      (record {
        graph = h;
        run = (
          g1,
          out_taken g c.id (record { chain = chain_of c; found = pending; undone = sym course.double ∙ single }),
          (h, settle_taken g1 c.id (record { chain = with_out_done (chain_of c); found = pend_one.here; in_then = wrote; out_then = refl }), refl),
        );
        holds = record {
          halves = halves_out parts machine p x g.contents holds.halves c.list (λ e on. (holds.chains.routed p v c course.is e on).0) refl refl (ap (out_written (machine p).out) course.list);
          chains = ended_chains x Settled refl (λ _. wrote) (λ a. cc) refl refl;
          kept = ended_kept x Settled refl (λ _. wrote) (λ a. cc) refl refl;
          pends = pends_end parts k (get g.pend) (get g.calls) holds.pends p v c course.is course.stands d refl (get h.pend) pends (get h.calls) calls.each;
          calls = calls_come parts (λ q. get (machine q).clients) (get g.calls) holds.calls p c.id serves.its serves.is serves.home serves.begun kept.Fine now refl refl (get h.calls) calls
              (λ q. get (set_at machine p x q).clients) (comes x kept.Fine refl);
        };
        progress = moved_progress (get g.calls) (get h.calls) c.id serves.its now serves.is calls (goes now refl refl refl (λ e. refl));
        courses = go_set k p v c d course.is (record { id = refl; remote = refl; list = refl; wrote = λ w. w; ended = λ e. (let f : false ≡ true = sym e ∙ course.stands in cc); shown = λ e. refl });
        rightly = told_one (get h.calls) c.id Fine now calls.here (right Fine now (inl refl));
      }))
    where
      wrote : c.wrote ≡ true
      wrote = meets c course.is (primed_of c.fate course.stands (sym course.double ∙ single))

      x : Part
      x = settling (machine p) v chain

      d : Course
      d = record c { fate = Settled }

      g1 : GraphState
      g1 = after_out g c.id c.list

      h : GraphState
      h = after_settle g1 c.id

      now : Call
      now = with_state (Done Fine) (with_shown serves.its)

      pend_one : Moves (get g.pend) (get g1.pend) c.id (Some (with_out_done (chain_of c)))
      pend_one = altered_moves g.pend c.id with_out_done (chain_of c) pending

      pends : Moves (get g.pend) (get h.pend) c.id None
      pends = moves_twice (get g.pend) (get g1.pend) (get h.pend) c.id (Some (with_out_done (chain_of c))) None pend_one (remove_moves g1.pend c.id)

      call_one : Moves (get g.calls) (get g1.calls) c.id (Some (with_shown serves.its))
      call_one = altered_moves g.calls c.id with_shown serves.its serves.is

      calls : Moves (get g.calls) (get h.calls) c.id (Some now)
      calls = moves_twice (get g.calls) (get g1.calls) (get h.calls) c.id (Some (with_shown serves.its)) (Some now) call_one (altered_moves g1.calls c.id (with_state (Done Fine)) (with_shown serves.its) call_one.here)

  -- Double of a chain that isn't doubled: its out-halves are written, and it is shown
  pub double_reaches : chain.double ≡ false → Reaches parts (set_at machine p (doubling (machine p) v chain)) later k (with_course k p v (with_fate Doubled (k p v))) g (OutHalf chain.id ∷ []) (Some (chain.id, Pending))
  double_reaches single =
      subst (λ l. Reaches parts (set_at machine p x) later k (with_course k p v l) g (OutHalf chain.id ∷ []) (Some (chain.id, Pending))) (sym (fated Doubled))
      (subst (λ i. Reaches parts (set_at machine p x) later k (with_course k p v (Some d)) g (OutHalf i ∷ []) (Some (i, Pending))) (sym course.id)
      (record {
        graph = h;
        run = (h, out_taken g c.id (record { chain = chain_of c; found = pending; undone = sym course.double ∙ single }), refl);
        holds = record {
          halves = halves_out parts machine p x g.contents holds.halves c.list (λ e on. (holds.chains.routed p v c course.is e on).0) refl refl (ap (out_written (machine p).out) course.list);
          chains = numbers_stay parts machine next k g holds p x refl later (with_course k p v (Some d))
              (nothing_changes (part_of parts) (with_course k p v (Some d)) next (kept_of parts machine)
              (fate_goes_on (part_of parts) k next (kept_of parts machine) holds.chains p v c course.is course.stands Doubled (λ s. cc) (λ a. cc)) later rises.all);
          kept = kept_goes parts machine next k g holds p x v (Some d)
              (insert_here nat_keys (machine p).chains v (record chain { double = true }) ∙ ap (λ (r : PrimeRec). Some (record r { double = true })) course.same)
              (λ w other. elim (same_or_apart nat_keys w v) [ inl same ↦ absurd (other same) | inr apart ↦ insert_apart nat_keys (machine p).chains v (record chain { double = true }) w apart ]);
          pends = pends_go_on parts k (get g.pend) (get g.calls) holds.pends p v c course.is course.stands d refl refl now
              (record { its = now; is = refl; begun = serves.begun; shown = refl; home = serves.home; writes = serves.writes })
              (get h.pend) (altered_moves g.pend c.id with_out_done (chain_of c) pending) (get h.calls) calls;
          calls = calls_come parts (λ q. get (machine q).clients) (get g.calls) holds.calls p c.id serves.its serves.is serves.home serves.begun kept.Pending now (serves.begun, refl) refl (get h.calls) calls
              (λ q. get (set_at machine p x q).clients) (comes x kept.Pending refl);
        };
        progress = moved_progress (get g.calls) (get h.calls) c.id serves.its now serves.is calls (goes now refl refl refl (λ e. refl));
        courses = go_set k p v c d course.is (record { id = refl; remote = refl; list = refl; wrote = λ w. w; ended = λ e. (let f : false ≡ true = sym e ∙ course.stands in cc); shown = λ e. refl });
        rightly = told_one (get h.calls) c.id Pending now calls.here (right Pending now (inr (inl (refl, refl))));
      }))
    where
      x : Part
      x = doubling (machine p) v chain

      d : Course
      d = record c { fate = Doubled }

      h : GraphState
      h = after_out g c.id c.list

      now : Call
      now = with_shown serves.its

      calls : Moves (get g.calls) (get h.calls) c.id (Some now)
      calls = altered_moves g.calls c.id with_shown serves.its serves.is

  -- Close of a doubled chain that wrote its in-halves: it settles
  pub close_reaches : chain.double ≡ true → ((c : Course) → k p v ≡ Some c → c.fate ≡ Doubled → c.wrote ≡ true) → Reaches parts (set_at machine p (closing (machine p) v chain)) later k (with_course k p v (with_fate Closed (k p v))) g (Settle chain.id ∷ []) (Some (chain.id, Fine))
  close_reaches double meets =
      subst (λ l. Reaches parts (set_at machine p x) later k (with_course k p v l) g (Settle chain.id ∷ []) (Some (chain.id, Fine))) (sym (fated Closed))
      (subst (λ i. Reaches parts (set_at machine p x) later k (with_course k p v (Some d)) g (Settle i ∷ []) (Some (i, Fine))) (sym course.id)
      (record {
        graph = h;
        run = (h, settle_taken g c.id (record { chain = chain_of c; found = pending; in_then = wrote; out_then = sym course.double ∙ double }), refl);
        holds = record {
          halves = halves_same parts machine p x g.contents holds.halves refl refl refl;
          chains = ended_chains x Closed refl (λ _. wrote) (λ a. cc) refl refl;
          kept = ended_kept x Closed refl (λ _. wrote) (λ a. cc) refl refl;
          pends = pends_end parts k (get g.pend) (get g.calls) holds.pends p v c course.is course.stands d refl (get h.pend) (remove_moves g.pend c.id) (get h.calls) calls.each;
          calls = calls_come parts (λ q. get (machine q).clients) (get g.calls) holds.calls p c.id serves.its serves.is serves.home serves.begun kept.Fine now refl refl (get h.calls) calls
              (λ q. get (set_at machine p x q).clients) (comes x kept.Fine refl);
        };
        progress = moved_progress (get g.calls) (get h.calls) c.id serves.its now serves.is calls (goes now refl refl refl (λ e. e));
        courses = go_set k p v c d course.is (record { id = refl; remote = refl; list = refl; wrote = λ w. w; ended = λ e. (let f : false ≡ true = sym e ∙ course.stands in cc); shown = λ e. refl });
        rightly = told_one (get h.calls) c.id Fine now calls.here (right Fine now (inl refl));
      }))
    where
      wrote : c.wrote ≡ true
      wrote = meets c course.is (doubled_of c.fate (sym course.double ∙ double))

      x : Part
      x = closing (machine p) v chain

      d : Course
      d = record c { fate = Closed }

      h : GraphState
      h = after_settle g c.id

      now : Call
      now = with_state (Done Fine) serves.its

      calls : Moves (get g.calls) (get h.calls) c.id (Some now)
      calls = altered_moves g.calls c.id (with_state (Done Fine)) serves.its serves.is

  -- Abort of a chain that isn't doubled, and that wrote nothing: it is cancelled
  pub abort_reaches : (t : ℕ) → chain.double ≡ false → ((c : Course) → k p v ≡ Some c → c.fate ≡ Primed → c.wrote ≡ false) → Reaches parts (set_at machine p (aborting (machine p) v chain)) later k (with_course k p v (with_fate (Aborted t) (k p v))) g (Cancel chain.id ∷ []) (Some (chain.id, Cancelled))
  abort_reaches t single meets =
      subst (λ l. Reaches parts (set_at machine p x) later k (with_course k p v l) g (Cancel chain.id ∷ []) (Some (chain.id, Cancelled))) (sym (fated (Aborted t)))
      (subst (λ i. Reaches parts (set_at machine p x) later k (with_course k p v (Some d)) g (Cancel i ∷ []) (Some (i, Cancelled))) (sym course.id)
      (record {
        graph = h;
        run = (h, cancel_taken g c.id (record { chain = chain_of c; found = pending; no_in = unwritten; no_out = sym course.double ∙ single }), refl);
        holds = record {
          halves = halves_same parts machine p x g.contents holds.halves refl refl refl;
          chains = ended_chains x (Aborted t) refl (λ s. cc) (λ _. unwritten) refl refl;
          kept = ended_kept x (Aborted t) refl (λ s. cc) (λ _. unwritten) refl refl;
          pends = pends_end parts k (get g.pend) (get g.calls) holds.pends p v c course.is course.stands d refl (get h.pend) (remove_moves g.pend c.id) (get h.calls) calls.each;
          calls = calls_come parts (λ q. get (machine q).clients) (get g.calls) holds.calls p c.id serves.its serves.is serves.home serves.begun kept.Cancelled now refl refl (get h.calls) calls
              (λ q. get (set_at machine p x q).clients) (comes x kept.Cancelled refl);
        };
        progress = moved_progress (get g.calls) (get h.calls) c.id serves.its now serves.is calls (goes now refl refl refl (λ e. e));
        courses = go_set k p v c d course.is (record { id = refl; remote = refl; list = refl; wrote = λ w. w; ended = λ e. (let f : false ≡ true = sym e ∙ course.stands in cc); shown = λ e. (let f : true ≡ false = sym e ∙ sym course.double ∙ single in cc) });
        rightly = told_one (get h.calls) c.id Cancelled now calls.here (right Cancelled now (inl refl));
      }))
    where
      unwritten : c.wrote ≡ false
      unwritten = meets c course.is (primed_of c.fate course.stands (sym course.double ∙ single))

      x : Part
      x = aborting (machine p) v chain

      d : Course
      d = record c { fate = Aborted t }

      h : GraphState
      h = after_cancel g c.id

      now : Call
      now = with_state (Done Cancelled) serves.its

      calls : Moves (get g.calls) (get h.calls) c.id (Some now)
      calls = altered_moves g.calls c.id (with_state (Done Cancelled)) serves.its serves.is
