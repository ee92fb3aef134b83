-- Prime: of a call that was answered, in conflict, skipped, and of a chain that begins.
use Rattle.std.proofs.Common.{◌≡◌, ◌≢◌, inl, inr, ℕ, List, [], ◌∷◌, Option, None, Some, Ok, Bool, true, false, cond, ◌&&◌, refl, ap, sym, subst, ◌∙◌, arith}
use Rattle.std.specs.FinMap.{get, insert}
use Rattle.std.specs.Map.{keys_of}
use Rattle.std.specs.Option.{option_map}
use Rattle.std.proofs.lemmas.Bool.{cond_both, and_parts}
use Rattle.graph_model.specs.declared.answer.Answer.{Answer}
use Rattle.graph_model.specs.declared.answer.Answer.TheVariants as said
use Rattle.graph_model.specs.declared.call.Call.{Call}
use Rattle.graph_model.specs.declared.call.CallState.TheVariants.{Open, Begun, Done}
use Rattle.graph_model.specs.declared.call_id.CallId.{CallId}
use Rattle.graph_model.specs.declared.edge_id.EdgeId.{EdgeId}
use Rattle.graph_model.specs.declared.half.Half.{Half}
use Rattle.graph_model.specs.declared.graph_step.GStep.{GStep}
use Rattle.graph_model.specs.declared.graph_step.GStep.TheVariants as step
use Rattle.graph_model.specs.Run.{Step}
use Rattle.graph_model.specs.After.{after_begin, after_skip, after_refuse}
use Rattle.graph_model.specs.Lookups.{takes_of}
use Rattle.graph_model.specs.Ops.{halves_of, edges_of, edges_in, is_careful, is_edge_op, query_of}
use Rattle.graph_model.specs.State.{GraphState, with_state, first_pending}
use Rattle.graph_model.proofs.Calls.{begin_taken, skip_taken, refuse_taken}
use Rattle.graph_model.proofs.Pending.{free_each, none_on}
use Rattle.graph_model.proofs.SameLemmas.{right}
use Rattle.maps.specs.Lists.{has_all, missing}
use Rattle.maps.proofs.Keys.{nat_keys, same_or_apart}
use Rattle.maps.proofs.Updates.{insert_here, insert_apart}
use Rattle.part_keys.specs.declared.chain.PrimeRec.{PrimeRec}
use Rattle.part_keys.specs.declared.entry.PartEntry.{PartEntry}
use Rattle.part_keys.specs.declared.entry.PartEntry.TheVariants.{Prime}
use Rattle.part_keys.specs.Routing.{part_of, remote_of}
use Rattle.part_rules.specs.declared.applied.Applied.{Applied}
use Rattle.part_rules.specs.declared.applied.Applied.TheVariants.{Old, Again, Conflict, Skipped, Begun as BegunAt}
use Rattle.part_rules.specs.declared.kept.Kept.{Kept}
use Rattle.part_rules.specs.declared.kept.Outcome.{Outcome}
use Rattle.part_rules.specs.declared.kept.Outcome.TheVariants as kept
use Rattle.part_rules.specs.Part.{Part, chain_on_any}
use Rattle.part_rules.specs.Machine.{keeping, taken_of, leaves_all, begun_at, beginning, primed_by, primed}
use Rattle.chain_leader.specs.Calls.{part_of_op, answer_of, kept_answer}
use Rattle.chain_world.specs.Ledger.{primed_steps}
use Rattle.chain_world.specs.Course.{Primed, Course, Courses, has_edge, stands, with_course, course_of, coursed}
use Rattle.chain_world.specs.Invariant.Discipline.{IsOfCall}
use Rattle.chain_world.specs.Invariant.Sound.{chain_of, IsOutcome, IsAbove, IsUntouched, AreHalves, ArePends, Holds, AreNoted, kept_of}
use Rattle.chain_world.proofs.Setting.{set_at, Moves, insert_moves, altered_moves}
use Rattle.chain_world.proofs.Pends.{pends_begin, pends_open}
use Rattle.chain_world.proofs.Clients.{calls_enter}
use Rattle.chain_world.proofs.Courses.{nothing_changes, begins}
use Rattle.chain_world.proofs.EdgesHalves.{halves_same}
use Rattle.chain_world.proofs.EdgesPending.{same_pending}
use Rattle.chain_world.proofs.EdgesTaken.{same_missing, same_all, taken_on, taken_some, routes_from, taken_routed}
use Rattle.chain_world.proofs.Progress.{go_still, go_new, told_one, told_again, IsProgress, moved_progress}
use Rattle.chain_world.proofs.Reaching.{Reaches, Rises, client_put, kept_stay, kept_goes, numbers_stay, still}
use Rattle.chain_world.proofs.NewCalls.{new_cases, IsPrimeOf, prime_of_op, op_some}

module _ (parts : ℕ) (machine : ℕ → Part) (next : ℕ → ℕ) (k : Courses) (g : GraphState) (holds : Holds parts machine next k g) (steps : List GStep) (noted : AreNoted steps (get g.calls))
    (p term : ℕ) (later : ℕ → ℕ) (rises : Rises next later p) (id : CallId) (list : List (EdgeId × Half)) (absent : Bool) (meets : IsOfCall parts steps p id (Prime id list absent)) where
  -- the part, the entry, its op and its call
  abbrev m : Part
  m = machine p

  abbrev entry : PartEntry
  entry = Prime id list absent

  -- what the entry leads to, by what it leaves and its answer
  abbrev Q : Part × Applied → Type 0
  Q r = Reaches parts (set_at machine p r.0) later k (coursed k p term r.0 entry r.1) g (primed_steps id r.1) (answer_of entry r.1)

  of_op : IsPrimeOf meets.op list absent
  of_op = prime_of_op id id meets.op list absent meets.is

  found : (call : Call) × (get g.calls id ≡ Some call) × (call.op ≡ meets.op)
  found = noted.known id meets.op meets.invoked

  abbrev call : Call
  call = found.0

  -- what the call writes is what the entry has
  halves_are : halves_of call.op ≡ list
  halves_are = ap halves_of found.2 ∙ of_op.halves

  edges_are : edges_of call.op ≡ keys_of list
  edges_are = ap edges_in halves_are

  careful_is : is_careful call.op ≡ absent
  careful_is = ap is_careful found.2 ∙ of_op.careful

  on_edges : is_edge_op call.op ≡ true
  on_edges = ap is_edge_op found.2 ∙ of_op.on_edges

  home : part_of_op parts call.op ≡ p
  home = ap (part_of_op parts) found.2 ∙ meets.home

  -- each edge starts in the part
  from : (e : EdgeId) → has_edge list e ≡ true → part_of parts e.src ≡ p
  from = routes_from parts p list id absent meets.routed

  -- the first chain on the edges, in the part and in the graph
  first_is : (o : Option PrimeRec) → chain_on_any m (keys_of list) ≡ o → first_pending g (edges_of call.op) ≡ option_map (λ (r : PrimeRec). r.id) o
  first_is o e = ap (first_pending g) edges_are ∙ sym (same_pending parts machine next k g holds p (keys_of list) from) ∙ ap (option_map (λ (r : PrimeRec). r.id)) e

  -- an old number, and the client's last one
  prime_old : Q (m, Old)
  prime_old = still parts machine next k g holds p m refl refl refl refl refl later rises None (λ i a e. cc)

  prime_again : (last : Kept) → get m.clients id.client ≡ Some last → id.number ≡ last.number → Q (m, Again last.outcome)
  prime_again last is same =
      let of = holds.calls.known p id.client last is in
      still parts machine next k g holds p m refl refl refl refl refl later rises (kept_answer entry last.outcome)
      (told_again entry id refl last.outcome of.its of.reached (get g.calls) (ap (λ n. get g.calls (record { client = id.client; number = n })) same ∙ of.is))

  module _ (above : IsAbove (get m.clients id.client) id.number) where
    untouched : IsUntouched call
    untouched = holds.calls.untouched id call found.1 (ap query_of found.2 ∙ of_op.writes) (subst (λ q. IsAbove (get (machine q).clients id.client) id.number) (sym home) above)

    -- an open call has gone on
    goes : (now : Call) → now.op ≡ call.op → now.said ≡ call.said → now.shown ≡ call.shown → now.moment ≡ call.moment → IsProgress call now
    goes now op said shown moment = record { op = op; said = said; done = λ a e. (let f : Open ≡ Done a = sym untouched.opened ∙ e in cc); shown = λ e. shown ∙ e; moment = moment; unread = λ r. absurd (r (ap query_of found.2 ∙ of_op.writes)) }

    -- the call ends at once: nothing changes but its outcome
    ends : (outcome : Outcome) (x : Part) (now : Call) (h : GraphState) (s : GStep) → x.tags ≡ m.tags → x.out ≡ m.out → x.inn ≡ m.inn → x.chains ≡ m.chains
        → x.clients ≡ insert m.clients id.client (record { number = id.number; outcome = outcome })
        → Step g s (Ok h) → h.contents ≡ g.contents → h.pend ≡ g.pend → Moves (get g.calls) (get h.calls) id (Some now)
        → IsOutcome outcome now → now.op ≡ call.op → now.said ≡ call.said → now.shown ≡ call.shown → now.moment ≡ call.moment
        → (answer : Answer) → now.state ≡ Done answer → Reaches parts (set_at machine p x) later k k g (s ∷ []) (Some (id, answer))
    ends outcome x now h s tags out inn chains clients stepped contents pend moved reached op said shown moment answer answered = record {
      graph = h;
      run = (h, stepped, refl);
      holds = record {
        halves = subst (AreHalves parts (set_at machine p x)) (sym contents) (halves_same parts machine p x g.contents holds.halves tags out inn);
        chains = numbers_stay parts machine next k g holds p x inn later k (nothing_changes (part_of parts) k next (kept_of parts machine) holds.chains later rises.all);
        kept = kept_stay parts machine next k g holds p x chains;
        pends = subst (λ f. ArePends parts k (get f) (get h.calls)) (sym pend) (pends_open parts k (get g.pend) (get g.calls) holds.pends id call found.1 untouched.opened (get h.calls) (Some now) moved);
        calls = calls_enter parts (λ q. get (machine q).clients) (get g.calls) holds.calls p id call found.1 home untouched.opened above outcome now reached op (get h.calls) moved
            (λ q. get (set_at machine p x q).clients) (client_put parts machine next k g holds p x id.client (record { number = id.number; outcome = outcome }) clients);
      };
      progress = moved_progress (get g.calls) (get h.calls) id call now found.1 moved (goes now op said shown moment);
      courses = go_still k;
      rightly = told_one (get h.calls) id answer now moved.here (right answer now (inl answered));
    }

    -- a chain stands on one of the edges
    prime_conflict : (chain : PrimeRec) → chain_on_any m (keys_of list) ≡ Some chain → Q (keeping m id (kept.Conflict chain.id), Conflict chain.id)
    prime_conflict chain e = ends (kept.Conflict chain.id) (keeping m id (kept.Conflict chain.id)) (with_state (Done (said.Conflict chain.id)) call) (after_refuse g id chain.id) (step.Refuse id) refl refl refl refl refl
        (refuse_taken g id (record { call = call; known = found.1; open_then = untouched.opened; on_edges = on_edges; other = chain.id; pending = first_is (Some chain) e }))
        refl refl (altered_moves g.calls id (with_state (Done (said.Conflict chain.id))) call found.1) refl refl refl refl refl (said.Conflict chain.id) refl

    module _ (free : chain_on_any m (keys_of list) ≡ None) where
      -- the edges are there, and are left
      prime_skipped : leaves_all m list absent ≡ true → Q (keeping m id kept.Skipped, Skipped)
      prime_skipped leaves =
          let both = and_parts absent (has_all m.out (keys_of list)) leaves in
          ends kept.Skipped (keeping m id kept.Skipped) (with_state (Done said.Skipped) call) (after_skip g id) (step.Skip id) refl refl refl refl refl
          (skip_taken g id (record {
            call = call;
            known = found.1;
            open_then = untouched.opened;
            careful = careful_is ∙ both.0;
            free = first_is None free;
            all_here = ap (has_all g.contents.out) edges_are ∙ same_all parts machine g.contents holds.halves p list from ∙ both.1;
          }))
          refl refl (altered_moves g.calls id (with_state (Done said.Skipped)) call found.1) refl refl refl refl refl said.Skipped refl

      -- what the chain takes, in the graph as in the part
      takes_are : takes_of g.contents call.op ≡ taken_of m list absent
      takes_are = ap (λ b. cond b (missing g.contents.out (halves_of call.op)) (halves_of call.op)) careful_is ∙ ap (λ l. cond absent (missing g.contents.out l) l) halves_are ∙ go absent
        where
          go : (b : Bool) → cond b (missing g.contents.out list) list ≡ taken_of m list b
          go true = same_missing parts machine g.contents holds.halves p list from
          go false = refl

      -- a chain begins
      prime_begun : leaves_all m list absent ≡ false → Q (beginning parts m (next p) id list absent, BegunAt (next p))
      prime_begun some =
          subst (λ l. Reaches parts (set_at machine p x) later k l g (step.Begin id ∷ []) None) (sym (ap (λ o. with_course k p (next p) (course_of o)) (insert_here nat_keys m.chains (next p) (begun_at parts m (next p) id list absent))))
          (record {
            graph = h;
            run = (
              h,
              begin_taken g id (record {
                call = call;
                known = found.1;
                open_then = untouched.opened;
                on_edges = on_edges;
                free = first_is None free;
                one_absent = ap (λ b. b && has_all g.contents.out (edges_of call.op)) careful_is ∙ ap (λ b. absent && b) (ap (has_all g.contents.out) edges_are ∙ same_all parts machine g.contents holds.halves p list from) ∙ some;
              }),
              refl,
            );
            holds = record {
              halves = halves_same parts machine p x g.contents holds.halves refl refl refl;
              chains = numbers_stay parts machine next k g holds p x refl later (with_course k p (next p) (Some c))
                  (begins (part_of parts) k next (kept_of parts machine) holds.chains p c refl refl (taken_some m list absent list_some some) (taken_routed parts p m id list absent meets.routed) stands_on later rises.all rises.here);
              kept = kept_goes parts machine next k g holds p x (next p) (Some c)
                  (insert_here nat_keys m.chains (next p) (begun_at parts m (next p) id list absent))
                  (λ w other. elim (same_or_apart nat_keys w (next p)) [ inl same ↦ absurd (other same) | inr apart ↦ insert_apart nat_keys m.chains (next p) (begun_at parts m (next p) id list absent) w apart ]);
              pends = pends_begin parts k (get g.pend) (get g.calls) holds.pends p (next p) c (holds.chains.fresh p (next p) (omega arith)) refl call now found.1 untouched.opened
                  (record { its = now; is = refl; begun = refl; shown = untouched.unshown; home = home; writes = ap query_of found.2 ∙ of_op.writes })
                  (get h.pend) pend_moves (get h.calls) call_moves;
              calls = calls_enter parts (λ q. get (machine q).clients) (get g.calls) holds.calls p id call found.1 home untouched.opened above kept.Open now refl refl (get h.calls) call_moves
                  (λ q. get (set_at machine p x q).clients) (client_put parts machine next k g holds p x id.client (record { number = id.number; outcome = kept.Open }) refl);
            };
            progress = moved_progress (get g.calls) (get h.calls) id call now found.1 call_moves (goes now refl refl refl refl);
            courses = go_new k p (next p) (Some c) (holds.chains.fresh p (next p) (omega arith));
            rightly = λ i a e. cc;
          })
        where
          x : Part
          x = beginning parts m (next p) id list absent

          c : Course
          c = record { id = id; remote = remote_of parts (taken_of m list absent); list = taken_of m list absent; fate = Primed; wrote = false }

          h : GraphState
          h = after_begin g id call.op

          now : Call
          now = with_state Begun call

          list_some : list ≢ []
          list_some none = op_some call.op (noted.sized id call found.1) on_edges (halves_are ∙ none)

          stands_on : (w : ℕ) (d : Course) → k p w ≡ Some d → stands d.fate ≡ true → (e : EdgeId) → has_edge c.list e ≡ true → has_edge d.list e ≡ true → ⊥
          stands_on w d is standing e mine its =
              let off = none_on g e d.id (chain_of d) (free_each g (keys_of list) (ap (first_pending g) (sym edges_are) ∙ first_is None free) e (taken_on m list absent e mine)) (holds.pends.pending p w d is standing) in
              let t : true ≡ false = sym its ∙ off in
              cc

          pend_moves : Moves (get g.pend) (get h.pend) id (Some (chain_of c))
          pend_moves = subst (λ l. Moves (get g.pend) (get h.pend) id (Some (record { list = l; in_done = false; out_done = false }))) takes_are (insert_moves g.pend id (record { list = takes_of g.contents call.op; in_done = false; out_done = false }))

          call_moves : Moves (get g.calls) (get h.calls) id (Some now)
          call_moves = altered_moves g.calls id (with_state Begun) call found.1

  -- a Prime
  pub prime_reaches : Q (primed parts m (next p) id list absent)
  prime_reaches = new_cases m Q id (primed_by parts m (next p) id list absent (chain_on_any m (keys_of list))) prime_old prime_again
      (λ above. by_chain above (chain_on_any m (keys_of list)) refl)
    where
      by_chain : IsAbove (get m.clients id.client) id.number → (o : Option PrimeRec) → chain_on_any m (keys_of list) ≡ o → Q (primed_by parts m (next p) id list absent o)
      by_chain above (Some chain) e = prime_conflict above chain e
      by_chain above None e = cond_both (leaves_all m list absent) _ _ Q (prime_skipped above e) (prime_begun above e)
