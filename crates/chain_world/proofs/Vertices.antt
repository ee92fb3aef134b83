-- Vertex: of a call that was answered, skipped, and of one that writes its vertex.
use Rattle.std.proofs.Common.{◌≡◌, inl, ℕ, List, [], ◌∷◌, None, Some, Ok, Bool, true, false, ◌&&◌, refl, ap, sym, subst, ◌∙◌, eqb-true}
use Rattle.std.specs.Prelude.{not}
use Rattle.std.specs.FinMap.{get, insert, contains_key, retain_keys}
use Rattle.std.specs.Option.{is_some}
use Rattle.std.proofs.lemmas.Bool.{cond_both, cond-true, cond-false}
use Rattle.graph_model.specs.declared.answer.Answer.{Answer}
use Rattle.graph_model.specs.declared.answer.Answer.TheVariants as said
use Rattle.graph_model.specs.declared.call.Call.{Call}
use Rattle.graph_model.specs.declared.call.CallState.TheVariants.{Open, Done}
use Rattle.graph_model.specs.declared.call_id.CallId.{CallId}
use Rattle.graph_model.specs.declared.op.Op.{Op}
use Rattle.graph_model.specs.declared.op.Op.TheVariants.{PutEdges, DelEdges, PutVertex, DelVertex, Read as ReadOp}
use Rattle.graph_model.specs.declared.tag_key.TagKey.{TagKey}
use Rattle.graph_model.specs.declared.val.Val.{Val}
use Rattle.graph_model.specs.declared.vid.Vid.{Vid}
use Rattle.graph_model.specs.declared.graph_step.GStep.{GStep}
use Rattle.graph_model.specs.declared.graph_step.GStep.TheVariants.{Vertex as VertexStep}
use Rattle.graph_model.specs.After.{after_vertex}
use Rattle.graph_model.specs.Contents.{tag_written}
use Rattle.graph_model.specs.Ops.{is_vertex_op, query_of}
use Rattle.graph_model.specs.State.{GraphState, with_state}
use Rattle.graph_model.specs.Steps.{noted, moved}
use Rattle.graph_model.specs.Run.{Step}
use Rattle.graph_model.proofs.Calls.{vertex_taken}
use Rattle.graph_model.proofs.KeyLemmas.{vid_keys}
use Rattle.maps.proofs.Keys.{told_back}
use Rattle.graph_model.proofs.SameLemmas.{right}
use Rattle.part_keys.specs.declared.entry.PartEntry.TheVariants.{Vertex}
use Rattle.part_keys.specs.Routing.{part_of}
use Rattle.part_rules.specs.declared.applied.Applied.{Applied}
use Rattle.part_rules.specs.declared.kept.Outcome.{Outcome}
use Rattle.part_rules.specs.declared.kept.Outcome.TheVariants as kept
use Rattle.part_rules.specs.Part.{Part}
use Rattle.part_rules.specs.Machine.{where_new, keeping, tag_put, vertex_gone, vertex_written}
use Rattle.chain_leader.specs.Calls.{entry_of, part_of_op, answer_of, kept_answer}
use Rattle.chain_world.specs.Ledger.{vertex_steps}
use Rattle.chain_world.specs.Course.{Courses, coursed}
use Rattle.chain_world.specs.Invariant.Discipline.{IsOfCall}
use Rattle.chain_world.specs.Invariant.Sound.{IsOutcome, IsAbove, IsUntouched, AreHalves, ArePends, Holds, AreNoted, kept_of}
use Rattle.chain_world.proofs.Setting.{set_at, Moves, altered_moves}
use Rattle.chain_world.proofs.Pends.{pends_open}
use Rattle.chain_world.proofs.Clients.{calls_enter}
use Rattle.chain_world.proofs.Courses.{nothing_changes}
use Rattle.chain_world.proofs.NewCalls.{new_cases}
use Rattle.chain_world.proofs.EdgesHalves.{halves_same}
use Rattle.chain_world.proofs.EdgesTags.{halves_tag, halves_gone}
use Rattle.chain_world.proofs.Progress.{go_still, told_one, told_again, moved_progress}
use Rattle.chain_world.proofs.Reaching.{Reaches, Rises, client_put, kept_stay, numbers_stay, still}

-- the op whose entry is a Vertex
record IsVertexOf (op change : Op) : Type 0 where
  same : op ≡ change
  on_vertex : is_vertex_op op ≡ true
  writes : query_of op ≡ None

-- an op of which a Vertex is the entry
vertex_of_op : (id other : CallId) (op change : Op) → entry_of id op ≡ Vertex other change → IsVertexOf op change
vertex_of_op id other (PutVertex v t row flag) change e = record { same = (let f : PutVertex v t row flag ≡ change = cc in f); on_vertex = refl; writes = refl }
vertex_of_op id other (DelVertex v) change e = record { same = (let f : DelVertex v ≡ change = cc in f); on_vertex = refl; writes = refl }
vertex_of_op id other (PutEdges rows flag) change e = cc
vertex_of_op id other (DelEdges edges) change e = cc
vertex_of_op id other (ReadOp q) change e = cc

module _ (parts : ℕ) (machine : ℕ → Part) (next : ℕ → ℕ) (k : Courses) (g : GraphState) (holds : Holds parts machine next k g) (steps : List GStep) (noted_is : AreNoted steps (get g.calls))
    (p term : ℕ) (later : ℕ → ℕ) (rises : Rises next later p) (id : CallId) where
  -- the part
  abbrev m : Part
  m = machine p

  -- what the entry leads to, by what it leaves and its answer
  abbrev Q : Op → Part × Applied → Type 0
  Q op r = Reaches parts (set_at machine p r.0) later k (coursed k p term r.0 (Vertex id op) r.1) g (vertex_steps id r.1) (answer_of (Vertex id op) r.1)

  module _ (op : Op) (meets : IsOfCall parts steps p id (Vertex id op)) where
    of_op : IsVertexOf meets.op op
    of_op = vertex_of_op id id meets.op op meets.is

    found : (call : Call) × (get g.calls id ≡ Some call) × (call.op ≡ meets.op)
    found = noted_is.known id meets.op meets.invoked

    op_is : found.0.op ≡ op
    op_is = found.2 ∙ of_op.same

    home : part_of_op parts found.0.op ≡ p
    home = ap (part_of_op parts) found.2 ∙ meets.home

    module _ (above : IsAbove (get m.clients id.client) id.number) where
      untouched : IsUntouched found.0
      untouched = holds.calls.untouched id found.0 found.1 (ap query_of found.2 ∙ of_op.writes) (subst (λ q. IsAbove (get (machine q).clients id.client) id.number) (sym home) above)

      -- the step is taken
      stepped : Step g (VertexStep id) (Ok (after_vertex g id op))
      stepped = vertex_taken g id (record { call = found.0; known = found.1; open_then = untouched.opened; on_vertex = ap is_vertex_op op_is ∙ ap is_vertex_op (sym of_op.same) ∙ of_op.on_vertex }) ∙ ap (λ o. Ok (after_vertex g id o)) op_is

      -- the call is done, with this outcome and answer; the halves are what the graph has behind it
      enters : (outcome : Outcome) (answer : Answer) (x : Part) (h : GraphState) → IsOutcome outcome (with_state (Done answer) found.0) → Step g (VertexStep id) (Ok h)
          → AreHalves parts (set_at machine p x) h.contents → x.inn ≡ m.inn → x.chains ≡ m.chains → x.clients ≡ insert m.clients id.client (record { number = id.number; outcome = outcome })
          → h.pend ≡ g.pend → Moves (get g.calls) (get h.calls) id (Some (with_state (Done answer) found.0))
          → Reaches parts (set_at machine p x) later k k g (VertexStep id ∷ []) (Some (id, answer))
      enters outcome answer x h reached taken halves inn chains clients pend moves = record {
        graph = h;
        run = (h, taken, refl);
        holds = record {
          halves = halves;
          chains = numbers_stay parts machine next k g holds p x inn later k (nothing_changes (part_of parts) k next (kept_of parts machine) holds.chains later rises.all);
          kept = kept_stay parts machine next k g holds p x chains;
          pends = subst (λ f. ArePends parts k (get f) (get h.calls)) (sym pend) (pends_open parts k (get g.pend) (get g.calls) holds.pends id found.0 found.1 untouched.opened (get h.calls) (Some (with_state (Done answer) found.0)) moves);
          calls = calls_enter parts (λ q. get (machine q).clients) (get g.calls) holds.calls p id found.0 found.1 home untouched.opened above outcome (with_state (Done answer) found.0) reached refl (get h.calls) moves
              (λ q. get (set_at machine p x q).clients) (client_put parts machine next k g holds p x id.client (record { number = id.number; outcome = outcome }) clients);
        };
        progress = moved_progress (get g.calls) (get h.calls) id found.0 (with_state (Done answer) found.0) found.1 moves
            (record { op = refl; said = refl; done = λ a e. (let f : Open ≡ Done a = sym untouched.opened ∙ e in cc); shown = λ e. e; moment = refl; unread = λ r. absurd (r (ap query_of found.2 ∙ of_op.writes)) });
        courses = go_still k;
        rightly = told_one (get h.calls) id answer (with_state (Done answer) found.0) moves.here (right answer (with_state (Done answer) found.0) (inl refl));
      }

      done_moves : (answer : Answer) → Moves (get g.calls) (get (moved g id (Done answer)).calls) id (Some (with_state (Done answer) found.0))
      done_moves answer = altered_moves g.calls id (with_state (Done answer)) found.0 found.1

  -- a put of a tag
  module _ (v : Vid) (tag : ℕ) (row : List Val) (absent : Bool) (meets : IsOfCall parts steps p id (Vertex id (PutVertex v tag row absent))) (above : IsAbove (get m.clients id.client) id.number) where
    abbrev key : TagKey
    key = record { vid = v; tag = tag }

    v_home : part_of parts v ≡ p
    v_home = eqb-true (part_of parts v) p meets.routed

    test_same : (absent && contains_key g.contents.verts key) ≡ (absent && contains_key m.tags key)
    test_same = ap (λ o. absent && is_some o) (holds.halves.tags key ∙ ap (λ q. get (machine q).tags key) v_home)

    put_reaches : Q (PutVertex v tag row absent) (tag_put m id key row absent)
    put_reaches = cond_both (absent && contains_key m.tags key) _ _ (Q (PutVertex v tag row absent))
        (λ there. enters (PutVertex v tag row absent) meets above kept.Skipped said.Skipped (keeping m id kept.Skipped) (noted g (moved g id (Done said.Skipped))) refl
        (stepped (PutVertex v tag row absent) meets above ∙ ap (λ h. Ok (noted g h)) (cond-true (absent && contains_key g.contents.verts key) _ _ (test_same ∙ there)))
        (halves_same parts machine p (keeping m id kept.Skipped) g.contents holds.halves refl refl refl) refl refl refl refl (done_moves (PutVertex v tag row absent) meets above said.Skipped))
        (λ none. enters (PutVertex v tag row absent) meets above kept.Fine said.Fine (record (keeping m id kept.Fine) { tags = insert m.tags key row }) (noted g (record (moved g id (Done said.Fine)) { contents = tag_written g.contents v tag row })) refl
        (stepped (PutVertex v tag row absent) meets above ∙ ap (λ h. Ok (noted g h)) (cond-false (absent && contains_key g.contents.verts key) _ _ (test_same ∙ none)))
        (halves_tag parts machine p (record (keeping m id kept.Fine) { tags = insert m.tags key row }) g.contents holds.halves v tag row v_home refl refl refl) refl refl refl refl (done_moves (PutVertex v tag row absent) meets above said.Fine))

  -- a removal of a vertex
  gone_reaches : (v : Vid) → IsOfCall parts steps p id (Vertex id (DelVertex v)) → IsAbove (get m.clients id.client) id.number → Q (DelVertex v) (vertex_gone m id v)
  gone_reaches v meets above = enters (DelVertex v) meets above kept.Fine said.Fine (vertex_gone m id v).0 (after_vertex g id (DelVertex v)) refl
      (stepped (DelVertex v) meets above)
      (halves_gone parts machine p (vertex_gone m id v).0 g.contents holds.halves v (eqb-true (part_of parts v) p meets.routed) (λ i. retain_keys m.tags (λ key. not (told_back vid_keys v key.vid i))) refl refl) refl refl refl refl (done_moves (DelVertex v) meets above said.Fine)

  -- a Vertex
  written_reaches : (op : Op) → IsOfCall parts steps p id (Vertex id op) → IsAbove (get m.clients id.client) id.number → Q op (vertex_written m id op)
  written_reaches (PutVertex v tag row absent) meets above = put_reaches v tag row absent meets above
  written_reaches (DelVertex v) meets above = gone_reaches v meets above
  written_reaches (PutEdges rows absent) meets above = (let f : false ≡ true = meets.routed in cc)
  written_reaches (DelEdges edges) meets above = (let f : false ≡ true = meets.routed in cc)
  written_reaches (ReadOp q) meets above = (let f : false ≡ true = meets.routed in cc)

  -- of a call that is old, answered again or new
  pub vertex_reaches : (op : Op) → IsOfCall parts steps p id (Vertex id op) → Q op (where_new m id (vertex_written m id op))
  vertex_reaches op meets = new_cases m (Q op) id (vertex_written m id op)
      (still parts machine next k g holds p m refl refl refl refl refl later rises None (λ i a e. cc))
      (λ last is same. let of = holds.calls.known p id.client last is in
      still parts machine next k g holds p m refl refl refl refl refl later rises (kept_answer (Vertex id op) last.outcome)
      (told_again (Vertex id op) id refl last.outcome of.its of.reached (get g.calls) (ap (λ n. get g.calls (record { client = id.client; number = n })) same ∙ of.is)))
      (written_reaches op meets)
