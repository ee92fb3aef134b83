-- The trace of a run's graph steps is its Invokes and Replies.
use Rattle.std.proofs.Common.{◌≡◌, ℕ, List, [], ◌∷◌, ◌++◌, Option, Some, None, Bool, true, false, refl, ap, sym, ◌∙◌, append-nil, append_assoc}
use Rattle.std.specs.Prelude.{slice_get, drop, take, length}
use Rattle.std.proofs.lemmas.Bool.{cond_both}
use Rattle.std.proofs.lemmas.List.Elements.{filter-append}
use Rattle.raft_core.specs.Core.{Core}
use Rattle.graph_model.specs.declared.answer.Answer.{Answer}
use Rattle.graph_model.specs.declared.answer.Answer.TheVariants as said
use Rattle.graph_model.specs.declared.call_id.CallId.{CallId}
use Rattle.graph_model.specs.declared.graph_step.GStep.{GStep}
use Rattle.graph_model.specs.declared.graph_step.GStep.TheVariants as step
use Rattle.graph_model.specs.Run.{trace, is_outward}
use Rattle.part_keys.specs.declared.entry.PartEntry.{PartEntry}
use Rattle.part_keys.specs.declared.entry.PartEntry.TheVariants.{Prime, Local, Double, Close, Abort, Remote, Fence, Vertex, Read}
use Rattle.part_keys.specs.declared.proposal.Proposal.{Proposal}
use Rattle.part_keys.specs.declared.proposal.Proposal.TheVariants.{Start, Members, Made, Blank}
use Rattle.part_rules.specs.declared.applied.Applied.{Applied}
use Rattle.part_rules.specs.declared.applied.Applied.TheVariants.{Old, Again, Conflict, Skipped, Begun, Settled, Doubled, Closed, Aborted, Stale, Done, Fenced, Finished, Nothing}
use Rattle.part_rules.specs.Part.{Part}
use Rattle.chain_world.specs.Ledger.{Ledger, decides, caller_of, machine_of, next_applied, primed_steps, ended_steps, vertex_steps, remote_steps, steps_of_entry, steps_of_item, reply_steps}
use Rattle.part_keys.specs.Spelled.{Spelling}
use Rattle.replica_model.specs.Spelling.{values_of}
use Rattle.world_model.specs.declared.event.Event.{Event}
use Rattle.world_model.specs.declared.event.Event.TheVariants as event
use Rattle.world_model.specs.State.{Space, home_of, Standing, Post, State, start, Site, AtClient, AtPeer, Nowhere}
use Rattle.world_model.specs.After.{decides_all, passes, ledger_behind, ledger_with, Step, step_by, moment_of, packet_by, peer_after, after_at, after, Doing, Noted, Queued, done}
use Rattle.world_model.specs.Journal.{space_at, Run, outward_of, outwards_of, noted_of, events_of}

-- What a part decides gives no step that a client sees.
primed_inner : (id : CallId) (answer : Applied) → trace (primed_steps id answer) ≡ []
primed_inner id Old = refl
primed_inner id (Again outcome) = refl
primed_inner id (Conflict other) = refl
primed_inner id Skipped = refl
primed_inner id (Begun v) = refl
primed_inner id (Settled call) = refl
primed_inner id (Doubled call) = refl
primed_inner id (Closed call) = refl
primed_inner id (Aborted call) = refl
primed_inner id (Stale above) = refl
primed_inner id Done = refl
primed_inner id (Fenced written) = refl
primed_inner id (Finished call) = refl
primed_inner id Nothing = refl

ended_inner : (answer : Applied) → trace (ended_steps answer) ≡ []
ended_inner Old = refl
ended_inner (Again outcome) = refl
ended_inner (Conflict other) = refl
ended_inner Skipped = refl
ended_inner (Begun v) = refl
ended_inner (Settled call) = refl
ended_inner (Doubled call) = refl
ended_inner (Closed call) = refl
ended_inner (Aborted call) = refl
ended_inner (Stale above) = refl
ended_inner Done = refl
ended_inner (Fenced written) = refl
ended_inner (Finished call) = refl
ended_inner Nothing = refl

vertex_inner : (id : CallId) (answer : Applied) → trace (vertex_steps id answer) ≡ []
vertex_inner id Old = refl
vertex_inner id (Again outcome) = refl
vertex_inner id (Conflict other) = refl
vertex_inner id Skipped = refl
vertex_inner id (Begun v) = refl
vertex_inner id (Settled call) = refl
vertex_inner id (Doubled call) = refl
vertex_inner id (Closed call) = refl
vertex_inner id (Aborted call) = refl
vertex_inner id (Stale above) = refl
vertex_inner id Done = refl
vertex_inner id (Fenced written) = refl
vertex_inner id (Finished call) = refl
vertex_inner id Nothing = refl

remote_inner : (wrote : Bool) (call : Option CallId) → trace (remote_steps wrote call) ≡ []
remote_inner true (Some id) = refl
remote_inner true None = refl
remote_inner false call = refl

entry_inner : (caller : ℕ → ℕ → Option CallId) (machine : Part) (entry : PartEntry) (answer : Applied) → trace (steps_of_entry caller machine entry answer) ≡ []
entry_inner caller machine (Prime id list absent) answer = primed_inner id answer
entry_inner caller machine (Local v) answer = ended_inner answer
entry_inner caller machine (Double v) answer = ended_inner answer
entry_inner caller machine (Close v) answer = ended_inner answer
entry_inner caller machine (Abort v) answer = ended_inner answer
entry_inner caller machine (Remote from term v list) answer = remote_inner _ _
entry_inner caller machine (Fence from term v edges) answer = refl
entry_inner caller machine (Vertex id op) answer = vertex_inner id answer
entry_inner caller machine (Read id query) answer = refl

item_inner : (caller : ℕ → ℕ → Option CallId) (machine : Part) (x : Proposal) (answer : Applied) → trace (steps_of_item caller machine x answer) ≡ []
item_inner caller machine Start answer = refl
item_inner caller machine (Members config) answer = refl
item_inner caller machine (Made entry) answer = entry_inner caller machine entry answer
item_inner caller machine Blank answer = refl

trace_and : (xs ys : List GStep) → trace (xs ++ ys) ≡ trace xs ++ trace ys
trace_and xs ys = filter-append is_outward xs ys

decides_seen : (parts : ℕ) (l : Ledger) (p : ℕ) (d : ℕ × Proposal) → trace (decides parts l p d).steps ≡ trace l.steps
decides_seen parts l p d =
    trace_and l.steps (steps_of_item (caller_of l) (machine_of parts l p) d.1 (next_applied parts l p d.1).1)
    ∙ ap (λ xs. trace l.steps ++ xs) (item_inner (caller_of l) (machine_of parts l p) d.1 (next_applied parts l p d.1).1) ∙ append-nil (trace l.steps)

all_seen : (parts : ℕ) (l : Ledger) (p : ℕ) (ds : List (ℕ × Proposal)) → trace (decides_all parts l p ds).steps ≡ trace l.steps
all_seen parts l p [] = refl
all_seen parts l p (d ∷ ds) = all_seen parts (decides parts l p d) p ds ∙ decides_seen parts l p d

behind_seen : (sp : Space) (l : Ledger) (p : ℕ) (core : Core) → trace (ledger_behind sp l p core).steps ≡ trace l.steps
behind_seen sp l p core = cond_both (passes l p core) (decides_all sp.parts l p (values_of sp.spelling (drop (length (l.decided p)) (take core.commit core.log)))) l
    (λ (m : Ledger). trace m.steps ≡ trace l.steps) (λ passed. all_seen sp.parts l p (values_of sp.spelling (drop (length (l.decided p)) (take core.commit core.log)))) (λ not. refl)

-- what a Reply gives
reply_seen : (id : CallId) (m : ℕ) (a : Answer) → trace (reply_steps id m a) ≡ step.Reply id a ∷ []
reply_seen id m (said.Shown view) = refl
reply_seen id m said.Fine = refl
reply_seen id m said.Skipped = refl
reply_seen id m said.Pending = refl
reply_seen id m (said.Conflict other) = refl
reply_seen id m said.Cancelled = refl
reply_seen id m said.Unknown = refl

module _ (sp : Space) (s : State) where
  abbrev Seen : State → List GStep → Type 0
  Seen v more = trace v.ledger.steps ≡ trace s.ledger.steps ++ more

  same : trace s.ledger.steps ≡ trace s.ledger.steps ++ []
  same = sym (append-nil (trace s.ledger.steps))

  step_seen : (p : ℕ) (step : Option Step) → trace (ledger_with sp s.ledger p step).steps ≡ trace s.ledger.steps ++ []
  step_seen p None = same
  step_seen p (Some x) = behind_seen sp s.ledger p x.made.replica.core ∙ same

  peer_seen : (e : Event) (post : Option Post) (p y : ℕ) (x : Standing) → Seen (peer_after sp s e post p y x) []
  peer_seen e post p y x = step_seen p (step_by (home_of sp p) e post x)

  delivered_seen : (k : ℕ) (post : Option Post) (site : Site) → Seen (after_at sp s (event.Deliver k) post site) []
  delivered_seen k post (AtClient c) = same
  delivered_seen k post (AtPeer p y) = peer_seen (event.Deliver k) post p y (s.placed p y)
  delivered_seen k post Nowhere = same

  after_seen : (e : Event) → Seen (after sp s e) (outward_of e)
  after_seen (event.Invoke id op) = trace_and s.ledger.steps (step.Invoke id op ∷ [])
  after_seen (event.Deliver k) = delivered_seen k (slice_get s.posts k) _
  after_seen (event.Lose k) = same
  after_seen (event.Tick p y t) = peer_seen (event.Tick p y t) None p y (s.placed p y)
  after_seen (event.Crash p y) = same
  after_seen (event.StepCrash p y c) = peer_seen (event.StepCrash p y c) (packet_by s.posts (event.StepCrash p y c)) p y (s.placed p y)
  after_seen (event.Restart p y took) = same
  after_seen (event.Place p node y first) = same
  after_seen (event.Wipe p y) = same
  after_seen (event.Meta body) = same
  after_seen (event.Round c) = same
  after_seen (event.Reply id a) =
      trace_and s.ledger.steps (reply_steps id (moment_of s.posts (s.callers id.client).due) a) ∙ ap (λ xs. trace s.ledger.steps ++ xs) (reply_seen id (moment_of s.posts (s.callers id.client).due) a)

  done_seen : (d : Doing) → Seen (done sp s d) (outwards_of (noted_of d))
  done_seen (Noted e) = after_seen e ∙ ap (λ xs. trace s.ledger.steps ++ xs) (sym (append-nil (outward_of e)))
  done_seen (Queued c statement) = same

outwards_and : (xs ys : List Event) → outwards_of (xs ++ ys) ≡ outwards_of xs ++ outwards_of ys
outwards_and [] ys = refl
outwards_and (x ∷ xs) ys = ap (λ zs. outward_of x ++ zs) (outwards_and xs ys) ∙ sym (append_assoc (outward_of x) (outwards_of xs) (outwards_of ys))

seen_from : (spelling : Spelling) (s : State) (doings : List Doing) (v : State) → Run spelling s doings v → trace v.ledger.steps ≡ trace s.ledger.steps ++ outwards_of (events_of doings)
seen_from spelling s [] v run = ap (λ (x : State). trace x.ledger.steps) run ∙ sym (append-nil (trace s.ledger.steps))
seen_from spelling s (d ∷ doings) v run =
    seen_from spelling (done (space_at spelling s) s d) doings v run.1
    ∙ ap (λ xs. xs ++ outwards_of (events_of doings)) (done_seen (space_at spelling s) s d)
    ∙ append_assoc (trace s.ledger.steps) (outwards_of (noted_of d)) (outwards_of (events_of doings))
    ∙ ap (λ xs. trace s.ledger.steps ++ xs) (sym (outwards_and (noted_of d) (events_of doings)))

-- the trace of a run is what its clients see
pub trace_is : (spelling : Spelling) (n : ℕ) (doings : List Doing) (v : State) → Run spelling (start n) doings v → trace v.ledger.steps ≡ outwards_of (events_of doings)
trace_is spelling n doings v run = seen_from spelling (start n) doings v run
