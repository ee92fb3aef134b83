-- Each answer that was ever sent has its cause.
use Rattle.std.proofs.Common.{◌≡◌, ℕ, suc, List, Bool, true, false, ◌&&◌, refl, ap, sym, subst, ◌∙◌, Some}
use Rattle.std.specs.FinMap.{contains_key}
use Rattle.std.proofs.lemmas.Bool.{false≢true, cond_both}
use Rattle.graph_model.specs.declared.answer.Answer.{Answer}
use Rattle.graph_model.specs.declared.answer.Answer.TheVariants as said
use Rattle.graph_model.specs.declared.call_id.CallId.{CallId}
use Rattle.graph_model.specs.declared.op.Op.{Op}
use Rattle.graph_model.specs.declared.op.Op.TheVariants.{PutEdges, DelEdges, PutVertex, DelVertex, Read as ReadOp}
use Rattle.graph_model.specs.Same.{is_unknown}
use Rattle.part_keys.specs.declared.entry.PartEntry.{PartEntry}
use Rattle.part_keys.specs.declared.entry.PartEntry.TheVariants.{Prime, Local, Double, Close, Abort, Remote, Fence, Vertex, Read}
use Rattle.part_rules.specs.declared.applied.Applied.{Applied}
use Rattle.part_rules.specs.declared.applied.Applied.TheVariants as told
use Rattle.part_rules.specs.Part.{Part}
use Rattle.part_rules.specs.Machine.{applied, vertex_written}
use Rattle.part_rules.proofs.FoldsCases.{new_cases, prime_cases, local_cases, double_cases, abort_cases, close_cases, remote_cases, fence_cases}
use Rattle.part_keys.specs.declared.vid_kind.VidKind.{VidKind}
use Rattle.chain_leader.specs.Calls.{call_in}
use Rattle.chain_world.specs.declared.packet.ChainEnd.{ChainEnd}
use Rattle.chain_world.specs.declared.packet.ChainEnd.TheVariants as ends
use Rattle.chain_world.specs.declared.event.ChainEvent.{ChainEvent}
use Rattle.chain_world.specs.Invariant.Discipline.{IsRightReply, WasAnswered, WasTold}
use Rattle.chain_world.specs.State.{Chains, decided_of, machine_behind}
use Rattle.chain_world.specs.World.{run}
use Rattle.chain_world.specs.Causes.{IsSettled, IsShown, IsGivenUp, IsOwn, HasCause, SentAnswersHaveCauses}
use Rattle.chain_world.specs.Invariant.Causing.{IsCaused}
use Rattle.chain_world.proofs.Told.{told_has_cause}
use Rattle.chain_world.proofs.Worlds.{always_safe}
use Rattle.chain_world.proofs.Cancels.{cancels_by_policy}
use Rattle.chain_world.proofs.Doubles.{shows_given_up}

-- an answer that shows a chain; one that gives it up
abbrev shows : Applied → Bool
shows (told.Doubled id) = true
shows other = false

abbrev gives_up : Applied → Bool
gives_up (told.Aborted id) = true
gives_up other = false

module _ (parts index : ℕ) (m : Part) where
  abbrev Doubles : PartEntry → Part × Applied → Type 0
  Doubles x r = shows r.1 ≡ true → (v : ℕ) × (x ≡ Double v)

  vertex_plain : (x : PartEntry) (id : CallId) (o : Op) → Doubles x (vertex_written m id o)
  vertex_plain x id (PutVertex v tag row absent) = cond_both (absent && contains_key m.tags _) _ _ (Doubles x) (λ _ e. absurd (false≢true e)) (λ _ e. absurd (false≢true e))
  vertex_plain x id (DelVertex v) = λ e. absurd (false≢true e)
  vertex_plain x id (PutEdges rows absent) = λ e. absurd (false≢true e)
  vertex_plain x id (DelEdges edges) = λ e. absurd (false≢true e)
  vertex_plain x id (ReadOp query) = λ e. absurd (false≢true e)

  doubled_by : (x : PartEntry) → Doubles x (applied parts index x m)
  doubled_by (Prime id list absent) = prime_cases m (Doubles (Prime id list absent)) parts index id list absent (λ e. absurd (false≢true e)) (λ o e. absurd (false≢true e)) (λ c f e. absurd (false≢true e)) (λ f g e. absurd (false≢true e)) (λ f g e. absurd (false≢true e))
  doubled_by (Local v) = local_cases m (Doubles (Local v)) v (λ e. absurd (false≢true e)) (λ c f g e. absurd (false≢true e))
  doubled_by (Double v) = λ e. (v, refl)
  doubled_by (Close v) = close_cases m (Doubles (Close v)) v (λ e. absurd (false≢true e)) (λ c f g e. absurd (false≢true e))
  doubled_by (Abort v) = abort_cases m (Doubles (Abort v)) v (λ e. absurd (false≢true e)) (λ c f g e. absurd (false≢true e))
  doubled_by (Remote q t v list) = remote_cases m (Doubles (Remote q t v list)) q t v list (λ f e. absurd (false≢true e)) (λ f e. absurd (false≢true e))
  doubled_by (Fence q t v edges) = fence_cases m (Doubles (Fence q t v edges)) q t v edges (λ f e. absurd (false≢true e)) (λ f e. absurd (false≢true e))
  doubled_by (Vertex id o) = new_cases m (Doubles (Vertex id o)) id (vertex_written m id o) (λ e. absurd (false≢true e)) (λ k e. absurd (false≢true e)) (vertex_plain (Vertex id o) id o)
  doubled_by (Read id query) = λ e. absurd (false≢true e)

  abbrev Aborts : PartEntry → Part × Applied → Type 0
  Aborts x r = gives_up r.1 ≡ true → (v : ℕ) × (x ≡ Abort v)

  vertex_stays : (x : PartEntry) (id : CallId) (o : Op) → Aborts x (vertex_written m id o)
  vertex_stays x id (PutVertex v tag row absent) = cond_both (absent && contains_key m.tags _) _ _ (Aborts x) (λ _ e. absurd (false≢true e)) (λ _ e. absurd (false≢true e))
  vertex_stays x id (DelVertex v) = λ e. absurd (false≢true e)
  vertex_stays x id (PutEdges rows absent) = λ e. absurd (false≢true e)
  vertex_stays x id (DelEdges edges) = λ e. absurd (false≢true e)
  vertex_stays x id (ReadOp query) = λ e. absurd (false≢true e)

  aborted_by : (x : PartEntry) → Aborts x (applied parts index x m)
  aborted_by (Prime id list absent) = prime_cases m (Aborts (Prime id list absent)) parts index id list absent (λ e. absurd (false≢true e)) (λ o e. absurd (false≢true e)) (λ c f e. absurd (false≢true e)) (λ f g e. absurd (false≢true e)) (λ f g e. absurd (false≢true e))
  aborted_by (Local v) = local_cases m (Aborts (Local v)) v (λ e. absurd (false≢true e)) (λ c f g e. absurd (false≢true e))
  aborted_by (Double v) = double_cases m (Aborts (Double v)) v (λ e. absurd (false≢true e)) (λ c f g e. absurd (false≢true e))
  aborted_by (Close v) = close_cases m (Aborts (Close v)) v (λ e. absurd (false≢true e)) (λ c f g e. absurd (false≢true e))
  aborted_by (Abort v) = λ e. (v, refl)
  aborted_by (Remote q t v list) = remote_cases m (Aborts (Remote q t v list)) q t v list (λ f e. absurd (false≢true e)) (λ f e. absurd (false≢true e))
  aborted_by (Fence q t v edges) = fence_cases m (Aborts (Fence q t v edges)) q t v edges (λ f e. absurd (false≢true e)) (λ f e. absurd (false≢true e))
  aborted_by (Vertex id o) = new_cases m (Aborts (Vertex id o)) id (vertex_written m id o) (λ e. absurd (false≢true e)) (λ k e. absurd (false≢true e)) (vertex_stays (Vertex id o) id o)
  aborted_by (Read id query) = λ e. absurd (false≢true e)

module _ (ids : VidKind) (parts : ℕ) (events : List ChainEvent) (id : CallId) where
  abbrev world : Chains
  world = run ids parts events

  -- the cause in the list
  cause : (a : Answer) → (so : WasTold parts world.ledger id a) → IsCaused parts (decided_of world so.part) id a
  cause a so = told_has_cause parts world.ledger id a so

  settled_of : WasTold parts world.ledger id said.Fine → IsSettled ids parts events id
  settled_of so = let c = cause said.Fine so in record { part = so.part; place = c.place; term = c.term; entry = c.entry; answer = c.answer; decided = c.answered; settles = c.causes }

  own_of : (a : Answer) (r : Applied) (so : WasTold parts world.ledger id a) (c : IsCaused parts (decided_of world so.part) id a) → call_in c.entry ≡ Some id → c.answer ≡ r → IsOwn ids parts events id r
  own_of a r so c its is = record { part = so.part; place = c.place; term = c.term; entry = c.entry; its = its; decided = subst (WasAnswered parts (decided_of world so.part) c.place c.term c.entry) is c.answered }

  shown_of : WasTold parts world.ledger id said.Pending → IsShown ids parts events id
  shown_of so =
      let c = cause said.Pending so in
      let x = doubled_by parts (suc c.place) (machine_behind parts world so.part c.place) c.entry (ap shows (c.answered.is ∙ c.causes)) in
      let was : WasAnswered parts (decided_of world so.part) c.place c.term (Double x.0) (told.Doubled id) =
      subst (λ (y : PartEntry). WasAnswered parts (decided_of world so.part) c.place c.term y (told.Doubled id)) x.1
      (subst (WasAnswered parts (decided_of world so.part) c.place c.term c.entry) c.causes c.answered) in
      record { part = so.part; place = c.place; term = c.term; chain = x.0; decided = was; given_up = shows_given_up ids parts events so.part c.place c.term x.0 id was }

  given_up_of : WasTold parts world.ledger id said.Cancelled → IsGivenUp ids parts events id
  given_up_of so =
      let c = cause said.Cancelled so in
      let x = aborted_by parts (suc c.place) (machine_behind parts world so.part c.place) c.entry (ap gives_up (c.answered.is ∙ c.causes)) in
      let was : WasAnswered parts (decided_of world so.part) c.place c.term (Abort x.0) (told.Aborted id) =
      subst (λ (y : PartEntry). WasAnswered parts (decided_of world so.part) c.place c.term y (told.Aborted id)) x.1
      (subst (WasAnswered parts (decided_of world so.part) c.place c.term c.entry) c.causes c.answered) in
      let l = cancels_by_policy ids parts events so.part c.place c.term x.0 was.there in
      record { part = so.part; place = c.place; term = c.term; chain = x.0; decided = was; leader = l.0; led = l.1; cancels = l.2; proposed = l.3 }

  cause_of : (a : Answer) (m : ℕ) → is_unknown a ≡ false → IsRightReply parts world.ledger id a m → HasCause ids parts events id a m
  cause_of said.Fine m known right = settled_of right
  cause_of said.Skipped m known right = let c = cause said.Skipped right in own_of said.Skipped told.Skipped right c c.causes.0 c.causes.1
  cause_of (said.Conflict other) m known right = let c = cause (said.Conflict other) right in own_of (said.Conflict other) (told.Conflict other) right c c.causes.0 c.causes.1
  cause_of said.Pending m known right = shown_of right
  cause_of said.Cancelled m known right = given_up_of right
  cause_of (said.Shown view) m known right = right
  cause_of said.Unknown m known right = absurd (false≢true (sym known))

abbrev client_in : ChainEnd → ℕ
client_in (ends.Client c) = c
client_in other = 0

-- each answer that was ever sent has its cause
pub sent_answers_have_causes : SentAnswersHaveCauses
sent_answers_have_causes ids parts events from client number m a sent =
    let i = (always_safe ids parts events).kept.meant _ sent in
    let same : i.id ≡ record { client = client; number = number } =
    ap (λ (c : ℕ). record { client = c; number = i.id.number }) (sym (ap client_in i.receiver)) ∙ ap (λ (n : ℕ). record { client = client; number = n }) (sym i.its) in
    subst (λ (c : CallId). HasCause ids parts events c a m) same (cause_of ids parts events i.id a m i.known i.right)
