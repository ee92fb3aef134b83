-- With each run of the world go a run of each part's group and one run of the chains; so its graph steps are a run of the
-- graph machine.
use Rattle.std.proofs.Common.{◌≡◌, ℕ, List, [], ◌∷◌, ◌++◌, length, map, Option, Some, refl, ap, sym, subst, ◌∙◌}
use Rattle.std.specs.Prelude.{slice_get}
use Rattle.std.specs.List.{AllByRecursion}
use Rattle.std.proofs.lemmas.List.{length-map}
use Rattle.raft_group.specs.Group.{Group}
use Rattle.graph_model.specs.State.{start as blank_graph}
use Rattle.graph_model.specs.Run.{Run as GraphRun}
use Rattle.chain_world.specs.Ledger.{Ledger}
use Rattle.chain_world.specs.Outside.{IsGraphRun}
use Rattle.chain_world.specs.State.{Chains, start as chains_start}
use Rattle.chain_world.specs.World.{run_from}
use Rattle.meta_parts.specs.declared.table.PartTable.{PartTable}
use Rattle.meta_parts.specs.declared.table.MetaBody.{MetaBody}
use Rattle.meta_parts.specs.declared.table.MetaBody.TheVariants as body
use Rattle.meta_parts.specs.Table.{boot, written, counted_on, rows_behind}
use Rattle.replica_model.specs.declared.input.Input.TheVariants as input
use Rattle.replica_model.specs.declared.input.Tick.{Tick}
use Rattle.part_keys.specs.Spelled.{Spelling}
use Rattle.raft_core.proofs.Lists.{all_both}
use Rattle.world_model.specs.declared.event.Cause.{Cause}
use Rattle.world_model.specs.declared.event.Cause.TheVariants as cause
use Rattle.world_model.specs.declared.event.Event.{Event}
use Rattle.world_model.specs.declared.event.Event.TheVariants as event
use Rattle.world_model.specs.State.{Space, space_of, Gone, Post, State, began, start, resolve, Site, AtClient, AtPeer, Nowhere}
use Rattle.world_model.specs.After.{core_by, after_at, after, Doing, Noted, Queued, done}
use Rattle.world_model.specs.Lawful.{MayAt, ComesTo, MayChange, Lawful, MayDo}
use Rattle.world_model.specs.Journal.{space_at, Run, outwards_of, events_of}
use Rattle.world_model.specs.Grouped.{IsSpace, IsInput, Grouped}
use Rattle.world_model.specs.Chained.{IsHeard, Chained}
use Rattle.world_model.specs.Causes.{WasTold}
use Rattle.world_model.proofs.Groups.{Has_groups}
use Rattle.world_model.proofs.GroupEvents.{carried_comes}
use Rattle.world_model.proofs.GroupRuns.{groups_at, groups_after, groups_start, grouped_after, grouped_start}
use Rattle.world_model.proofs.Spaces.{first_is, so_many, rows_staged}
use Rattle.world_model.proofs.Alike.{chain_facts}
use Rattle.world_model.proofs.Joining.{Has_chains, Has_some, comes_heard, chained_tick, chained_packet, chained_crashed, chained_stop_tick, chained_stop_packet, chained_restarted, chained_place, restands}
use Rattle.world_model.proofs.Clients.{chained_hears, chained_queued, chained_round, chained_invoke, chained_reply}
use Rattle.world_model.proofs.Begun.{chained_start}
use Rattle.world_model.proofs.Trace.{trace_is}
use Rattle.world_model.proofs.Backed.{Backed, Onward, nowhere}
use Rattle.world_model.proofs.Calling.{run_more}
use Rattle.world_model.proofs.Ticks.{AreTold, Tells, told_after, TellsBy, they_tell}

module _ (sp : Space) (told : ℕ → Tick → Type 0) (is_space : IsSpace sp) (s : State) (g : ℕ → Group) (G : Has_groups sp s g) (c : Chains) (C : Has_chains sp s g c) (T : AreTold told s) where
  comes : (post : Post) (k : ℕ) → slice_get s.posts k ≡ Some post → (p y : ℕ) → resolve s.table post.packet.to ≡ AtPeer p y → IsInput (g p) p y (input.Sent post.packet)
  comes post k at p y here = carried_comes g s.table p y post.packet.from post.packet.to post.packet.body (G.letters k post at) here

  heard : (post : Post) (k : ℕ) → slice_get s.posts k ≡ Some post → (p y : ℕ) → resolve s.table post.packet.to ≡ AtPeer p y → IsHeard c.posts p (input.Sent post.packet)
  heard post k at p y here = comes_heard c.posts s.table post.packet.from post.packet.to post.packet.body post.moment p y here (C.mail k post at)

  -- a packet is delivered
  chained_received : (k : ℕ) (post : Post) → slice_get s.posts k ≡ Some post → (site : Site) → resolve s.table post.packet.to ≡ site → MayAt sp s (event.Deliver k) site
      → Has_some sp told c (after_at sp s (event.Deliver k) (Some post) site) (groups_at sp s g (event.Deliver k) (Some post) site)
  chained_received k post at (AtClient n) here may = (c, chained_hears sp told s g c C k n post at here, nowhere sp told c)
  chained_received k post at (AtPeer p y) here may = chained_packet sp told is_space s g G c C p y may T k post (comes post k at p y here) (heard post k at p y here)
  chained_received k post at Nowhere here may = absurd may

  -- what holds of the packet that stands there holds of what is found there
  by_post : (e : Event) (post : Post) (o : Option Post) → o ≡ Some post
      → Has_some sp told c (after_at sp s e (Some post) (core_by s.table e (Some post))) (groups_at sp s g e (Some post) (core_by s.table e (Some post)))
      → Has_some sp told c (after_at sp s e o (core_by s.table e o)) (groups_at sp s g e o (core_by s.table e o))
  by_post e post o at holds = subst (λ x. Has_some sp told c (after_at sp s e x (core_by s.table e x)) (groups_at sp s g e x (core_by s.table e x))) (sym at) holds

  chained_stopped : (p y : ℕ) (e : Cause) → Lawful sp s (event.StepCrash p y e) → Tells told (event.StepCrash p y e) → Has_some sp told c (after sp s (event.StepCrash p y e)) (groups_after sp s g (event.StepCrash p y e))
  chained_stopped p y (cause.Tick t) may its = chained_stop_tick sp told is_space s g G c C p y may.core T t
  chained_stopped p y (cause.Sent k) may its = by_post (event.StepCrash p y (cause.Sent k)) may.mail.post (slice_get s.posts k) may.mail.sent
      (chained_stop_packet sp told is_space s g G c C p y may.core T k may.mail.post (heard may.mail.post k may.mail.sent p y (subst (ComesTo s p y) may.mail.sent may.rest)))

  pub chained_after : (e : Event) → Tells told e → Lawful sp s e → Has_some sp told c (after sp s e) (groups_after sp s g e)
  chained_after (event.Invoke id op) its may = chained_invoke sp told s g c C id op may.core
  chained_after (event.Deliver k) its may = by_post (event.Deliver k) may.mail.post (slice_get s.posts k) may.mail.sent
      (chained_received k may.mail.post may.mail.sent (resolve s.table may.mail.post.packet.to) refl (subst (λ o. MayAt sp s (event.Deliver k) (core_by s.table (event.Deliver k) o)) may.mail.sent may.core))
  chained_after (event.Lose k) its may = (c, C, nowhere sp told c)
  chained_after (event.Tick p y t) its may = chained_tick sp told is_space s g G c C p y may.core T t its
  chained_after (event.Crash p y) its may = chained_crashed sp told is_space s g G c C p y may.core T
  chained_after (event.StepCrash p y e) its may = chained_stopped p y e may its
  chained_after (event.Restart p y took) its may = chained_restarted sp told is_space s g G c C p y took may.core T
  chained_after (event.Place p node y first) its may = (c, chained_place sp told is_space s g G c C p y first may.rest.part, nowhere sp told c)
  chained_after (event.Wipe p y) its may = (c, restands sp told is_space s g G c C p y Gone tt, nowhere sp told c)
  chained_after (event.Meta body) its may = (c, C, nowhere sp told c)
  chained_after (event.Round n) its may = (c, chained_round sp told s g c C n, nowhere sp told c)
  chained_after (event.Reply id a) its may = chained_reply sp told s g c C id a may.core may.rest

-- A state, its groups and its chains, with the events that made these, each with its tick.
pub record Joined (sp : Space) (told : ℕ → Tick → Type 0) (s : State) : Type 0 where
  pub space : IsSpace sp
  pub groups : ℕ → Group
  pub chains : Chains
  pub grouped : Has_groups sp s groups
  pub chained : Has_chains sp s groups chains
  pub onward : Onward sp told chains_start chains
  pub ticks : AreTold told s

pub joined_start : (spelling : Spelling) (told : ℕ → Tick → Type 0) (t : PartTable) → Joined (space_of spelling t) told (began t)
joined_start spelling told t =
    (let sp = space_of spelling t in
    let x = chained_start sp told t in
    record {
      space = λ p. first_is t;
      groups = groups_start sp;
      chains = x.0;
      grouped = grouped_start sp t;
      chained = x.1;
      onward = x.2;
      ticks = λ p y. tt;
    })

-- What the table makes constant stays, but where parts are allocated, and then the world is as it began.
module _ (spelling : Spelling) (told : ℕ → Tick → Type 0) (s : State) (J : Joined (space_at spelling s) told s) where
  abbrev sp : Space
  sp = space_at spelling s

  joined_as : (t : PartTable) → space_of spelling t ≡ sp → Joined (space_of spelling t) told (record s { table = t })
  joined_as t same = subst (λ x. Joined x told (record s { table = t })) (sym same) (record { space = J.space; groups = J.groups; chains = J.chains; grouped = J.grouped; chained = J.chained; onward = J.onward; ticks = J.ticks })

  joined_written : (b : MetaBody) → MayChange s b → Joined (space_of spelling (written s.table b)) told (record s { table = written s.table b })
  joined_written (body.Allocate parts factor up ids) began_so =
      subst (λ (x : State). Joined (space_of spelling (written s.table (body.Allocate parts factor up ids))) told (record x { table = written s.table (body.Allocate parts factor up ids) })) (sym began_so)
      (joined_start spelling told (written s.table (body.Allocate parts factor up ids)))
  joined_written (body.Node n) may = joined_as (written s.table (body.Node n)) refl
  joined_written (body.Task p from to new) may =
      joined_as (written s.table (body.Task p from to new)) (so_many spelling s.table (length (map (counted_on p new) s.table.rows)) (length-map s.table.rows (counted_on p new)))
  joined_written (body.Stage p stage) may = joined_as (written s.table (body.Stage p stage)) (so_many spelling s.table (length (rows_behind s.table p stage)) (rows_staged s.table p stage))

  -- an event that writes nothing
  joined_behind : (e : Event) → Tells told e → Lawful sp s e → (after sp s e).table ≡ s.table → Joined (space_at spelling (after sp s e)) told (after sp s e)
  joined_behind e its may same =
      (let x = chained_after sp told J.space s J.groups J.grouped J.chains J.chained J.ticks e its may in
      let events = J.onward.events ++ x.2.events in
      subst (λ t. Joined (space_of spelling t) told (after sp s e)) (sym same)
      (record {
        space = J.space;
        groups = groups_after sp s J.groups e;
        chains = x.0;
        grouped = grouped_after sp J.space s J.groups J.grouped e may;
        chained = x.1;
        onward = record {
          events = events;
          is = run_more sp.ids sp.parts chains_start J.onward.events x.2.events ∙ ap (λ z. run_from sp.ids sp.parts z x.2.events) J.onward.is ∙ x.2.is;
          backed = all_both (Backed told) J.onward.events x.2.events J.onward.backed x.2.backed;
        };
        ticks = told_after told sp s J.ticks e its may;
      }))

  delivered_table : (k : ℕ) (post : Option Post) (site : Site) → (after_at sp s (event.Deliver k) post site).table ≡ s.table
  delivered_table k post (AtClient c) = refl
  delivered_table k post (AtPeer p y) = refl
  delivered_table k post Nowhere = refl

  joined_after : (e : Event) → Tells told e → Lawful sp s e → Joined (space_at spelling (after sp s e)) told (after sp s e)
  joined_after (event.Meta b) its may = joined_written b may.rest
  joined_after (event.Deliver k) its may = joined_behind (event.Deliver k) its may (delivered_table k (slice_get s.posts k) (core_by s.table (event.Deliver k) (slice_get s.posts k)))
  joined_after (event.Invoke id op) its may = joined_behind (event.Invoke id op) its may refl
  joined_after (event.Lose k) its may = joined_behind (event.Lose k) its may refl
  joined_after (event.Tick p y t) its may = joined_behind (event.Tick p y t) its may refl
  joined_after (event.Crash p y) its may = joined_behind (event.Crash p y) its may refl
  joined_after (event.StepCrash p y e) its may = joined_behind (event.StepCrash p y e) its may refl
  joined_after (event.Restart p y took) its may = joined_behind (event.Restart p y took) its may refl
  joined_after (event.Place p node y first) its may = joined_behind (event.Place p node y first) its may refl
  joined_after (event.Wipe p y) its may = joined_behind (event.Wipe p y) its may refl
  joined_after (event.Round n) its may = joined_behind (event.Round n) its may refl
  joined_after (event.Reply id a) its may = joined_behind (event.Reply id a) its may refl

  joined_done : (d : Doing) → TellsBy told d → MayDo sp s d → Joined (space_at spelling (done sp s d)) told (done sp s d)
  joined_done (Noted e) its may = joined_after e its may
  joined_done (Queued n statement) its may = record { space = J.space; groups = J.groups; chains = J.chains; grouped = J.grouped; chained = chained_queued sp told s J.groups J.chains J.chained n statement may.2; onward = J.onward; ticks = J.ticks }

joined_from : (spelling : Spelling) (told : ℕ → Tick → Type 0) (s : State) → Joined (space_at spelling s) told s → (doings : List Doing) (v : State) → AllByRecursion (TellsBy told) doings → Run spelling s doings v → Joined (space_at spelling v) told v
joined_from spelling told s J [] v tell run = subst (λ (x : State). Joined (space_at spelling x) told x) (sym run) J
joined_from spelling told s J (d ∷ doings) v tell run = joined_from spelling told (done (space_at spelling s) s d) (joined_done spelling told s J d tell.0 run.0) doings v tell.1 run.1

-- With each run of the world go runs of the groups and of the chains.
pub joined : (spelling : Spelling) (n : ℕ) (doings : List Doing) (v : State) → Run spelling (start n) doings v → Joined (space_at spelling v) (WasTold doings) v
joined spelling n doings v run = joined_from spelling (WasTold doings) (start n) (joined_start spelling (WasTold doings) (boot n)) doings v (they_tell doings) run

-- So its graph steps are a run of the graph machine.
pub is_graph_run : (spelling : Spelling) (n : ℕ) (doings : List Doing) (v : State) → Run spelling (start n) doings v → IsGraphRun v.ledger.steps (outwards_of (events_of doings))
is_graph_run spelling n doings v run =
    (let J = joined spelling n doings v run in
    let promised = chain_facts (space_at spelling v).ids (space_at spelling v).parts J.chains J.chained.reached in
    record {
      graph = promised.graph;
      run = subst (λ (l : Ledger). GraphRun blank_graph l.steps promised.graph) J.chained.ledger_is promised.refines;
      same_trace = trace_is spelling n doings v run;
    })

pub are_joined : (spelling : Spelling) (n : ℕ) (doings : List Doing) (v : State) → Run spelling (start n) doings v
    → (g : ℕ → Group) × (c : Chains) × Grouped (space_at spelling v) v.placed v.posts v.ledger.decided g × Chained (space_at spelling v) v.placed v.callers v.posts v.ledger v.asked g c
are_joined spelling n doings v run = (let J = joined spelling n doings v run in (J.groups, J.chains, J.grouped, J.chained))

pub are_groups : (spelling : Spelling) (n : ℕ) (doings : List Doing) (v : State) → Run spelling (start n) doings v
    → (g : ℕ → Group) × Grouped (space_at spelling v) v.placed v.posts v.ledger.decided g
are_groups spelling n doings v run = (let J = joined spelling n doings v run in (J.groups, J.grouped))
