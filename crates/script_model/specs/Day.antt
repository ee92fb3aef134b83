-- A day of a driver: what it does at its desk, and what happens on the way to the quiet points.
use Rattle.std.specs.Prelude.{◌≡◌, ◌⊎◌, ℕ, suc, Bool, true, false, List, [], ◌∷◌, ◌++◌, map, not, Option, None, Some, if◌then◌else◌}
use Rattle.std.specs.Option.{is_some}
use Rattle.std.specs.List.{slice_get}
use Rattle.graph_model.specs.declared.answer.Answer.TheVariants as answer
use Rattle.meta_parts.specs.declared.table.PartRow.{PartRow}
use Rattle.part_keys.specs.Spelled.{Spelling}
use Rattle.part_keys.specs.declared.chain.Policy.TheVariants.{Forward}
use Rattle.replica_model.specs.declared.input.Tick.{Tick}
use Rattle.replica_model.specs.declared.input.Tick.TheVariants as tick
use Rattle.statement_run.specs.Caller.{Open as Call}
use Rattle.world_model.specs.declared.event.Cause.TheVariants as cause
use Rattle.world_model.specs.declared.event.Event.{Event}
use Rattle.world_model.specs.declared.event.Event.TheVariants as event
use Rattle.world_model.specs.After.{Doing, Noted, Queued, done}
use Rattle.world_model.specs.Journal.{space_at}
use Rattle.world_model.specs.Lawful.{due, IsQuiet, MayDo, rounds_at_most}
use Rattle.world_model.specs.State as world
use Rattle.world_model.specs.State.{State, Post}
use Rattle.script_model.specs.Duties.{Duty, Say, StartCollected, Wait, Queue, First, While, Round, GiveUps, Again, Unknown, Tell, Places, Elects, Elect, Do, Redeliver, Create, Open, Desk, stands_beside, first_do, starts, for_all}
use Rattle.script_model.specs.Faults.{is_up, reaches}
use Rattle.script_model.specs.Opening.{opens, creates_in}
use Rattle.script_model.specs.Rounds.{round, give_ups, had_rounds, any_busy}
use Rattle.script_model.specs.Way.{OnWay}

-- 1. What a duty makes of the desk without an event: its own duties stand in its place, or nothing is to be done. None where it
-- waits for an event.
abbrev pub starts_collected : Desk → Desk
starts_collected desk = first_do (for_all starts desk.collected) (record desk { collected = [] })

abbrev pub rounds_while : State → List ℕ → Desk → Desk
rounds_while s cs desk = if any_busy s cs then first_do (Round ∷ While cs ∷ []) desk else desk

abbrev pub unless_made : Bool → Desk → Option Desk
unless_made waits desk = if waits then None else Some desk

abbrev pub elections : State → List Duty
elections s = map (λ (row : PartRow). Elect row.part) s.table.rows

-- the receiver of the packet of that number is there
abbrev pub gets : State → Option Post → Bool
gets s None = false
gets s (Some post) = reaches s post.packet

abbrev pub missed : Desk → Desk
missed desk = record desk { missing = suc desk.missing }

-- One row a duty; `desk` has what is left behind it.
abbrev pub done_by : world.Space → State → Desk → Duty → Option Desk
done_by sp s desk (Say what) = opens sp desk s what
done_by sp s desk StartCollected = Some (starts_collected desk)
done_by sp s desk Wait = Some desk
done_by sp s desk (Queue start) = None
done_by sp s desk (First c) = unless_made (is_some (due s c)) desk
done_by sp s desk (While cs) = Some (rounds_while s cs desk)
done_by sp s desk Round = Some (first_do (round s) desk)
done_by sp s desk (GiveUps c) = Some (first_do (give_ups s c) desk)
done_by sp s desk (Again c) = unless_made (is_some (s.callers c).call) desk
done_by sp s desk (Unknown c) = unless_made (had_rounds rounds_at_most (s.callers c).call) desk
done_by sp s desk (Tell p y t) = unless_made (is_up (s.placed p y)) desk
done_by sp s desk Places = Some (first_do (for_all (creates_in sp s (λ node. true)) s.table.rows) desk)
done_by sp s desk Elects = Some (first_do (elections s) desk)
done_by sp s desk (Elect p) = unless_made (is_up (s.placed p 1)) desk
done_by sp s desk (Do e) = None
done_by sp s desk (Redeliver k) = unless_made (gets s (slice_get s.posts k)) desk
done_by sp s desk (Create p node y first) = Some (missed desk)
done_by sp s desk (Open p y) = Some (missed desk)

-- 2. The doing that a duty makes. A step may stop in the place of its Tick or its Deliver.
abbrev pub IsTold : ℕ → ℕ → Tick → Event → Type 0
IsTold p y t e = (e ≡ event.Tick p y t) ⊎ (e ≡ event.StepCrash p y (cause.Tick t))

abbrev pub IsAgain : ℕ → Event → Type 0
IsAgain k e = (e ≡ event.Deliver k) ⊎ ((p : ℕ) × (y : ℕ) × (e ≡ event.StepCrash p y (cause.Sent k)))

-- the open call ends with no answer
abbrev pub IsUnknown : State → ℕ → Event → Type 0
IsUnknown s c e = (call : Call) × ((s.callers c).call ≡ Some call) × (call.count ≡ rounds_at_most) × (e ≡ event.Reply call.id answer.Unknown)

-- One row a duty; the others make none.
abbrev pub Makes : State → Duty → Doing → Type 0
Makes s (Queue start) d = d ≡ Queued start.client start.statement
Makes s (First c) (Noted e) = due s c ≡ Some e
Makes s (Again c) (Noted e) = (is_some (s.callers c).call ≡ true) × (e ≡ event.Round c)
Makes s (Unknown c) (Noted e) = IsUnknown s c e
Makes s (Tell p y t) (Noted e) = (is_up (s.placed p y) ≡ true) × IsTold p y t e
Makes s (Elect p) (Noted e) = (is_up (s.placed p 1) ≡ true) × IsTold p 1 (tick.Elect Forward) e
Makes s (Do made) (Noted e) = e ≡ made
Makes s (Redeliver k) (Noted e) = (gets s (slice_get s.posts k) ≡ true) × IsAgain k e
Makes s (Create p node y first) (Noted e) = e ≡ event.Place p node y first
Makes s (Open p y) (Noted e) = (took : Bool) × (e ≡ event.Restart p y took)
Makes s duty d = ⊥

-- 3. A pace of the day. The driver does its first duty, at a quiet point unless that stands beside the one before: without a doing,
-- or with one. Or, where its first duty waits for a quiet point, or none is left, something happens on the way.
pub data Pace : Type 0 where
  Silent : Pace
  Made : Doing → Pace
  Passing : Event → Pace

abbrev pub InTime : State → Duty → Type 0
InTime s duty = (stands_beside duty ≡ true) ⊎ IsQuiet s

abbrev pub behind : Desk → List Duty → Desk
behind desk rest = record desk { agenda = rest }

-- the desk without its first duty
abbrev pub IsBeforeIt : Desk → Duty → Desk → Type 0
IsBeforeIt desk duty left = (rest : List Duty) × (desk.agenda ≡ duty ∷ rest) × (left ≡ behind desk rest)

pub record Silently (sp : world.Space) (s : State) (desk next : Desk) : Type 0 where
  pub duty : Duty
  pub left : Desk
  pub first : IsBeforeIt desk duty left
  pub time : InTime s duty
  pub done : done_by sp s left duty ≡ Some next

pub record ByDoing (s : State) (desk : Desk) (d : Doing) (next : Desk) : Type 0 where
  pub duty : Duty
  pub first : IsBeforeIt desk duty next
  pub time : InTime s duty
  pub makes : Makes s duty d

abbrev pub is_waiting : List Duty → Bool
is_waiting [] = true
is_waiting (duty ∷ duties) = not (stands_beside duty)

pub record OnTheWay (s : State) (desk : Desk) (e : Event) (next : Desk) : Type 0 where
  pub waits : is_waiting desk.agenda ≡ true
  pub passes : OnWay desk.faults s e
  pub same : next ≡ desk

-- One pace, from a desk and a world to the next ones.
abbrev pub Goes : Spelling → Desk → State → Pace → Desk → State → Type 0
Goes spelling desk s Silent next v = Silently (space_at spelling s) s desk next × (v ≡ s)
Goes spelling desk s (Made d) next v = ByDoing s desk d next × MayDo (space_at spelling s) s d × (v ≡ done (space_at spelling s) s d)
Goes spelling desk s (Passing e) next v = OnTheWay s desk e next × MayDo (space_at spelling s) s (Noted e) × (v ≡ done (space_at spelling s) s (Noted e))

-- A day: paces, one after another. It may end anywhere.
abbrev pub Day : Spelling → Desk → State → List Pace → Desk → State → Type 0
Day spelling desk s [] last v = (last ≡ desk) × (v ≡ s)
Day spelling desk s (pace ∷ paces) last v = (next : Desk) × (t : State) × Goes spelling desk s pace next t × Day spelling next t paces last v

-- the doings of a day
abbrev pub doing_of : Pace → List Doing
doing_of Silent = []
doing_of (Made d) = d ∷ []
doing_of (Passing e) = Noted e ∷ []

abbrev pub doings_of : List Pace → List Doing
doings_of [] = []
doings_of (pace ∷ paces) = doing_of pace ++ doings_of paces
