-- An event is about one core alone: the others stay as they are, and what is lawful for a core, and what it does, stays so
-- where events of others came between. Worker threads, each with cores of its own, stand on this.
use Rattle.std.specs.Prelude.{◌≡◌, ◌≢◌, ℕ, List, [], ◌∷◌, ◌++◌, map, slice_get, Option, None, Some}
use Rattle.replica_model.specs.declared.packet.Packet.{Packet}
use Rattle.part_keys.specs.Spelled.{Spelling}
use Rattle.replica_model.specs.Stepped.{Leaving}
use Rattle.world_model.specs.declared.event.Event.{Event}
use Rattle.world_model.specs.declared.event.Event.TheVariants as event
use Rattle.world_model.specs.State.{Space, home_of, Post, State, Site, AtClient, AtPeer, Nowhere}
use Rattle.world_model.specs.After.{packet_by, core_by, Step, step_by, caller_sends, after, Doing, Noted, Queued, done}
use Rattle.world_model.specs.Lawful.{IsDue, Lawful}
use Rattle.world_model.specs.Journal.{space_at, Run}

-- the core that an event is about now
abbrev pub core_at : State → Event → Site
core_at s e = core_by s.table e (packet_by s.posts e)

-- a core is in the one state as in the other: how a replica stands, its node and its stopped steps; a client
abbrev pub SameAt : State → State → Site → Type 0
SameAt s v (AtPeer p y) = (v.placed p y ≡ s.placed p y) × (v.nodes p y ≡ s.nodes p y) × (v.stops p y ≡ s.stops p y)
SameAt s v (AtClient c) = v.callers c ≡ s.callers c
SameAt s v Nowhere = Unit {0}

-- Each other core stays as it is.
abbrev pub OthersStay : Type 0
OthersStay = (sp : Space) (s : State) (e : Event) (site : Site) → site ≢ core_at s e → SameAt s (after sp s e) site

-- what an event sends
abbrev pub leaves_of : Option Step → List Packet
leaves_of None = []
leaves_of (Some x) = map (λ (l : Leaving). l.packet) x.made.leaves

abbrev pub one_of : Option Packet → List Packet
one_of None = []
one_of (Some packet) = packet ∷ []

abbrev pub sends_at : Space → State → Event → Option Post → Site → List Packet
sends_at sp s e post (AtPeer p y) = leaves_of (step_by (home_of sp p) e post (s.placed p y))
sends_at sp s e post (AtClient c) = one_of (caller_sends e (s.callers c))
sends_at sp s e post Nowhere = []

abbrev pub sends_by : Space → State → Event → List Packet
sends_by sp s e = sends_at sp s e (packet_by s.posts e) (core_at s e)

abbrev pub packets_in : List Post → List Packet
packets_in posts = map (λ (post : Post). post.packet) posts

-- Packets are never taken out, and those of an event stand last.
abbrev pub SendsItsOwn : Type 0
SendsItsOwn = (sp : Space) (s : State) (e : Event) → packets_in (after sp s e).posts ≡ packets_in s.posts ++ sends_by sp s e

-- One state is later than another, as this core sees it: the same table, and at least the packets; and the core is as it was.
pub record Later (s v : State) (site : Site) : Type 0 where
  pub table : v.table ≡ s.table
  pub posts : (k : ℕ) (post : Post) → slice_get s.posts k ≡ Some post → slice_get v.posts k ≡ Some post
  pub core : SameAt s v site

-- Events of which the rest of the world is asked nothing: all that workers do but a Lose, and a Reply that is due.
abbrev pub IsOwn : State → Event → Type 0
IsOwn s (event.Invoke id op) = Unit {0}
IsOwn s (event.Deliver k) = Unit {0}
IsOwn s (event.Tick p y t) = Unit {0}
IsOwn s (event.Crash p y) = Unit {0}
IsOwn s (event.StepCrash p y c) = Unit {0}
IsOwn s (event.Restart p y took) = Unit {0}
IsOwn s (event.Reply id a) = IsDue (s.callers id.client) a
IsOwn s e = ⊥

-- Then it is lawful still, is about the same core, makes the same of it, and sends the same.
pub record DoesTheSame (sp : Space) (s v : State) (e : Event) : Type 0 where
  pub lawful : Lawful sp v e
  pub core : core_at v e ≡ core_at s e
  pub behind : SameAt (after sp s e) (after sp v e) (core_at s e)
  pub sends : sends_by sp v e ≡ sends_by sp s e

abbrev pub StaysLawful : Type 0
StaysLawful = (sp : Space) (s v : State) (e : Event) → IsOwn s e → Lawful sp s e → Later s v (core_at s e) → DoesTheSame sp s v e

-- And events of others make such a later state. None of them writes the table.
abbrev pub WritesNothing : Event → Type 0
WritesNothing (event.Meta body) = ⊥
WritesNothing e = Unit {0}

abbrev pub AreOthers : Spelling → Site → State → List Doing → Type 0
AreOthers spelling site s [] = Unit {0}
AreOthers spelling site s (Noted e ∷ doings) = (site ≢ core_at s e) × WritesNothing e × AreOthers spelling site (done (space_at spelling s) s (Noted e)) doings
AreOthers spelling site s (Queued c ops ∷ doings) = (site ≢ AtClient c) × AreOthers spelling site (done (space_at spelling s) s (Queued c ops)) doings

abbrev pub OthersComeBetween : Type 0
OthersComeBetween = (spelling : Spelling) (s : State) (doings : List Doing) (v : State) (site : Site) → Run spelling s doings v → AreOthers spelling site s doings → Later s v site
