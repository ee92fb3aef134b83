-- What a line gives a driver to do.
use Rattle.std.specs.Prelude.{ℕ, suc, ◌-◌, ◌==◌, ◌&&◌, ◌||◌, nat_le, nat_lt, Bool, true, false, List, [], ◌∷◌, ◌++◌, map, length, slice_get, Option, None, Some, Result, Ok, Err, if◌then◌else◌}
use Rattle.std.specs.List.{find}
use Rattle.std.specs.Option.{is_some}
use Rattle.fault_schedule.specs.declared.control.Control.{Control}
use Rattle.fault_schedule.specs.declared.control.Control.TheVariants as control
use Rattle.fault_schedule.specs.Drawing.{schedule}
use Rattle.meta_parts.specs.declared.table.MetaBody.TheVariants as body
use Rattle.meta_parts.specs.declared.table.PartRow.{PartRow}
use Rattle.meta_parts.specs.declared.table.PeerRow.{PeerRow}
use Rattle.meta_parts.specs.Table.{numbers, parts_in, most_nodes}
use Rattle.ngql_syntax.specs.declared.define.Define.{Define}
use Rattle.ngql_syntax.specs.declared.define.Define.TheVariants as define
use Rattle.ngql_syntax.specs.declared.statement.Statement.{Statement}
use Rattle.ngql_syntax.specs.declared.statement.Statement.TheVariants as says
use Rattle.packet_codec.specs.Kinds.{number_of, body_kind}
use Rattle.part_keys.specs.declared.chain.Policy.{Policy}
use Rattle.part_keys.specs.declared.chain.Policy.TheVariants.{Forward, Cancel}
use Rattle.raft_log.specs.Majority.{is_among}
use Rattle.replica_model.specs.declared.input.Tick.TheVariants as tick
use Rattle.schema_book.specs.declared.bound.Bound.{Bound}
use Rattle.schema_book.specs.declared.made.Made.{Made}
use Rattle.schema_book.specs.declared.made.Made.TheVariants as made
use Rattle.schema_book.specs.declared.refused.BookRefused.{BookRefused}
use Rattle.schema_book.specs.declared.space.Space.{Space}
use Rattle.schema_book.specs.Bind.{bound}
use Rattle.schema_book.specs.Create.{created}
use Rattle.schema_book.specs.Schema.{Schema}
use Rattle.script_lines.specs.declared.reading.Reading.{Reading}
use Rattle.script_lines.specs.declared.reading.Reading.TheVariants as reading
use Rattle.statement_run.specs.Bound.{statement_of}
use Rattle.world_model.specs.declared.event.Event.TheVariants as event
use Rattle.world_model.specs.Lawful.{first_for}
use Rattle.world_model.specs.State as world
use Rattle.world_model.specs.State.{State, Post, Standing, Vacant, Up, Stopped, Down, Gone}
use Rattle.script_model.specs.Duties.{Duty, Say, StartCollected, Wait, While, Round, Tell, Places, Elects, Do, Redeliver, Create, Open, Start, Desk, first_do, starts, for_all, where_is}
use Rattle.script_model.specs.Faults.{cutting, healed, losing, keeping, is_up}
use Rattle.script_model.specs.Rounds.{given_up, ids_ever, at_each_peer}

-- 1. Statements. What is bound starts: at once, and then Rounds are made while it hasn't ended, or with what is collected.
abbrev pub parts_of : Option Space → ℕ
parts_of None = 0
parts_of (Some space) = space.parts

abbrev pub start_of : Desk → ℕ → Bound → Start
start_of desk c what = record { client = c; statement = statement_of (parts_of desk.book.space) what }

abbrev pub collects : Desk → ℕ → Result Bound BookRefused → Desk
collects desk c (Ok what) = record desk { collected = desk.collected ++ start_of desk c what ∷ [] }
collects desk c (Err why) = desk

abbrev pub runs : Desk → ℕ → Result Bound BookRefused → Desk
runs desk c (Ok what) = first_do (starts (start_of desk c what) ++ While (c ∷ []) ∷ []) desk
runs desk c (Err why) = desk

-- A new space needs as many nodes as a part has replicas. Its parts are allocated over all nodes, its replicas are created, and
-- peer 1 of each part is elected; where there are fewer nodes the schema stays as it was.
abbrev pub makes_space : Desk → Schema → ℕ → ℕ → Duty → Desk
makes_space desk book factor nodes allocate =
    if nat_le factor nodes
    then first_do (allocate ∷ Places ∷ Wait ∷ Elects ∷ []) (record desk { book = book })
    else desk

abbrev pub makes : Desk → State → Define → Result (Made × Schema) BookRefused → Desk
makes desk s (define.Space name parts factor ids absent) (Ok (made.New number, book)) =
    makes_space desk book factor (length s.table.nodes) (Do (event.Meta (body.Allocate parts factor s.table.nodes ids)))
makes desk s (define.Tag name columns absent) (Ok (made.New number, book)) = record desk { book = book }
makes desk s (define.Edge name columns absent) (Ok (made.New number, book)) = record desk { book = book }
makes desk s what (Ok (made.Already, book)) = desk
makes desk s what (Err why) = desk

abbrev pub states : Desk → State → ℕ → Statement → Desk
states desk s c (says.Make what) = makes desk s what (created desk.book what)
states desk s c (says.Select name) = desk
states desk s c statement = runs desk c (bound desk.book statement)

-- 2. Control lines. A node or a part that isn't there gives nothing to do, and so do those that need a space where there is none.
abbrev pub has_node : State → ℕ → Bool
has_node s n = is_among n s.table.nodes

abbrev pub has_space : Desk → Bool
has_space desk = is_some desk.book.space

abbrev pub has_part : State → ℕ → Bool
has_part s p = nat_lt 0 p && nat_le p (parts_in s.table)

abbrev pub where_do : Bool → Desk → List Duty → Desk
where_do holds desk duties = if holds then first_do duties desk else desk

abbrev pub where_set : Bool → Desk → Desk → Desk
where_set holds desk behind = if holds then behind else desk

-- the packets of a kind, by their numbers, rising
abbrev pub of_kind : ℕ → ℕ → List Post → List ℕ
of_kind kind k [] = []
of_kind kind k (post ∷ posts) =
    if number_of (body_kind post.packet.body) == kind then k ∷ of_kind kind (suc k) posts else of_kind kind (suc k) posts

abbrev pub redelivers : Option ℕ → List Duty
redelivers None = []
redelivers (Some k) = Redeliver k ∷ []

-- the replicas on a node that are up crash, by part
abbrev pub crashes_at : State → ℕ → ℕ → ℕ → List Duty
crashes_at s n p y = where_is ((s.nodes p y == n) && is_up (s.placed p y)) (Do (event.Crash p y))

-- those that are down come up again
abbrev pub is_down : Standing → Bool
is_down (Down d) = true
is_down (Stopped r i) = true
is_down other = false

abbrev pub opens_at : State → ℕ → ℕ → ℕ → List Duty
opens_at s n p y = where_is ((s.nodes p y == n) && is_down (s.placed p y)) (Open p y)

-- replicas of a part's row that were never created, on the wanted nodes
abbrev pub is_vacant : Standing → Bool
is_vacant Vacant = true
is_vacant other = false

abbrev pub creates_in : world.Space → State → (ℕ → Bool) → PartRow → List Duty
creates_in sp s wanted row =
    for_all (λ (peer : PeerRow). where_is (wanted peer.node && is_vacant (s.placed row.part peer.peer)) (Create row.part peer.node peer.peer (first_for sp row.part peer.peer))) row.peers

-- on a node, by part: what is down comes up again, and what couldn't be created is created, where there is a space
abbrev pub restarts : world.Space → State → Bool → ℕ → PartRow → List Duty
restarts sp s space n row =
    for_all (opens_at s n row.part) (ids_ever s.table row.part) ++ creates_in sp s (λ node. space && (node == n)) row

-- the replica of a part on a node that is up is told to be elected
abbrev pub policy_of : Bool → Policy
policy_of true = Cancel
policy_of false = Forward

abbrev pub elects : ℕ → Bool → Option ℕ → List Duty
elects p cancel None = []
elects p cancel (Some y) = Tell p y (tick.Elect (policy_of cancel)) ∷ []

abbrev pub on_node : State → ℕ → ℕ → Option ℕ
on_node s p n = find (λ (y : ℕ). (s.nodes p y == n) && is_up (s.placed p y)) (ids_ever s.table p)

abbrev pub times : ℕ → Duty → List Duty
times n duty = map (λ (k : ℕ). duty) (numbers n)

abbrev pub drawn : List Control → List Duty
drawn list = map (λ (line : Control). Say (reading.Control line)) list

-- One row a control. Lines that move parts are not among them yet: no driver goes on behind one.
abbrev pub controls : world.Space → Desk → State → Control → Option Desk
controls sp desk s (control.Cut a b) = Some (where_set (has_node s a && has_node s b) desk (record desk { faults = cutting a b desk.faults }))
controls sp desk s control.Heal = Some (record desk { faults = healed desk.faults })
controls sp desk s (control.Lose kind) = Some (record desk { faults = losing kind desk.faults })
controls sp desk s control.Keep = Some (record desk { faults = keeping desk.faults })
controls sp desk s (control.Again kind n) = Some (where_do (nat_lt 0 n) desk (redelivers (slice_get (of_kind kind 0 s.posts) (n - 1))))
controls sp desk s (control.Crash n) = Some (where_do (has_node s n) desk (at_each_peer s.table (crashes_at s n)))
controls sp desk s (control.Restart n) = Some (where_do (has_node s n) desk (for_all (restarts sp s (has_space desk) n) s.table.rows))
controls sp desk s control.RestartMeta = Some desk
controls sp desk s (control.Elect p n cancel) = Some (where_do (has_space desk && has_part s p && has_node s n) desk (elects p cancel (on_node s p n)))
controls sp desk s (control.GiveUp c) = Some (where_do (has_space desk) desk (given_up s (s.callers c).call))
controls sp desk s (control.Rounds n) = Some (first_do (times n Round) desk)
controls sp desk s control.AddNode = Some (where_do (nat_lt (length s.table.nodes) most_nodes) desk (Do (event.Meta (body.Node (suc (length s.table.nodes)))) ∷ []))
controls sp desk s control.Balance = None
controls sp desk s control.BalanceStep = None
controls sp desk s (control.Move p a b) = None
controls sp desk s control.Parts = Some desk
controls sp desk s (control.Chaos seed count) = Some (where_do (has_space desk) desk (drawn (schedule seed count (length s.table.nodes) (parts_in s.table))))

-- 3. Lines. A statement that is marked is collected; before any other line, and at the end, what is collected starts together.
abbrev pub is_marked : Reading → Bool
is_marked (reading.Statement line) = line.collected
is_marked other = false

abbrev pub line_opens : world.Space → Desk → State → Reading → Option Desk
line_opens sp desk s (reading.Control c) = controls sp desk s c
line_opens sp desk s (reading.Statement line) = Some (if line.collected then collects desk line.client (bound desk.book line.statement) else states desk s line.client line.statement)
line_opens sp desk s other = Some desk

abbrev pub opens : world.Space → Desk → State → Reading → Option Desk
opens sp desk s what =
    if is_marked what || (length desk.collected == 0)
    then line_opens sp desk s what
    else Some (first_do (StartCollected ∷ Say what ∷ []) desk)
