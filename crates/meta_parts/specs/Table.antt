-- The table of parts, nodes and tasks: when each body may be written, and the table behind it.
use Rattle.std.specs.Prelude.{ℕ, zero, suc, ◌+◌, ◌-◌, ◌%◌, ◌^◌, ◌==◌, nat_lt, nat_le, not, ◌&&◌, ◌||◌, Bool, true, false, List, [], ◌∷◌, ◌++◌, map, length, slice_get, Option, None, Some, if◌then◌else◌}
use Rattle.std.specs.List.{find, filter, list_all, list_any}
use Rattle.raft_log.specs.declared.config.Config.{Config}
use Rattle.raft_log.specs.Majority.{is_among}
use Rattle.part_keys.specs.declared.vid_kind.VidKind.{VidKind}
use Rattle.part_keys.specs.declared.vid_kind.VidKind.TheVariants.{Num, Name}
use Rattle.meta_parts.specs.declared.table.PeerRow.{PeerRow}
use Rattle.meta_parts.specs.declared.table.PartRow.{PartRow}
use Rattle.meta_parts.specs.declared.table.Stage.{Stage}
use Rattle.meta_parts.specs.declared.table.Stage.TheVariants.{ChangeLeader, AddPart, AddLearner, CatchUp, MemberAdd, MemberRemove, UpdateMeta, RemovePart, End}
use Rattle.meta_parts.specs.declared.table.TaskRow.{TaskRow}
use Rattle.meta_parts.specs.declared.table.PartTable.{PartTable}
use Rattle.meta_parts.specs.declared.table.MetaBody.{MetaBody}
use Rattle.meta_parts.specs.declared.table.MetaBody.TheVariants as body

-- so many numbers from one on; the numbers from 1 to n
abbrev pub up_from : ℕ → ℕ → List ℕ
up_from first zero = []
up_from first (suc n) = first ∷ up_from (suc first) n

abbrev pub numbers : ℕ → List ℕ
numbers n = up_from 1 n

-- the bounds: nodes, parts, ids of peers, bytes of a text id
abbrev pub most_nodes : ℕ
most_nodes = 8

abbrev pub most_parts : ℕ
most_parts = 64

abbrev pub above_peers : ℕ
above_peers = 2 ^ 31

abbrev pub most_bytes : ℕ
most_bytes = 32

-- at boot: the nodes 1 to n, and nothing else
abbrev pub boot : ℕ → PartTable
boot n = record { rows = []; nodes = numbers n; tasks = []; factor = 0; ids = Num }

-- a part's row, and the peers in it
abbrev pub row_in : PartTable → ℕ → Option PartRow
row_in t p = find (λ (row : PartRow). row.part == p) t.rows

abbrev pub peers_of : Option PartRow → List PeerRow
peers_of None = []
peers_of (Some row) = row.peers

abbrev pub peers_in : PartTable → ℕ → List PeerRow
peers_in t p = peers_of (row_in t p)

-- the id of the part's next peer: one more than all that it ever had
abbrev pub next_of : Option PartRow → ℕ
next_of None = 0
next_of (Some row) = row.next_peer

-- a part's peer on a node, 0 where it has none
abbrev pub peer_of : Option PeerRow → ℕ
peer_of None = 0
peer_of (Some row) = row.peer

abbrev pub is_on : ℕ → PeerRow → Bool
is_on node row = row.node == node

abbrev pub peer_on : PartTable → ℕ → ℕ → ℕ
peer_on t p node = peer_of (find (is_on node) (peers_in t p))

-- the stages, by their order; the one behind each
abbrev pub place_of : Stage → ℕ
place_of ChangeLeader = 0
place_of AddPart = 1
place_of AddLearner = 2
place_of CatchUp = 3
place_of MemberAdd = 4
place_of MemberRemove = 5
place_of UpdateMeta = 6
place_of RemovePart = 7
place_of End = 8

abbrev pub is_behind : Stage → Stage → Bool
is_behind s next = place_of next == suc (place_of s)

abbrev pub is_open_on : ℕ → TaskRow → Bool
is_open_on p task = (task.part == p) && nat_lt (place_of task.stage) (place_of End)

-- the part's open move, at most one
abbrev pub task_on : PartTable → ℕ → Option TaskRow
task_on t p = find (is_open_on p) t.tasks

-- Allocate: peer j of part p is on place p - 1 + j - 1 of the nodes, counted round.
abbrev pub or_zero : Option ℕ → ℕ
or_zero None = 0
or_zero (Some n) = n

abbrev pub peer_row : List ℕ → ℕ → ℕ → PeerRow
peer_row up p j = record { peer = j; node = or_zero (slice_get up ((p + j - 2) % length up)) }

abbrev pub part_row : ℕ → List ℕ → ℕ → PartRow
part_row factor up p = record { part = p; peers = map (peer_row up p) (numbers factor); next_peer = suc factor }

abbrev pub is_kind : VidKind → Bool
is_kind Num = true
is_kind (Name most) = nat_lt 0 most && nat_le most most_bytes

-- nodes of the table, rising
abbrev pub are_rising : ℕ → List ℕ → Bool
are_rising below [] = true
are_rising below (n ∷ ns) = nat_lt below n && are_rising n ns

abbrev pub are_nodes : PartTable → List ℕ → Bool
are_nodes t up = are_rising 0 up && list_all (λ (n : ℕ). is_among n t.nodes) up

abbrev pub is_factor : ℕ → Bool
is_factor n = (n == 1) || (n == 3) || (n == 5)

-- Task: it takes a peer away from one node and puts a new one on another.
abbrev pub task_row : PartTable → ℕ → ℕ → ℕ → ℕ → TaskRow
task_row t p from to new = record { part = p; from = from; to = to; old_peer = peer_on t p from; new_peer = new; stage = ChangeLeader }

abbrev pub counted_on : ℕ → ℕ → PartRow → PartRow
counted_on p new row = if row.part == p then record row { next_peer = suc new } else row

-- Stage: behind UpdateMeta the row has the new peer in place of the old one.
abbrev pub staged : ℕ → Stage → TaskRow → TaskRow
staged p s task = if is_open_on p task then record task { stage = s } else task

abbrev pub replaced_by : Option TaskRow → PartRow → PartRow
replaced_by None row = row
replaced_by (Some task) row =
    if row.part == task.part
    then record row { peers = filter (λ (x : PeerRow). not (x.peer == task.old_peer)) row.peers ++ record { peer = task.new_peer; node = task.to } ∷ [] }
    else row

abbrev pub rows_behind : PartTable → ℕ → Stage → List PartRow
rows_behind t p RemovePart = map (replaced_by (task_on t p)) t.rows
rows_behind t p s = t.rows

abbrev pub is_next : Option TaskRow → Stage → Bool
is_next None s = false
is_next (Some task) s = is_behind task.stage s

-- When each body may be written: one row a body.
abbrev pub may_write : PartTable → MetaBody → Bool
-- at most 64 parts of 1, 3 or 5 peers, over at least as many nodes of the table; no move was ever opened
may_write t (body.Allocate parts factor up ids) =
    nat_lt 0 parts && nat_le parts most_parts && is_factor factor && are_nodes t up && nat_le factor (length up) && is_kind ids && (length t.tasks == 0)
-- the next number, up to 8
may_write t (body.Node n) = (n == suc (length t.nodes)) && nat_le n most_nodes
-- the part has a peer on the one node and none on the other, which is of the table; it has no open move; the new peer has the
-- next id
may_write t (body.Task p from to new) =
    list_any (is_on from) (peers_in t p) && not (list_any (is_on to) (peers_in t p)) && is_among to t.nodes
    && not (list_any (is_open_on p) t.tasks) && (new == next_of (row_in t p)) && nat_lt new above_peers
-- the part has an open move, and this is the stage behind its own
may_write t (body.Stage p s) = is_next (task_on t p) s

-- The table behind each: one row a body.
abbrev pub written : PartTable → MetaBody → PartTable
written t (body.Allocate parts factor up ids) = record t { rows = map (part_row factor up) (numbers parts); factor = factor; ids = ids }
written t (body.Node n) = record t { nodes = t.nodes ++ n ∷ [] }
written t (body.Task p from to new) = record t { rows = map (counted_on p new) t.rows; tasks = t.tasks ++ task_row t p from to new ∷ [] }
written t (body.Stage p s) = record t { rows = rows_behind t p s; tasks = map (staged p s) t.tasks }

-- whether the table has that peer of the part on that node, in the part's row or in its open move
abbrev pub has_peer : PartTable → ℕ → ℕ → ℕ → Bool
has_peer t p node y =
    list_any (λ (row : PeerRow). (row.peer == y) && (row.node == node)) (peers_in t p)
    || list_any (λ (task : TaskRow). is_open_on p task && (task.new_peer == y) && (task.to == node)) t.tasks

-- The ids of a part's peers, in order: a try goes to the peer at its place among them, counted round.
abbrev pub ids_in : PartTable → ℕ → List ℕ
ids_in t p = map (λ (row : PeerRow). row.peer) (peers_in t p)

abbrev pub tried : PartTable → ℕ → ℕ → Option ℕ
tried t p tries = slice_get (ids_in t p) (tries % length (ids_in t p))

-- the number of parts, and the configuration with which each begins: the peers that the last allocate body gave it
abbrev pub parts_in : PartTable → ℕ
parts_in t = length t.rows

abbrev pub first_in : PartTable → Config
first_in t = record { voters = numbers t.factor; learners = [] }
