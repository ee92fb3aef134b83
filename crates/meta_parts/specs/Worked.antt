-- Bodies worked by hand, as a test of the table's rules: each may be written at its place, and the parts then have these nodes.
use Rattle.std.specs.Prelude.{◌≡◌, ℕ, ◌&&◌, Bool, true, List, [], ◌∷◌, ◌++◌, map}
use Rattle.part_keys.specs.declared.vid_kind.VidKind.TheVariants.{Num}
use Rattle.meta_parts.specs.declared.table.PeerRow.{PeerRow}
use Rattle.meta_parts.specs.declared.table.Stage.TheVariants.{AddPart, AddLearner, CatchUp, MemberAdd, MemberRemove, UpdateMeta, RemovePart, End}
use Rattle.meta_parts.specs.declared.table.PartTable.{PartTable}
use Rattle.meta_parts.specs.declared.table.MetaBody.{MetaBody}
use Rattle.meta_parts.specs.declared.table.MetaBody.TheVariants as body
use Rattle.meta_parts.specs.Table.{boot, may_write, written, peers_in, ids_in}

-- the table behind some bodies, and whether each may be written at its place
abbrev pub table_behind : PartTable → List MetaBody → PartTable
table_behind t [] = t
table_behind t (b ∷ bodies) = table_behind (written t b) bodies

abbrev pub may_write_all : PartTable → List MetaBody → Bool
may_write_all t [] = true
may_write_all t (b ∷ bodies) = may_write t b && may_write_all (written t b) bodies

-- a move, with all of its stages
abbrev pub moved : ℕ → ℕ → ℕ → ℕ → List MetaBody
moved p from to new =
    body.Task p from to new ∷ body.Stage p AddPart ∷ body.Stage p AddLearner ∷ body.Stage p CatchUp ∷ body.Stage p MemberAdd ∷ body.Stage p MemberRemove ∷ body.Stage p UpdateMeta
    ∷ body.Stage p RemovePart ∷ body.Stage p End ∷ []

-- Three parts of three peers over three nodes; two nodes more; then part 1 moves from node 1 to 4 and from 2 to 5, and part 2
-- from 3 to 4.
abbrev pub bodies : List MetaBody
bodies = body.Allocate 3 3 (1 ∷ 2 ∷ 3 ∷ []) Num ∷ body.Node 4 ∷ body.Node 5 ∷ (moved 1 1 4 4 ++ moved 2 3 4 4 ++ moved 1 2 5 5)

abbrev pub nodes_in : PartTable → ℕ → List ℕ
nodes_in t p = map (λ (row : PeerRow). row.node) (peers_in t p)

abbrev pub AreWritten : Type 0
AreWritten = may_write_all (boot 3) bodies ≡ true

abbrev pub HasMoved : ℕ → List ℕ → List ℕ → Type 0
HasMoved p ids nodes = (ids_in (table_behind (boot 3) bodies) p ≡ ids) × (nodes_in (table_behind (boot 3) bodies) p ≡ nodes)
