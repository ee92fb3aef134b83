-- Which entries a machine takes.
use Rattle.graph_bytes.specs.Fits.{IsSmall, HasSpellingRow}
use Rattle.graph_model.specs.declared.op.Op.{Op}
use Rattle.graph_model.specs.declared.op.Op.TheVariants.{PutVertex, DelVertex}
use Rattle.part_keys.specs.declared.entry.PartEntry.{PartEntry}
use Rattle.part_keys.specs.declared.entry.PartEntry.TheVariants.{Prime, Remote, Fence, Vertex}
use Rattle.part_store.specs.Settings.{AreFrom, AreInto, AreEnds, IsVertexOf}
use Rattle.part_store.specs.declared.setting.Setting.{Setting}

-- a change of a vertex of the part, with a row that has a spelling
abbrev pub IsChange : Setting → Op → Type 0
IsChange s (PutVertex v tag vals absent) = IsVertexOf s v × HasSpellingRow vals
IsChange s (DelVertex v) = IsVertexOf s v
IsChange s other = Unit {0}

-- an entry of the part that has a spelling: clients and parts are small numbers, its edges start or end in the part
abbrev pub IsTaken : Setting → PartEntry → Type 0
IsTaken s (Prime id list absent) = IsSmall id.client × AreFrom s list
IsTaken s (Remote source term v list) = IsSmall source × AreInto s list
IsTaken s (Fence source term v edges) = IsSmall source × AreEnds s edges
IsTaken s (Vertex id op) = IsSmall id.client × IsChange s op
IsTaken s other = Unit {0}
