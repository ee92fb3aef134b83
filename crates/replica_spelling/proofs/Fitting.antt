-- What fits its spelling has one.
use Rattle.std.proofs.Common.{List}
use Rattle.graph_bytes.specs.declared.id_form.IdForm.TheVariants.{Tagged}
use Rattle.graph_bytes.specs.Fits.{FitsEdge, FitsEdgeHalf, FitsHalf, FitsHalves, FitsQuery, FitsRow, FitsVal, FitsVid, HasSpellingEdge, HasSpellingEdgeHalf, HasSpellingEnds, HasSpellingHalf, HasSpellingHalves, HasSpellingQuery, HasSpellingRow, HasSpellingVal, HasSpellingVid, HasSpellingWhole}
use Rattle.graph_model.specs.declared.edge_id.EdgeId.{EdgeId}
use Rattle.graph_model.specs.declared.half.Half.{Half}
use Rattle.graph_model.specs.declared.half.Half.TheVariants.{Absent, Here}
use Rattle.graph_model.specs.declared.op.Op.{Op}
use Rattle.graph_model.specs.declared.op.Op.TheVariants as ops
use Rattle.graph_model.specs.declared.query.Query.{Query}
use Rattle.graph_model.specs.declared.query.Query.TheVariants as asked
use Rattle.graph_model.specs.declared.val.Val.{Val}
use Rattle.graph_model.specs.declared.val.Val.TheVariants.{Null, Int, Flag, Words}
use Rattle.graph_model.specs.declared.vid.Vid.{Vid}
use Rattle.graph_model.specs.declared.vid.Vid.TheVariants.{Num, Name}
use Rattle.part_keys.specs.Fits.{Fits, FitsChange, HasSpelling, HasSpellingChange}
use Rattle.part_keys.specs.declared.entry.PartEntry.{PartEntry}
use Rattle.part_keys.specs.declared.entry.PartEntry.TheVariants as entry
use Rattle.raft_core.proofs.Lists.{all_weaker}

vid : (v : Vid) → FitsVid Tagged v → HasSpellingVid Tagged v
vid (Num n) fits = tt
vid (Name n) fits = fits

val : (v : Val) → FitsVal v → HasSpellingVal v
val Null fits = tt
val (Int z) fits = tt
val (Flag b) fits = tt
val (Words t) fits = fits.1

pub row : (vals : List Val) → FitsRow vals → HasSpellingRow vals
row vals fits = (fits.0, all_weaker FitsVal HasSpellingVal val vals fits.1)

pub half : (h : Half) → FitsHalf h → HasSpellingHalf h
half Absent fits = tt
half (Here vals) fits = row vals fits

pub edge : (e : EdgeId) → FitsEdge Tagged e → HasSpellingEdge Tagged e
edge e fits = (vid e.src fits.src, fits.is, vid e.dst fits.dst)

pub whole : (x : EdgeId × Half) → FitsEdgeHalf Tagged x → HasSpellingWhole Tagged x
whole x fits = (edge x.0 fits.0, half x.1 fits.1)

-- an edge has ends
pub ends : (e : EdgeId) → HasSpellingEdge Tagged e → HasSpellingEnds Tagged e
ends e is = (is.0, is.2)

pub edge_half : (x : EdgeId × Half) → HasSpellingWhole Tagged x → HasSpellingEdgeHalf Tagged x
edge_half x is = (ends x.0 is.0, is.1)

pub ends_fit : (e : EdgeId) → FitsEdge Tagged e → HasSpellingEnds Tagged e
ends_fit e fits = ends e (edge e fits)

-- an entry
change : (op : Op) → FitsChange Tagged op → HasSpellingChange Tagged op
change (ops.PutVertex v tag vals absent) fits = (vid v fits.0, row vals fits.2)
change (ops.DelVertex v) fits = vid v fits
change (ops.PutEdges rows absent) fits = fits
change (ops.DelEdges list) fits = fits
change (ops.Read q) fits = fits

query : (q : Query) → FitsQuery Tagged q → HasSpellingQuery Tagged q
query (asked.Tag v tag) fits = vid v fits.0
query (asked.Edge e) fits = edge e fits
query (asked.Out v types) fits = (vid v fits.0, fits.1.are)
query (asked.In v types) fits = (vid v fits.0, fits.1.are)
query (asked.Both v types) fits = (vid v fits.0, fits.1.are)

halves : (list : List (EdgeId × Half)) → FitsHalves Tagged list → HasSpellingHalves Tagged list
halves list fits = all_weaker (FitsEdgeHalf Tagged) (HasSpellingEdgeHalf Tagged) (λ x is. edge_half x (whole x is)) list fits.each

pub entry_spelled : (x : PartEntry) → Fits Tagged x → HasSpelling Tagged x
entry_spelled (entry.Prime id list absent) fits = (fits.0.client, halves list fits.1)
entry_spelled (entry.Local v) fits = tt
entry_spelled (entry.Double v) fits = tt
entry_spelled (entry.Close v) fits = tt
entry_spelled (entry.Abort v) fits = tt
entry_spelled (entry.Remote source term v list) fits = (fits.0.part, halves list fits.1)
entry_spelled (entry.Fence source term v list) fits = (fits.0.part, all_weaker (FitsEdge Tagged) (HasSpellingEnds Tagged) ends_fit list fits.1.each)
entry_spelled (entry.Vertex id op) fits = (fits.0.client, change op fits.1)
entry_spelled (entry.Read id q) fits = (fits.0.client, query q fits.1)
