-- Contents that have the same of one vertex.
use Rattle.std.specs.Prelude.{◌≡◌, true}
use Rattle.std.specs.Ordering.{eq_by_cmp}
use Rattle.std.specs.FinMap.{get}
use Rattle.graph_model.specs.declared.vid.Vid.{Vid}
use Rattle.graph_model.specs.declared.edge_id.EdgeId.{EdgeId}
use Rattle.graph_model.specs.declared.in_key.InKey.{InKey}
use Rattle.graph_model.specs.declared.tag_key.TagKey.{TagKey}
use Rattle.graph_model.specs.declared.query.Query.{Query}
use Rattle.graph_model.specs.declared.query.Query.TheVariants.{Tag, Edge, Out, In, Both}
use Rattle.graph_model.specs.Keys.{vid_cmp}
use Rattle.graph_model.specs.Contents.{Contents}

-- the vertex of which a query tells
abbrev pub vertex_of : Query → Vid
vertex_of (Tag v t) = v
vertex_of (Edge e) = e.src
vertex_of (Out v types) = v
vertex_of (In v types) = v
vertex_of (Both v types) = v

-- the same tags of the vertex, the same out-halves of the edges that leave it, and the same in-halves of those that enter it
pub record AlikeAt (v : Vid) (c d : Contents) : Type 0 where
  pub verts : (q : TagKey) → eq_by_cmp vid_cmp v q.vid ≡ true → get c.verts q ≡ get d.verts q
  pub out : (e : EdgeId) → eq_by_cmp vid_cmp v e.src ≡ true → get c.out e ≡ get d.out e
  pub inn : (k : InKey) → eq_by_cmp vid_cmp v k.dst ≡ true → get c.inn k ≡ get d.inn k
