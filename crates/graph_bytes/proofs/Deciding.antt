-- What has a spelling can be told from what has none.
use Rattle.std.proofs.Common.{ℕ, ℤ, pos, ◌^◌, List, [], ◌∷◌, length, ◌-◌, ◌++◌}
use Rattle.std.specs.Int.{w32, w64}
use Rattle.std.proofs.Math.Decide.{map_dec, dec_lt, dec_le, ℕ_discrete}
use Rattle.byte_fields.proofs.Deciding.{dec_holds, dec_never, dec_both, dec_each, dec_true, dec_signed, dec_utf8, dec_same, dec_below}
use Rattle.graph_bytes.specs.Fits.{IsSmall, FitsVid, FitsVal, FitsRow, FitsHalf, FitsEdge, FitsCall, FitsEdges, FitsEdgeHalf, FitsHalves, FitsTypes, FitsAround, FitsQuery}
use Rattle.graph_bytes.specs.Names.{IsName}
use Rattle.graph_bytes.specs.declared.id_form.IdForm.{IdForm}
use Rattle.graph_bytes.specs.declared.id_form.IdForm.TheVariants.{Bare, Tagged}
use Rattle.graph_model.specs.Edges.{are_edges, edges_in}
use Rattle.graph_model.specs.Names.{zeros, text_of}
use Rattle.graph_model.specs.Types.{IsRisingFrom}
use Rattle.graph_model.specs.declared.call_id.CallId.{CallId}
use Rattle.graph_model.specs.declared.edge_id.EdgeId.{EdgeId}
use Rattle.graph_model.specs.declared.half.Half.{Half}
use Rattle.graph_model.specs.declared.half.Half.TheVariants.{Absent, Here}
use Rattle.graph_model.specs.declared.name.Name as names
use Rattle.graph_model.specs.declared.query.Query.{Query}
use Rattle.graph_model.specs.declared.query.Query.TheVariants as asked
use Rattle.graph_model.specs.declared.val.Val.{Val}
use Rattle.graph_model.specs.declared.val.Val.TheVariants.{Null, Int, Flag, Words}
use Rattle.graph_model.specs.declared.vid.Vid.{Vid}
use Rattle.graph_model.specs.declared.vid.Vid.TheVariants.{Num, Name}

-- a client or a part is in its bounds, or it isn't
pub dec_small : (n : ℕ) → Dec (IsSmall n)
dec_small n = dec_both (dec_lt 0 n) (dec_le n 64)

dec_name : (n : names.Name) → Dec (IsName n)
dec_name n =
    map_dec (λ is. record { size = is.0; short = is.1.0; filled = is.1.1.0; utf8 = is.1.1.1 }) (λ is. (is.size, (is.short, (is.filled, is.utf8))))
    (dec_both (ℕ_discrete (length n.bytes) 32) (dec_both (dec_le n.len 32) (dec_both (dec_same n.bytes (text_of n ++ zeros (32 - n.len))) (dec_utf8 (text_of n)))))

-- an id has a spelling in this form, or it has none
pub dec_vid : (form : IdForm) (v : Vid) → Dec (FitsVid form v)
dec_vid Bare (Num n) = dec_signed w64 n
dec_vid Bare (Name n) = dec_never
dec_vid Tagged (Num n) = dec_signed w64 n
dec_vid Tagged (Name n) = dec_name n

dec_value : (v : Val) → Dec (FitsVal v)
dec_value Null = dec_holds
dec_value (Int z) = dec_signed w64 z
dec_value (Flag b) = dec_holds
dec_value (Words t) = dec_both (dec_lt (length t) (2 ^ 32)) (dec_utf8 t)

-- a row has a spelling, or it has none
pub dec_row : (vals : List Val) → Dec (FitsRow vals)
dec_row vals = dec_both (dec_lt (length vals) (2 ^ 16)) (dec_each dec_value vals)

dec_half : (h : Half) → Dec (FitsHalf h)
dec_half Absent = dec_holds
dec_half (Here vals) = dec_row vals

-- an edge has a spelling, or it has none
pub dec_edge : (form : IdForm) (e : EdgeId) → Dec (FitsEdge form e)
dec_edge form e =
    map_dec (λ x. record { src = x.0; etype = x.1.0; is = x.1.1.0; rank = x.1.1.1.0; dst = x.1.1.1.1 }) (λ x. (x.src, (x.etype, (x.is, (x.rank, x.dst)))))
    (dec_both (dec_vid form e.src) (dec_both (dec_signed w32 e.etype) (dec_both (dec_below (pos 0) e.etype) (dec_both (dec_signed w64 e.rank) (dec_vid form e.dst)))))

-- a call has a spelling, or it has none
pub dec_call : (id : CallId) → Dec (FitsCall id)
dec_call id = map_dec (λ x. record { client = x.0; count = x.1 }) (λ x. (x.client, x.count)) (dec_both (dec_small id.client) (dec_lt id.number (2 ^ 64)))

-- a list of edges has a spelling, or it has none
pub dec_edges : (form : IdForm) (list : List EdgeId) → Dec (FitsEdges form list)
dec_edges form list = map_dec (λ x. record { are = x.0; each = x.1 }) (λ x. (x.are, x.each)) (dec_both (dec_true (are_edges list)) (dec_each (dec_edge form) list))

dec_edge_half : (form : IdForm) (x : EdgeId × Half) → Dec (FitsEdgeHalf form x)
dec_edge_half form x = dec_both (dec_edge form x.0) (dec_half x.1)

-- a list of edges with their halves has a spelling, or it has none
pub dec_halves : (form : IdForm) (list : List (EdgeId × Half)) → Dec (FitsHalves form list)
dec_halves form list = map_dec (λ x. record { are = x.0; each = x.1 }) (λ x. (x.are, x.each)) (dec_both (dec_true (are_edges (edges_in list))) (dec_each (dec_edge_half form) list))

dec_rising : (least : ℤ) (types : List ℤ) → Dec (IsRisingFrom least types)
dec_rising least [] = yes tt
dec_rising least (t ∷ types) = dec_both (dec_below least t) (dec_rising t types)

dec_types : (types : List ℤ) → Dec (FitsTypes types)
dec_types types = map_dec (λ x. record { are = x.0; each = x.1 }) (λ x. (x.are, x.each)) (dec_both (dec_both (dec_le (length types) 64) (dec_rising (pos 0) types)) (dec_each (dec_signed w32) types))

dec_around : (form : IdForm) (v : Vid) (types : List ℤ) → Dec (FitsAround form v types)
dec_around form v types = dec_both (dec_vid form v) (dec_types types)

-- a query has a spelling, or it has none
pub dec_query : (form : IdForm) (q : Query) → Dec (FitsQuery form q)
dec_query form (asked.Tag v tag) = dec_both (dec_vid form v) (dec_lt tag (2 ^ 32))
dec_query form (asked.Edge e) = dec_edge form e
dec_query form (asked.Out v types) = dec_around form v types
dec_query form (asked.In v types) = dec_around form v types
dec_query form (asked.Both v types) = dec_around form v types
