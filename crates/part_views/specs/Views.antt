-- What a query finds in the store of a part.
use Rattle.std.specs.Prelude.{ℕ, ℤ, List, ◌∷◌, ◌++◌, Option, None, Some}
use Rattle.std.specs.FinMap.{get}
use Rattle.std.specs.List.{filter_map}
use Rattle.std.specs.Option.{option_and_then}
use Rattle.byte_fields.specs.Fields.{number}
use Rattle.graph_model.specs.Views.{row_alone, found_out, found_in}
use Rattle.graph_model.specs.declared.found.Found.{Found}
use Rattle.graph_model.specs.declared.query.Query.{Query}
use Rattle.graph_model.specs.declared.query.Query.TheVariants.{Tag, Edge, Out, In, Both}
use Rattle.graph_model.specs.declared.vid.Vid.{Vid}
use Rattle.kv_part.specs.Store.{Contents, under}
use Rattle.part_keys.specs.declared.key.Key.TheVariants as keys
use Rattle.part_keys.specs.declared.vid_kind.VidKind.{VidKind}
use Rattle.part_keys.specs.Keys.{key, vertex, edge_kind, FitsKey}
use Rattle.part_rules.specs.View.{row_here}
use Rattle.part_store.specs.Settings.{IsVertexOf, IsFrom}
use Rattle.part_store.specs.declared.setting.Setting.{Setting}
use Rattle.part_views.specs.Reading.{row_in, out_of, in_of}

-- a query about a vertex or an edge of the part
abbrev pub IsAsked : Setting → Query → Type 0
IsAsked s (Tag v t) = IsVertexOf s v
IsAsked s (Edge e) = IsFrom s e
IsAsked s (Out v types) = IsVertexOf s v
IsAsked s (In v types) = IsVertexOf s v
IsAsked s (Both v types) = IsVertexOf s v

-- the key at which a query looks, where it looks at one, is one of the part
abbrev pub FitsQuery : Setting → Query → Type 0
FitsQuery s (Tag v t) = FitsKey s.ids (keys.Tag s.part v t)
FitsQuery s (Edge e) = FitsKey s.ids (keys.OutEdge s.part e)
FitsQuery s others = Unit {0}

-- how the keys of a vertex's edges begin, those that leave it and those that enter it
abbrev pub edges_prefix : Setting → Vid → List ℕ
edges_prefix s v = edge_kind ∷ (number 3 s.part ++ vertex s.ids v)

-- what a pair shows of the edges that leave the vertex
abbrev pub out_shown : VidKind → Vid → List ℤ → List ℕ × List ℕ → Option Found
out_shown ids v types pair = option_and_then (found_out v types) (out_of ids pair)

-- and of those that enter it
abbrev pub in_shown : VidKind → Vid → List ℤ → List ℕ × List ℕ → Option Found
in_shown ids v types pair = option_and_then (found_in v types) (option_and_then row_here (in_of ids pair))

-- the edges that leave the vertex, and those that enter it
abbrev pub outs : Setting → Contents → Vid → List ℤ → List Found
outs s m v types = filter_map (out_shown s.ids v types) (under (edges_prefix s v) m)

abbrev pub ins : Setting → Contents → Vid → List ℤ → List Found
ins s m v types = filter_map (in_shown s.ids v types) (under (edges_prefix s v) m)

-- what a query finds
abbrev pub seen : Setting → Contents → Query → List Found
seen s m (Tag v t) = row_alone None (option_and_then row_in (get m (key s.ids (keys.Tag s.part v t))))
seen s m (Edge e) = row_alone (Some e) (option_and_then row_in (get m (key s.ids (keys.OutEdge s.part e))))
seen s m (Out v types) = outs s m v types
seen s m (In v types) = ins s m v types
seen s m (Both v types) = ins s m v types ++ outs s m v types
