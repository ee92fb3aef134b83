-- What a graph contains at a moment, and what a step may change of it.
use Rattle.std.specs.Prelude.{List, [], ◌∷◌, Option, None, Some, not, refl}
use Rattle.std.specs.Ordering.{int_eq}
use Rattle.std.specs.FinMap.{FinMap, code, empty, get, insert, retain_keys}
use Rattle.std.specs.Coded.{Coded, code_by, coded×, coded_list}
use Rattle.first_graph.specs.declared.val.Val.{Val}
use Rattle.first_graph.specs.declared.half.Half.{Half}
use Rattle.first_graph.specs.declared.half.Half.TheVariants.{Absent, Here}
use Rattle.first_graph.specs.declared.edge_id.EdgeId.{EdgeId}
use Rattle.first_graph.specs.declared.tag_key.TagKey.{TagKey}
use Rattle.first_graph.specs.declared.in_key.InKey.{InKey}
use Rattle.first_graph.specs.Keys.{tag_cmp, edge_cmp, in_cmp, in_key}
use Rattle.first_graph.specs.Maps.{with_at}
use Rattle.first_graph.specs.declared.change.Change.{Change}
use Rattle.first_graph.specs.declared.change.Change.TheVariants.{Nothing, Tag, Gone, Out, In}

-- the tags' rows, and the halves that are here: those of out-edges, and those of in-edges
pub record Contents : Type 0 where
  pub verts : FinMap tag_cmp (List Val)
  pub out : FinMap edge_cmp (List Val)
  pub inn : FinMap in_cmp (List Val)

-- contents are stored as their three maps
abbrev pub contents_code : Coded TagKey → Coded EdgeId → Coded InKey → Coded Val → Coded Contents
contents_code t e i v =
    code_by (FinMap tag_cmp (List Val) × (FinMap edge_cmp (List Val) × FinMap in_cmp (List Val))) (coded× (code t (coded_list v)) (coded× (code e (coded_list v)) (code i (coded_list v))))
    (λ c. (c.verts, (c.out, c.inn))) (λ p. record { verts = p.0; out = p.1.0; inn = p.1.1 }) (λ _. refl)

abbrev pub nothing : Contents
nothing = record { verts = empty; out = empty; inn = empty }

-- the row of a half that is here
abbrev pub row_of : Half → Option (List Val)
row_of Absent = None
row_of (Here row) = Some row

-- a half that has this row, if any
abbrev pub half_of : Option (List Val) → Half
half_of None = Absent
half_of (Some row) = Here row

abbrev pub out_half : Contents → EdgeId → Half
out_half c e = half_of (get c.out e)

abbrev pub in_half : Contents → EdgeId → Half
in_half c e = half_of (get c.inn (in_key e))

-- what a change leaves
abbrev pub changed : Contents → Change → Contents
changed c Nothing = c
changed c (Tag key row) = record { verts = insert c.verts key row; out = c.out; inn = c.inn }
changed c (Gone v) = record { verts = retain_keys c.verts (λ key. not (int_eq key.vid v)); out = c.out; inn = c.inn }
changed c (Out e half) = record { verts = c.verts; out = with_at c.out e (row_of half); inn = c.inn }
changed c (In e half) = record { verts = c.verts; out = c.out; inn = with_at c.inn (in_key e) (row_of half) }

-- what some changes leave, one after another
abbrev pub after_all : Contents → List Change → Contents
after_all c [] = c
after_all c (x ∷ xs) = after_all (changed c x) xs

-- what there is after changes from the start
abbrev pub contents_after : List Change → Contents
contents_after xs = after_all nothing xs
