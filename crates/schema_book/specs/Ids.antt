-- The ids of vertices that a statement names.
use Rattle.std.specs.Prelude.{ℕ, ◌+◌, pos, Bool, true, false, not, nat_lt, min, [], ◌∷◌, length, take, codes, Option}
use Rattle.graph_model.specs.declared.edge_id.EdgeId.{EdgeId}
use Rattle.graph_model.specs.declared.val.Val.{Val}
use Rattle.graph_model.specs.declared.val.Val.TheVariants.{Int, Words}
use Rattle.graph_model.specs.declared.vid.Vid.{Vid}
use Rattle.graph_model.specs.declared.vid.Vid.TheVariants as vid
use Rattle.graph_model.specs.Names.{name_of}
use Rattle.part_keys.specs.declared.vid_kind.VidKind.{VidKind}
use Rattle.part_keys.specs.declared.vid_kind.VidKind.TheVariants as kinds
use Rattle.ngql_syntax.specs.declared.lit.Lit.{Lit}
use Rattle.ngql_syntax.specs.declared.put.Ends.{Ends}
use Rattle.schema_book.specs.declared.refused.BookRefused.{BookRefused}
use Rattle.schema_book.specs.declared.refused.BookRefused.TheVariants.{WrongType, LongId}
use Rattle.schema_book.specs.Refusals.{unless, first_of}

-- the greatest number of bytes of a text id in any space
abbrev pub most_bytes : ℕ
most_bytes = 32

-- whether the value is an id of the kind, however long
abbrev pub is_vid : VidKind → Val → Bool
is_vid kinds.Num (Int n) = true
is_vid (kinds.Name most) (Words text) = true
is_vid ids others = false

-- whether a text id has more bytes than the kind takes
abbrev pub is_long : VidKind → Val → Bool
is_long (kinds.Name most) (Words text) = nat_lt (min most most_bytes) (length text)
is_long ids others = false

-- the id that the value is; of a text it is the first 32 bytes, as longer ones are refused before
abbrev pub vid_of : Val → Vid
vid_of (Int n) = vid.Num n
vid_of (Words text) = vid.Name (name_of (take most_bytes text))
vid_of others = vid.Num (pos 0)

-- the edge between two ends, of the type at a place; the first type has number 1
abbrev pub edge_of : ℕ → Ends → EdgeId
edge_of place ends = record { src = vid_of ends.src.val; etype = pos (place + 1); rank = ends.rank; dst = vid_of ends.dst.val }

-- an id of the other kind is refused as a value of the column `vid`
abbrev pub wrong_vid : VidKind → Lit → Option BookRefused
wrong_vid ids lit = unless (is_vid ids lit.val) (WrongType (codes "vid"))

abbrev pub wrong_ends : VidKind → Ends → Option BookRefused
wrong_ends ids ends = first_of (wrong_vid ids ends.src ∷ wrong_vid ids ends.dst ∷ [])

-- an id that is too long is refused at its place
abbrev pub long_vid : VidKind → Lit → Option BookRefused
long_vid ids lit = unless (not (is_long ids lit.val)) (LongId lit.at)

abbrev pub long_ends : VidKind → Ends → Option BookRefused
long_ends ids ends = first_of (long_vid ids ends.src ∷ long_vid ids ends.dst ∷ [])
