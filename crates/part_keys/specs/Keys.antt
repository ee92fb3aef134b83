-- The keys of a part's store, as bytes. A signed number stands with its sign bit flipped, so that the order of bytes is
-- the order of numbers; a text is filled up with 0, and its length stands behind it.
use Rattle.std.specs.Prelude.{ℕ, ◌+◌, ◌%◌, ◌^◌, ◌<◌, ◌≤◌, ℤ, pos, neg_ℤ, ◌<ℤ◌, FitsSigned, List, [], ◌∷◌, ◌++◌, take}
use Rattle.std.specs.Int.{Width, w32, w64, byte_len, cast_unsigned}
use mir.Val.{bits, hbits}
use Rattle.byte_fields.specs.Fields.{number}
use Rattle.graph_bytes.specs.Names.{most_text, IsName}
use Rattle.graph_bytes.specs.Fits.{IsSmall}
use Rattle.graph_model.specs.declared.edge_id.EdgeId.{EdgeId}
use Rattle.graph_model.specs.declared.vid.Vid.{Vid}
use Rattle.graph_model.specs.declared.vid.Vid.TheVariants as ids
use Rattle.part_keys.specs.declared.key.Key.{Key}
use Rattle.part_keys.specs.declared.key.Key.TheVariants.{Tag, OutEdge, InEdge, Prime, DoublePrime, Guard, Client}
use Rattle.part_keys.specs.declared.vid_kind.VidKind.{VidKind}
use Rattle.part_keys.specs.declared.vid_kind.VidKind.TheVariants as kinds

-- the most bytes of a key: kind, part, two texts of 32 bytes with their lengths, type, rank and placeholder
abbrev pub most_key : ℕ
most_key = 83

-- a number of the width with its highest bit flipped
abbrev pub flip : Width → ℕ → ℕ
flip w n = (n + 2 ^ hbits w) % 2 ^ bits w

-- a signed number with its sign bit flipped
abbrev pub flipped : Width → ℤ → List ℕ
flipped w z = number (byte_len w) (flip w (cast_unsigned w z))

-- an id: a number, or a text filled up with 0 and its length; an id of the other kind has no such bytes
abbrev pub vertex : VidKind → Vid → List ℕ
vertex kinds.Num (ids.Num n) = flipped w64 n
vertex kinds.Num (ids.Name name) = []
vertex (kinds.Name most) (ids.Num n) = []
vertex (kinds.Name most) (ids.Name name) = take most name.bytes ++ name.len ∷ []

-- part, vertex, signed type, rank, other vertex, placeholder
abbrev pub edge_form : VidKind → ℕ → EdgeId → List ℕ
edge_form kind part e = number 3 part ++ vertex kind e.src ++ flipped w32 e.etype ++ flipped w64 e.rank ++ vertex kind e.dst ++ (0 ∷ [])

-- an edge seen from its other end, with its type negated
abbrev pub turned : EdgeId → EdgeId
turned e = record { src = e.dst; etype = neg_ℤ e.etype; rank = e.rank; dst = e.src }

-- ---- the kinds of keys, by their first byte

-- a tag's row
abbrev pub tag_kind : ℕ
tag_kind = 1

-- a half of an edge, seen from either end
abbrev pub edge_kind : ℕ
edge_kind = 2

-- the chain on an edge
abbrev pub prime_kind : ℕ
prime_kind = 3

-- the chain on an edge whose out-half is written
abbrev pub double_kind : ℕ
double_kind = 4

-- the newest term of a source part
abbrev pub guard_kind : ℕ
guard_kind = 5

-- the last call of a client
abbrev pub client_kind : ℕ
client_kind = 6

-- the bytes of a key
abbrev pub key : VidKind → Key → List ℕ
key kind (Tag part v tag) = tag_kind ∷ (number 3 part ++ vertex kind v ++ number 4 tag)
key kind (OutEdge part e) = edge_kind ∷ edge_form kind part e
key kind (InEdge part e) = edge_kind ∷ edge_form kind part (turned e)
key kind (Prime part e) = prime_kind ∷ edge_form kind part e
key kind (DoublePrime part e) = double_kind ∷ edge_form kind part e
key kind (Guard part source) = guard_kind ∷ (number 3 part ++ number 3 source)
key kind (Client part client) = client_kind ∷ (number 3 part ++ number 4 client)

-- a kind of ids: texts have at most 32 bytes
abbrev pub IsKind : VidKind → Type 0
IsKind kinds.Num = Unit {0}
IsKind (kinds.Name most) = (1 ≤ most) × (most ≤ most_text)

-- an id of the kind: a text has at most its number of bytes
abbrev pub IsOf : VidKind → Vid → Type 0
IsOf kinds.Num (ids.Num n) = FitsSigned w64 n
IsOf kinds.Num (ids.Name name) = ⊥
IsOf (kinds.Name most) (ids.Num n) = ⊥
IsOf (kinds.Name most) (ids.Name name) = IsName name × (name.len ≤ most)

-- an edge with ids of the kind and a positive type
pub record FitsKeyEdge (kind : VidKind) (e : EdgeId) : Type 0 where
  pub src : IsOf kind e.src
  pub etype : FitsSigned w32 e.etype
  pub rank : FitsSigned w64 e.rank
  pub dst : IsOf kind e.dst
  pub is : pos 0 <ℤ e.etype

-- what is a key
abbrev pub FitsKey : VidKind → Key → Type 0
FitsKey kind (Tag part v tag) = IsSmall part × IsOf kind v × (tag < 2 ^ 32)
FitsKey kind (OutEdge part e) = IsSmall part × FitsKeyEdge kind e
FitsKey kind (InEdge part e) = IsSmall part × FitsKeyEdge kind e
FitsKey kind (Prime part e) = IsSmall part × FitsKeyEdge kind e
FitsKey kind (DoublePrime part e) = IsSmall part × FitsKeyEdge kind e
FitsKey kind (Guard part source) = IsSmall part × IsSmall source
FitsKey kind (Client part client) = IsSmall part × IsSmall client

-- an id of the kind, by what the types of the numbers don't say
abbrev pub IsOfKind : VidKind → Vid → Type 0
IsOfKind kinds.Num (ids.Num n) = Unit {0}
IsOfKind kinds.Num (ids.Name name) = ⊥
IsOfKind (kinds.Name most) (ids.Num n) = ⊥
IsOfKind (kinds.Name most) (ids.Name name) = IsName name × (name.len ≤ most)
