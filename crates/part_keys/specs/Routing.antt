-- To which part an id, a query and an entry route, and which entries belong to a part.
use Rattle.std.specs.Prelude.{ℕ, ◌+◌, ◌*◌, ◌%◌, ◌^◌, ◌==◌, ◌&&◌, not, Bool, true, false, List, [], ◌∷◌, take}
use Rattle.std.specs.List.{list_all}
use Rattle.std.specs.Int.{w64, cast_unsigned}
use Rattle.std.specs.Int.Bits.{bit_xor}
use Rattle.graph_model.specs.declared.vid.Vid.{Vid}
use Rattle.graph_model.specs.declared.vid.Vid.TheVariants.{Num, Name}
use Rattle.graph_model.specs.declared.edge_id.EdgeId.{EdgeId}
use Rattle.graph_model.specs.declared.half.Half.{Half}
use Rattle.graph_model.specs.declared.op.Op.{Op}
use Rattle.graph_model.specs.declared.op.Op.TheVariants.{PutEdges, DelEdges, PutVertex, DelVertex, Read as ReadOp}
use Rattle.graph_model.specs.declared.query.Query.{Query}
use Rattle.graph_model.specs.declared.query.Query.TheVariants as asked
use Rattle.part_keys.specs.declared.entry.PartEntry.{PartEntry}
use Rattle.part_keys.specs.declared.entry.PartEntry.TheVariants.{Prime, Local, Double, Close, Abort, Remote, Fence, Vertex, Read}
use Rattle.part_keys.specs.declared.vid_kind.VidKind.{VidKind}
use Rattle.part_keys.specs.Kinds.{is_entry_of}

-- what the hash of a text begins with (FNV-1a of 64 bits)
abbrev pub fnv_basis : ℕ
fnv_basis = 14695981039346656037

-- what it is multiplied by at each byte
abbrev pub fnv_prime : ℕ
fnv_prime = 1099511628211

-- the hash of a text, from a hash so far: each byte is combined by exclusive or, then it is multiplied, modulo 2^64
abbrev pub hashed : ℕ → List ℕ → ℕ
hashed hash [] = hash
hashed hash (byte ∷ bytes) = hashed ((bit_xor hash byte * fnv_prime) % 2 ^ 64) bytes

-- the hash of a text (FNV-1a of 64 bits)
abbrev pub hash_of : List ℕ → ℕ
hash_of bytes = hashed fnv_basis bytes

-- a number as an unsigned one of 64 bits, and the hash of a text
abbrev pub id_number : Vid → ℕ
id_number (Num n) = cast_unsigned w64 n
id_number (Name name) = hash_of (take name.len name.bytes)

-- the part of an id: that number modulo the number of parts, plus 1
abbrev pub part_of : ℕ → Vid → ℕ
part_of parts v = id_number v % parts + 1

-- each edge starts in the part
abbrev pub all_from : ℕ → ℕ → List (EdgeId × Half) → Bool
all_from parts part list = list_all (λ (x : EdgeId × Half). part_of parts x.0.src == part) list

-- each edge ends in the part
abbrev pub all_into : ℕ → ℕ → List (EdgeId × Half) → Bool
all_into parts part list = list_all (λ (x : EdgeId × Half). part_of parts x.0.dst == part) list

-- the part in which the edges end, that of the first; 0 of no edge
abbrev pub remote_of : ℕ → List (EdgeId × Half) → ℕ
remote_of parts [] = 0
remote_of parts (x ∷ list) = part_of parts x.0.dst

-- the part of a query: that of its vertex, or of the source of its edge
abbrev pub part_of_query : ℕ → Query → ℕ
part_of_query parts (asked.Tag v tag) = part_of parts v
part_of_query parts (asked.Edge e) = part_of parts e.src
part_of_query parts (asked.Out v types) = part_of parts v
part_of_query parts (asked.In v types) = part_of parts v
part_of_query parts (asked.Both v types) = part_of parts v

-- a change of a vertex belongs to the vertex's part
abbrev pub change_belongs : ℕ → ℕ → Op → Bool
change_belongs parts part (PutVertex v tag row absent) = part_of parts v == part
change_belongs parts part (DelVertex v) = part_of parts v == part
change_belongs parts part (PutEdges rows absent) = false
change_belongs parts part (DelEdges edges) = false
change_belongs parts part (ReadOp query) = false

-- What an entry names routes to the part: a Prime's edges start there, and all end in one part; the edges of a Remote and
-- of a Fence end there; a vertex and a query are there. The other four name nothing.
abbrev pub routes_to : ℕ → ℕ → PartEntry → Bool
routes_to parts part (Prime id list absent) = all_from parts part list && all_into parts (remote_of parts list) list
routes_to parts part (Local v) = true
routes_to parts part (Double v) = true
routes_to parts part (Close v) = true
routes_to parts part (Abort v) = true
routes_to parts part (Remote source term v list) = all_into parts part list
routes_to parts part (Fence source term v edges) = list_all (λ (e : EdgeId). part_of parts e.dst == part) edges
routes_to parts part (Vertex id op) = change_belongs parts part op
routes_to parts part (Read id query) = part_of_query parts query == part

-- An entry belongs to a part of a space where it is an entry of that space, and what it names routes to the part.
abbrev pub belongs : VidKind → ℕ → ℕ → PartEntry → Bool
belongs ids parts part entry = is_entry_of ids entry && routes_to parts part entry

-- whether it is a Read: reads stand in Requests alone
abbrev pub is_read : PartEntry → Bool
is_read (Read id query) = true
is_read other = false

-- An entry may stand in the part's log where it belongs to the part and isn't a Read.
abbrev pub is_payload : VidKind → ℕ → ℕ → PartEntry → Bool
is_payload ids parts part entry = belongs ids parts part entry && not (is_read entry)
