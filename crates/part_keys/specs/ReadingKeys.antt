-- Reading keys from left to right.
use Rattle.std.specs.Prelude.{ℕ, ℤ, pos, negsuc, Bool, List, take, drop, Result, Err, nat_lt, nat_le, int_lt, ◌==◌, ◌&&◌, ◌||◌, if◌then◌else◌}
use Rattle.std.specs.List.{list_all}
use Rattle.std.specs.Int.{Width, w32, w64, byte_len, cast_signed}
use Rattle.std.specs.Str.{is_utf8}
use Rattle.byte_fields.specs.declared.misfit.Misfit.{Misfit}
use Rattle.graph_bytes.specs.Fits.{most_small}
use Rattle.byte_fields.specs.Reading.{◌>>=◌, misfit, byte_at, number_at, run_at, id_at, both_at, made_at, such_at}
use Rattle.graph_model.specs.Names.{name_of}
use Rattle.graph_model.specs.declared.edge_id.EdgeId.{EdgeId}
use Rattle.graph_model.specs.declared.vid.Vid.{Vid}
use Rattle.graph_model.specs.declared.vid.Vid.TheVariants as ids
use Rattle.part_keys.specs.declared.key.Key.{Key}
use Rattle.part_keys.specs.declared.key.Key.TheVariants.{Tag, OutEdge, InEdge, Prime, DoublePrime, Guard, Client}
use Rattle.part_keys.specs.declared.vid_kind.VidKind.{VidKind}
use Rattle.part_keys.specs.declared.vid_kind.VidKind.TheVariants as kinds
use Rattle.part_keys.specs.Keys.{flip, turned, tag_kind, edge_kind, prime_kind, double_kind, guard_kind, client_kind}

-- a high byte that is 0, and a number from 1 to the most
abbrev pub is_part : (ℕ × ℕ) → Bool
is_part x = x.0 == 0 && (nat_lt 0 x.1 && nat_le x.1 most_small)

-- a part in 3 bytes
unfoldable pub part_at : List ℕ → Result (ℕ × List ℕ) Misfit
part_at bytes = made_at (λ x. x.1) (such_at is_part (both_at byte_at (number_at 2))) bytes

-- a signed number with its sign bit flipped
unfoldable pub flipped_at : Width → List ℕ → Result (ℤ × List ℕ) Misfit
flipped_at w bytes = made_at (λ n. cast_signed w (flip w n)) (number_at (byte_len w)) bytes

-- a byte that is 0
unfoldable pub placeholder_at : List ℕ → Result (ℕ × List ℕ) Misfit
placeholder_at bytes = such_at (λ x. x == 0) byte_at bytes

-- bytes and the length of a text in them: the length fits, the text is UTF-8, and the bytes behind it are 0
abbrev pub is_text : ℕ → (List ℕ × ℕ) → Bool
is_text most x = nat_le x.1 most && (is_utf8 (take x.1 x.0) && list_all (λ b. b == 0) (drop x.1 x.0))

-- the id of the text in such bytes
abbrev pub text_id : (List ℕ × ℕ) → Vid
text_id x = ids.Name (name_of (take x.1 x.0))

-- an id of the kind
unfoldable pub vertex_at : VidKind → List ℕ → Result (Vid × List ℕ) Misfit
vertex_at kinds.Num bytes = made_at (λ n. ids.Num n) (flipped_at w64) bytes
vertex_at (kinds.Name most) bytes = made_at text_id (such_at (is_text most) (both_at (run_at most) byte_at)) bytes

-- part, vertex, signed type, rank, other vertex, placeholder
abbrev pub form_of_fields : (((((ℕ × Vid) × ℤ) × ℤ) × Vid) × ℕ) → (ℕ × EdgeId)
form_of_fields x = (x.0.0.0.0.0, record { src = x.0.0.0.0.1; etype = x.0.0.0.1; rank = x.0.0.1; dst = x.0.1 })

-- what is behind the kind of an edge's key: its part, and the edge as that part sees it
unfoldable pub form_at : VidKind → List ℕ → Result ((ℕ × EdgeId) × List ℕ) Misfit
form_at kind bytes = made_at form_of_fields (both_at (both_at (both_at (both_at (both_at part_at (vertex_at kind)) (flipped_at w32)) (flipped_at w64)) (vertex_at kind)) placeholder_at) bytes

-- an out-edge has a positive type, an in-edge a negative one above -2^31
abbrev pub is_either : (ℕ × EdgeId) → Bool
is_either f = int_lt (pos 0) f.1.etype || (int_lt (negsuc 2147483647) f.1.etype && int_lt f.1.etype (pos 0))

-- the key of an edge as its part sees it
abbrev pub seen_key : (ℕ × EdgeId) → Key
seen_key f = if int_lt (pos 0) f.1.etype then OutEdge f.0 f.1 else InEdge f.0 (turned f.1)

-- the form of an edge with a positive type
unfoldable pub positive_at : VidKind → List ℕ → Result ((ℕ × EdgeId) × List ℕ) Misfit
positive_at kind bytes = such_at (λ f. int_lt (pos 0) f.1.etype) (form_at kind) bytes

-- a key's kind, and what is behind it
unfoldable pub key_at : VidKind → List ℕ → Result (Key × List ℕ) Misfit
key_at kind bytes = byte_at bytes >>= λ first.
    if first.0 == tag_kind then made_at (λ x. Tag x.0.0 x.0.1 x.1) (both_at (both_at part_at (vertex_at kind)) (number_at 4)) first.1
    else if first.0 == edge_kind then made_at seen_key (such_at is_either (form_at kind)) first.1
    else if first.0 == prime_kind then made_at (λ f. Prime f.0 f.1) (positive_at kind) first.1
    else if first.0 == double_kind then made_at (λ f. DoublePrime f.0 f.1) (positive_at kind) first.1
    else if first.0 == guard_kind then made_at (λ x. Guard x.0 x.1) (both_at part_at part_at) first.1
    else if first.0 == client_kind then made_at (λ x. Client x.0 x.1) (both_at part_at (id_at most_small 0)) first.1
    else Err (misfit bytes)
