-- What the pairs of a part's store stand for.
use Rattle.std.specs.Prelude.{ℕ, List, Option, None, Some}
use Rattle.std.specs.Option.{option_map}
use Rattle.std.specs.Result.{result_ok}
use Rattle.byte_fields.specs.Reading.{number_at, both_at, whole}
use Rattle.graph_bytes.specs.Reading.{row_at, half_at}
use Rattle.graph_model.specs.Keys.{in_key}
use Rattle.graph_model.specs.declared.edge_id.EdgeId.{EdgeId}
use Rattle.graph_model.specs.declared.half.Half.{Half}
use Rattle.graph_model.specs.declared.in_key.InKey.{InKey}
use Rattle.graph_model.specs.declared.val.Val.{Val}
use Rattle.part_keys.specs.declared.in_half.InHalf.{InHalf}
use Rattle.part_keys.specs.declared.key.Key.{Key}
use Rattle.part_keys.specs.declared.key.Key.TheVariants.{OutEdge, InEdge}
use Rattle.part_keys.specs.declared.vid_kind.VidKind.{VidKind}
use Rattle.part_keys.specs.ReadingKeys.{key_at}
use Rattle.part_store.specs.Reads.{read_of}

-- the key that bytes are
abbrev pub key_in : VidKind → List ℕ → Option Key
key_in ids bytes = result_ok (whole (key_at ids) bytes)

-- the row that a value is
abbrev pub row_in : List ℕ → Option (List Val)
row_in bytes = read_of (row_at bytes)

-- an in-half's number, and the half
abbrev pub numbered : ℕ × Half → InHalf
numbered x = record { v = x.0; half = x.1 }

-- the in-half that a value is
abbrev pub half_in : List ℕ → Option InHalf
half_in bytes = option_map numbered (read_of (both_at (number_at 8) half_at bytes))

-- an out-half, by its key
abbrev pub out_by : Option Key → Option (List Val) → Option (EdgeId × List Val)
out_by (Some (OutEdge part e)) row = option_map (λ r. (e, r)) row
out_by other row = None

-- the out-half that a pair is
abbrev pub out_of : VidKind → List ℕ × List ℕ → Option (EdgeId × List Val)
out_of ids pair = out_by (key_in ids pair.0) (row_in pair.1)

-- an in-half, by its key
abbrev pub in_by : Option Key → Option InHalf → Option (InKey × InHalf)
in_by (Some (InEdge part e)) half = option_map (λ h. (in_key e, h)) half
in_by other half = None

-- the in-half that a pair is
abbrev pub in_of : VidKind → List ℕ × List ℕ → Option (InKey × InHalf)
in_of ids pair = in_by (key_in ids pair.0) (half_in pair.1)
