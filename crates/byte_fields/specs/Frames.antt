-- Frames, as a file of records has them: a body behind its length, and a gate behind each body.
use Rattle.std.specs.Prelude.{◌≡◌, ◌<◌, ◌^◌, ℕ, List, [], ◌∷◌, ◌++◌, length}
use Rattle.byte_fields.specs.Fields.{number}

-- a gate behind which a record counts; any other gate is closed
abbrev pub open_gate : ℕ
open_gate = 0xa5

-- the gate that a frame ends with
abbrev pub closed_gate : ℕ
closed_gate = 0

-- what has a frame
abbrev pub HasFrame : List ℕ → Type 0
HasFrame body = length body < 2 ^ 32

-- a body behind its length
abbrev pub sized : List ℕ → List ℕ
sized body = number 4 (length body) ++ body

-- a frame is the length, the body and a closed gate
pub record IsFrame (body frame : List ℕ) : Type 0 where
  pub fits : HasFrame body
  pub whole : frame ≡ sized body ++ closed_gate ∷ []
