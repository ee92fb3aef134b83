-- What a write that a crash cuts short makes of an image.
use Rattle.std.specs.Prelude.{ℕ, List}
use Rattle.disk_model.specs.Disk.{Torn}

-- an image from before, after a write of n bytes at this place that was done whole, in part or not at all
abbrev pub IsTornFrom : (List ℕ → Type 0) → ℕ → ℕ → List ℕ → Type 0
IsTornFrom images at n image = (old : List ℕ) × images old × Torn at n old image
