-- A write of a told file, and what is told after it.
use Rattle.std.proofs.Common.{ℕ, ◌≤◌, List, length, Option, Some, None, IfSome, Result, Ok, Err, OnErr, refl}
use Rattle.std.specs.Option.{option_map}
use Rattle.disk_model.specs.Disk.{Torn, Told, written_over}
use Rattle.disk_model.specs.ReplayLaws.{torn_whole}

-- what holds anyhow holds of a refusal
pub on_err : {T E : Type 0} (r : Result T E) (P : Type 0) → P → OnErr r P
on_err (Ok x) P p = tt
on_err (Err e) P p = p

-- a write that was done whole is one that may be torn
pub told_whole : (at : ℕ) (bytes : List ℕ) (told : Option (List ℕ)) → IfSome told (λ file. at ≤ length file) → Told (Torn at (length bytes)) told (option_map (written_over at bytes) told)
told_whole at bytes None inside = refl
told_whole at bytes (Some file) inside = (written_over at bytes file, refl, torn_whole at bytes file inside)
