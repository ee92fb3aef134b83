use Rattle.std.proofs.Common.{Result, ap}
use Rattle.byte_fields.specs.declared.misfit.Misfit.{Misfit}
use Rattle.part_keys.specs.declared.entry.PartEntry.{PartEntry}
use Rattle.part_keys.specs.Spelling.{form_of}
use Rattle.replica_model.specs.Bytes.{what_fits}
use Rattle.replica_model.proofs.Told.{is_spelled, no_other}
use Rattle.replica_model.proofs.laws.bytes_are_a_spelling.Goals as goal

pub returns-clause-spelled : goal.returns-clause-spelled
returns-clause-spelled c = λ version e fits. is_spelled (form_of version) e fits

pub returns-clause-no_other : goal.returns-clause-no_other
returns-clause-no_other c = λ version e bytes is. no_other (form_of version) e bytes is

pub returns-clause-read : goal.returns-clause-read
returns-clause-read c = λ version bytes e is. ap (λ (r : Result PartEntry Misfit). what_fits r) is

pub returns-clause-none : goal.returns-clause-none
returns-clause-none c = λ version bytes misfit is. ap (λ (r : Result PartEntry Misfit). what_fits r) is
