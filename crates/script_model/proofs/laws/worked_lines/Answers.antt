use Rattle.std.proofs.Common.{refl}
use Rattle.script_model.proofs.laws.worked_lines.Goals as goal

pub returns : goal.returns
returns c = record {
  space = λ spelling. (refl, refl);
  replicas = λ spelling. (refl, refl);
  round = λ spelling. refl;
  starts = λ spelling start. refl;
  cut = λ spelling. (refl, refl, refl);
}
