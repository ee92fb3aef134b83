use Rattle.nebstore_app.specs.World.{start}
use Rattle.nebstore_app.specs.Steps.{at_start}
use Rattle.nebstore_app.proofs.Refines.{refines}
use Rattle.nebstore_app.proofs.Traces.{same_trace}
use Rattle.nebstore_app.proofs.laws.graph_run.Goals as goal

pub returns : goal.returns
returns c = λ events w r. let f = refines events w r in (f.h, f.goes, same_trace start at_start events)
