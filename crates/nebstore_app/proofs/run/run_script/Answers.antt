use Rattle.std.proofs.Common.{sym, subst}
use Rattle.nebstore_app.specs.World.{Run, start}
use Rattle.nebstore_app.specs.Steps.{IsGraphRun, at_start}
use Rattle.nebstore_app.proofs.Refines.{refines}
use Rattle.nebstore_app.proofs.Traces.{same_trace}
use Rattle.nebstore_app.proofs.run.run_script.Goals as goal

pub returns-clause-journal : goal.returns-clause-journal
returns-clause-journal g c =
    let w = c.run_words-outcome.new.world in
    (w, subst (λ events. Run start events w) (sym c.into_journal.ensures.events) c.run_words-outcome.ensures.reached, c.into_journal.ensures.packets)

pub returns-clause-graph : goal.returns-clause-graph
returns-clause-graph g c =
    let w = c.run_words-outcome.new.world in
    let f = refines w.events w c.run_words-outcome.ensures.reached in
    subst IsGraphRun (sym c.into_journal.ensures.events) (f.h, f.goes, same_trace start at_start w.events)

pub returns-clause-laws : goal.returns-clause-laws
returns-clause-laws g c = c.lawful.ensures c.into_journal.result.events
