use Rattle.std.proofs.Common.{ap, ◌∙◌, Some, None}
use Rattle.std.specs.FinMap.{insert}
use Rattle.maps.proofs.Keys.{nat_keys}
use Rattle.maps.proofs.Made.{made}
use Rattle.statement_run.proofs.lines.Lines.hold.Goals as goal

pub returns-clause-ok : goal.returns-clause-ok
returns-clause-ok c =
    made nat_keys c.self.inside.kept.entries c.insert.new.self.entries c.args.line (Some None) c.in_ok-insert.ensures.updates.0
    ∙ ap (λ m. insert m c.args.line None) c.self.view_is
