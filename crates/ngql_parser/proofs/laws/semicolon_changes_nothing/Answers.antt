use Rattle.ngql_parser.proofs.Closing.{closed}
use Rattle.ngql_parser.proofs.laws.semicolon_changes_nothing.Goals as goal

pub returns : goal.returns
returns c = closed
