use Rattle.std.proofs.Common.{◌≡◌, ◌-◌, false, drop}
use Rattle.ngql_lex.specs.Texts.{ending, later}
use Rattle.ngql_lex.proofs.text.ending_of.Given as goal

abbrev pub invariant-loop-at : goal.invariant-loop-at
invariant-loop-at l =
    ending l.quote false l.good l.bytes ≡ later l.at (ending l.quote l.escaped (l.good - l.at) (drop l.at l.bytes))
