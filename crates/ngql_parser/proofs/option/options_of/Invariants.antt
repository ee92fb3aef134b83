use Rattle.std.proofs.Common.{◌≡◌, drop}
use Rattle.ngql_parser.specs.Rules as rule
use Rattle.ngql_parser.proofs.option.options_of.Given as goal

abbrev pub invariant-loop-opt : goal.invariant-loop-opt
invariant-loop-opt l = rule.options_of l.opts ≡ rule.with_opts l.made (drop l.opt-index l.opts)
