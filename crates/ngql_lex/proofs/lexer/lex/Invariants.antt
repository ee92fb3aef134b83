use Rattle.std.proofs.Common.{◌-◌, ◌≤◌, List, length}
use Rattle.ngql_lex.proofs.LineLemmas.{GoesOn}
use Rattle.ngql_lex.specs.Lines.{AreTokens, IsLexed}
use Rattle.ngql_lex.specs.declared.token.Token.{Token}
use Rattle.ngql_lex.proofs.lexer.lex.Given as goal

abbrev pub invariant-loop-at : goal.invariant-loop-at
invariant-loop-at l = record {
  within : l.at ≤ length l.text;
  so_far : AreTokens l.text 0 l.tokens l.at;
  only : (tokens : List Token) → IsLexed l.text tokens → GoesOn l.text l.tokens l.at tokens;
}

abbrev pub decreases-loop-at : goal.decreases-loop-at
decreases-loop-at l = length l.text - l.at
