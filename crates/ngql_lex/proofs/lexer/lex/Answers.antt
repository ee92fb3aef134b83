use Rattle.std.proofs.Common.{sym, arith, subst}
use Rattle.ngql_lex.proofs.LineLemmas.{blank_more, token_more, blank_on, token_on, bad_on, end_on}
use Rattle.ngql_lex.specs.Lines.{IsLexed}
use Rattle.ngql_lex.proofs.lexer.lex.Goals as goal

pub loop-at-preserved-then-is_blank : goal.loop-at-preserved-then-is_blank
loop-at-preserved-then-is_blank c =
    record {
      within = omega (arith, c.loop-at-test.true);
      so_far = blank_more c.without_cr-text.result.now 0 c.loop-at.tokens c.loop-at.at c.loop-at.invariant.so_far (sym c.if-is_blank.ensures);
      only = λ tokens lexed. blank_on c.without_cr-text.result.now c.loop-at.tokens c.loop-at.at tokens c.loop-at-test.true (sym c.if-is_blank.ensures) (c.loop-at.invariant.only tokens lexed);
    }

pub loop-at-preserved : goal.loop-at-preserved
loop-at-preserved c = record {
  within = omega (arith, c.loop-at-test.true, c.in-Found.ensures.within.1);
  so_far = rw c.in_ok-push-in-Found.ensures.ok (token_more c.without_cr-text.result.now 0 c.loop-at.tokens c.loop-at.at c.in-Found.kind c.in-Found.len c.loop-at.invariant.so_far (sym c.in-Found.ensures.is));
  only = λ tokens lexed. rw c.in_ok-push-in-Found.ensures.ok (token_on c.without_cr-text.result.now c.loop-at.tokens c.loop-at.at tokens c.in-Found.kind c.in-Found.len c.loop-at-test.true (sym c.if-is_blank.ensures) (sym c.in-Found.ensures.is) (c.loop-at.invariant.only tokens lexed));
}

pub returns-in-Bad-clause-only : goal.returns-in-Bad-clause-only
returns-in-Bad-clause-only c = λ tokens lexed.
    bad_on c.without_cr-text.result.now c.loop-at.tokens c.loop-at.at tokens c.in-Bad.behind c.loop-at-test.true (sym c.if-is_blank.ensures) (sym c.in-Bad.ensures.is)
    (c.loop-at.invariant.only tokens (subst (λ line. IsLexed line tokens) (sym c.without_cr-text.ensures.is) lexed))

pub returns-clause-only : goal.returns-clause-only
returns-clause-only c = λ tokens lexed. end_on c.without_cr-text.result.now c.loop-at.tokens c.loop-at.at tokens c.loop-at-test.false (c.loop-at.invariant.only tokens (subst (λ line. IsLexed line tokens) (sym c.without_cr-text.ensures.is) lexed))
