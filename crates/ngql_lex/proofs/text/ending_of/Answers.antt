use Rattle.std.proofs.Common.{◌∙◌, sym}
use Rattle.ngql_lex.proofs.TextLemmas.{unread_end, broken_end}
use Rattle.ngql_lex.proofs.text.ending_of.Goals as goal

pub returns-then-escaped-2-clause-is : goal.returns-then-escaped-2-clause-is
returns-then-escaped-2-clause-is c =
    unread_end c.args.quote c.args.good c.loop-at.at c.loop-at.escaped c.args.bytes.now c.loop-at.auto.at-end c.loop-at-test.false c.requires c.then-escaped-2.either
    ∙ sym c.loop-at.invariant

pub returns-clause-is : goal.returns-clause-is
returns-clause-is c =
    broken_end c.args.quote c.args.good c.loop-at.at c.loop-at.escaped c.args.bytes.now c.loop-at.auto.at-end c.loop-at-test.false c.requires c.if-good-bytes.false c.if-escaped-2.false
    ∙ sym c.loop-at.invariant
