use Rattle.std.proofs.Common.{sym, None, refl}
use Rattle.ngql_parser.specs.Kinds.{code}
use Rattle.ngql_parser.proofs.Turns.{at_first, turn_ends, turn_goes_on, turn_refused, turns_over}
use Rattle.ngql_parser.specs.declared.kind.Kind.TheVariants as kind
use Rattle.ngql_parser.proofs.list.read_several.Goals as goal

pub loop-turn-init : goal.loop-turn-init
loop-turn-init g c = rw (c.new-made.ensures) (at_first g.T.Item.begin (g.T.Item.reading c.args.d) (code kind.Comma) c.args.d None c.args.tokens.now)

pub returns-in-Err : goal.returns-in-Err
returns-in-Err g c =
    turn_refused g.T.Item.begin (g.T.Item.reading c.args.d) (code kind.Comma) c.loop-turn.made c.args.d c.loop-turn.turn None c.loop-turn.rest.now c.loop-turn-test.true refl (c.loop-turn.invariant)
    c.in-Err.e c.in-Err.ensures

pub returns-in_default : goal.returns-in_default
returns-in_default g c =
    rw c.in_ok-push.ensures.ok (turn_ends g.T.Item.begin (g.T.Item.reading c.args.d) (code kind.Comma) c.loop-turn.made c.args.d c.loop-turn.turn None c.loop-turn.rest.now c.loop-turn-test.true refl (c.loop-turn.invariant)
    c.in-Ok.read.0 c.in-Ok.read.1.now c.in-Ok.ensures (sym c.in_default.ensures))

pub loop-turn-preserved : goal.loop-turn-preserved
loop-turn-preserved g c =
    rw c.in_ok-push.ensures.ok (turn_goes_on g.T.Item.begin (g.T.Item.reading c.args.d) (code kind.Comma) c.loop-turn.made c.args.d c.loop-turn.turn None c.loop-turn.rest.now c.loop-turn-test.true refl (c.loop-turn.invariant)
    c.in-Ok.read.0 c.in-Ok.read.1.now c.in-Some.next.now c.in-Ok.ensures (sym c.in-Some.ensures))

pub returns : goal.returns
returns g c = turns_over g.T.Item.begin (g.T.Item.reading c.args.d) (code kind.Comma) c.loop-turn.made c.args.d c.loop-turn.turn None c.loop-turn.rest.now c.loop-turn-test.false (c.loop-turn.invariant)
