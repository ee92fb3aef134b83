use Rattle.std.proofs.Common.{◌≡◌, [], Some, false, ap, sym, subst, ◌∙◌, ◌-◌, arith}
use Rattle.grammar.specs.Reading.{items_read}
use Rattle.ngql_parser.specs.Fronts.{behind_these}
use Rattle.ngql_parser.specs.Gives.{Gives}
use Rattle.ngql_parser.specs.Rules.{kind_of}
use Rattle.ngql_parser.specs.Kinds.{code}
use Rattle.ngql_parser.proofs.Turns.{at_first, turn_ends, turn_goes_on, turn_refused, still_room, one_room_less, over_turn, going_on}
use Rattle.ngql_parser.specs.declared.kind.Kind.TheVariants as kind
use Rattle.ngql_parser.proofs.list.read_limited.Goals as goal

pub loop-turn-init : goal.loop-turn-init
loop-turn-init g c = record {
  within = omega arith;
  so_far =
      let all : c.args.limit ≡ c.args.limit - 0 = omega arith in
      rw (c.new-made.ensures) (at_first g.T.Item.begin (g.T.Item.reading c.args.d) (code kind.Comma) c.args.d (Some c.args.limit) c.args.tokens.now
      ∙ ap (λ m. behind_these [] (items_read kind_of 0 false g.T.Item.begin (g.T.Item.reading c.args.d) (code kind.Comma) (c.args.d - 0) (Some m) c.args.tokens.now)) all);
}

pub returns-then-turn-limit : goal.returns-then-turn-limit
returns-then-turn-limit g c =
    subst (λ x. Gives c.read_beyond.result x)
    (sym (c.loop-turn.invariant.so_far ∙ over_turn g.T.Item.begin (g.T.Item.reading c.args.d) (code kind.Comma) c.loop-turn.made c.args.d c.loop-turn.turn c.args.limit c.loop-turn-test.true c.if-turn-limit.true c.loop-turn.rest.now))
    (c.read_beyond.ensures (going_on g.T.Item.begin (g.T.Item.reading c.args.d) (code kind.Comma) c.args.d c.loop-turn.turn c.loop-turn.rest.now))

pub returns-in-Err : goal.returns-in-Err
returns-in-Err g c =
    let w = c.loop-turn.invariant.within in
    turn_refused g.T.Item.begin (g.T.Item.reading c.args.d) (code kind.Comma) c.loop-turn.made c.args.d c.loop-turn.turn (Some (c.args.limit - c.loop-turn.turn)) c.loop-turn.rest.now c.loop-turn-test.true
    (still_room c.args.limit c.loop-turn.turn (omega arith)) c.loop-turn.invariant.so_far c.in-Err.e c.in-Err.ensures

pub returns-in_default : goal.returns-in_default
returns-in_default g c =
    rw c.in_ok-push.ensures.ok (turn_ends g.T.Item.begin (g.T.Item.reading c.args.d) (code kind.Comma) c.loop-turn.made c.args.d c.loop-turn.turn (Some (c.args.limit - c.loop-turn.turn)) c.loop-turn.rest.now c.loop-turn-test.true
    (still_room c.args.limit c.loop-turn.turn (omega arith)) c.loop-turn.invariant.so_far
    c.in-Ok.read.0 c.in-Ok.read.1.now c.in-Ok.ensures (sym c.in_default.ensures))

pub loop-turn-preserved : goal.loop-turn-preserved
loop-turn-preserved g c = record {
  within = omega arith;
  so_far = rw (c.in_ok-push.ensures.ok, ← one_room_less c.args.limit c.loop-turn.turn (omega arith)) (turn_goes_on g.T.Item.begin (g.T.Item.reading c.args.d) (code kind.Comma) c.loop-turn.made c.args.d c.loop-turn.turn (Some (c.args.limit - c.loop-turn.turn)) c.loop-turn.rest.now c.loop-turn-test.true
      (still_room c.args.limit c.loop-turn.turn (omega arith)) c.loop-turn.invariant.so_far
      c.in-Ok.read.0 c.in-Ok.read.1.now c.in-Some.next.now c.in-Ok.ensures (sym c.in-Some.ensures));
}
