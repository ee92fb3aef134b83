use Rattle.std.proofs.Common.{◌≡◌, ◌++◌, [], length, rules, ap, sym, ◌∙◌, arith}
use Rattle.std.specs.List.{filter_map}
use Rattle.part_machine.proofs.Behind.{seen_at, from_after, first_is, full, ended}
use Rattle.part_machine.proofs.primes.first_behind.Goals as goal

pub loop-v-init : goal.loop-v-init
loop-v-init c =
    let part = c.into_iter-v-iterator.ensures.into_iter_gives ∙ c.range-v-items.ensures.between tt in
    record {
      so_far = ap (λ l. l ++ filter_map (seen_at c.args.after) c.into_iter-v-iterator.result) c.new-made.ensures
          ∙ ap (filter_map (seen_at c.args.after)) part ∙ from_after c.args.after c.args.places.now.entries;
      few = omega (arith, ap length c.new-made.ensures);
    }

pub returns-then-len-eq-AT_ONCE : goal.returns-then-len-eq-AT_ONCE
returns-then-len-eq-AT_ONCE c =
    full c.loop-v.made _ _ c.loop-v.invariant.so_far (omega (arith, c.len.ensures, c.if-len-eq-AT_ONCE.true))
    ∙ first_is c.args.after c.args.places.now.entries c.range-v-items.ensures.ordered

pub returns : goal.returns
returns c =
    let e : c.loop-v.v-iterator ≡ [] = search rules in
    ended c.loop-v.made _ (ap (λ l. c.loop-v.made ++ filter_map (seen_at c.args.after) l) (sym e) ∙ c.loop-v.invariant.so_far) c.loop-v.invariant.few
    ∙ first_is c.args.after c.args.places.now.entries c.range-v-items.ensures.ordered
