use Rattle.std.proofs.Common.{◌≡◌, [], length, rules, ap, sym, ◌∙◌, arith}
use Rattle.std.specs.List.{filter_map}
use Rattle.std.specs.Prelude.{nat_lt}
use Rattle.std.proofs.lemmas.Bool.{lt-ltb}
use Rattle.part_machine.specs.Chains.{standing, all_behind}
use Rattle.part_machine.proofs.Behind.{seen_at, from_after, all_are}
use Rattle.part_machine.proofs.primes.more_behind.Goals as goal

pub loop-v-init : goal.loop-v-init
loop-v-init c =
    let part = c.into_iter-v-iterator.ensures.into_iter_gives ∙ c.range-v-items.ensures.between tt in
    record {
      so_far = (let e = ap (λ l. length (filter_map (seen_at c.args.after) l)) part ∙ ap length (from_after c.args.after c.args.places.now.entries) in omega arith);
      few = omega arith;
    }

pub returns-then-count-gt-AT_ONCE : goal.returns-then-count-gt-AT_ONCE
returns-then-count-gt-AT_ONCE c =
    let s = c.loop-v.invariant.so_far in
    let a = all_are c.args.after c.args.places.now.entries c.range-v-items.ensures.ordered in
    sym (lt-ltb 64 (length (all_behind c.args.after (standing c.args.places.now.entries))) (omega (arith, c.if-count-gt-AT_ONCE.true)))

pub returns : goal.returns
returns c =
    let e : c.loop-v.v-iterator ≡ [] = search rules in
    let s = c.loop-v.invariant.so_far in
    let n : length (filter_map (seen_at c.args.after) c.loop-v.v-iterator) ≡ 0 = ap (λ l. length (filter_map (seen_at c.args.after) l)) e in
    let a = all_are c.args.after c.args.places.now.entries c.range-v-items.ensures.ordered in
    let all : c.loop-v.count ≡ length (all_behind c.args.after (standing c.args.places.now.entries)) = omega arith in
    ap (λ k. nat_lt 64 k) all
