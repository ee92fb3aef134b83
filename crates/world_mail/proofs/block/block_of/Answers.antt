use Rattle.std.proofs.Common.{◌<◌, ◌≤◌, ◌+◌, ◌-◌, ◌/◌, length, refl, ap, arith}
use Rattle.std.proofs.lemmas.Option.{slice_get_read}
use Rattle.world_mail.specs.declared.block.Block.{Block}
use Rattle.world_mail.proofs.Numbering.{between_first, found_by, before_at, behind_at}
use Rattle.world_mail.proofs.block.block_of.Goals as goal

pub loop-high-init : goal.loop-high-init
loop-high-init c = between_first c.args.blocks.now c.args.number c.requires.numbered c.requires.sent

pub loop-high-preserved-then-blocks-middle : goal.loop-high-preserved-then-blocks-middle
loop-high-preserved-then-blocks-middle c =
    let i = c.loop-high.invariant in
    let within : c.loop-high.low + (c.loop-high.high - c.loop-high.low) / 2 < c.loop-high.high = omega (arith, i.some) in
    let there = slice_get_read c.args.blocks.now (length c.args.blocks.now) _ c.index-blocks-middle.result refl (let n : c.loop-high.low + (c.loop-high.high - c.loop-high.low) / 2 < length c.args.blocks.now = omega (arith, within, i.within) in n) c.index-blocks-middle.is in
    record {
      some = within;
      within = i.within;
      before = before_at c.args.blocks.now c.args.number _ c.index-blocks-middle.result there (let e = ap (λ (z : Block). z.first) c.index-blocks-middle.is in omega (arith, e, c.if-blocks-middle.true));
      behind = i.behind;
    }

pub loop-high-preserved : goal.loop-high-preserved
loop-high-preserved c =
    let i = c.loop-high.invariant in
    let within : c.loop-high.low + (c.loop-high.high - c.loop-high.low) / 2 < c.loop-high.high = omega (arith, i.some) in
    let there = slice_get_read c.args.blocks.now (length c.args.blocks.now) _ c.index-blocks-middle.result refl (let n : c.loop-high.low + (c.loop-high.high - c.loop-high.low) / 2 < length c.args.blocks.now = omega (arith, within, i.within) in n) c.index-blocks-middle.is in
    record {
      some = (let n : c.loop-high.low < c.loop-high.low + (c.loop-high.high - c.loop-high.low) / 2 = omega (arith, c.loop-high-test.true) in n);
      within = (let n : c.loop-high.low + (c.loop-high.high - c.loop-high.low) / 2 ≤ length c.args.blocks.now = omega (arith, within, i.within) in n);
      before = i.before;
      behind = behind_at c.args.blocks.now c.args.number _ c.index-blocks-middle.result there (let e = ap (λ (z : Block). z.first) c.index-blocks-middle.is in omega (arith, e, c.if-blocks-middle.false));
    }

pub returns-clause-has : goal.returns-clause-has
returns-clause-has c = found_by c.args.blocks.now c.args.number c.loop-high.low c.loop-high.high c.requires.numbered c.requires.sent c.loop-high.invariant c.loop-high-test.false
