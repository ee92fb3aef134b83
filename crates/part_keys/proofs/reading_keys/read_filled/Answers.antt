use Rattle.std.proofs.Common.{arith}
use Rattle.graph_bytes.proofs.Texts.{run_size}
use Rattle.part_keys.proofs.reading_keys.read_filled.Goals as goal

pub is_filled-requires : goal.is_filled-requires
is_filled-requires c = run_size c.args.bytes.now c.args.most c.in_ok-run.run'.now c.in_ok-run.rest.now c.in_ok-run.ensures

pub text_id-requires-clause-within : goal.text_id-requires-clause-within
text_id-requires-clause-within c =
    let size = run_size c.args.bytes.now c.args.most c.in_ok-run.run'.now c.in_ok-run.rest.now c.in_ok-run.ensures in
    grind (arith, size, c.is_filled.ensures.short, c.if-not-is_filled.false)
