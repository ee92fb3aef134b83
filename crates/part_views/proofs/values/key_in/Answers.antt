use Rattle.std.proofs.Common.{arith}
use Rattle.part_views.proofs.KeyRead.{key_read}
use Rattle.part_views.proofs.values.key_in.Goals as goal

pub returns : goal.returns
returns c = key_read c.args.ids c.requires c.args.bytes.now (λ i. omega (arith, c.type_inv.bytes i)) c.read_key.result c.read_key.ensures.found c.read_key.ensures.only
