use Rattle.std.proofs.lemmas.Option.{slice_get_read}
use Rattle.world_mail.proofs.Marking.{set_marked}
use Rattle.world_mail.proofs.block.Block.mark.Goals as goal

pub returns-clause-sent : goal.returns-clause-sent
returns-clause-sent c = set_marked c.args.self.now.sent.items c.args.at c.index_mut.result.now (slice_get_read c.args.self.now.sent.items _ c.args.at c.index_mut.result.now c.args.self.now.sent.ok.0 c.requires c.index_mut.ensures.value)
