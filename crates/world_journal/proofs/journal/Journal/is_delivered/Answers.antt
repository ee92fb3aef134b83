use Rattle.world_journal.proofs.Showing.{delivered_as}
use Rattle.world_journal.proofs.journal.Journal.is_delivered.Goals as goal

pub returns : goal.returns
returns c codec s shows = delivered_as codec s c.args.self.now.packets.0 c.lowest.result c.is_none.result shows c.lowest.ensures c.is_none.ensures
