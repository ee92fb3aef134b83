use Rattle.std.proofs.Common.{[]}
use Rattle.disk_model.specs.Replay.{history}
use Rattle.disk_model.specs.ReplayLaws.{synced_is_image}
use Rattle.disk_model.proofs.mem_disk.MemDiskDisk.sync.Goals as goal

pub returns-clause-no_other : goal.returns-clause-no_other
returns-clause-no_other c image left =
    synced_is_image c.args.self.now.first (history c.args.self.now.calls.items c.args.self.now.stored.items) (history c.note.new.calls.items c.note.new.stored.items) c.next-ok.result [] c.note.ensures.history image left
