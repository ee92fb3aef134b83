use Rattle.std.proofs.Common.{sym, ◌∙◌}
use Rattle.wal_disk.proofs.wal.Wal.reserve.Goals as goal

pub returns-clause-sound : goal.returns-clause-sound
returns-clause-sound g c = rw (← c.self.view_is) (λ version bodies sound file told.
    let settled = sound file (sym c.reserve.ensures.reads ∙ told) in
    record {
      records = settled.records;
      place = settled.place;
      durable = λ image left. settled.durable image (c.reserve.ensures.images.no_other image left);
    })
