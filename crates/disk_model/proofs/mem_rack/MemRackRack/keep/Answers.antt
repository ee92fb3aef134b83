use Rattle.std.proofs.Common.{refl, ap, ◌∙◌}
use Rattle.disk_model.specs.Kept.{kept_at}
use Rattle.disk_model.proofs.Names.{kept_here, kept_elsewhere}
use Rattle.disk_model.proofs.mem_rack.MemRackRack.keep.Goals as goal

pub returns-clause-kept : goal.returns-clause-kept
returns-clause-kept c =
    let kept = c.args.self.now.kept.items in (
      kept_at c.push.new.self.items,
      refl,
      ap (λ l. kept_at l c.args.name) c.in-Ok.ensures.items ∙ kept_here kept (record { name = c.args.name; disk = c.args.disk }),
      λ other apart. ap (λ l. kept_at l other) c.in-Ok.ensures.items ∙ kept_elsewhere kept (record { name = c.args.name; disk = c.args.disk }) other apart,
    )
