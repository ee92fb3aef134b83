use Rattle.std.proofs.Common.{◌≡◌, ◌∙◌, ap, arith, List, Option, Some, None, Bor, refl, unwrap_or}
use Rattle.std.specs.Option.{option_map}
use Rattle.std.specs.Prelude.{slice_index_or}
use Rattle.disk_model.specs.Memory.{picked}
use Rattle.disk_model.specs.declared.pick.Pick.{Pick}
use Rattle.disk_model.specs.declared.pick.Pick.TheVariants.{Synced}
use Rattle.disk_model.proofs.mem_rack.MemRackRack.reopen.Goals as goal

behind : (found : Option (Bor Pick)) (other : Bor Pick) → (unwrap_or found other).now ≡ unwrap_or (option_map (λ (pick : Bor Pick). pick.now) found) other.now
behind (Some pick) other = refl
behind None other = refl

pub returns-in-Ok-clause-picked : goal.returns-in-Ok-clause-picked
returns-in-Ok-clause-picked c =
    let pick : Pick = c.unwrap_or-pick.result.now in
    let at = c.args.self.now.reopened in
    let is : pick ≡ slice_index_or c.args.self.now.picks at Synced =
    ap (λ (pick : Bor Pick). pick.now) c.unwrap_or-pick.ensures ∙ behind c.get.result _ ∙ c.get.ensures.lookup.4 (omega arith) Synced
    ∙ ap (λ (picks : List Pick). slice_index_or picks at Synced) c.as_slice.ensures in
    c.in-Ok.ensures.reads ∙ c.in-Ok.ensures.picked ∙ ap (λ (pick : Pick). picked pick c.args.old) is
