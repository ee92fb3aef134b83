use Rattle.std.proofs.Common.{◌≡◌, ◌∙◌, ap, List, rules}
use Rattle.std.proofs.lemmas.Fn.{filter_same}
use Rattle.disk_model.specs.Kept.{kept_at}
use Rattle.disk_model.specs.declared.mem_rack.Kept.{Kept}
use Rattle.disk_model.proofs.Names.{others, forgotten_here, forgotten_elsewhere}
use Rattle.disk_model.proofs.mem_rack.MemRack.forget.Goals as goal

pub returns-clause-here : goal.returns-clause-here
returns-clause-here c =
    let is : c.retain.new.self.items ≡ others c.args.name c.args.self.now.kept.items = filter_same _ _ _ (λ x b f' k. search rules) _ _ c.retain.ensures.filtered in
    ap (λ (kept : List Kept). kept_at kept c.args.name) is ∙ forgotten_here c.args.self.now.kept.items c.args.name

pub returns-clause-elsewhere : goal.returns-clause-elsewhere
returns-clause-elsewhere c other apart =
    let is : c.retain.new.self.items ≡ others c.args.name c.args.self.now.kept.items = filter_same _ _ _ (λ x b f' k. search rules) _ _ c.retain.ensures.filtered in
    ap (λ (kept : List Kept). kept_at kept other) is ∙ forgotten_elsewhere c.args.self.now.kept.items c.args.name other apart
