use Rattle.std.proofs.Common.{[], ◌∷◌, ◌++◌, ap, sym, subst, ◌∙◌}
use Rattle.statement_run.specs.Caller.{queued}
use Rattle.statement_run.specs.Client.{IsFree}
use Rattle.statement_run.proofs.Showing.{queued_free}
use Rattle.statement_run.proofs.client.Client.start.Goals as goal

pub returns-clause-shows : goal.returns-clause-shows
returns-clause-shows c = λ caller statement s is. c.begin.ensures.shows (queued caller statement)
    (subst (λ ws. IsFree ws c.args.self.now.last (queued caller statement)) (sym (c.in_ok-push_back.ensures.items ∙ ap (λ ws. ws ++ c.args.waiting ∷ []) c.new-queue.ensures.items)) (queued_free c.args.self.now caller s c.requires.idle statement c.args.waiting is))

pub returns-clause-made : goal.returns-clause-made
returns-clause-made c = λ caller statement s is. c.begin.ensures.made (queued caller statement)
    (subst (λ ws. IsFree ws c.args.self.now.last (queued caller statement)) (sym (c.in_ok-push_back.ensures.items ∙ ap (λ ws. ws ++ c.args.waiting ∷ []) c.new-queue.ensures.items)) (queued_free c.args.self.now caller s c.requires.idle statement c.args.waiting is))
