use Rattle.part_views.proofs.Seen.{seen_is, answer_is}
use Rattle.part_views.proofs.queries.view.Goals as goal

pub returns : goal.returns
returns g c = λ p keeps. answer_is c.seen.result _ _ c.seen.ensures.seen (seen_is c.args.s c.requires.setting p _ keeps c.args.query.now c.seen.ensures.fits)
