use Rattle.world_model.proofs.Causes as causes
use Rattle.world_model.proofs.laws.answers_have_ticks.Goals as goal

pub returns : goal.returns
returns c = record { answers = causes.answers_have_ticks; replies = causes.replies_have_ticks }
