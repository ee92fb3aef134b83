use Rattle.world_model.proofs.Journals as journals
use Rattle.world_model.proofs.laws.journals_tell.Goals as goal

pub returns : goal.returns
returns c = journals.journals_tell
