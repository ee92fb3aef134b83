use Rattle.part_machine.proofs.machine.Machine.reserve.Goals as goal

pub plan_all-requires-clause-shows : goal.plan_all-requires-clause-shows
plan_all-requires-clause-shows g c = (c.requires.shows.0, c.forget.ensures.shows c.requires.shows.0 c.requires.shows.1 c.requires.shows.2)
