use Rattle.std.proofs.Common.{◌≡◌, drop}
use Rattle.chain_world.specs.Events.{first_asked}
use Rattle.chain_run.specs.Shows.{posted}
use Rattle.chain_run.proofs.reading.first_asked.Given as goal

-- what is left tells
abbrev pub invariant-loop-post : goal.invariant-loop-post
invariant-loop-post l = first_asked l.part l.id (posted (drop l.post-index l.posts)) ≡ first_asked l.part l.id (posted l.posts)
