use Rattle.std.proofs.Common.{◌≡◌, ◌++◌, drop}
use Rattle.chain_world.specs.State.{posts_of}
use Rattle.chain_run.specs.Shows.{posted}
use Rattle.chain_run.proofs.posts.push_letters.Given as goal

-- what has left, and what is left to leave
abbrev pub invariant-loop-letter : goal.invariant-loop-letter
invariant-loop-letter l = posted l.posts ++ posts_of l.part l.term l.sender (drop l.letter-index l.letters) ≡ posted l.fn.posts ++ posts_of l.part l.term l.sender l.letters
