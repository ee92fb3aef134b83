use Rattle.std.proofs.Common.{◌+◌, drop}
use Rattle.maps.proofs.Present.{read_more}
use Rattle.chain_world.specs.State.{addressed}
use Rattle.part_fold.proofs.Steps.{next_of}
use Rattle.chain_run.specs.Shows.{posted}
use Rattle.chain_run.proofs.posts.push_letters.Goals as goal

pub loop-letter-preserved : goal.loop-letter-preserved
loop-letter-preserved c =
    let letters = c.args.letters.now in
    let i = c.loop-letter.letter-index in
    read_more (addressed c.args.part c.args.term c.args.sender.now) (posted c.loop-letter.posts) (posted c.push_letter.new.posts) _ c.letter-item.result (drop i letters) (drop (i + 1) letters)
    (next_of letters i c.letter-item.result c.loop-letter-test.true c.letter-item.is) c.in_ok-push_letter.ensures c.loop-letter.invariant
