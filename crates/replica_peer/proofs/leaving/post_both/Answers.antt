use Rattle.std.proofs.Common.{None, map}
use Rattle.std.specs.Option.{option_to_list}
use Rattle.replica_model.specs.Letters.{addressed}
use Rattle.replica_model.specs.Stepped.{leaving}
use Rattle.replica_state.specs.Leaving.{leaving_of}
use Rattle.replica_state.specs.Places.{number_held}
use Rattle.replica_peer.proofs.Oks.{on_ok}
use Rattle.replica_peer.proofs.Posting.{both_left}
use Rattle.replica_peer.proofs.leaving.post_both.Goals as goal

pub returns : goal.returns
returns c =
    on_ok c.post.result _ _
    (both_left (addressed c.args.by.part c.args.by.me c.args.by.term (number_held c.args.hints.now.entries) None) leaving (map leaving_of c.args.leaves.now) (map leaving_of c.post_all.new.leaves) (map leaving_of c.post.new.leaves)
    c.args.list.items (option_to_list c.args.last) c.in_ok-post_all.ensures)
    c.post.ensures
