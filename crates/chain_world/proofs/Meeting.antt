-- Each decision of a run meets the discipline.
use Rattle.std.specs.Prelude.{◌==◌}
use Rattle.std.proofs.lemmas.Bool.{and_parts}
use Rattle.raft_log.specs.Decided.{count_term}
use Rattle.chain_world.specs.State.{decided_of, made_by}
use Rattle.chain_world.specs.World.{are_at_most, run}
use Rattle.chain_world.specs.Invariant.Meeting.{DecisionsMeet}
use Rattle.chain_world.proofs.Members.{among_at}
use Rattle.chain_world.proofs.Decisions.{may_decide}
use Rattle.chain_world.proofs.Worlds.{always_safe}

pub decisions_meet : DecisionsMeet
decisions_meet ids parts events p t n x may made =
    let safe = always_safe ids parts events in
    let all = (and_parts (are_at_most t (decided_of (run ids parts events) p)) (n == count_term (decided_of (run ids parts events) p) t) may).0 in
    record {
      courses = safe.courses;
      sound = safe.ledger;
      meets = may_decide parts (run ids parts events) safe.courses safe.kept p t x all (safe.kept.proposed p t x (among_at x (made_by (run ids parts events) p t) n made));
    }
