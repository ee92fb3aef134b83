use Rattle.std.proofs.Common.{length, take, ap, sym, ◌∙◌, arith}
use Rattle.std.proofs.lemmas.List.{take_all}
use Rattle.raft_log.specs.Log.{config_index}
use Rattle.raft_log.proofs.PlaceLemmas.{last_up_to, index_up_to, up_to_there, up_to_before}
use Rattle.raft_log.proofs.log.RaftLog.config_index.Goals as goal

pub loop-left-init : goal.loop-left-init
loop-left-init c =
    let places = c.as_slice-places.result.now in
    let are = c.as_slice-places.ensures.value ∙ c.self.invariant.0 in
    record {
      within = omega arith;
      last =
          ap (last_up_to c.args.index 0) (take_all (length places) places (omega arith) ∙ are)
          ∙ index_up_to c.args.index c.self.inside.entries.items
          ∙ ap (λ v. config_index (take c.args.index v.0)) c.self.view_is;
    }

pub returns-then-place-index : goal.returns-then-place-index
returns-then-place-index c =
    let inv = c.loop-left.invariant in
    sym (up_to_there c.args.index c.loop-left.left c.as_slice-places.result.now c.loop-left-test.true inv.within c.if-place-index.true) ∙ inv.last

pub loop-left-preserved : goal.loop-left-preserved
loop-left-preserved c =
    let inv = c.loop-left.invariant in
    record {
      within = omega (arith, inv.within);
      last = sym (up_to_before c.args.index c.loop-left.left c.as_slice-places.result.now c.loop-left-test.true inv.within (omega (arith, c.if-place-index.false))) ∙ inv.last;
    }
