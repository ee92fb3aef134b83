use Rattle.graph_model.specs.Keys.{in_cmp}
use Rattle.graph_model.proofs.RangeLemmas.{holds_all, runs_forward, ins_by_vertex}
use Rattle.graph_model.proofs.ranges.in_edges_of.Goals as goal

pub returns-clause-forward : goal.returns-clause-forward
returns-clause-forward c = runs_forward in_cmp (λ k. k.dst) ins_by_vertex c.in_edges_start.result c.in_edges_end.result c.args.v.now c.in_edges_start.ensures c.in_edges_end.ensures

pub returns-clause-inside : goal.returns-clause-inside
returns-clause-inside c = holds_all in_cmp (λ k. k.dst) ins_by_vertex c.in_edges_start.result c.in_edges_end.result c.args.v.now c.in_edges_start.ensures c.in_edges_end.ensures
