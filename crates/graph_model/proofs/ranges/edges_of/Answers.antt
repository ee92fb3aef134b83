use Rattle.graph_model.specs.Keys.{edge_cmp}
use Rattle.graph_model.proofs.RangeLemmas.{holds_all, runs_forward, edges_by_vertex}
use Rattle.graph_model.proofs.ranges.edges_of.Goals as goal

pub returns-clause-forward : goal.returns-clause-forward
returns-clause-forward c = runs_forward edge_cmp (λ e. e.src) edges_by_vertex c.edges_start.result c.edges_end.result c.args.v.now c.edges_start.ensures c.edges_end.ensures

pub returns-clause-inside : goal.returns-clause-inside
returns-clause-inside c = holds_all edge_cmp (λ e. e.src) edges_by_vertex c.edges_start.result c.edges_end.result c.args.v.now c.edges_start.ensures c.edges_end.ensures
