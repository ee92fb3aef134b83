-- The code of the machine's state.
use Rattle.std.specs.Prelude.{List, refl}
use Rattle.std.specs.FinMap.{FinMap}
use Rattle.std.specs.Coded.{Coded, code_by, coded×, coded_list}
use Rattle.first_graph.specs.Keys.{edge_cmp, call_cmp}
use Rattle.first_graph.specs.Contents.{Contents}
use Rattle.first_graph.specs.Machine.{Machine}
use Rattle.first_graph.specs.declared.change.Change.{Change}
use Rattle.first_graph.specs.declared.call.Call.{Call}
use Rattle.first_graph.specs.declared.chain.Chain.{Chain}

-- the state is stored as its four parts
abbrev pub machine_code : Coded Contents → Coded (FinMap edge_cmp Chain) → Coded (FinMap call_cmp Call) → Coded Change → Coded Machine
machine_code c p k x =
    code_by (Contents × (FinMap edge_cmp Chain × (FinMap call_cmp Call × List Change))) (coded× c (coded× p (coded× k (coded_list x))))
    (λ g. (g.contents, (g.pend, (g.calls, g.past)))) (λ t. record { contents = t.0; pend = t.1.0; calls = t.1.1.0; past = t.1.1.1 }) (λ _. refl)
