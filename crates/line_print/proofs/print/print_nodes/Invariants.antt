use Rattle.std.proofs.Common.{◌≡◌, ◌++◌, take}
use Rattle.std.specs.Prelude.{flat_map}
use Rattle.line_print.specs.Print.{node_text}
use Rattle.line_print.proofs.print.print_nodes.Given as goal

-- so far the nodes of the front
abbrev pub invariant-loop-node : goal.invariant-loop-node
invariant-loop-node l = l.out.items ≡ l.fn.out.items ++ flat_map node_text (take l.node-index l.nodes)
