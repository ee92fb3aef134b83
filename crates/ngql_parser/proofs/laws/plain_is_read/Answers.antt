use Rattle.ngql_parser.proofs.Printed.{edges_printed, vertices_printed, condition_printed}
use Rattle.ngql_parser.proofs.PrintedDefines.{space_printed, tag_printed, edge_type_printed}
use Rattle.ngql_parser.proofs.PrintedReads.{use_printed, del_vertex_printed, del_edge_printed, fetch_vertex_printed, fetch_edge_printed, go_printed}
use Rattle.ngql_parser.proofs.laws.plain_is_read.Goals as goal

pub returns : goal.returns
returns c = record { spaces = space_printed; tags = tag_printed; edge_types = edge_type_printed; edges = edges_printed; vertices = vertices_printed; select = use_printed; del_vertices = del_vertex_printed; del_edges = del_edge_printed; fetch_vertices = fetch_vertex_printed; fetch_edges = fetch_edge_printed; go = go_printed; conditions = condition_printed }
