use Rattle.ngql_parser.proofs.PrintedForms as form
use Rattle.ngql_parser.proofs.laws.printed_is_read.Goals as goal

pub returns : goal.returns
returns c = record {
  spaces = form.space_back;
  tags = form.tag_back;
  edge_types = form.edge_type_back;
  edges = form.edges_back;
  vertices = form.vertices_back;
  select = form.select_back;
  del_vertices = form.del_vertices_back;
  del_edges = form.del_edges_back;
  fetch_vertices = form.fetch_vertices_back;
  fetch_edges = form.fetch_edges_back;
  go = form.go_back;
}
