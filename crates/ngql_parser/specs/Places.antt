-- Tokens, statements and what they are made of, without their places.
use Rattle.std.specs.Prelude.{map, option_map}
use Rattle.ngql_syntax.specs.declared.cond.RawStep.{RawStep}
use Rattle.ngql_syntax.specs.declared.cond.RawStep.TheVariants as step
use Rattle.ngql_syntax.specs.declared.define.Define.{Define}
use Rattle.ngql_syntax.specs.declared.define.Define.TheVariants as define
use Rattle.ngql_syntax.specs.declared.expr.RawExpr.{RawExpr}
use Rattle.ngql_syntax.specs.declared.expr.RawExpr.TheVariants as expr
use Rattle.ngql_syntax.specs.declared.go.GoWords.{GoWords}
use Rattle.ngql_syntax.specs.declared.lit.Lit.{Lit}
use Rattle.ngql_syntax.specs.declared.lit.Values.{Values}
use Rattle.ngql_syntax.specs.declared.put.EdgeRow.{EdgeRow}
use Rattle.ngql_syntax.specs.declared.put.Ends.{Ends}
use Rattle.ngql_syntax.specs.declared.put.PutEdges.{PutEdges}
use Rattle.ngql_syntax.specs.declared.put.PutVertices.{PutVertices}
use Rattle.ngql_syntax.specs.declared.put.VertexRow.{VertexRow}
use Rattle.ngql_syntax.specs.declared.spanned.Spanned.{Spanned}
use Rattle.ngql_syntax.specs.declared.statement.Line.{Line}
use Rattle.ngql_syntax.specs.declared.statement.Statement.{Statement}
use Rattle.ngql_syntax.specs.declared.statement.Statement.TheVariants as statement
use Rattle.ngql_parser.specs.declared.token.Token.{Token}

abbrev pub bare_token : Token → Token
bare_token t = record { kind = t.kind; number = t.number; text = t.text; at = 0 }

abbrev pub bare_name : Spanned → Spanned
bare_name n = record { text = n.text; at = 0 }

abbrev pub bare_lit : Lit → Lit
bare_lit l = record { val = l.val; at = 0 }

abbrev pub bare_values : Values → Values
bare_values v = record { at = 0; list = map bare_lit v.list }

abbrev pub bare_ends : Ends → Ends
bare_ends e = record { src = bare_lit e.src; dst = bare_lit e.dst; rank = e.rank }

abbrev pub bare_vertex_row : VertexRow → VertexRow
bare_vertex_row r = record { id = bare_lit r.id; values = bare_values r.values }

abbrev pub bare_edge_row : EdgeRow → EdgeRow
bare_edge_row r = record { ends = bare_ends r.ends; values = bare_values r.values }

abbrev pub bare_vertices : PutVertices → PutVertices
bare_vertices p = record { absent = p.absent; name = bare_name p.name; columns = map bare_name p.columns; rows = map bare_vertex_row p.rows }

abbrev pub bare_edges : PutEdges → PutEdges
bare_edges p = record { absent = p.absent; name = bare_name p.name; columns = map bare_name p.columns; rows = map bare_edge_row p.rows }

abbrev pub bare_define : Define → Define
bare_define (define.Space n parts factor ids absent) = define.Space (bare_name n) parts factor ids absent
bare_define (define.Tag n columns absent) = define.Tag (bare_name n) columns absent
bare_define (define.Edge n columns absent) = define.Edge (bare_name n) columns absent

abbrev pub bare_expr : RawExpr → RawExpr
bare_expr expr.Src = expr.Src
bare_expr expr.Dst = expr.Dst
bare_expr expr.Rank = expr.Rank
bare_expr expr.Label = expr.Label
bare_expr expr.Id = expr.Id
bare_expr (expr.Property n) = expr.Property (bare_name n)
bare_expr (expr.Named owner n) = expr.Named (bare_name owner) (bare_name n)

abbrev pub bare_step : RawStep → RawStep
bare_step (step.Test e rel l) = step.Test (bare_expr e) rel (bare_lit l)
bare_step step.Not = step.Not
bare_step step.And = step.And
bare_step step.Or = step.Or

abbrev pub bare_go : GoWords → GoWords
bare_go g = record {
  steps = g.steps;
  start = map bare_lit g.start;
  over = option_map (map bare_name) g.over;
  way = g.way;
  keep = option_map (map bare_step) g.keep;
  shown = map bare_expr g.shown;
}

abbrev pub bare_statement : Statement → Statement
bare_statement (statement.Make d) = statement.Make (bare_define d)
bare_statement (statement.Select n) = statement.Select (bare_name n)
bare_statement (statement.PutVertex p) = statement.PutVertex (bare_vertices p)
bare_statement (statement.PutEdge p) = statement.PutEdge (bare_edges p)
bare_statement (statement.DelVertex ids) = statement.DelVertex (map bare_lit ids)
bare_statement (statement.DelEdge n ends) = statement.DelEdge (bare_name n) (map bare_ends ends)
bare_statement (statement.FetchVertex n ids shown) = statement.FetchVertex (bare_name n) (map bare_lit ids) (map bare_expr shown)
bare_statement (statement.FetchEdge n ends shown) = statement.FetchEdge (bare_name n) (map bare_ends ends) (map bare_expr shown)
bare_statement (statement.Go g) = statement.Go (bare_go g)

abbrev pub bare_line : Line → Line
bare_line l = record { client = l.client; collected = l.collected; statement = bare_statement l.statement }
