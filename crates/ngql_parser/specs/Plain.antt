-- Lines in their plain form, as tokens: each rank, option and nullness is written, and each condition with all its parentheses.
use Rattle.std.specs.Prelude.{◌≤◌, ◌<◌, ℕ, ℤ, pos, Bool, true, false, List, [], ◌∷◌, ◌++◌, length, Some, if◌then◌else◌}
use Rattle.graph_model.specs.declared.val.Val.{Val}
use Rattle.graph_model.specs.declared.val.Val.TheVariants as val
use Rattle.ngql_syntax.specs.declared.cond.Rel.{Rel}
use Rattle.ngql_syntax.specs.declared.cond.Rel.TheVariants as rel
use Rattle.ngql_syntax.specs.declared.cond.RawStep.{RawStep}
use Rattle.ngql_syntax.specs.declared.cond.RawStep.TheVariants as step
use Rattle.ngql_syntax.specs.declared.expr.RawExpr.{RawExpr}
use Rattle.ngql_syntax.specs.declared.expr.RawExpr.TheVariants as expr
use Rattle.ngql_syntax.specs.declared.lit.Lit.{Lit}
use Rattle.ngql_syntax.specs.declared.lit.Values.{Values}
use Rattle.ngql_syntax.specs.declared.put.EdgeRow.{EdgeRow}
use Rattle.ngql_syntax.specs.declared.put.Ends.{Ends}
use Rattle.ngql_syntax.specs.declared.put.PutEdges.{PutEdges}
use Rattle.ngql_syntax.specs.declared.put.PutVertices.{PutVertices}
use Rattle.ngql_syntax.specs.declared.put.VertexRow.{VertexRow}
use Rattle.ngql_syntax.specs.declared.spanned.Spanned.{Spanned}
use Rattle.ngql_parser.specs.declared.kind.Kind.{Kind}
use Rattle.ngql_parser.specs.declared.kind.Kind.TheVariants as kind
use Rattle.ngql_parser.specs.declared.token.Token.{Token}
use Rattle.ngql_parser.specs.Tokens.{int_kind, is_kind}
use Rattle.ngql_parser.specs.Words.{words}

-- the word of a kind by a table
abbrev pub word_for : List (List ℕ × Kind) → Kind → List ℕ
word_for [] k = []
word_for (entry ∷ table) k = if is_kind entry.1 k then entry.0 else word_for table k

-- the kind of a token by itself: `properties` is one word, whosever they are
abbrev pub alone : Kind → Kind
alone kind.EdgePropsCall = kind.PropsCall
alone kind.VertexPropsCall = kind.PropsCall
alone k = k

-- a word or a mark, of which those that may be names spell themselves; a name; a number
abbrev pub mark_at : Kind → ℕ → Token
mark_at k at = record { kind = k; number = pos 0; text = word_for words (alone k); at = at }

abbrev pub mark : Kind → Token
mark k = mark_at k 0

abbrev pub plain_name : Spanned → Token
plain_name n = record { kind = kind.Name; number = pos 0; text = n.text; at = n.at }

abbrev pub number_at : ℤ → ℕ → Token
number_at n at = record { kind = int_kind (Some n); number = n; text = []; at = at }

-- a literal: a number, a flag, a text or NULL
abbrev pub plain_value : Val → ℕ → Token
plain_value (val.Int n) at = number_at n at
plain_value (val.Flag true) at = mark_at kind.True at
plain_value (val.Flag false) at = mark_at kind.False at
plain_value (val.Words text) at = record { kind = kind.Text; number = pos 0; text = text; at = at }
plain_value val.Null at = mark_at kind.Null at

abbrev pub plain_lit : Lit → Token
plain_lit l = plain_value l.val l.at

-- an id is a number or a text
abbrev pub IsId : Val → Type 0
IsId (val.Int n) = Unit {0}
IsId (val.Words text) = Unit {0}
IsId v = ⊥

-- items with commas between them
abbrev pub commas : {A : Type 0} → (A → List Token) → List A → List Token
commas plain [] = []
commas plain (a ∷ []) = plain a
commas plain (a ∷ b ∷ items) = plain a ++ mark kind.Comma ∷ commas plain (b ∷ items)

abbrev pub one_by_one : {A : Type 0} → (A → Token) → List A → List Token
one_by_one plain items = commas (λ a. plain a ∷ []) items

abbrev pub bracketed_at : ℕ → List Token → List Token
bracketed_at at tokens = mark_at kind.Open at ∷ (tokens ++ mark kind.Close ∷ [])

abbrev pub bracketed : List Token → List Token
bracketed tokens = bracketed_at 0 tokens

abbrev pub plain_values : Values → List Token
plain_values v = bracketed_at v.at (one_by_one plain_lit v.list)

abbrev pub plain_ends : Ends → List Token
plain_ends e = plain_lit e.src ∷ mark kind.Arrow ∷ plain_lit e.dst ∷ mark kind.At ∷ number_at e.rank 0 ∷ []

abbrev pub AreEnds : Ends → Type 0
AreEnds e = IsId e.src.val × IsId e.dst.val

abbrev pub plain_ine : Bool → List Token
plain_ine true = mark kind.If ∷ mark kind.Not ∷ mark kind.Exists ∷ []
plain_ine false = []

-- INSERT EDGE and INSERT VERTEX
abbrev pub plain_edge_row : EdgeRow → List Token
plain_edge_row r = plain_ends r.ends ++ mark kind.Colon ∷ plain_values r.values

abbrev pub plain_edges : PutEdges → List Token
plain_edges p = mark kind.Insert ∷ mark kind.Edge ∷ (plain_ine p.absent
    ++ plain_name p.name ∷ (bracketed (one_by_one plain_name p.columns) ++ mark kind.Values ∷ commas plain_edge_row p.rows))

abbrev pub plain_vertex_row : VertexRow → List Token
plain_vertex_row r = plain_lit r.id ∷ mark kind.Colon ∷ plain_values r.values

abbrev pub plain_vertices : PutVertices → List Token
plain_vertices p = mark kind.Insert ∷ mark kind.Vertex ∷ (plain_ine p.absent
    ++ plain_name p.name ∷ (bracketed (one_by_one plain_name p.columns) ++ mark kind.Values ∷ commas plain_vertex_row p.rows))

-- each of a list is so
abbrev pub Each : {A : Type 0} → (A → Type 0) → List A → Type 0
Each P [] = Unit {0}
Each P (a ∷ items) = P a × Each P items

-- what can be written: one row at least and 64 at most, with ids of numbers or texts
pub record IsWritable {A : Type 0} (P : A → Type 0) (rows : List A) : Type 0 where
  pub some : 0 < length rows
  pub within : length rows ≤ 64
  pub each : Each P rows

-- a condition as a tree, its steps, and its plain form
pub data Condition : Type 0 where
  test : RawExpr → Rel → Lit → Condition
  not_one : Condition → Condition
  both_of : Condition → Condition → Condition
  one_of : Condition → Condition → Condition

abbrev pub steps_of : Condition → List RawStep
steps_of (test e r l) = step.Test e r l ∷ []
steps_of (not_one a) = steps_of a ++ step.Not ∷ []
steps_of (both_of a b) = steps_of a ++ (steps_of b ++ step.And ∷ [])
steps_of (one_of a b) = steps_of a ++ (steps_of b ++ step.Or ∷ [])

abbrev pub of_edge : List Token
of_edge = mark kind.Open ∷ mark kind.Edge ∷ mark kind.Close ∷ []

abbrev pub plain_expr : RawExpr → List Token
plain_expr expr.Src = mark kind.SrcCall ∷ of_edge
plain_expr expr.Dst = mark kind.DstCall ∷ of_edge
plain_expr expr.Rank = mark kind.RankCall ∷ of_edge
plain_expr expr.Label = mark kind.TypeCall ∷ of_edge
plain_expr expr.Id = mark kind.IdCall ∷ mark kind.Open ∷ mark kind.Vertex ∷ mark kind.Close ∷ []
plain_expr (expr.Property n) = mark kind.EdgePropsCall ∷ (of_edge ++ mark kind.Dot ∷ plain_name n ∷ [])
plain_expr (expr.Named owner n) = plain_name owner ∷ mark kind.Dot ∷ plain_name n ∷ []

-- what an edge has: not the id of a vertex
abbrev pub IsOfEdge : RawExpr → Type 0
IsOfEdge expr.Id = ⊥
IsOfEdge e = Unit {0}

abbrev pub AreOfEdge : Condition → Type 0
AreOfEdge (test e r l) = IsOfEdge e
AreOfEdge (not_one a) = AreOfEdge a
AreOfEdge (both_of a b) = AreOfEdge a × AreOfEdge b
AreOfEdge (one_of a b) = AreOfEdge a × AreOfEdge b

abbrev pub rel_kind : Rel → Kind
rel_kind rel.Eq = kind.Eq
rel_kind rel.Ne = kind.Ne
rel_kind rel.Lt = kind.Lt
rel_kind rel.Le = kind.Le
rel_kind rel.Gt = kind.Gt
rel_kind rel.Ge = kind.Ge

abbrev pub plain_condition : Condition → List Token
plain_condition (test e r l) = plain_expr e ++ mark (rel_kind r) ∷ plain_lit l ∷ []
plain_condition (not_one a) = mark kind.Not ∷ bracketed (plain_condition a)
plain_condition (both_of a b) = bracketed (plain_condition a) ++ mark kind.And ∷ bracketed (plain_condition b)
plain_condition (one_of a b) = bracketed (plain_condition a) ++ mark kind.Or ∷ bracketed (plain_condition b)
