-- USE, DELETE, FETCH and GO in their plain form, as tokens.
use Rattle.std.specs.Prelude.{◌≡◌, ◌≤◌, ◌<◌, ℕ, pos, List, [], ◌∷◌, ◌++◌, length, Option, Some, None, option_map}
use Rattle.ngql_syntax.specs.declared.expr.RawExpr.{RawExpr}
use Rattle.ngql_syntax.specs.declared.expr.RawExpr.TheVariants as expr
use Rattle.ngql_syntax.specs.declared.go.GoWords.{GoWords}
use Rattle.ngql_syntax.specs.declared.go.Way.{Way}
use Rattle.ngql_syntax.specs.declared.go.Way.TheVariants as way
use Rattle.ngql_syntax.specs.declared.lit.Lit.{Lit}
use Rattle.ngql_syntax.specs.declared.put.Ends.{Ends}
use Rattle.ngql_syntax.specs.declared.spanned.Spanned.{Spanned}
use Rattle.ngql_parser.specs.declared.kind.Kind.TheVariants as kind
use Rattle.ngql_parser.specs.declared.token.Token.{Token}
use Rattle.ngql_parser.specs.Plain.{mark, plain_name, plain_lit, number_at, IsId, commas, one_by_one, plain_ends, Each, IsWritable, Condition, steps_of, AreOfEdge, plain_condition, plain_expr, IsOfEdge}

abbrev pub plain_use : Spanned → List Token
plain_use n = mark kind.Use ∷ plain_name n ∷ []

-- DELETE
abbrev pub plain_del_vertex : List Lit → List Token
plain_del_vertex ids = mark kind.Delete ∷ mark kind.Vertex ∷ one_by_one plain_lit ids

abbrev pub plain_del_edge : Spanned → List Ends → List Token
plain_del_edge n ends = mark kind.Delete ∷ mark kind.Edge ∷ plain_name n ∷ commas plain_ends ends

-- what is shown: one at least
pub record IsShown (P : RawExpr → Type 0) (shown : List RawExpr) : Type 0 where
  pub some : 0 < length shown
  pub each : Each P shown

abbrev pub of_vertex : List Token
of_vertex = mark kind.Open ∷ mark kind.Vertex ∷ mark kind.Close ∷ []

abbrev pub plain_vertex_expr : RawExpr → List Token
plain_vertex_expr expr.Id = mark kind.IdCall ∷ of_vertex
plain_vertex_expr (expr.Property n) = mark kind.VertexPropsCall ∷ (of_vertex ++ mark kind.Dot ∷ plain_name n ∷ [])
plain_vertex_expr (expr.Named owner n) = plain_name owner ∷ mark kind.Dot ∷ plain_name n ∷ []
plain_vertex_expr _ = []

-- what a vertex has: its id and its columns
abbrev pub IsOfVertex : RawExpr → Type 0
IsOfVertex expr.Id = Unit {0}
IsOfVertex (expr.Property n) = Unit {0}
IsOfVertex (expr.Named owner n) = Unit {0}
IsOfVertex _ = ⊥

abbrev pub plain_yield : (RawExpr → List Token) → List RawExpr → List Token
plain_yield plain shown = mark kind.Yield ∷ commas plain shown

-- FETCH: the first id or edge, and others behind commas
abbrev pub fetch_front : Spanned → List Token
fetch_front n = mark kind.Fetch ∷ mark kind.Prop ∷ mark kind.On ∷ plain_name n ∷ []

abbrev pub others_behind : {A : Type 0} → (A → List Token) → List A → List Token
others_behind plain [] = []
others_behind plain (a ∷ items) = mark kind.Comma ∷ commas plain (a ∷ items)

-- 63 others at most
pub record AreOthers {A : Type 0} (P : A → Type 0) (others : List A) : Type 0 where
  pub within : length others ≤ 63
  pub each : Each P others

abbrev pub plain_fetch_vertex : Spanned → Lit → List Lit → List RawExpr → List Token
plain_fetch_vertex n first others shown =
    fetch_front n ++ plain_lit first ∷ (others_behind (λ l. plain_lit l ∷ []) others ++ plain_yield plain_vertex_expr shown)

abbrev pub behind_src : Ends → List Token
behind_src e = mark kind.Arrow ∷ plain_lit e.dst ∷ mark kind.At ∷ number_at e.rank 0 ∷ []

abbrev pub plain_fetch_edge : Spanned → Ends → List Ends → List RawExpr → List Token
plain_fetch_edge n first others shown =
    fetch_front n ++ plain_lit first.src ∷ (behind_src first ++ (others_behind plain_ends others ++ plain_yield plain_expr shown))

-- GO
abbrev pub steps_token : ℕ → Token
steps_token n = record { kind = kind.SmallInt; number = pos n; text = []; at = 0 }

abbrev pub plain_over : Option (List Spanned) → List Token
plain_over None = mark kind.Star ∷ []
plain_over (Some names) = one_by_one plain_name names

abbrev pub plain_way : Way → List Token
plain_way way.Outward = []
plain_way way.Inward = mark kind.Reversely ∷ []
plain_way way.Both = mark kind.Bidirect ∷ []

abbrev pub plain_keep : Option Condition → List Token
plain_keep None = []
plain_keep (Some c) = mark kind.Where ∷ plain_condition c

abbrev pub plain_go : GoWords → Option Condition → List Token
plain_go g c =
    mark kind.Go ∷ ((steps_token g.steps ∷ mark kind.Steps ∷ mark kind.From ∷ one_by_one plain_lit g.start)
    ++ ((mark kind.Over ∷ (plain_over g.over ++ plain_way g.way)) ++ (plain_keep c ++ plain_yield plain_expr g.shown)))

abbrev pub IsNamed : Option (List Spanned) → Type 0
IsNamed None = Unit {0}
IsNamed (Some names) = 0 < length names

abbrev pub IsKeep : Option Condition → Type 0
IsKeep None = Unit {0}
IsKeep (Some c) = AreOfEdge c

-- a GO that can be written
pub record IsGo (g : GoWords) (c : Option Condition) : Type 0 where
  pub steps : g.steps ≤ 8
  pub start : IsWritable (λ (l : Lit). IsId l.val) g.start
  pub over : IsNamed g.over
  pub keep : g.keep ≡ option_map steps_of c
  pub condition : IsKeep c
  pub shown : IsShown IsOfEdge g.shown
