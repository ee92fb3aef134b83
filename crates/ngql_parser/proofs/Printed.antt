-- What is printed in its plain form is spelled.
use Rattle.std.proofs.Common.{◌≡◌, ℕ, ℤ, zero, suc, ◌+◌, ◌≤◌, Bool, true, false, not, inl, inr, List, [], ◌∷◌, ◌++◌, length, Option, Some, None, refl, sym, ap, arith, append-nil}
use Rattle.std.proofs.lemmas.Bool.{cond_both}
use Rattle.grammar.specs.Grammar.{maybe}
use Rattle.grammar.specs.Language.{Again, Spelled}
use Rattle.grammar.specs.Meaning.{Items, Spells, is_full, one_less, may_stand}
use Rattle.graph_model.specs.declared.val.Val.{Val}
use Rattle.graph_model.specs.declared.val.Val.TheVariants as val
use Rattle.ngql_syntax.specs.declared.cond.Rel.{Rel}
use Rattle.ngql_syntax.specs.declared.cond.Rel.TheVariants as rel
use Rattle.ngql_syntax.specs.declared.cond.RawStep.{RawStep}
use Rattle.ngql_syntax.specs.declared.cond.RawStep.TheVariants as step
use Rattle.ngql_syntax.specs.declared.expr.RawExpr.{RawExpr}
use Rattle.ngql_syntax.specs.declared.expr.RawExpr.TheVariants as expr
use Rattle.ngql_syntax.specs.declared.lit.Lit.{Lit}
use Rattle.ngql_syntax.specs.declared.lit.Values.{Values}
use Rattle.ngql_syntax.specs.declared.put.EdgeRow.{EdgeRow}
use Rattle.ngql_syntax.specs.declared.put.Ends.{Ends}
use Rattle.ngql_syntax.specs.declared.put.PutEdges.{PutEdges}
use Rattle.ngql_syntax.specs.declared.put.PutVertices.{PutVertices}
use Rattle.ngql_syntax.specs.declared.put.VertexRow.{VertexRow}
use Rattle.ngql_syntax.specs.declared.spanned.Spanned.{Spanned}
use Rattle.ngql_syntax.specs.declared.statement.Statement.TheVariants as statement
use Rattle.ngql_parser.specs.declared.kind.Kind.{Kind}
use Rattle.ngql_parser.specs.declared.kind.Kind.TheVariants as kind
use Rattle.ngql_parser.specs.declared.token.Token.{Token}
use Rattle.ngql_parser.specs.Kinds.{code}
use Rattle.ngql_parser.specs.Plain.{mark, mark_at, plain_name, number_at, plain_value, plain_lit, IsId, commas, one_by_one, bracketed, plain_values, plain_ends, AreEnds, plain_ine, plain_edge_row, plain_edges, plain_vertex_row, plain_vertices, Each, IsWritable, Condition, test, not_one, both_of, one_of, steps_of, of_edge, plain_expr, IsOfEdge, AreOfEdge, rel_kind, plain_condition}
use Rattle.ngql_parser.specs.Rules as rule
use Rattle.ngql_parser.specs.Rules.{Rule, ngql, kind_of, joined, in_parentheses, listed, with_commas}
use Rattle.ngql_parser.specs.Tokens.{int_kind, is_from_to}

-- what a rule spells within the limits, where Inner says what `not` spells
abbrev pub Says : {A : Type 0} → (List Token → List RawStep → Type 0) → Rule A → List Token → A → Type 0
Says Inner g ts v = Spells kind_of 0 false Inner g ts v

pub int_case : (P : Kind → Type 0) (n : ℤ) → P kind.SmallInt → P kind.Int → P (int_kind (Some n))
int_case P n small other = cond_both (is_from_to 0 8 n) kind.SmallInt kind.Int P (λ e. small) (λ e. other)

module _ (Inner : List Token → List RawStep → Type 0) where
  pub int_said : (n : ℤ) (at : ℕ) → Says Inner rule.int (number_at n at ∷ []) n
  unfolding rule.int
  int_said n at = (number_at n at, refl, int_case (λ k. may_stand false (code kind.SmallInt ∷ code kind.Int ∷ []) (code kind.WideInt ∷ []) (code k) ≡ true) n refl refl, refl)

  pub name_said : (w : Spanned) → Says Inner rule.name (plain_name w ∷ []) w
  unfolding rule.name
  name_said w = (plain_name w, refl, refl, refl)

  pub vid_said : (v : Val) (at : ℕ) → IsId v → Says Inner rule.vid (plain_value v at ∷ []) (record { val = v; at = at })
  unfolding rule.vid
  vid_said (val.Int n) at h = (
    number_at n at,
    refl,
    int_case (λ k. may_stand false (code kind.SmallInt ∷ code kind.Int ∷ code kind.Text ∷ []) (code kind.WideInt ∷ code kind.LongText ∷ []) (code k) ≡ true) n refl refl,
    ap (λ (v : Val). record { val = v; at = at }) (int_case (λ k. val.Int n ≡ rule.vid_value k (number_at n at)) n refl refl),
  )
  vid_said (val.Words text) at h = (plain_value (val.Words text) at, refl, refl, refl)
  vid_said (val.Flag b) at h = absurd h
  vid_said val.Null at h = absurd h

  pub lit_said : (v : Val) (at : ℕ) → Says Inner rule.lit (plain_value v at ∷ []) (record { val = v; at = at })
  unfolding rule.lit
  lit_said (val.Int n) at = (
    number_at n at,
    refl,
    int_case (λ k. may_stand false (code kind.SmallInt ∷ code kind.Int ∷ code kind.True ∷ code kind.False ∷ code kind.Text ∷ code kind.Null ∷ []) (code kind.WideInt ∷ code kind.LongText ∷ []) (code k) ≡ true) n refl refl,
    ap (λ (v : Val). record { val = v; at = at }) (int_case (λ k. val.Int n ≡ rule.lit_value k (number_at n at)) n refl refl),
  )
  lit_said (val.Words text) at = (plain_value (val.Words text) at, refl, refl, refl)
  lit_said (val.Flag true) at = (mark_at kind.True at, refl, refl, refl)
  lit_said (val.Flag false) at = (mark_at kind.False at, refl, refl, refl)
  lit_said val.Null at = (mark_at kind.Null at, refl, refl, refl)

  -- items with commas between them
  abbrev pub Fits : Option ℕ → ℕ → Type 0
  Fits None n = Unit {0}
  Fits (Some limit) n = n ≤ limit

  roomy : (limit : Option ℕ) (n : ℕ) → Fits limit (suc n) → (not (is_full limit) ≡ true) × Fits (one_less limit) n
  roomy None n h = (refl, tt)
  roomy (Some zero) n h = absurd (omega arith)
  roomy (Some (suc limit)) n h = (refl, omega arith)

  pub items_said : {A : Type 0} (P : A → Type 0) (g : Rule A) (plain : A → List Token) → ((a : A) → P a → Says Inner g (plain a) a) → (limit : Option ℕ) (a : A) (items : List A) → Each P (a ∷ items) → Fits limit (suc (length items)) →
      Items kind_of 0 false (Says Inner g) (code kind.Comma) limit (a ∷ items) (commas plain (a ∷ items))
  items_said P g plain said limit a [] each fits = (plain a, said a each.0, (roomy limit 0 fits).0, inl (refl, refl))
  items_said P g plain said limit a (b ∷ items) each fits =
      let p = roomy limit (suc (length items)) fits in
      (plain a, said a each.0, p.0, inr (mark kind.Comma, commas plain (b ∷ items), refl, refl, items_said P g plain said (one_less limit) b items each.1 p.1))

  pub rows_said : {A : Type 0} (P : A → Type 0) (g : Rule A) (plain : A → List Token) → ((a : A) → P a → Says Inner g (plain a) a) → (items : List A) → IsWritable P items →
      Says Inner (with_commas (Some 64) g) (commas plain items) items
  rows_said P g plain said [] w = let none = w.some in absurd (omega arith)
  rows_said P g plain said (a ∷ items) w = (a ∷ items, items_said P g plain said (Some 64) a items w.each w.within, refl)

  pub any : {A : Type 0} (items : List A) → Each (λ a. Unit {0}) items
  any [] = tt
  any (a ∷ items) = (tt, any items)

  -- a list in parentheses, within a limit
  abbrev pub AreWithin : {A : Type 0} → Option ℕ → List A → Type 0
  AreWithin limit [] = Unit {0}
  AreWithin limit (a ∷ items) = Fits limit (suc (length items))

  pub maybe_said : {A : Type 0} (limit : Option ℕ) (g : Rule A) (plain : A → List Token) → ((a : A) → Says Inner g (plain a) a) → (items : List A) → AreWithin limit items →
      Says Inner (maybe listed (with_commas limit g)) (commas plain items) items
  maybe_said limit g plain said [] w = inl (refl, refl)
  maybe_said {A = A} limit g plain said (a ∷ items) w = inr (a ∷ items, (a ∷ items, items_said (λ (b : A). Unit {0}) g plain (λ b h. said b) limit a items (any (a ∷ items)) w, refl), refl)

  pub bracketed_said : {A : Type 0} (limit : Option ℕ) (g : Rule A) (plain : A → List Token) → ((a : A) → Says Inner g (plain a) a) → (items : List A) → AreWithin limit items →
      Says Inner (in_parentheses limit g) (bracketed (commas plain items)) items
  bracketed_said limit g plain said items w = (
    mark kind.Open ∷ [],
    commas plain items ++ mark kind.Close ∷ [],
    0,
    items,
    refl,
    (mark kind.Open, refl, refl, refl),
    (commas plain items, mark kind.Close ∷ [], items, 0, refl, maybe_said limit g plain said items w, (mark kind.Close, refl, refl, refl), refl),
    refl,
  )

  -- where there is no limit
  unlimited : {A : Type 0} (items : List A) → AreWithin None items
  unlimited [] = tt
  unlimited (a ∷ items) = tt

  limited : {A : Type 0} (limit : ℕ) (items : List A) → length items ≤ limit → AreWithin (Some limit) items
  limited limit [] le = tt
  limited limit (a ∷ items) le = le

  pub limited_said : {A : Type 0} (limit : ℕ) (g : Rule A) (plain : A → List Token) → ((a : A) → Says Inner g (plain a) a) → (items : List A) → length items ≤ limit →
      Says Inner (in_parentheses (Some limit) g) (bracketed (commas plain items)) items
  limited_said limit g plain said items le = bracketed_said (Some limit) g plain said items (limited limit items le)

  vals_said : (v : Values) → Says Inner rule.vals (plain_values v) v
  unfolding rule.vals rule.vals_behind
  vals_said v = (
    mark_at kind.Open v.at ∷ [],
    one_by_one plain_lit v.list ++ mark kind.Close ∷ [],
    v.at,
    v.list,
    refl,
    (mark_at kind.Open v.at, refl, refl, refl),
    (one_by_one plain_lit v.list, mark kind.Close ∷ [], v.list, 0, refl, maybe_said None rule.lit (λ l. plain_lit l ∷ []) (λ l. lit_said l.val l.at) v.list (unlimited v.list), (mark kind.Close, refl, refl, refl), refl),
    refl,
  )

  colon_said : (v : Values) → Says Inner rule.colon_vals (mark kind.Colon ∷ plain_values v) v
  unfolding rule.colon_vals
  colon_said v = (mark kind.Colon ∷ [], plain_values v, 0, v, refl, (mark kind.Colon, refl, refl, refl), vals_said v, refl)

  pub rank_said : (n : ℤ) → Says Inner rule.rank (mark kind.At ∷ number_at n 0 ∷ []) n
  unfolding rule.rank
  rank_said n = inr (n, (mark kind.At ∷ [], number_at n 0 ∷ [], 0, n, refl, (mark kind.At, refl, refl, refl), int_said n 0, refl), refl)

  pub ends_said : (e : Ends) → AreEnds e → Says Inner rule.ends (plain_ends e) e
  unfolding rule.ends rule.ends_behind
  ends_said e h = (
    plain_lit e.src ∷ [],
    mark kind.Arrow ∷ plain_lit e.dst ∷ mark kind.At ∷ number_at e.rank 0 ∷ [],
    e.src,
    (e.dst, e.rank),
    refl,
    vid_said e.src.val e.src.at h.0,
    (
      mark kind.Arrow ∷ [],
      plain_lit e.dst ∷ mark kind.At ∷ number_at e.rank 0 ∷ [],
      0,
      (e.dst, e.rank),
      refl,
      (mark kind.Arrow, refl, refl, refl),
      (plain_lit e.dst ∷ [], mark kind.At ∷ number_at e.rank 0 ∷ [], e.dst, e.rank, refl, vid_said e.dst.val e.dst.at h.1, rank_said e.rank, refl),
      refl,
    ),
    refl,
  )

  cols_said : (ws : List Spanned) → Says Inner rule.cols (bracketed (one_by_one plain_name ws)) ws
  unfolding rule.cols
  cols_said ws = bracketed_said None rule.name (λ w. plain_name w ∷ []) name_said ws (unlimited ws)

  pub ine_said : (b : Bool) → Says Inner rule.ine (plain_ine b) b
  unfolding rule.ine
  ine_said false = inl (refl, refl)
  ine_said true = inr (
    0,
    (
      mark kind.If ∷ [],
      mark kind.Not ∷ mark kind.Exists ∷ [],
      0,
      0,
      refl,
      (mark kind.If, refl, refl, refl),
      (mark kind.Not ∷ [], mark kind.Exists ∷ [], 0, 0, refl, (mark kind.Not, refl, refl, refl), (mark kind.Exists, refl, refl, refl), refl),
      refl,
    ),
    refl,
  )

  head_said : (absent : Bool) (n : Spanned) (columns : List Spanned) → Says Inner rule.put_head (plain_ine absent ++ plain_name n ∷ bracketed (one_by_one plain_name columns)) (absent, (n, columns))
  unfolding rule.put_head
  head_said absent n columns =
      let cols = bracketed (one_by_one plain_name columns) in
      (plain_ine absent, plain_name n ∷ cols, absent, (n, columns), refl, ine_said absent, (plain_name n ∷ [], cols, n, columns, refl, name_said n, cols_said columns, refl), refl)

  edge_row_said : (r : EdgeRow) → AreEnds r.ends → Says Inner rule.edge_row (plain_edge_row r) r
  unfolding rule.edge_row
  edge_row_said r h = (plain_ends r.ends, mark kind.Colon ∷ plain_values r.values, r.ends, r.values, refl, ends_said r.ends h, colon_said r.values, refl)

  vertex_row_said : (r : VertexRow) → IsId r.id.val → Says Inner rule.vertex_row (plain_vertex_row r) r
  unfolding rule.vertex_row
  vertex_row_said r h = (plain_lit r.id ∷ [], mark kind.Colon ∷ plain_values r.values, r.id, r.values, refl, vid_said r.id.val r.id.at h, colon_said r.values, refl)

  front_said : (absent : Bool) (n : Spanned) (columns : List Spanned) (rows : List Token) →
      plain_ine absent ++ plain_name n ∷ (bracketed (one_by_one plain_name columns) ++ rows) ≡ (plain_ine absent ++ plain_name n ∷ bracketed (one_by_one plain_name columns)) ++ rows
  front_said true n columns rows = refl
  front_said false n columns rows = refl

  edges_said : (p : PutEdges) → IsWritable (λ (r : EdgeRow). AreEnds r.ends) p.rows → Says Inner rule.insert (plain_edges p) (statement.PutEdge p)
  unfolding rule.insert rule.put rule.put_edge rule.put_edges rule.edge_rows
  edges_said p w =
      let head = plain_ine p.absent ++ plain_name p.name ∷ bracketed (one_by_one plain_name p.columns) in
      let rows = mark kind.Values ∷ commas plain_edge_row p.rows in
      let body = plain_ine p.absent ++ plain_name p.name ∷ (bracketed (one_by_one plain_name p.columns) ++ rows) in (
        mark kind.Insert ∷ [],
        mark kind.Edge ∷ body,
        0,
        statement.PutEdge p,
        refl,
        (mark kind.Insert, refl, refl, refl),
        inr (
          mark kind.Edge ∷ [],
          body,
          0,
          p,
          refl,
          (mark kind.Edge, refl, refl, refl),
          (
            head,
            rows,
            (p.absent, (p.name, p.columns)),
            p.rows,
            front_said p.absent p.name p.columns rows,
            head_said p.absent p.name p.columns,
            (mark kind.Values ∷ [], commas plain_edge_row p.rows, 0, p.rows, refl, (mark kind.Values, refl, refl, refl), rows_said (λ (r : EdgeRow). AreEnds r.ends) rule.edge_row plain_edge_row edge_row_said p.rows w, refl),
            refl,
          ),
          refl,
        ),
        refl,
      )

  vertices_said : (p : PutVertices) → IsWritable (λ (r : VertexRow). IsId r.id.val) p.rows → Says Inner rule.insert (plain_vertices p) (statement.PutVertex p)
  unfolding rule.insert rule.put rule.put_vertex rule.put_vertices rule.vertex_rows
  vertices_said p w =
      let head = plain_ine p.absent ++ plain_name p.name ∷ bracketed (one_by_one plain_name p.columns) in
      let rows = mark kind.Values ∷ commas plain_vertex_row p.rows in
      let body = plain_ine p.absent ++ plain_name p.name ∷ (bracketed (one_by_one plain_name p.columns) ++ rows) in (
        mark kind.Insert ∷ [],
        mark kind.Vertex ∷ body,
        0,
        statement.PutVertex p,
        refl,
        (mark kind.Insert, refl, refl, refl),
        inl (
          mark kind.Vertex ∷ [],
          body,
          0,
          p,
          refl,
          (mark kind.Vertex, refl, refl, refl),
          (
            head,
            rows,
            (p.absent, (p.name, p.columns)),
            p.rows,
            front_said p.absent p.name p.columns rows,
            head_said p.absent p.name p.columns,
            (mark kind.Values ∷ [], commas plain_vertex_row p.rows, 0, p.rows, refl, (mark kind.Values, refl, refl, refl), rows_said (λ (r : VertexRow). IsId r.id.val) rule.vertex_row plain_vertex_row vertex_row_said p.rows w, refl),
            refl,
          ),
          refl,
        ),
        refl,
      )

  rel_said : (r : Rel) → Says Inner rule.rel_of (mark (rel_kind r) ∷ []) r
  unfolding rule.rel_of
  rel_said rel.Eq = (mark kind.Eq, refl, refl, refl)
  rel_said rel.Ne = (mark kind.Ne, refl, refl, refl)
  rel_said rel.Lt = (mark kind.Lt, refl, refl, refl)
  rel_said rel.Le = (mark kind.Le, refl, refl, refl)
  rel_said rel.Gt = (mark kind.Gt, refl, refl, refl)
  rel_said rel.Ge = (mark kind.Ge, refl, refl, refl)

  of_edge_said : Says Inner (rule.of_kind kind.Edge) of_edge 0
  unfolding rule.of_kind
  of_edge_said = (
    mark kind.Open ∷ [],
    mark kind.Edge ∷ mark kind.Close ∷ [],
    0,
    0,
    refl,
    (mark kind.Open, refl, refl, refl),
    (mark kind.Edge ∷ [], mark kind.Close ∷ [], 0, 0, refl, (mark kind.Edge, refl, refl, refl), (mark kind.Close, refl, refl, refl), refl),
    refl,
  )

  pub dot_said : (w : Spanned) → Says Inner rule.behind_dot (mark kind.Dot ∷ plain_name w ∷ []) w
  unfolding rule.behind_dot
  dot_said w = (mark kind.Dot ∷ [], plain_name w ∷ [], 0, w, refl, (mark kind.Dot, refl, refl, refl), name_said w, refl)

  call_said : (e : RawExpr) (k : Token) → Says Inner rule.call_word (k ∷ []) e → Says Inner rule.edge_expr (k ∷ of_edge) e
  unfolding rule.edge_expr rule.edge_call
  call_said e k h = inl (k ∷ [], of_edge, e, 0, refl, h, of_edge_said, refl)

  pub owner_said : (w : Spanned) → Says Inner rule.owner (plain_name w ∷ []) w
  unfolding rule.owner
  owner_said w = (plain_name w, refl, refl, refl)

  pub expr_said : (e : RawExpr) → IsOfEdge e → Says Inner rule.edge_expr (plain_expr e) e
  unfolding rule.edge_expr rule.call_word rule.edge_property rule.of_dot rule.named
  expr_said expr.Src h = call_said expr.Src (mark kind.SrcCall) (mark kind.SrcCall, refl, refl, refl)
  expr_said expr.Dst h = call_said expr.Dst (mark kind.DstCall) (mark kind.DstCall, refl, refl, refl)
  expr_said expr.Rank h = call_said expr.Rank (mark kind.RankCall) (mark kind.RankCall, refl, refl, refl)
  expr_said expr.Label h = call_said expr.Label (mark kind.TypeCall) (mark kind.TypeCall, refl, refl, refl)
  expr_said expr.Id h = absurd h
  expr_said (expr.Property w) h =
      let behind = mark kind.Dot ∷ plain_name w ∷ [] in
      inr (inl (
        mark kind.EdgePropsCall ∷ [],
        of_edge ++ behind,
        0,
        w,
        refl,
        (mark kind.EdgePropsCall, refl, refl, refl),
        (of_edge, behind, 0, w, refl, of_edge_said, dot_said w, refl),
        refl,
      ))
  expr_said (expr.Named o w) h = inr (inr (plain_name o ∷ [], mark kind.Dot ∷ plain_name w ∷ [], o, w, refl, owner_said o, dot_said w, refl))

  test_said : (e : RawExpr) (r : Rel) (l : Lit) → IsOfEdge e → Says Inner rule.comparison (plain_expr e ++ mark (rel_kind r) ∷ plain_lit l ∷ []) (step.Test e r l ∷ [])
  unfolding rule.comparison
  test_said e r l h = (
    plain_expr e,
    mark (rel_kind r) ∷ plain_lit l ∷ [],
    e,
    (r, l),
    refl,
    expr_said e h,
    (mark (rel_kind r) ∷ [], plain_lit l ∷ [], r, l, refl, rel_said r, lit_said l.val l.at, refl),
    refl,
  )

  -- one item, and two
  only_and : (ts : List Token) (s : List RawStep) → Inner ts s → Says Inner rule.and_of ts s
  unfolding rule.and_of
  only_and ts s h = (s ∷ [], (ts, (s, h, refl), refl, inl (refl, refl)), sym (append-nil s))

  two_ands : (ts us : List Token) (s r : List RawStep) → Inner ts s → Inner us r → Says Inner rule.and_of (ts ++ mark kind.And ∷ us) (s ++ (r ++ step.And ∷ []))
  unfolding rule.and_of
  two_ands ts us s r h k = (
    s ∷ r ∷ [],
    (ts, (s, h, refl), refl, inr (mark kind.And, us, refl, refl, (us, (r, k, refl), refl, inl (refl, refl)))),
    sym (ap (λ x. s ++ x) (append-nil (r ++ step.And ∷ []))),
  )

  only_or : (ts : List Token) (s : List RawStep) → Says Inner rule.and_of ts s → Says Inner rule.cond ts s
  unfolding rule.cond
  only_or ts s h = (s ∷ [], (ts, h, refl, inl (refl, refl)), sym (append-nil s))

  two_ors : (ts us : List Token) (s r : List RawStep) → Says Inner rule.and_of ts s → Says Inner rule.and_of us r → Says Inner rule.cond (ts ++ mark kind.Or ∷ us) (s ++ (r ++ step.Or ∷ []))
  unfolding rule.cond
  two_ors ts us s r h k = (
    s ∷ r ∷ [],
    (ts, h, refl, inr (mark kind.Or, us, refl, refl, (us, k, refl, inl (refl, refl)))),
    sym (ap (λ x. s ++ x) (append-nil (r ++ step.Or ∷ []))),
  )

  in_brackets_said : (ts : List Token) (s : List RawStep) → Says Inner rule.cond ts s → Says Inner rule.not_of (bracketed ts) s
  unfolding rule.not_of rule.in_brackets
  in_brackets_said ts s h = inr (inl (
    mark kind.Open ∷ [],
    ts ++ mark kind.Close ∷ [],
    0,
    s,
    refl,
    (mark kind.Open, refl, refl, refl),
    (ts, mark kind.Close ∷ [], s, 0, refl, h, (mark kind.Close, refl, refl, refl), refl),
    refl,
  ))

  not_said : (ts : List Token) (s : List RawStep) → Inner ts s → Says Inner rule.not_of (mark kind.Not ∷ ts) (s ++ step.Not ∷ [])
  unfolding rule.not_of
  not_said ts s h = inl (mark kind.Not ∷ [], ts, 0, s, refl, (mark kind.Not, refl, refl, refl), (s, h, refl), refl)

  test_not : (ts : List Token) (s : List RawStep) → Says Inner rule.comparison ts s → Says Inner rule.not_of ts s
  unfolding rule.not_of
  test_not ts s h = inr (inr h)

-- how many steps back a condition's plain form takes
abbrev pub depth : Condition → ℕ
depth (test e r l) = 1
depth (not_one a) = 2 + depth a
depth (both_of a b) = 1 + (depth a + depth b)
depth (one_of a b) = 1 + (depth a + depth b)

pub condition_said : (c : Condition) (d : ℕ) → AreOfEdge c → depth c ≤ d → Says (Again ngql false d) rule.cond (plain_condition c) (steps_of c)
condition_said (test e r l) zero h le = absurd (omega arith)
condition_said (test e r l) (suc d) h le =
    only_or (Again ngql false (suc d)) _ _ (only_and (Again ngql false (suc d)) _ _ (test_not (Again ngql false d) _ _ (test_said (Again ngql false d) e r l h)))
condition_said (not_one a) zero h le = absurd (omega arith)
condition_said (not_one a) (suc zero) h le = absurd (omega arith)
condition_said (not_one a) (suc (suc d)) h le =
    let inside : depth a ≤ d = omega arith in
    only_or (Again ngql false (suc (suc d))) _ _ (only_and (Again ngql false (suc (suc d))) _ _
    (not_said (Again ngql false (suc d)) (bracketed (plain_condition a)) (steps_of a) (in_brackets_said (Again ngql false d) (plain_condition a) (steps_of a) (condition_said a d h inside))))
condition_said (both_of a b) zero h le = absurd (omega arith)
condition_said (both_of a b) (suc d) h le =
    let left : depth a ≤ d = omega arith in
    let right : depth b ≤ d = omega arith in
    only_or (Again ngql false (suc d)) _ _ (two_ands (Again ngql false (suc d)) (bracketed (plain_condition a)) (bracketed (plain_condition b)) (steps_of a) (steps_of b)
    (in_brackets_said (Again ngql false d) (plain_condition a) (steps_of a) (condition_said a d h.0 left))
    (in_brackets_said (Again ngql false d) (plain_condition b) (steps_of b) (condition_said b d h.1 right)))
condition_said (one_of a b) zero h le = absurd (omega arith)
condition_said (one_of a b) (suc d) h le =
    let left : depth a ≤ d = omega arith in
    let right : depth b ≤ d = omega arith in
    two_ors (Again ngql false (suc d)) (bracketed (plain_condition a)) (bracketed (plain_condition b)) (steps_of a) (steps_of b)
    (only_and (Again ngql false (suc d)) _ _ (in_brackets_said (Again ngql false d) (plain_condition a) (steps_of a) (condition_said a d h.0 left)))
    (only_and (Again ngql false (suc d)) _ _ (in_brackets_said (Again ngql false d) (plain_condition b) (steps_of b) (condition_said b d h.1 right)))

pub edges_printed : (p : PutEdges) → IsWritable (λ (r : EdgeRow). AreEnds r.ends) p.rows → Spelled ngql false rule.stmt (plain_edges p) (statement.PutEdge p)
unfolding rule.stmt
edges_printed p w = (0, inr (inr (inl (edges_said (Again ngql false 0) p w))))

pub vertices_printed : (p : PutVertices) → IsWritable (λ (r : VertexRow). IsId r.id.val) p.rows → Spelled ngql false rule.stmt (plain_vertices p) (statement.PutVertex p)
unfolding rule.stmt
vertices_printed p w = (0, inr (inr (inl (vertices_said (Again ngql false 0) p w))))

pub condition_printed : (c : Condition) → AreOfEdge c → Spelled ngql false rule.cond (plain_condition c) (steps_of c)
condition_printed c h = (depth c, condition_said c (depth c) h (omega arith))
