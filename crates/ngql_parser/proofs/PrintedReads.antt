-- USE, DELETE, FETCH and GO in their plain form are spelled.
use Rattle.std.proofs.Common.{◌≡◌, ℕ, pos, ◌≤◌, false, inl, inr, List, [], ◌∷◌, ◌++◌, Option, Some, None, option_map, refl, sym, subst, arith, append-nil, nat_le}
use Rattle.std.proofs.lemmas.Bool.{cond-true, le-leb}
use Rattle.grammar.specs.Grammar.{maybe}
use Rattle.grammar.specs.Language.{Again, Spelled}
use Rattle.ngql_syntax.specs.declared.cond.RawStep.{RawStep}
use Rattle.ngql_syntax.specs.declared.expr.RawExpr.{RawExpr}
use Rattle.ngql_syntax.specs.declared.expr.RawExpr.TheVariants as expr
use Rattle.ngql_syntax.specs.declared.go.GoWords.{GoWords}
use Rattle.ngql_syntax.specs.declared.go.Way.{Way}
use Rattle.ngql_syntax.specs.declared.go.Way.TheVariants as way
use Rattle.ngql_syntax.specs.declared.lit.Lit.{Lit}
use Rattle.ngql_syntax.specs.declared.put.Ends.{Ends}
use Rattle.ngql_syntax.specs.declared.spanned.Spanned.{Spanned}
use Rattle.ngql_syntax.specs.declared.statement.Statement.TheVariants as statement
use Rattle.ngql_parser.specs.declared.fetch.Behind.TheVariants as more
use Rattle.ngql_parser.specs.declared.kind.Kind.TheVariants as kind
use Rattle.ngql_parser.specs.declared.token.Token.{Token}
use Rattle.ngql_parser.specs.Plain.{mark, plain_name, plain_lit, number_at, IsId, commas, one_by_one, plain_ends, AreEnds, IsWritable, Condition, steps_of, plain_condition, plain_expr, IsOfEdge}
use Rattle.ngql_parser.specs.PlainReads.{plain_use, plain_del_vertex, plain_del_edge, IsShown, of_vertex, plain_vertex_expr, IsOfVertex, plain_yield, fetch_front, others_behind, AreOthers, plain_fetch_vertex, behind_src, plain_fetch_edge, steps_token, plain_over, plain_way, plain_keep, plain_go, IsNamed, IsKeep, IsGo}
use Rattle.ngql_parser.specs.Rules as rule
use Rattle.ngql_parser.specs.Rules.{Rule, ngql, kind_of, listed, with_commas, ◌>>◌}
use Rattle.ngql_parser.proofs.Printed.{Says, name_said, vid_said, rank_said, items_said, rows_said, ends_said, expr_said, dot_said, owner_said, any, depth, condition_said}

module _ (Inner : List Token → List RawStep → Type 0) where
  ids_said : (ids : List Lit) → IsWritable (λ (l : Lit). IsId l.val) ids → Says Inner rule.vids (one_by_one plain_lit ids) ids
  unfolding rule.vids
  ids_said ids w = rows_said Inner (λ (l : Lit). IsId l.val) rule.vid (λ l. plain_lit l ∷ []) (λ l h. vid_said Inner l.val l.at h) ids w

  use_said : (n : Spanned) → Says Inner rule.use_of (plain_use n) (statement.Select n)
  unfolding rule.use_of
  use_said n = (mark kind.Use ∷ [], plain_name n ∷ [], 0, n, refl, (mark kind.Use, refl, refl, refl), name_said Inner n, refl)

  del_vertex_said : (ids : List Lit) → IsWritable (λ (l : Lit). IsId l.val) ids → Says Inner rule.delete (plain_del_vertex ids) (statement.DelVertex ids)
  unfolding rule.delete rule.del rule.del_vertex
  del_vertex_said ids w =
      let behind = one_by_one plain_lit ids in
      (mark kind.Delete ∷ [], mark kind.Vertex ∷ behind, 0, statement.DelVertex ids, refl, (mark kind.Delete, refl, refl, refl), inr (mark kind.Vertex ∷ [], behind, 0, ids, refl, (mark kind.Vertex, refl, refl, refl), ids_said ids w, refl), refl)

  del_edge_said : (n : Spanned) (ends : List Ends) → IsWritable AreEnds ends → Says Inner rule.delete (plain_del_edge n ends) (statement.DelEdge n ends)
  unfolding rule.delete rule.del rule.del_edge rule.ends_list
  del_edge_said n ends w =
      let behind = commas plain_ends ends in (
        mark kind.Delete ∷ [],
        mark kind.Edge ∷ plain_name n ∷ behind,
        0,
        statement.DelEdge n ends,
        refl,
        (mark kind.Delete, refl, refl, refl),
        inl (
          mark kind.Edge ∷ [],
          plain_name n ∷ behind,
          0,
          (n, ends),
          refl,
          (mark kind.Edge, refl, refl, refl),
          (plain_name n ∷ [], behind, n, ends, refl, name_said Inner n, rows_said Inner AreEnds rule.ends plain_ends (ends_said Inner) ends w, refl),
          refl,
        ),
        refl,
      )

  -- what is shown
  shown_said : (g : Rule RawExpr) (P : RawExpr → Type 0) (plain : RawExpr → List Token) → ((e : RawExpr) → P e → Says Inner g (plain e) e) → (shown : List RawExpr) → IsShown P shown →
      Says Inner (with_commas None g) (commas plain shown) shown
  shown_said g P plain said [] w = let none = w.some in absurd (omega arith)
  shown_said g P plain said (e ∷ shown) w = (e ∷ shown, items_said Inner P g plain said None e shown w.each tt, refl)

  edge_shown_said : (e : RawExpr) → IsOfEdge e → Says Inner rule.edge_shown (plain_expr e) e
  unfolding rule.edge_shown rule.alias
  edge_shown_said e h = (plain_expr e, [], e, None, sym (append-nil (plain_expr e)), expr_said Inner e h, inl (refl, refl), refl)

  edge_yield_said : (shown : List RawExpr) → IsShown IsOfEdge shown → Says Inner rule.edge_yield (plain_yield plain_expr shown) shown
  unfolding rule.edge_yield
  edge_yield_said shown w = (mark kind.Yield ∷ [], commas plain_expr shown, 0, shown, refl, (mark kind.Yield, refl, refl, refl), shown_said rule.edge_shown IsOfEdge plain_expr edge_shown_said shown w, refl)

  of_vertex_said : Says Inner (rule.of_kind kind.Vertex) of_vertex 0
  unfolding rule.of_kind
  of_vertex_said = (
    mark kind.Open ∷ [],
    mark kind.Vertex ∷ mark kind.Close ∷ [],
    0,
    0,
    refl,
    (mark kind.Open, refl, refl, refl),
    (mark kind.Vertex ∷ [], mark kind.Close ∷ [], 0, 0, refl, (mark kind.Vertex, refl, refl, refl), (mark kind.Close, refl, refl, refl), refl),
    refl,
  )

  vertex_expr_said : (e : RawExpr) → IsOfVertex e → Says Inner rule.vertex_expr (plain_vertex_expr e) e
  unfolding rule.vertex_expr rule.vertex_call rule.vertex_property rule.of_dot rule.named
  vertex_expr_said expr.Src h = absurd h
  vertex_expr_said expr.Dst h = absurd h
  vertex_expr_said expr.Rank h = absurd h
  vertex_expr_said expr.Label h = absurd h
  vertex_expr_said expr.Id h = inl (mark kind.IdCall ∷ [], of_vertex, 0, 0, refl, (mark kind.IdCall, refl, refl, refl), of_vertex_said, refl)
  vertex_expr_said (expr.Property w) h =
      let behind = mark kind.Dot ∷ plain_name w ∷ [] in
      inr (inl (
        mark kind.VertexPropsCall ∷ [],
        of_vertex ++ behind,
        0,
        w,
        refl,
        (mark kind.VertexPropsCall, refl, refl, refl),
        (of_vertex, behind, 0, w, refl, of_vertex_said, dot_said Inner w, refl),
        refl,
      ))
  vertex_expr_said (expr.Named o w) h = inr (inr (plain_name o ∷ [], mark kind.Dot ∷ plain_name w ∷ [], o, w, refl, owner_said Inner o, dot_said Inner w, refl))

  vertex_shown_said : (e : RawExpr) → IsOfVertex e → Says Inner rule.vertex_shown (plain_vertex_expr e) e
  unfolding rule.vertex_shown rule.alias
  vertex_shown_said e h = (plain_vertex_expr e, [], e, None, sym (append-nil (plain_vertex_expr e)), vertex_expr_said e h, inl (refl, refl), refl)

  vertex_yield_said : (shown : List RawExpr) → IsShown IsOfVertex shown → Says Inner rule.vertex_yield (plain_yield plain_vertex_expr shown) shown
  unfolding rule.vertex_yield
  vertex_yield_said shown w = (mark kind.Yield ∷ [], commas plain_vertex_expr shown, 0, shown, refl, (mark kind.Yield, refl, refl, refl), shown_said rule.vertex_shown IsOfVertex plain_vertex_expr vertex_shown_said shown w, refl)

  -- FETCH
  fetch_on_said : (n : Spanned) → Says Inner rule.fetch_on (fetch_front n) n
  unfolding rule.fetch_on
  fetch_on_said n = (
    mark kind.Fetch ∷ [],
    mark kind.Prop ∷ mark kind.On ∷ plain_name n ∷ [],
    0,
    n,
    refl,
    (mark kind.Fetch, refl, refl, refl),
    (
      mark kind.Prop ∷ [],
      mark kind.On ∷ plain_name n ∷ [],
      0,
      n,
      refl,
      (mark kind.Prop, refl, refl, refl),
      (mark kind.On ∷ [], plain_name n ∷ [], 0, n, refl, (mark kind.On, refl, refl, refl), name_said Inner n, refl),
      refl,
    ),
    refl,
  )

  others_said : {A : Type 0} (g : Rule A) (P : A → Type 0) (plain : A → List Token) → ((a : A) → P a → Says Inner g (plain a) a) → (others : List A) → AreOthers P others →
      Says Inner (maybe listed (rule.word kind.Comma >> with_commas (Some 63) g)) (others_behind plain others) others
  others_said g P plain said [] w = inl (refl, refl)
  others_said g P plain said (a ∷ others) w =
      inr (a ∷ others, (mark kind.Comma ∷ [], commas plain (a ∷ others), 0, a ∷ others, refl, (mark kind.Comma, refl, refl, refl), (a ∷ others, items_said Inner P g plain said (Some 63) a others w.each w.within, refl), refl), refl)

  behind_src_said : (e : Ends) → IsId e.dst.val → Says Inner rule.ends_behind (behind_src e) (e.dst, e.rank)
  unfolding rule.ends_behind
  behind_src_said e h = (
    mark kind.Arrow ∷ [],
    plain_lit e.dst ∷ mark kind.At ∷ number_at e.rank 0 ∷ [],
    0,
    (e.dst, e.rank),
    refl,
    (mark kind.Arrow, refl, refl, refl),
    (plain_lit e.dst ∷ [], mark kind.At ∷ number_at e.rank 0 ∷ [], e.dst, e.rank, refl, vid_said Inner e.dst.val e.dst.at h, rank_said Inner e.rank, refl),
    refl,
  )

  fetch_vertex_said : (n : Spanned) (first : Lit) (others : List Lit) (shown : List RawExpr) → IsId first.val → AreOthers (λ (l : Lit). IsId l.val) others → IsShown IsOfVertex shown →
      Says Inner rule.fetch (plain_fetch_vertex n first others shown) (statement.FetchVertex n (first ∷ others) shown)
  unfolding rule.fetch rule.behind_first rule.behind_id rule.other_ids
  fetch_vertex_said n first others shown h w s =
      let more_ids = others_behind (λ l. plain_lit l ∷ []) others in
      let end = plain_yield plain_vertex_expr shown in (
        fetch_front n,
        plain_lit first ∷ (more_ids ++ end),
        n,
        (first, more.Ids others shown),
        refl,
        fetch_on_said n,
        (
          plain_lit first ∷ [],
          more_ids ++ end,
          first,
          more.Ids others shown,
          refl,
          vid_said Inner first.val first.at h,
          inr (more_ids, end, others, shown, refl, others_said rule.vid (λ (l : Lit). IsId l.val) (λ l. plain_lit l ∷ []) (λ l k. vid_said Inner l.val l.at k) others w, vertex_yield_said shown s, refl),
          refl,
        ),
        refl,
      )

  fetch_edge_said : (n : Spanned) (first : Ends) (others : List Ends) (shown : List RawExpr) → AreEnds first → AreOthers AreEnds others → IsShown IsOfEdge shown →
      Says Inner rule.fetch (plain_fetch_edge n first others shown) (statement.FetchEdge n (first ∷ others) shown)
  unfolding rule.fetch rule.behind_first rule.behind_ends rule.other_ends
  fetch_edge_said n first others shown h w s =
      let more_ends = others_behind plain_ends others in
      let end = plain_yield plain_expr shown in (
        fetch_front n,
        plain_lit first.src ∷ (behind_src first ++ (more_ends ++ end)),
        n,
        (first.src, more.Ends first.dst first.rank others shown),
        refl,
        fetch_on_said n,
        (
          plain_lit first.src ∷ [],
          behind_src first ++ (more_ends ++ end),
          first.src,
          more.Ends first.dst first.rank others shown,
          refl,
          vid_said Inner first.src.val first.src.at h.0,
          inl (
            behind_src first,
            more_ends ++ end,
            (first.dst, first.rank),
            (others, shown),
            refl,
            behind_src_said first h.1,
            (more_ends, end, others, shown, refl, others_said rule.ends AreEnds plain_ends (ends_said Inner) others w, edge_yield_said shown s, refl),
            refl,
          ),
          refl,
        ),
        refl,
      )

  -- GO
  steps_said : (n : ℕ) → n ≤ 8 → Says Inner rule.steps (steps_token n ∷ mark kind.Steps ∷ []) n
  unfolding rule.steps rule.some_steps rule.step_count rule.step_word
  steps_said n le =
      let small : n ≤ 64 = omega arith in
      inr (
        pos n,
        (steps_token n ∷ [], mark kind.Steps ∷ [], pos n, 0, refl, (steps_token n, refl, refl, refl), (mark kind.Steps, refl, refl, refl), refl),
        sym (cond-true (nat_le n 64) n 0 (le-leb n 64 small)),
      )

  start_said : (g : GoWords) (c : Option Condition) → IsGo g c → Says Inner rule.go_start (steps_token g.steps ∷ mark kind.Steps ∷ mark kind.From ∷ one_by_one plain_lit g.start) (g.steps, g.start)
  unfolding rule.go_start rule.from
  start_said g c w =
      let ids = one_by_one plain_lit g.start in (
        steps_token g.steps ∷ mark kind.Steps ∷ [],
        mark kind.From ∷ ids,
        g.steps,
        g.start,
        refl,
        steps_said g.steps w.steps,
        (mark kind.From ∷ [], ids, 0, g.start, refl, (mark kind.From, refl, refl, refl), ids_said g.start w.start, refl),
        refl,
      )

  over_said : (o : Option (List Spanned)) → IsNamed o → Says Inner rule.over_what (plain_over o) o
  unfolding rule.over_what rule.all_types rule.types
  over_said None h = inl (mark kind.Star, refl, refl, refl)
  over_said (Some []) h = absurd (omega arith)
  over_said (Some (n ∷ names)) h = inr (n ∷ names, items_said Inner (λ (w : Spanned). Unit {0}) rule.name (λ w. plain_name w ∷ []) (λ w u. name_said Inner w) None n names (any Inner (n ∷ names)) tt, refl)

  way_said : (w : Way) → Says Inner rule.ways (plain_way w) w
  unfolding rule.ways
  way_said way.Outward = inl (refl, refl)
  way_said way.Inward = inr (way.Inward, (mark kind.Reversely, refl, refl, refl), refl)
  way_said way.Both = inr (way.Both, (mark kind.Bidirect, refl, refl, refl), refl)

  path_said : (o : Option (List Spanned)) (w : Way) → IsNamed o → Says Inner rule.go_path (mark kind.Over ∷ (plain_over o ++ plain_way w)) (o, w)
  unfolding rule.go_path rule.over
  path_said o w h = (mark kind.Over ∷ plain_over o, plain_way w, o, w, refl, (mark kind.Over ∷ [], plain_over o, 0, o, refl, (mark kind.Over, refl, refl, refl), over_said o h, refl), way_said w, refl)

  keep_said : (c : Option Condition) → ((a : Condition) → c ≡ Some a → Says Inner rule.cond (plain_condition a) (steps_of a)) → Says Inner rule.condition (plain_keep c) (option_map steps_of c)
  unfolding rule.condition
  keep_said None said = inl (refl, refl)
  keep_said (Some a) said = inr (steps_of a, (mark kind.Where ∷ [], plain_condition a, 0, steps_of a, refl, (mark kind.Where, refl, refl, refl), said a refl, refl), refl)

  go_said : (g : GoWords) (c : Option Condition) → IsGo g c → ((a : Condition) → c ≡ Some a → Says Inner rule.cond (plain_condition a) (steps_of a)) → Says Inner rule.go (plain_go g c) (statement.Go g)
  unfolding rule.go rule.go_words rule.go_end
  go_said g c w said =
      let start = steps_token g.steps ∷ mark kind.Steps ∷ mark kind.From ∷ one_by_one plain_lit g.start in
      let path = mark kind.Over ∷ (plain_over g.over ++ plain_way g.way) in
      let end = plain_keep c ++ plain_yield plain_expr g.shown in (
        mark kind.Go ∷ [],
        start ++ (path ++ end),
        0,
        g,
        refl,
        (mark kind.Go, refl, refl, refl),
        (
          start,
          path ++ end,
          (g.steps, g.start),
          ((g.over, g.way), (g.keep, g.shown)),
          refl,
          start_said g c w,
          (
            path,
            end,
            (g.over, g.way),
            (g.keep, g.shown),
            refl,
            path_said g.over g.way w.over,
            (plain_keep c, plain_yield plain_expr g.shown, g.keep, g.shown, refl, subst (λ (k : Option (List RawStep)). Says Inner rule.condition (plain_keep c) k) (sym w.keep) (keep_said c said), edge_yield_said g.shown w.shown, refl),
            refl,
          ),
          refl,
        ),
        refl,
      )

pub use_printed : (n : Spanned) → Spelled ngql false rule.stmt (plain_use n) (statement.Select n)
unfolding rule.stmt
use_printed n = (0, inr (inl (use_said (Again ngql false 0) n)))

pub del_vertex_printed : (ids : List Lit) → IsWritable (λ (l : Lit). IsId l.val) ids → Spelled ngql false rule.stmt (plain_del_vertex ids) (statement.DelVertex ids)
unfolding rule.stmt
del_vertex_printed ids w = (0, inr (inr (inr (inl (del_vertex_said (Again ngql false 0) ids w)))))

pub del_edge_printed : (n : Spanned) (ends : List Ends) → IsWritable AreEnds ends → Spelled ngql false rule.stmt (plain_del_edge n ends) (statement.DelEdge n ends)
unfolding rule.stmt
del_edge_printed n ends w = (0, inr (inr (inr (inl (del_edge_said (Again ngql false 0) n ends w)))))

pub fetch_vertex_printed : (n : Spanned) (first : Lit) (others : List Lit) (shown : List RawExpr) → IsId first.val → AreOthers (λ (l : Lit). IsId l.val) others → IsShown IsOfVertex shown →
    Spelled ngql false rule.stmt (plain_fetch_vertex n first others shown) (statement.FetchVertex n (first ∷ others) shown)
unfolding rule.stmt
fetch_vertex_printed n first others shown h w s = (0, inr (inr (inr (inr (inl (fetch_vertex_said (Again ngql false 0) n first others shown h w s))))))

pub fetch_edge_printed : (n : Spanned) (first : Ends) (others : List Ends) (shown : List RawExpr) → AreEnds first → AreOthers AreEnds others → IsShown IsOfEdge shown →
    Spelled ngql false rule.stmt (plain_fetch_edge n first others shown) (statement.FetchEdge n (first ∷ others) shown)
unfolding rule.stmt
fetch_edge_printed n first others shown h w s = (0, inr (inr (inr (inr (inl (fetch_edge_said (Again ngql false 0) n first others shown h w s))))))

abbrev steps_back : Option Condition → ℕ
steps_back None = 0
steps_back (Some c) = depth c

keeps : (c : Option Condition) → IsKeep c → (a : Condition) → c ≡ Some a → Says (Again ngql false (steps_back c)) rule.cond (plain_condition a) (steps_of a)
keeps None h a e = cc
keeps (Some b) h a e =
    let same : b ≡ a = cc in
    subst (λ (x : Condition). Says (Again ngql false (depth b)) rule.cond (plain_condition x) (steps_of x)) same (condition_said b (depth b) h (omega arith))

pub go_printed : (g : GoWords) (c : Option Condition) → IsGo g c → Spelled ngql false rule.stmt (plain_go g c) (statement.Go g)
unfolding rule.stmt
go_printed g c w = (steps_back c, inr (inr (inr (inr (inr (go_said (Again ngql false (steps_back c)) g c w (keeps c w.condition)))))))
