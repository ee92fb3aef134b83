-- Each statement's plain form, printed, is read back.
use Rattle.std.proofs.Common.{◌≡◌, ℕ, ℤ, pos, ◌≤◌, ◌==◌, Bool, true, false, not, ◌&&◌, ◌||◌, inl, inr, List, [], ◌∷◌, ◌++◌, length, Option, Some, None, refl, sym, ap, ap₂, subst, ◌∙◌, append_assoc, if◌then◌else◌}
use Rattle.std.proofs.lemmas.Bool.{le-leb}
use Rattle.std.specs.Prelude.{drop}
use Rattle.graph_model.specs.declared.val.Val.{Val}
use Rattle.ngql_lex.specs.declared.token.Token.{Token as Lexed}
use Rattle.ngql_syntax.specs.declared.cond.Rel.{Rel}
use Rattle.ngql_syntax.specs.declared.cond.Rel.TheVariants as rel
use Rattle.ngql_syntax.specs.declared.define.Column.{Column}
use Rattle.ngql_syntax.specs.declared.define.Define.TheVariants as define
use Rattle.ngql_syntax.specs.declared.define.Kind.{Kind as ColumnKind}
use Rattle.ngql_syntax.specs.declared.define.Kind.TheVariants as column_kind
use Rattle.ngql_syntax.specs.declared.expr.RawExpr.{RawExpr}
use Rattle.ngql_syntax.specs.declared.expr.RawExpr.TheVariants as expr
use Rattle.ngql_syntax.specs.declared.go.GoWords.{GoWords}
use Rattle.ngql_syntax.specs.declared.go.Way.{Way}
use Rattle.ngql_syntax.specs.declared.go.Way.TheVariants as way
use Rattle.ngql_syntax.specs.declared.lit.Lit.{Lit}
use Rattle.ngql_syntax.specs.declared.put.EdgeRow.{EdgeRow}
use Rattle.ngql_syntax.specs.declared.put.Ends.{Ends}
use Rattle.ngql_syntax.specs.declared.put.PutEdges.{PutEdges}
use Rattle.ngql_syntax.specs.declared.put.PutVertices.{PutVertices}
use Rattle.ngql_syntax.specs.declared.put.VertexRow.{VertexRow}
use Rattle.ngql_syntax.specs.declared.spanned.Spanned.{Spanned}
use Rattle.ngql_syntax.specs.declared.statement.Statement.TheVariants as statement
use Rattle.part_keys.specs.declared.vid_kind.VidKind.{VidKind}
use Rattle.part_keys.specs.declared.vid_kind.VidKind.TheVariants as ids
use Rattle.ngql_parser.specs.declared.kind.Kind.{Kind}
use Rattle.ngql_parser.specs.declared.kind.Kind.TheVariants as kind
use Rattle.ngql_parser.specs.declared.option.Options.{Options}
use Rattle.ngql_parser.specs.declared.seen.Seen.{Seen}
use Rattle.ngql_parser.specs.declared.token.Token.{Token}
use Rattle.ngql_parser.specs.Plain.{alone, mark, plain_name, plain_lit, number_at, IsId, commas, one_by_one, bracketed, plain_ends, AreEnds, plain_ine, plain_edge_row, plain_edges, plain_vertex_row, plain_vertices, Each, IsWritable, Condition, test, not_one, both_of, one_of, plain_expr, IsOfEdge, AreOfEdge, rel_kind, plain_condition}
use Rattle.ngql_parser.specs.PlainBytes.{IsReadBack, AllowsIds}
use Rattle.ngql_parser.specs.PlainDefines.{plain_ids, plain_options, AreIds, AreOptions, plain_space, type_kind, plain_nullness, plain_standard, plain_column, plain_shape, plain_tag, plain_edge_type}
use Rattle.ngql_parser.specs.PlainReads.{plain_use, plain_del_vertex, plain_del_edge, IsShown, plain_vertex_expr, IsOfVertex, plain_yield, others_behind, AreOthers, plain_fetch_vertex, behind_src, plain_fetch_edge, plain_over, plain_way, plain_keep, plain_go, IsKeep, IsGo}
use Rattle.ngql_parser.specs.Tokens.{own_kind, is_from_to, placed_kind, behind_kind, is_set, is_kind, is_int, is_callable, call_kind, called, tilde_kind, option_kind, none_seen, is_outside, is_factor, are_bad_texts, next_kind}
use Rattle.ngql_parser.proofs.Printed.{edges_printed, vertices_printed}
use Rattle.ngql_parser.proofs.PrintedBack.{Prints, nothing, step, say, name, number, value, steps, items, to_the_end, free, names, lits, in_brackets, values, ends, ine, read_back}
use Rattle.ngql_parser.proofs.PrintedDefines.{space_printed, tag_printed, edge_type_printed}
use Rattle.ngql_parser.proofs.PrintedLines.{AreSeen}
use Rattle.ngql_parser.proofs.PrintedReads.{use_printed, del_vertex_printed, del_edge_printed, fetch_vertex_printed, fetch_edge_printed, go_printed}
use Rattle.ngql_parser.proofs.PrintedTokens.{is_spoken, spoken}

-- a function in front of its brackets
record IsCall (k inside : Kind) : Type 0 where
  pub spoken : is_spoken k ≡ true
  pub callable : is_callable (alone k) ≡ true
  pub is : called (alone k) (alone inside) ≡ k
  pub behind : (set : Bool) (seen : Seen) → behind_kind (alone k) set seen ≡ seen

and_false : (b : Bool) → (b && false) ≡ false
and_false true = refl
and_false false = refl

-- the words of options, as they stand before
abbrev in_space : Seen
in_space = record none_seen { space = true }

abbrev behind_parts : Seen
behind_parts = record in_space { parts = true }

abbrev behind_factor : Seen
behind_factor = record behind_parts { factor = true }

abbrev behind_all : Seen
behind_all = record behind_factor { ids = true }

module _ (version : ℕ) where
  call_placed : (seen : Seen) (k inside : Kind) (ts : List Token) → IsCall k inside → (line : List ℕ) (ls : List Lexed) → AreSeen line ls (mark kind.Open ∷ mark inside ∷ ts) → placed_kind version line seen (alone k) ls ≡ k
  call_placed seen k inside ts c line [] h = absurd h
  call_placed seen k inside ts c line (lo ∷ []) h = absurd h.1
  call_placed seen k inside ts c line (lo ∷ lu ∷ ls) h =
      ap (λ b. if b then call_kind line (alone k) (lo ∷ lu ∷ ls) else if is_kind (alone k) kind.Tilde then tilde_kind (next_kind line (lo ∷ lu ∷ ls)) else option_kind version line seen (alone k) (lo ∷ lu ∷ ls)) c.callable
      ∙ (ap₂ (λ a b. if is_kind a kind.Open then called (alone k) b else kind.Name) h.0.own h.1.0.own ∙ c.is)

  call : (seen : Seen) (k inside : Kind) (ts : List Token) → IsCall k inside → Prints version seen (mark kind.Open ∷ mark inside ∷ ts) → Prints version seen (mark k ∷ mark kind.Open ∷ mark inside ∷ ts)
  call seen k inside ts c p =
      step version seen seen (mark k) (mark kind.Open ∷ mark inside ∷ ts) (λ h. spoken k 0 c.spoken) (call_placed seen k inside ts c) (λ line ls h. c.behind (is_set line ls) seen) p

  module _ (seen : Seen) where
    of_edge_goes : (k : Kind) (ts : List Token) → IsCall k kind.Edge → Prints version seen ts → Prints version seen (mark k ∷ mark kind.Open ∷ mark kind.Edge ∷ mark kind.Close ∷ ts)
    of_edge_goes k ts c p =
        call seen k kind.Edge (mark kind.Close ∷ ts) c (say version seen kind.Open 0 _ refl refl (say version seen kind.Edge 0 _ refl refl (say version seen kind.Close 0 ts refl refl p)))

    of_vertex_goes : (k : Kind) (ts : List Token) → IsCall k kind.Vertex → Prints version seen ts → Prints version seen (mark k ∷ mark kind.Open ∷ mark kind.Vertex ∷ mark kind.Close ∷ ts)
    of_vertex_goes k ts c p =
        call seen k kind.Vertex (mark kind.Close ∷ ts) c (say version seen kind.Open 0 _ refl refl (say version seen kind.Vertex 0 _ refl refl (say version seen kind.Close 0 ts refl refl p)))

    dot_goes : (w : Spanned) (ts : List Token) → Prints version seen ts → Prints version seen (mark kind.Dot ∷ plain_name w ∷ ts)
    dot_goes w ts p = say version seen kind.Dot 0 _ refl refl (name version seen w ts p)

    edge_expr : (e : RawExpr) (ts : List Token) → IsOfEdge e → Prints version seen ts → Prints version seen (plain_expr e ++ ts)
    edge_expr expr.Src ts h p = of_edge_goes kind.SrcCall ts (record { spoken = refl; callable = refl; is = refl; behind = λ b s. refl }) p
    edge_expr expr.Dst ts h p = of_edge_goes kind.DstCall ts (record { spoken = refl; callable = refl; is = refl; behind = λ b s. refl }) p
    edge_expr expr.Rank ts h p = of_edge_goes kind.RankCall ts (record { spoken = refl; callable = refl; is = refl; behind = λ b s. refl }) p
    edge_expr expr.Label ts h p = of_edge_goes kind.TypeCall ts (record { spoken = refl; callable = refl; is = refl; behind = λ b s. refl }) p
    edge_expr expr.Id ts h p = absurd h
    edge_expr (expr.Property w) ts h p = of_edge_goes kind.EdgePropsCall _ (record { spoken = refl; callable = refl; is = refl; behind = λ b s. refl }) (dot_goes w ts p)
    edge_expr (expr.Named o w) ts h p = name version seen o _ (dot_goes w ts p)

    vertex_expr : (e : RawExpr) (ts : List Token) → IsOfVertex e → Prints version seen ts → Prints version seen (plain_vertex_expr e ++ ts)
    vertex_expr expr.Src ts h p = absurd h
    vertex_expr expr.Dst ts h p = absurd h
    vertex_expr expr.Rank ts h p = absurd h
    vertex_expr expr.Label ts h p = absurd h
    vertex_expr expr.Id ts h p = of_vertex_goes kind.IdCall ts (record { spoken = refl; callable = refl; is = refl; behind = λ b s. refl }) p
    vertex_expr (expr.Property w) ts h p = of_vertex_goes kind.VertexPropsCall _ (record { spoken = refl; callable = refl; is = refl; behind = λ b s. refl }) (dot_goes w ts p)
    vertex_expr (expr.Named o w) ts h p = name version seen o _ (dot_goes w ts p)

    all_of : {A : Type 0} (P : A → Type 0) (plain : A → List Token) → ((a : A) (ts : List Token) → P a → Prints version seen ts → Prints version seen (plain a ++ ts)) → (found : List A) → Each P found → Prints version seen (commas plain found)
    all_of P plain each found h = to_the_end version seen (commas plain found) (items version seen P plain each found [] h (nothing version seen))

    shown : (P : RawExpr → Type 0) (plain : RawExpr → List Token) → ((e : RawExpr) (ts : List Token) → P e → Prints version seen ts → Prints version seen (plain e ++ ts)) → (found : List RawExpr) → Each P found → Prints version seen (plain_yield plain found)
    shown P plain each found h = say version seen kind.Yield 0 _ refl refl (all_of P plain each found h)

    rel_goes : (r : Rel) (ts : List Token) → Prints version seen ts → Prints version seen (mark (rel_kind r) ∷ ts)
    rel_goes rel.Eq ts p = say version seen kind.Eq 0 ts refl refl p
    rel_goes rel.Ne ts p = say version seen kind.Ne 0 ts refl refl p
    rel_goes rel.Lt ts p = say version seen kind.Lt 0 ts refl refl p
    rel_goes rel.Le ts p = say version seen kind.Le 0 ts refl refl p
    rel_goes rel.Gt ts p = say version seen kind.Gt 0 ts refl refl p
    rel_goes rel.Ge ts p = say version seen kind.Ge 0 ts refl refl p

    joined_goes : (k : Kind) (left right ts : List Token) → ((us : List Token) → Prints version seen us → Prints version seen (mark k ∷ us)) → ((us : List Token) → Prints version seen us → Prints version seen (left ++ us)) →
        ((us : List Token) → Prints version seen us → Prints version seen (right ++ us)) → Prints version seen ts → Prints version seen ((bracketed left ++ mark k ∷ bracketed right) ++ ts)
    joined_goes k left right ts word one other p =
        subst (λ l. Prints version seen l) (sym (append_assoc (bracketed left) (mark k ∷ bracketed right) ts))
        (in_brackets version seen 0 left (mark k ∷ (bracketed right ++ ts)) one (word (bracketed right ++ ts) (in_brackets version seen 0 right ts other p)))

    condition : (c : Condition) (ts : List Token) → AreOfEdge c → Prints version seen ts → Prints version seen (plain_condition c ++ ts)
    condition (test e r l) ts h p =
        subst (λ x. Prints version seen x) (sym (append_assoc (plain_expr e) (mark (rel_kind r) ∷ plain_lit l ∷ []) ts)) (edge_expr e _ h (rel_goes r _ (value version seen l.val l.at ts p)))
    condition (not_one a) ts h p = say version seen kind.Not 0 _ refl refl (in_brackets version seen 0 (plain_condition a) ts (λ us q. condition a us h q) p)
    condition (both_of a b) ts h p = joined_goes kind.And (plain_condition a) (plain_condition b) ts (λ us q. say version seen kind.And 0 us refl refl q) (λ us q. condition a us h.0 q) (λ us q. condition b us h.1 q) p
    condition (one_of a b) ts h p = joined_goes kind.Or (plain_condition a) (plain_condition b) ts (λ us q. say version seen kind.Or 0 us refl refl q) (λ us q. condition a us h.0 q) (λ us q. condition b us h.1 q) p

    -- INSERT
    cols : (all : List Spanned) (ts : List Token) → Prints version seen ts → Prints version seen (bracketed (one_by_one plain_name all) ++ ts)
    cols all ts p = in_brackets version seen 0 (one_by_one plain_name all) ts (names version seen all) p

    edge_row : (r : EdgeRow) (ts : List Token) → Prints version seen ts → Prints version seen (plain_edge_row r ++ ts)
    edge_row r ts p = ends version seen r.ends _ (say version seen kind.Colon 0 _ refl refl (values version seen r.values ts p))

    vertex_row : (r : VertexRow) (ts : List Token) → Prints version seen ts → Prints version seen (plain_vertex_row r ++ ts)
    vertex_row r ts p = value version seen r.id.val r.id.at _ (say version seen kind.Colon 0 _ refl refl (values version seen r.values ts p))

    edges_go : (p : PutEdges) → Prints version seen (plain_edges p)
    edges_go p =
        say version seen kind.Insert 0 _ refl refl (say version seen kind.Edge 0 _ refl refl (ine version seen p.absent _ (name version seen p.name _
        (cols p.columns _ (say version seen kind.Values 0 _ refl refl (all_of (λ (r : EdgeRow). Unit {0}) plain_edge_row (λ r ts h q. edge_row r ts q) p.rows (free version seen p.rows)))))))

    vertices_go : (p : PutVertices) → Prints version seen (plain_vertices p)
    vertices_go p =
        say version seen kind.Insert 0 _ refl refl (say version seen kind.Vertex 0 _ refl refl (ine version seen p.absent _ (name version seen p.name _
        (cols p.columns _ (say version seen kind.Values 0 _ refl refl (all_of (λ (r : VertexRow). Unit {0}) plain_vertex_row (λ r ts h q. vertex_row r ts q) p.rows (free version seen p.rows)))))))

    -- DELETE
    all_ids : (all : List Lit) → Prints version seen (one_by_one plain_lit all)
    all_ids all = to_the_end version seen (one_by_one plain_lit all) (lits version seen all [] (nothing version seen))

    all_ends : (all : List Ends) → Prints version seen (commas plain_ends all)
    all_ends all = all_of (λ (e : Ends). Unit {0}) plain_ends (λ e ts h q. ends version seen e ts q) all (free version seen all)

    -- FETCH
    front_goes : (n : Spanned) (ts : List Token) → Prints version seen ts → Prints version seen (mark kind.Fetch ∷ mark kind.Prop ∷ mark kind.On ∷ plain_name n ∷ ts)
    front_goes n ts p = say version seen kind.Fetch 0 _ refl refl (say version seen kind.Prop 0 _ refl refl (say version seen kind.On 0 _ refl refl (name version seen n ts p)))

    other_ids : (others : List Lit) (ts : List Token) → Prints version seen ts → Prints version seen (others_behind (λ l. plain_lit l ∷ []) others ++ ts)
    other_ids [] ts p = p
    other_ids (l ∷ others) ts p = say version seen kind.Comma 0 _ refl refl (lits version seen (l ∷ others) ts p)

    other_ends : (others : List Ends) (ts : List Token) → Prints version seen ts → Prints version seen (others_behind plain_ends others ++ ts)
    other_ends [] ts p = p
    other_ends (e ∷ others) ts p =
        say version seen kind.Comma 0 _ refl refl (items version seen (λ (e : Ends). Unit {0}) plain_ends (λ e us h q. ends version seen e us q) (e ∷ others) ts (free version seen (e ∷ others)) p)

    src_goes : (e : Ends) (ts : List Token) → Prints version seen ts → Prints version seen (behind_src e ++ ts)
    src_goes e ts p = say version seen kind.Arrow 0 _ refl refl (value version seen e.dst.val e.dst.at _ (say version seen kind.At 0 _ refl refl (number version seen e.rank 0 ts p)))

    -- GO
    over_goes : (o : Option (List Spanned)) (ts : List Token) → Prints version seen ts → Prints version seen (plain_over o ++ ts)
    over_goes None ts p = say version seen kind.Star 0 ts refl refl p
    over_goes (Some all) ts p = names version seen all ts p

    way_goes : (w : Way) (ts : List Token) → Prints version seen ts → Prints version seen (plain_way w ++ ts)
    way_goes way.Outward ts p = p
    way_goes way.Inward ts p = say version seen kind.Reversely 0 ts refl refl p
    way_goes way.Both ts p = say version seen kind.Bidirect 0 ts refl refl p

    keep_goes : (c : Option Condition) (ts : List Token) → IsKeep c → Prints version seen ts → Prints version seen (plain_keep c ++ ts)
    keep_goes None ts h p = p
    keep_goes (Some c) ts h p = say version seen kind.Where 0 _ refl refl (condition c ts h p)

    go_goes : (g : GoWords) (c : Option Condition) → IsGo g c → Prints version seen (plain_go g c)
    go_goes g c w =
        let end = plain_keep c ++ plain_yield plain_expr g.shown in
        let path : Prints version seen ((plain_over g.over ++ plain_way g.way) ++ end) =
        subst (λ l. Prints version seen l) (sym (append_assoc (plain_over g.over) (plain_way g.way) end))
        (over_goes g.over _ (way_goes g.way _ (keep_goes c _ w.condition (shown IsOfEdge plain_expr edge_expr g.shown w.shown.each)))) in
        say version seen kind.Go 0 _ refl refl (steps version seen g.steps _ w.steps (say version seen kind.Steps 0 _ refl refl (say version seen kind.From 0 _ refl refl (lits version seen g.start _ (say version seen kind.Over 0 _ refl refl path)))))

    -- columns
    type_goes : (k : ColumnKind) (ts : List Token) → Prints version seen ts → Prints version seen (mark (type_kind k) ∷ ts)
    type_goes column_kind.Int ts p = say version seen kind.Int64Word 0 ts refl refl p
    type_goes column_kind.Flag ts p = say version seen kind.BoolWord 0 ts refl refl p
    type_goes column_kind.Words ts p = say version seen kind.StringWord 0 ts refl refl p

    nullness_goes : (b : Bool) (ts : List Token) → Prints version seen ts → Prints version seen (plain_nullness b ++ ts)
    nullness_goes true ts p = say version seen kind.Null 0 ts refl refl p
    nullness_goes false ts p = say version seen kind.Not 0 _ refl refl (say version seen kind.Null 0 ts refl refl p)

    standard_goes : (v : Option Val) (ts : List Token) → Prints version seen ts → Prints version seen (plain_standard v ++ ts)
    standard_goes None ts p = p
    standard_goes (Some v) ts p = say version seen kind.Default 0 _ refl refl (value version seen v 0 ts p)

    column : (c : Column) (ts : List Token) → Prints version seen ts → Prints version seen (plain_column c ++ ts)
    column c ts p =
        name version seen (record { text = c.name; at = 0 }) _ (type_goes c.kind _ (subst (λ l. Prints version seen l) (sym (append_assoc (plain_nullness c.nullable) (plain_standard c.standard) ts))
        (nullness_goes c.nullable _ (standard_goes c.standard ts p))))

    shape : (n : Spanned) (columns : List Column) (absent : Bool) → Prints version seen (plain_shape n columns absent)
    shape n columns absent =
        ine version seen absent _ (name version seen n _ (to_the_end version seen (bracketed (commas plain_column columns)) (in_brackets version seen 0 (commas plain_column columns) []
        (λ us q. items version seen (λ (c : Column). Unit {0}) plain_column (λ c ts h r. column c ts r) columns us (free version seen columns) q) (nothing version seen))))

  -- options of a space
  set_here : (line : List ℕ) (ls : List Lexed) (ts : List Token) → AreSeen line ls (mark kind.Equals ∷ ts) → is_set line ls ≡ true
  set_here line [] ts h = absurd h
  set_here line (l ∷ ls) ts h = ap (λ k. is_kind k kind.Equals) h.0.own

  inside : (line : List ℕ) (allowed : ℤ → Bool) (ls : List Lexed) (n : ℤ) (ts : List Token) → allowed n ≡ true → AreSeen line ls (number_at n 0 ∷ ts) → is_outside line allowed ls ≡ false
  inside line allowed [] n ts a h = absurd h
  inside line allowed (l ∷ ls) n ts a h = ap (λ v. is_int (own_kind line l) && not (allowed v)) h.0.value ∙ (ap (λ b. is_int (own_kind line l) && not b) a ∙ and_false (is_int (own_kind line l)))

  second_inside : (line : List ℕ) (allowed : ℤ → Bool) (ls : List Lexed) (first : Token) (n : ℤ) (ts : List Token) → allowed n ≡ true → AreSeen line ls (first ∷ number_at n 0 ∷ ts) → is_outside line allowed (drop 1 ls) ≡ false
  second_inside line allowed [] first n ts a h = absurd h
  second_inside line allowed (l ∷ ls) first n ts a h = inside line allowed ls n ts a h.1

  option : (word : Kind) (seen next : Seen) (ts : List Token) → is_spoken word ≡ true → alone word ≡ word → ((line : List ℕ) (ls : List Lexed) → AreSeen line ls (mark kind.Equals ∷ ts) → placed_kind version line seen word ls ≡ word) →
      behind_kind word true seen ≡ next → Prints version next ts → Prints version seen (mark word ∷ mark kind.Equals ∷ ts)
  option word seen next ts h by_itself placed behind p =
      step version seen next (mark word) (mark kind.Equals ∷ ts) (λ c. spoken word 0 h)
      (λ line ls s. ap (λ k. placed_kind version line seen k ls) by_itself ∙ placed line ls s)
      (λ line ls s. ap₂ (λ k b. behind_kind k b seen) by_itself (set_here line ls ts s) ∙ behind)
      (say version next kind.Equals 0 ts refl refl p)

  parts : (n : ℕ) (ts : List Token) → 1 ≤ n → n ≤ 64 → Prints version behind_parts ts → Prints version in_space (mark kind.PartsWord ∷ mark kind.Equals ∷ number_at (pos n) 0 ∷ ts)
  parts n ts low high p =
      let a : is_from_to 1 64 (pos n) ≡ true = ap₂ (λ x y. x && y) (le-leb 1 n low) (le-leb n 64 high) in
      option kind.PartsWord in_space behind_parts (number_at (pos n) 0 ∷ ts) refl refl
      (λ line ls s. ap₂ (λ x y. if x && y then kind.BadParts else kind.PartsWord) (set_here line ls (number_at (pos n) 0 ∷ ts) s) (second_inside line (is_from_to 1 64) ls (mark kind.Equals) (pos n) ts a s))
      refl (number version behind_parts (pos n) 0 ts p)

  factor : (n : ℕ) (ts : List Token) → is_factor (pos n) ≡ true → Prints version behind_factor ts → Prints version behind_parts (mark kind.FactorWord ∷ mark kind.Equals ∷ number_at (pos n) 0 ∷ ts)
  factor n ts a p =
      option kind.FactorWord behind_parts behind_factor (number_at (pos n) 0 ∷ ts) refl refl
      (λ line ls s. ap₂ (λ x y. if x && y then kind.BadFactor else kind.FactorWord) (set_here line ls (number_at (pos n) 0 ∷ ts) s) (second_inside line is_factor ls (mark kind.Equals) (pos n) ts a s))
      refl (number version behind_factor (pos n) 0 ts p)

  number_ids_good : (line : List ℕ) (ls : List Lexed) (ts : List Token) → AreSeen line ls (mark kind.Equals ∷ mark kind.Int64Word ∷ ts) → are_bad_texts version line (drop 1 ls) ≡ false
  number_ids_good line [] ts h = absurd h
  number_ids_good line (l ∷ []) ts h = absurd h.1
  number_ids_good line (l ∷ m ∷ ls) ts h =
      ap (λ k. is_kind k kind.FixedWord && ((version == 1) || (is_kind (next_kind line ls) kind.Open && is_outside line (is_from_to 1 32) (drop 1 ls)))) h.1.0.own

  text_ids_good : (line : List ℕ) (ls : List Lexed) (n : ℕ) (ts : List Token) → (version == 1) ≡ false → is_from_to 1 32 (pos n) ≡ true →
      AreSeen line ls (mark kind.Equals ∷ mark kind.FixedWord ∷ mark kind.Open ∷ number_at (pos n) 0 ∷ ts) → are_bad_texts version line (drop 1 ls) ≡ false
  text_ids_good line [] n ts v a h = absurd h
  text_ids_good line (l ∷ []) n ts v a h = absurd h.1
  text_ids_good line (l ∷ m ∷ ls) n ts v a h =
      let fixed = is_kind (own_kind line m) kind.FixedWord in
      let opened = is_kind (next_kind line ls) kind.Open in
      ap₂ (λ x y. fixed && (x || (opened && y))) v (second_inside line (is_from_to 1 32) ls (mark kind.Open) (pos n) ts a h.1.1) ∙ (ap (λ b. fixed && b) (and_false opened) ∙ and_false fixed)

  ids_go : (v : VidKind) (ts : List Token) → AreIds v → AllowsIds version v → Prints version behind_all ts → Prints version behind_factor ((mark kind.IdsWord ∷ mark kind.Equals ∷ plain_ids v) ++ ts)
  ids_go ids.Num ts h v p =
      option kind.IdsWord behind_factor behind_all (mark kind.Int64Word ∷ ts) refl refl
      (λ line ls s. ap₂ (λ x y. if x && y then kind.BadIds else kind.IdsWord) (set_here line ls (mark kind.Int64Word ∷ ts) s) (number_ids_good line ls ts s))
      refl (say version behind_all kind.Int64Word 0 ts refl refl p)
  ids_go (ids.Name n) ts h v p =
      let a : is_from_to 1 32 (pos n) ≡ true = ap₂ (λ x y. x && y) (le-leb 1 n h.0) (le-leb n 32 h.1) in
      let behind = mark kind.FixedWord ∷ mark kind.Open ∷ number_at (pos n) 0 ∷ mark kind.Close ∷ ts in
      option kind.IdsWord behind_factor behind_all behind refl refl
      (λ line ls s. ap₂ (λ x y. if x && y then kind.BadIds else kind.IdsWord) (set_here line ls behind s) (text_ids_good line ls n (mark kind.Close ∷ ts) v a s))
      refl (say version behind_all kind.FixedWord 0 _ refl refl (say version behind_all kind.Open 0 _ refl refl (number version behind_all (pos n) 0 _ (say version behind_all kind.Close 0 ts refl refl p))))

  factor_allowed : (o : Options) → AreOptions o → is_factor (pos o.factor) ≡ true
  factor_allowed o h =
      elim h.factor [
        | inl e ↦ ap (λ n. is_factor (pos n)) e
        | inr (inl e) ↦ ap (λ n. is_factor (pos n)) e
        | inr (inr e) ↦ ap (λ n. is_factor (pos n)) e
      ]

  space_goes : (n : Spanned) (o : Options) (absent : Bool) → AreOptions o → AllowsIds version o.ids → Prints version none_seen (plain_space n o absent)
  space_goes n o absent h v =
      let close = mark kind.Close ∷ [] in
      let options = plain_options o ++ close in
      say version none_seen kind.Create 0 _ refl refl
      (step version none_seen in_space (mark kind.Space) (plain_ine absent ++ plain_name n ∷ bracketed (plain_options o)) (λ c. spoken kind.Space 0 refl) (λ line ls s. refl) (λ line ls s. refl)
      (ine version in_space absent _ (name version in_space n _ (say version in_space kind.Open 0 options refl refl
      (parts o.parts _ h.parts.0 h.parts.1 (say version behind_parts kind.Comma 0 _ refl refl (factor o.factor _ (factor_allowed o h) (say version behind_factor kind.Comma 0 _ refl refl
      (ids_go o.ids close h.ids v (say version behind_all kind.Close 0 [] refl refl (nothing version behind_all)))))))))))

  -- the statements
  pub space_back : (n : Spanned) (o : Options) (absent : Bool) → AreOptions o → AllowsIds version o.ids → IsReadBack version (plain_space n o absent) (statement.Make (define.Space n o.parts o.factor o.ids absent))
  space_back n o absent h v = read_back version (plain_space n o absent) _ (space_printed n o absent h) (space_goes n o absent h v) refl

  pub tag_back : (n : Spanned) (columns : List Column) (absent : Bool) → length columns ≤ 32 → IsReadBack version (plain_tag n columns absent) (statement.Make (define.Tag n columns absent))
  tag_back n columns absent le =
      read_back version (plain_tag n columns absent) _ (tag_printed n columns absent le) (say version none_seen kind.Create 0 _ refl refl (say version none_seen kind.Tag 0 _ refl refl (shape none_seen n columns absent))) refl

  pub edge_type_back : (n : Spanned) (columns : List Column) (absent : Bool) → length columns ≤ 32 → IsReadBack version (plain_edge_type n columns absent) (statement.Make (define.Edge n columns absent))
  edge_type_back n columns absent le =
      read_back version (plain_edge_type n columns absent) _ (edge_type_printed n columns absent le) (say version none_seen kind.Create 0 _ refl refl (say version none_seen kind.Edge 0 _ refl refl (shape none_seen n columns absent))) refl

  pub edges_back : (p : PutEdges) → IsWritable (λ (r : EdgeRow). AreEnds r.ends) p.rows → IsReadBack version (plain_edges p) (statement.PutEdge p)
  edges_back p w = read_back version (plain_edges p) _ (edges_printed p w) (edges_go none_seen p) refl

  pub vertices_back : (p : PutVertices) → IsWritable (λ (r : VertexRow). IsId r.id.val) p.rows → IsReadBack version (plain_vertices p) (statement.PutVertex p)
  vertices_back p w = read_back version (plain_vertices p) _ (vertices_printed p w) (vertices_go none_seen p) refl

  pub select_back : (n : Spanned) → IsReadBack version (plain_use n) (statement.Select n)
  select_back n = read_back version (plain_use n) _ (use_printed n) (say version none_seen kind.Use 0 _ refl refl (name version none_seen n [] (nothing version none_seen))) refl

  pub del_vertices_back : (all : List Lit) → IsWritable (λ (l : Lit). IsId l.val) all → IsReadBack version (plain_del_vertex all) (statement.DelVertex all)
  del_vertices_back all w = read_back version (plain_del_vertex all) _ (del_vertex_printed all w) (say version none_seen kind.Delete 0 _ refl refl (say version none_seen kind.Vertex 0 _ refl refl (all_ids none_seen all))) refl

  pub del_edges_back : (n : Spanned) (all : List Ends) → IsWritable AreEnds all → IsReadBack version (plain_del_edge n all) (statement.DelEdge n all)
  del_edges_back n all w =
      read_back version (plain_del_edge n all) _ (del_edge_printed n all w) (say version none_seen kind.Delete 0 _ refl refl (say version none_seen kind.Edge 0 _ refl refl (name version none_seen n _ (all_ends none_seen all)))) refl

  pub fetch_vertices_back : (n : Spanned) (first : Lit) (others : List Lit) (found : List RawExpr) → IsId first.val → AreOthers (λ (l : Lit). IsId l.val) others → IsShown IsOfVertex found →
      IsReadBack version (plain_fetch_vertex n first others found) (statement.FetchVertex n (first ∷ others) found)
  fetch_vertices_back n first others found h w s =
      read_back version (plain_fetch_vertex n first others found) _ (fetch_vertex_printed n first others found h w s)
      (front_goes none_seen n _ (value version none_seen first.val first.at _ (other_ids none_seen others _ (shown none_seen IsOfVertex plain_vertex_expr (vertex_expr none_seen) found s.each)))) refl

  pub fetch_edges_back : (n : Spanned) (first : Ends) (others : List Ends) (found : List RawExpr) → AreEnds first → AreOthers AreEnds others → IsShown IsOfEdge found →
      IsReadBack version (plain_fetch_edge n first others found) (statement.FetchEdge n (first ∷ others) found)
  fetch_edges_back n first others found h w s =
      read_back version (plain_fetch_edge n first others found) _ (fetch_edge_printed n first others found h w s)
      (front_goes none_seen n _ (value version none_seen first.src.val first.src.at _ (src_goes none_seen first _ (other_ends none_seen others _ (shown none_seen IsOfEdge plain_expr (edge_expr none_seen) found s.each))))) refl

  pub go_back : (g : GoWords) (c : Option Condition) → IsGo g c → IsReadBack version (plain_go g c) (statement.Go g)
  go_back g c w = read_back version (plain_go g c) _ (go_printed g c w) (go_goes none_seen g c w) refl
