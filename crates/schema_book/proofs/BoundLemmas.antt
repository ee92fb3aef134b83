-- What a statement binds to fits the schema.
use Rattle.std.proofs.Common.{◌≡◌, ℕ, zero, suc, pos, ◌+◌, ◌||◌, ◌==◌, is_some, nat_lt, Bool, true, false, cond, List, [], ◌∷◌, ◌++◌, length, map, filter, set, slice_get, Option, None, Some, Result, Ok, if◌then◌else◌, refl, sym, ap, subst, ◌∙◌, arith}
use Rattle.std.proofs.lemmas.List.Folds.{list_all-append}
use Rattle.std.specs.List.{list_all, fold, range_with_len}
use Rattle.std.specs.Option.{option_and_then, option_map, option_map_or, unwrap_or}
use Rattle.std.specs.Str.{bytes_eq}
use Rattle.std.specs.Cmp.{unsigned_Decides}
use Rattle.graph_model.specs.declared.edge_id.EdgeId.{EdgeId}
use Rattle.graph_model.specs.declared.op.Op.TheVariants as op
use Rattle.graph_model.specs.declared.val.Val.{Val}
use Rattle.graph_model.specs.Edges.{edges_among}
use Rattle.graph_model.specs.Keys.{edge_cmp}
use Rattle.maps.specs.Keys.{has_key}
use Rattle.part_keys.specs.Kinds.{is_id_of, is_edge_of}
use Rattle.part_keys.specs.declared.vid_kind.VidKind.{VidKind}
use Rattle.ngql_syntax.specs.declared.define.Column.{Column}
use Rattle.ngql_syntax.specs.declared.go.GoWords.{GoWords}
use Rattle.ngql_syntax.specs.declared.lit.Lit.{Lit}
use Rattle.ngql_syntax.specs.declared.put.Ends.{Ends}
use Rattle.ngql_syntax.specs.declared.put.EdgeRow.{EdgeRow}
use Rattle.ngql_syntax.specs.declared.put.PutEdges.{PutEdges}
use Rattle.ngql_syntax.specs.declared.put.PutVertices.{PutVertices}
use Rattle.ngql_syntax.specs.declared.put.VertexRow.{VertexRow}
use Rattle.ngql_syntax.specs.declared.spanned.Spanned.{Spanned}
use Rattle.ngql_syntax.specs.declared.statement.Statement.{Statement}
use Rattle.ngql_syntax.specs.declared.statement.Statement.TheVariants.{Make, Select, PutVertex, PutEdge, DelVertex, DelEdge, FetchVertex, FetchEdge, Go as GoOver}
use Rattle.schema_book.specs.declared.bound.Bound.{Bound}
use Rattle.schema_book.specs.declared.bound.Bound.TheVariants.{Calls, Go}
use Rattle.schema_book.specs.declared.refused.BookRefused.{BookRefused}
use Rattle.schema_book.specs.declared.space.Space.{Space}
use Rattle.schema_book.specs.Bind.{bound, bound_by, bound_in, with_entry, vertices_put, edges_put, vertices_deleted, edges_deleted, vertices_fetched, edges_fetched, walk_refused, walk_plan, walked}
use Rattle.schema_book.specs.Columns.{are_sound}
use Rattle.schema_book.specs.Entries.{Entries, entry_of, place_of}
use Rattle.schema_book.specs.Exprs.{exprs_of, exprs_refused, cond_refused, over_refused, is_at, is_any_at, is_over, over_places}
use Rattle.schema_book.specs.declared.bound.Expr.{Expr}
use Rattle.schema_book.specs.Fits.{columns_of, type_columns, is_type, is_row_of, edge_row_fits, edge_fits, expr_fits, read_fits, op_fits, fits_in, fits_space, bound_fits}
use Rattle.schema_book.specs.Ids.{vid_of, edge_of, wrong_vid, long_vid, wrong_ends, long_ends}
use Rattle.schema_book.specs.Lists.{wrong_vids, long_vids, vids_refused, wrong_ends_among, long_ends_among, ends_refused, vertex_dels, tag_reads, edge_reads}
use Rattle.schema_book.specs.Puts.{vertex_counts, vertex_values, vertex_longs, vertices_refused, vertex_calls, edge_counts, edge_values, edge_longs, edges_refused, edge_place, joined_at, joined, once, edge_rows, put_call, edge_calls, edge_joined, edges_once, del_call, del_calls, ends_beyond}
use Rattle.schema_book.specs.Refusals.{first_of, else_gives}
use Rattle.schema_book.specs.Rows.{no_such_column, name_twice, wrong_count, wrong_value, not_set, row_of}
use Rattle.schema_book.specs.Schema.{Schema, IsSound}
use Rattle.schema_book.proofs.ColumnLemmas.{at_number, exprs_there, cond_there}
use Rattle.schema_book.proofs.FitsLemmas.{or_none, unless_none, and_true, both, id_fits, ends_fit, row_fits}

-- a tag or an edge type that is there
some_there : (o : Option (List ℕ × List Column)) → is_some o ≡ true → is_some (option_map (λ (e : List ℕ × List Column). e.1) o) ≡ true
some_there None h = h
some_there (Some e) h = refl

number_there : (entries : Entries) (place : ℕ) → is_some (slice_get entries place) ≡ true → is_some (columns_of entries (place + 1)) ≡ true
number_there entries place h = ap is_some (at_number entries place) ∙ some_there (slice_get entries place) h

sound_at : (entries : Entries) (place : ℕ) (columns : List Column) → list_all (λ e. are_sound e.1) entries ≡ true → option_map (λ e. e.1) (slice_get entries place) ≡ Some columns
    → are_sound columns ≡ true
sound_at [] place columns all at = cc
sound_at (e ∷ entries) zero columns all at =
    let is : e.1 ≡ columns = cc in
    subst (λ cs. are_sound cs ≡ true) is (and_true (are_sound e.1) (list_all (λ (x : List ℕ × List Column). are_sound x.1) entries) all).0
sound_at (e ∷ entries) (suc place) columns all at = sound_at entries place columns (and_true (are_sound e.1) (list_all (λ (x : List ℕ × List Column). are_sound x.1) entries) all).1 at

-- what a name stands for
record Named (entries : Entries) (place : ℕ) (columns : List Column) : Type 0 where
  there : columns_of entries (place + 1) ≡ Some columns
  sound : are_sound columns ≡ true

place_by : (i : ℕ) (o : Option (List ℕ × List Column)) (place : ℕ) (columns : List Column) → option_map {U = ℕ × List Column} (λ (e : List ℕ × List Column). (i, e.1)) o ≡ Some (place, columns)
    → (i ≡ place) × (option_map (λ (e : List ℕ × List Column). e.1) o ≡ Some columns)
place_by i None place columns h = cc
place_by i (Some e) place columns h = (ap (λ o. (unwrap_or {T = ℕ × List Column} o (i, e.1)).0) h, ap (λ o. Some (unwrap_or {T = ℕ × List Column} o (i, e.1)).1) h)

named_by : (entries : Entries) (o : Option ℕ) (place : ℕ) (columns : List Column) → list_all (λ e. are_sound e.1) entries ≡ true
    → option_and_then {U = ℕ × List Column} (λ i. option_map {U = ℕ × List Column} (λ (e : List ℕ × List Column). (i, e.1)) (slice_get entries i)) o ≡ Some (place, columns) → Named entries place columns
named_by entries None place columns all h = cc
named_by entries (Some i) place columns all h =
    let p = place_by i (slice_get entries i) place columns h in
    let at : option_map (λ (e : List ℕ × List Column). e.1) (slice_get entries place) ≡ Some columns = ap (λ k. option_map (λ (e : List ℕ × List Column). e.1) (slice_get entries k)) (sym p.0) ∙ p.1 in
    record { there = at_number entries place ∙ at; sound = sound_at entries place columns all at }

-- what is bound behind no refusal
made_by : (o : Option BookRefused) (x b : Bound) → else_gives o (Ok x) ≡ Ok b → (o ≡ None) × (x ≡ b)
made_by None x b h = (refl, cc)
made_by (Some why) x b h = cc

record Entry (entries : Entries) (answer : ℕ → List Column → Result Bound BookRefused) (b : Bound) : Type 0 where
  place : ℕ
  columns : List Column
  named : Named entries place columns
  is : answer place columns ≡ Ok b

entry_by : (entries : Entries) (name : Spanned) (answer : ℕ → List Column → Result Bound BookRefused) (b : Bound) (o : Option (ℕ × List Column)) → entry_of name.text entries ≡ o
    → list_all (λ e. are_sound e.1) entries ≡ true → with_entry name o answer ≡ Ok b → Entry entries answer b
entry_by entries name answer b None at all h = cc
entry_by entries name answer b (Some e) at all h = record { place = e.0; columns = e.1; named = named_by entries (place_of name.text entries) e.0 e.1 all at; is = h }

equal : (a b : ℕ) → (a == b) ≡ true → a ≡ b
equal a b h = (unsigned_Decides a b).0 h

some_are : (n : ℕ) → nat_lt 0 (suc n) ≡ true
some_are n = grind (arith)

-- INSERT VERTEX
vertex_rows_fit : (s : Schema) (ids : VidKind) (place : ℕ) (columns : List Column) (names : List Spanned) (absent : Bool) → Named s.tags place columns → not_set columns names ≡ None
    → (rows : List VertexRow) → vertex_counts names rows ≡ None → vertex_values ids columns names rows ≡ None → vertex_longs ids rows ≡ None
    → list_all (op_fits s ids) (map (λ (r : VertexRow). op.PutVertex (vid_of r.id.val) (place + 1) (row_of columns names r.values.list) absent) rows) ≡ true
unfolding vertex_counts vertex_values vertex_longs
vertex_rows_fit s ids place columns names absent named set [] counts values longs = refl
vertex_rows_fit s ids place columns names absent named set (r ∷ rows) counts values longs =
    let n = or_none (wrong_count names r.values) (vertex_counts names rows) counts in
    let v = or_none (first_of (wrong_vid ids r.id ∷ wrong_value columns names r.values.list ∷ [])) (vertex_values ids columns names rows) values in
    let w = or_none (wrong_vid ids r.id) (first_of (wrong_value columns names r.values.list ∷ [])) v.0 in
    let x = or_none (wrong_value columns names r.values.list) None w.1 in
    let l = or_none (long_vid ids r.id) (vertex_longs ids rows) longs in
    let long : length r.values.list ≡ length names = equal (length r.values.list) (length names) (unless_none (length r.values.list == length names) _ n.0) in
    both
    (both (id_fits ids r.id w.0 l.0) (ap (λ o. is_row_of o (row_of columns names r.values.list)) named.there ∙ row_fits columns names r.values.list named.sound x.0 long set))
    (vertex_rows_fit s ids place columns names absent named set rows n.1 v.1 l.1)

vertices_fit : (s : Schema) (ids : VidKind) (place : ℕ) (columns : List Column) (words : PutVertices) → Named s.tags place columns → vertices_refused ids columns words ≡ None
    → list_all (op_fits s ids) (vertex_calls place columns words) ≡ true
unfolding vertex_calls
vertices_fit s ids place columns words named none =
    let a = or_none (no_such_column columns words.columns) _ none in
    let b = or_none (name_twice [] words.columns) _ a.1 in
    let c = or_none (vertex_counts words.columns words.rows) _ b.1 in
    let d = or_none (vertex_values ids columns words.columns words.rows) _ c.1 in
    let e = or_none (vertex_longs ids words.rows) _ d.1 in
    let f = or_none (not_set columns words.columns) _ e.1 in
    vertex_rows_fit s ids place columns words.columns words.absent named f.0 words.rows c.0 d.0 e.0

-- INSERT EDGE: each edge with its row, and so each of those that are kept once
edge_rows_fit : (edges : Entries) (ids : VidKind) (place : ℕ) (columns : List Column) (names : List Spanned) → Named edges place columns → not_set columns names ≡ None
    → (rows : List EdgeRow) → edge_counts names rows ≡ None → edge_values ids columns names rows ≡ None → edge_longs ids rows ≡ None
    → list_all (edge_row_fits edges ids) (edge_rows place columns names rows) ≡ true
unfolding edge_counts edge_values edge_longs
edge_rows_fit edges ids place columns names named set [] counts values longs = refl
edge_rows_fit edges ids place columns names named set (r ∷ rows) counts values longs =
    let n = or_none (wrong_count names r.values) (edge_counts names rows) counts in
    let v = or_none (first_of (wrong_ends ids r.ends ∷ wrong_value columns names r.values.list ∷ [])) (edge_values ids columns names rows) values in
    let w = or_none (wrong_ends ids r.ends) (first_of (wrong_value columns names r.values.list ∷ [])) v.0 in
    let x = or_none (wrong_value columns names r.values.list) None w.1 in
    let l = or_none (long_ends ids r.ends) (edge_longs ids rows) longs in
    let long : length r.values.list ≡ length names = equal (length r.values.list) (length names) (unless_none (length r.values.list == length names) _ n.0) in
    both
    (both (ends_fit ids place r.ends w.0 l.0) (ap (λ o. is_row_of o (row_of columns names r.values.list)) named.there ∙ row_fits columns names r.values.list named.sound x.0 long set))
    (edge_rows_fit edges ids place columns names named set rows n.1 v.1 l.1)

module _ {A : Type 0} (p : A → Bool) where
  all_set : (xs : List A) (i : ℕ) (x : A) → list_all p xs ≡ true → p x ≡ true → list_all p (set xs i x) ≡ true
  all_set [] i x all here = refl
  all_set (y ∷ ys) zero x all here = both here (and_true (p y) (list_all p ys) all).1
  all_set (y ∷ ys) (suc i) x all here =
      let q = and_true (p y) (list_all p ys) all in
      both q.0 (all_set ys i x q.1 here)

  all_behind : (xs : List A) (x : A) → list_all p xs ≡ true → p x ≡ true → list_all p (xs ++ x ∷ []) ≡ true
  all_behind xs x all here = list_all-append p xs (x ∷ []) ∙ both all (both here refl)

joined_fits : (p : EdgeId × List Val → Bool) (absent : Bool) (kept : List (EdgeId × List Val)) (x : EdgeId × List Val) (o : Option ℕ) → list_all p kept ≡ true → p x ≡ true
    → list_all p (joined_at absent kept x o) ≡ true
joined_fits p absent kept x None all here = all_behind p kept x all here
joined_fits p true kept x (Some i) all here = all
joined_fits p false kept x (Some i) all here = all_set p kept i x all here

once_fits : (p : EdgeId × List Val → Bool) (absent : Bool) (rows kept : List (EdgeId × List Val)) → list_all p rows ≡ true → list_all p kept ≡ true
    → list_all p (fold (joined absent) kept rows) ≡ true
once_fits p absent [] kept all were = were
once_fits p absent (x ∷ rows) kept all were =
    let q = and_true (p x) (list_all p rows) all in
    once_fits p absent rows (joined absent kept x) q.1 (joined_fits p absent kept x (edge_place x.0 kept) were q.0)

ends_among : (edges : Entries) (ids : VidKind) (rows : List (EdgeId × List Val)) → list_all (edge_row_fits edges ids) rows ≡ true → list_all (is_edge_of ids) (edges_among rows) ≡ true
ends_among edges ids [] all = refl
ends_among edges ids (x ∷ rows) all =
    let q = and_true (edge_row_fits edges ids x) (list_all (edge_row_fits edges ids) rows) all in
    both (and_true (is_edge_of ids x.0) (is_row_of (type_columns edges x.0.etype) x.1) q.0).0 (ends_among edges ids rows q.1)

put_fits : (s : Schema) (ids : VidKind) (absent : Bool) (rows : List (EdgeId × List Val)) → list_all (edge_row_fits s.edges ids) rows ≡ true → list_all (op_fits s ids) (put_call absent rows) ≡ true
put_fits s ids absent [] all = refl
put_fits s ids absent (x ∷ rows) all = both (both (both (some_are (length (edges_among rows))) (ends_among s.edges ids (x ∷ rows) all)) all) refl

edges_fit : (s : Schema) (ids : VidKind) (place : ℕ) (columns : List Column) (words : PutEdges) → Named s.edges place columns → edges_refused ids columns words ≡ None
    → list_all (op_fits s ids) (edge_calls place columns words) ≡ true
unfolding edge_calls
edges_fit s ids place columns words named none =
    let a = or_none (no_such_column columns words.columns) _ none in
    let b = or_none (name_twice [] words.columns) _ a.1 in
    let c = or_none (edge_counts words.columns words.rows) _ b.1 in
    let d = or_none (edge_values ids columns words.columns words.rows) _ c.1 in
    let e = or_none (edge_longs ids words.rows) _ d.1 in
    let f = or_none (not_set columns words.columns) _ e.1 in
    let rows = edge_rows place columns words.columns words.rows in
    put_fits s ids words.absent (once words.absent rows)
    (once_fits (edge_row_fits s.edges ids) words.absent rows [] (edge_rows_fit s.edges ids place columns words.columns named f.0 words.rows c.0 d.0 e.0) refl)

-- DELETE VERTEX, and the start of GO
vids_fit : (ids : VidKind) (list : List Lit) → wrong_vids ids list ≡ None → long_vids ids list ≡ None → list_all (is_id_of ids) (map (λ (l : Lit). vid_of l.val) list) ≡ true
unfolding wrong_vids long_vids
vids_fit ids [] wrong long = refl
vids_fit ids (x ∷ list) wrong long =
    let w = or_none (wrong_vid ids x) (wrong_vids ids list) wrong in
    let l = or_none (long_vid ids x) (long_vids ids list) long in
    both (id_fits ids x w.0 l.0) (vids_fit ids list w.1 l.1)

list_fits : (ids : VidKind) (list : List Lit) → vids_refused ids list ≡ None → list_all (is_id_of ids) (map (λ (l : Lit). vid_of l.val) list) ≡ true
unfolding vids_refused
list_fits ids list none =
    let a = or_none (wrong_vids ids list) _ none in
    vids_fit ids list a.0 (or_none (long_vids ids list) None a.1).0

dels_fit : (s : Schema) (ids : VidKind) (list : List Lit) → list_all (is_id_of ids) (map (λ (l : Lit). vid_of l.val) list) ≡ true → list_all (op_fits s ids) (vertex_dels list) ≡ true
unfolding vertex_dels
dels_fit s ids [] all = refl
dels_fit s ids (x ∷ list) all =
    let q = and_true (is_id_of ids (vid_of x.val)) (list_all (is_id_of ids) (map (λ (l : Lit). vid_of l.val) list)) all in
    both q.0 (dels_fit s ids list q.1)

-- DELETE EDGE
edge_list_fits : (edges : Entries) (ids : VidKind) (place : ℕ) → is_some (columns_of edges (place + 1)) ≡ true
    → (list : List Ends) → wrong_ends_among ids list ≡ None → long_ends_among ids list ≡ None → list_all (edge_fits edges ids) (map (edge_of place) list) ≡ true
unfolding wrong_ends_among long_ends_among
edge_list_fits edges ids place there [] wrong long = refl
edge_list_fits edges ids place there (e ∷ list) wrong long =
    let w = or_none (wrong_ends ids e) (wrong_ends_among ids list) wrong in
    let l = or_none (long_ends ids e) (long_ends_among ids list) long in
    both (both (ends_fit ids place e w.0 l.0) there) (edge_list_fits edges ids place there list w.1 l.1)

ends_list_fits : (edges : Entries) (ids : VidKind) (place : ℕ) → is_some (columns_of edges (place + 1)) ≡ true → (list : List Ends) → ends_refused ids list ≡ None
    → list_all (edge_fits edges ids) (map (edge_of place) list) ≡ true
unfolding ends_refused
ends_list_fits edges ids place there list none =
    let a = or_none (wrong_ends_among ids list) _ none in
    edge_list_fits edges ids place there list a.0 (or_none (long_ends_among ids list) None a.1).0

edge_joined_fits : (p : EdgeId → Bool) (b : Bool) (kept : List EdgeId) (e : EdgeId) → list_all p kept ≡ true → p e ≡ true → list_all p (if b then kept else kept ++ e ∷ []) ≡ true
edge_joined_fits p true kept e all here = all
edge_joined_fits p false kept e all here = all_behind p kept e all here

edges_once_fit : (p : EdgeId → Bool) (edges kept : List EdgeId) → list_all p edges ≡ true → list_all p kept ≡ true → list_all p (fold edge_joined kept edges) ≡ true
edges_once_fit p [] kept all were = were
edges_once_fit p (e ∷ edges) kept all were =
    let q = and_true (p e) (list_all p edges) all in
    edges_once_fit p edges (edge_joined kept e) q.1 (edge_joined_fits p (has_key edge_cmp e kept) kept e were q.0)

are_ends_of : (edges : Entries) (ids : VidKind) (list : List EdgeId) → list_all (edge_fits edges ids) list ≡ true → list_all (is_edge_of ids) list ≡ true
are_ends_of edges ids [] all = refl
are_ends_of edges ids (e ∷ list) all =
    let q = and_true (edge_fits edges ids e) (list_all (edge_fits edges ids) list) all in
    both (and_true (is_edge_of ids e) (is_type edges e.etype) q.0).0 (are_ends_of edges ids list q.1)

del_fits : (s : Schema) (ids : VidKind) (list : List EdgeId) → list_all (edge_fits s.edges ids) list ≡ true → list_all (op_fits s ids) (del_call list) ≡ true
del_fits s ids [] all = refl
del_fits s ids (e ∷ list) all = both (both (both (some_are (length list)) (are_ends_of s.edges ids (e ∷ list) all)) all) refl

deleted_fit : (s : Schema) (ids : VidKind) (place : ℕ) (columns : List Column) (list : List Ends) → Named s.edges place columns → first_of (ends_refused ids list ∷ ends_beyond list ∷ []) ≡ None
    → list_all (op_fits s ids) (del_calls place list) ≡ true
unfolding del_calls
deleted_fit s ids place columns list named none =
    let a = or_none (ends_refused ids list) _ none in
    let all = ends_list_fits s.edges ids place (ap is_some named.there) list a.0 in
    del_fits s ids (edges_once (map (edge_of place) list)) (edges_once_fit (edge_fits s.edges ids) (map (edge_of place) list) [] all refl)

-- FETCH
tags_fit : (s : Schema) (ids : VidKind) (place : ℕ) (shown : List Expr) → is_some (columns_of s.tags (place + 1)) ≡ true → list_all (expr_fits s.tags) shown ≡ true → (list : List Lit)
    → list_all (is_id_of ids) (map (λ (l : Lit). vid_of l.val) list) ≡ true → list_all (read_fits s ids shown) (tag_reads place list) ≡ true
unfolding tag_reads
tags_fit s ids place shown there fit [] all = refl
tags_fit s ids place shown there fit (x ∷ list) all =
    let q = and_true (is_id_of ids (vid_of x.val)) (list_all (is_id_of ids) (map (λ (l : Lit). vid_of l.val) list)) all in
    both (both (both q.0 there) fit) (tags_fit s ids place shown there fit list q.1)

reads_fit : (s : Schema) (ids : VidKind) (place : ℕ) (shown : List Expr) → list_all (expr_fits s.edges) shown ≡ true → (list : List Ends) → list_all (edge_fits s.edges ids) (map (edge_of place) list) ≡ true
    → list_all (read_fits s ids shown) (edge_reads place list) ≡ true
unfolding edge_reads
reads_fit s ids place shown fit [] all = refl
reads_fit s ids place shown fit (e ∷ list) all =
    let q = and_true (edge_fits s.edges ids (edge_of place e)) (list_all (edge_fits s.edges ids) (map (edge_of place) list)) all in
    both (both q.0 fit) (reads_fit s ids place shown fit list q.1)

-- GO: a type that is walked is there
at_there : (name : List ℕ) (o : Option (List ℕ × List Column)) → option_map_or (λ (e : List ℕ × List Column). bytes_eq name e.0) o false ≡ true → is_some o ≡ true
at_there name None h = h
at_there name (Some e) h = refl

any_by : (edges : Entries) (n : Spanned) (place : ℕ) (b rest : Bool) → is_at edges n.text place ≡ b → (b || rest) ≡ true → (rest ≡ true → is_some (slice_get edges place) ≡ true)
    → is_some (slice_get edges place) ≡ true
any_by edges n place true rest at h below = at_there n.text (slice_get edges place) at
any_by edges n place false rest at h below = below h

any_there : (edges : Entries) (names : List Spanned) (place : ℕ) → is_any_at edges names place ≡ true → is_some (slice_get edges place) ≡ true
any_there edges [] place h = cc
any_there edges (n ∷ names) place h = any_by edges n place (is_at edges n.text place) (is_any_at edges names place) refl h (any_there edges names place)

over_there : (edges : Entries) (over : Option (List Spanned)) (place : ℕ) → is_over edges over place ≡ true → is_some (slice_get edges place) ≡ true
over_there edges None place h = h
over_there edges (Some names) place h = any_there edges names place h

types_by : (edges : Entries) (over : Option (List Spanned)) (place : ℕ) (b : Bool) (rest : List ℕ) → is_over edges over place ≡ b
    → list_all (is_type edges) (map (λ i. pos (i + 1)) rest) ≡ true → list_all (is_type edges) (map (λ i. pos (i + 1)) (cond b (place ∷ rest) rest)) ≡ true
types_by edges over place true rest at all = both (number_there edges place (over_there edges over place at)) all
types_by edges over place false rest at all = all

types_fit : (edges : Entries) (over : Option (List Spanned)) (places : List ℕ) → list_all (is_type edges) (map (λ i. pos (i + 1)) (filter (is_over edges over) places)) ≡ true
types_fit edges over [] = refl
types_fit edges over (place ∷ places) = types_by edges over place (is_over edges over place) (filter (is_over edges over) places) refl (types_fit edges over places)

walk_fits : (s : Schema) (ids : VidKind) (words : GoWords) → walk_refused s.edges ids words ≡ None → fits_in s ids (Go (walk_plan s.edges (over_places s.edges words.over) words)) ≡ true
unfolding walk_refused walk_plan over_places
walk_fits s ids words none =
    let a = or_none (over_refused s.edges words.over) _ none in
    let b = or_none (cond_refused s.edges (over_places s.edges words.over) words.keep) _ a.1 in
    let c = or_none (exprs_refused s.edges (over_places s.edges words.over) words.shown) _ b.1 in
    let d = or_none (vids_refused ids words.start) None c.1 in
    let places = over_places s.edges words.over in
    both (both (both (list_fits ids words.start d.0) (types_fit s.edges words.over (range_with_len 0 (length s.edges)))) (cond_there s.edges places words.keep)) (exprs_there s.edges places words.shown)

-- a statement in a space
moved : (s : Schema) (ids : VidKind) (x b : Bound) → x ≡ b → fits_in s ids x ≡ true → fits_in s ids b ≡ true
moved s ids x b is h = subst (λ y. fits_in s ids y ≡ true) is h

unmoved : (s : Schema) (ids : VidKind) (x b : Bound) (o : Option BookRefused) → else_gives o (Ok x) ≡ Ok b → (o ≡ None → fits_in s ids x ≡ true) → fits_in s ids b ≡ true
unmoved s ids x b o is h = let p = made_by o x b is in moved s ids x b p.1 (h p.0)

in_fits : (s : Schema) (ids : VidKind) (statement : Statement) (b : Bound) → IsSound s → bound_in s ids statement ≡ Ok b → fits_in s ids b ≡ true
unfolding vertices_put edges_put vertices_deleted edges_deleted vertices_fetched edges_fetched walked
in_fits s ids (Make define) b sound is = let e : Calls [] ≡ b = cc in moved s ids (Calls []) b e refl
in_fits s ids (Select name) b sound is = let e : Calls [] ≡ b = cc in moved s ids (Calls []) b e refl
in_fits s ids (PutVertex words) b sound is =
    let e = entry_by s.tags words.name _ b (entry_of words.name.text s.tags) refl sound.tags.sound is in
    unmoved s ids (Calls (vertex_calls e.place e.columns words)) b (vertices_refused ids e.columns words) e.is (vertices_fit s ids e.place e.columns words e.named)
in_fits s ids (PutEdge words) b sound is =
    let e = entry_by s.edges words.name _ b (entry_of words.name.text s.edges) refl sound.edges.sound is in
    unmoved s ids (Calls (edge_calls e.place e.columns words)) b (edges_refused ids e.columns words) e.is (edges_fit s ids e.place e.columns words e.named)
in_fits s ids (DelVertex list) b sound is = unmoved s ids (Calls (vertex_dels list)) b (vids_refused ids list) is (λ none. dels_fit s ids list (list_fits ids list none))
in_fits s ids (DelEdge name list) b sound is =
    let e = entry_by s.edges name _ b (entry_of name.text s.edges) refl sound.edges.sound is in
    unmoved s ids (Calls (del_calls e.place list)) b (first_of (ends_refused ids list ∷ ends_beyond list ∷ [])) e.is (deleted_fit s ids e.place e.columns list e.named)
in_fits s ids (FetchVertex name list shown) b sound is =
    let e = entry_by s.tags name _ b (entry_of name.text s.tags) refl sound.tags.sound is in
    unmoved s ids _ b (first_of (exprs_refused s.tags (e.place ∷ []) shown ∷ vids_refused ids list ∷ [])) e.is (λ none.
    let a = or_none (exprs_refused s.tags (e.place ∷ []) shown) _ none in
    tags_fit s ids e.place (exprs_of s.tags (e.place ∷ []) shown) (ap is_some e.named.there) (exprs_there s.tags (e.place ∷ []) shown) list (list_fits ids list (or_none (vids_refused ids list) None a.1).0))
in_fits s ids (FetchEdge name list shown) b sound is =
    let e = entry_by s.edges name _ b (entry_of name.text s.edges) refl sound.edges.sound is in
    unmoved s ids _ b (first_of (exprs_refused s.edges (e.place ∷ []) shown ∷ ends_refused ids list ∷ [])) e.is (λ none.
    let a = or_none (exprs_refused s.edges (e.place ∷ []) shown) _ none in
    reads_fit s ids e.place (exprs_of s.edges (e.place ∷ []) shown) (exprs_there s.edges (e.place ∷ []) shown) list (ends_list_fits s.edges ids e.place (ap is_some e.named.there) list (or_none (ends_refused ids list) None a.1).0))
in_fits s ids (GoOver words) b sound is = unmoved s ids _ b (walk_refused s.edges ids words) is (walk_fits s ids words)

by_space : (s : Schema) (statement : Statement) (b : Bound) (o : Option Space) → IsSound s → bound_by s statement o ≡ Ok b → fits_space s o b ≡ true
by_space s statement b None sound is = cc
by_space s statement b (Some space) sound is = in_fits s space.ids statement b sound is

-- what is bound by a schema that is kept fits it
pub fitting : (s : Schema) (statement : Statement) (b : Bound) → IsSound s → bound s statement ≡ Ok b → bound_fits s b ≡ true
fitting s statement b sound is = by_space s statement b s.space sound is
