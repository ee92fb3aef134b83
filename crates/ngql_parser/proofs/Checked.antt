-- The language is readable with one token of lookahead: tests that compute.
use Rattle.std.proofs.Common.{◌≡◌, ℕ, ◌+◌, ◌≤◌, pos, Bool, true, false, List, [], ◌∷◌, length, length-append, get_or, refl, ap, ◌∙◌, arith}
use Rattle.grammar.specs.Checks.{IsChecked, IsReadable, Base, has_samples}
use Rattle.grammar.specs.Reading.{found, again_read}
use Rattle.grammar.proofs.Whose.{base_by}
use Rattle.grammar.proofs.Exact.{again_suffixed}
use Rattle.grammar.proofs.Suffixes.{suffixed}
use Rattle.graph_model.specs.declared.val.Val.TheVariants as val
use Rattle.ngql_syntax.specs.declared.cond.RawStep.TheVariants as step
use Rattle.ngql_syntax.specs.declared.cond.Rel.TheVariants as rel
use Rattle.ngql_syntax.specs.declared.expr.RawExpr.TheVariants as expr
use Rattle.ngql_parser.specs.declared.kind.Kind.{Kind}
use Rattle.ngql_parser.specs.declared.kind.Kind.TheVariants.{Ellipsis, Name, SmallInt, Int, WideInt, Text, LongText, Client, Blank, Arrow, At, Comma, Colon, Semicolon, Open, Close, Dot, Star, Tilde, Stray, Equals, Eq, Ne, Lt, Le, Gt, Ge, Create, Space, Use, Tag, Edge, If, Not, Exists, Insert, Vertex, Values, Delete, Fetch, Prop, On, Go, Step, Steps, From, Over, Reversely, Bidirect, Where, Yield, As, And, Or, Null, Default, True, False, IntWord, Int64Word, BoolWord, StringWord, FixedWord, PartsWord, FactorWord, IdsWord, BadParts, BadFactor, BadIds, SrcCall, DstCall, RankCall, TypeCall, IdCall, EdgePropsCall, VertexPropsCall, PropsCall}
use Rattle.ngql_parser.specs.declared.token.Token.{Token}
use Rattle.ngql_parser.specs.Rules.{Rule, ngql, reads, kind_of, int, name, vid, ine, lit, option_number, set_to, parts_opt, factor_opt, number_ids, text_ids, ids_behind, ids_kind, ids_opt, opt_of, opt_list, options, space, column_type, not_null, nullness, standard, col, columns, shape, tag, edge, defined, create, use_of, cols, vals_behind, vals, rank, ends_behind, ends, colon_vals, vertex_row, vertex_rows, put_head, put_vertices, put_vertex, edge_row, edge_rows, put_edges, put_edge, put, insert, vids, ends_list, del_edge, del_vertex, del, delete, call_word, of_kind, edge_call, vertex_call, behind_dot, of_dot, edge_property, vertex_property, owner, named, edge_expr, vertex_expr, alias, edge_shown, vertex_shown, edge_yield, vertex_yield, other_ids, other_ends, behind_id, behind_ends, behind_first, fetch_on, fetch, rel_of, test_step, comparison, and_of, cond, in_brackets, not_of, step_count, step_word, some_steps, steps, from, all_types, types, over_what, over, ways, condition, go_start, go_path, go_end, go_words, go, stmt, client_number, client_mark, client, mark, whole, line}

abbrev pub kinds : List Kind
kinds = Ellipsis ∷ Name ∷ SmallInt ∷ Int ∷ WideInt ∷ Text ∷ LongText ∷ Client ∷ Blank ∷ Arrow ∷ At ∷ Comma ∷ Colon ∷ Semicolon ∷ Open ∷ Close ∷ Dot ∷ Star ∷ Tilde ∷ Stray ∷ Equals ∷ Eq ∷ Ne ∷ Lt ∷ Le ∷ Gt ∷ Ge ∷ Create ∷ Space ∷ Use ∷ Tag ∷ Edge ∷ If ∷ Not ∷ Exists ∷ Insert ∷ Vertex ∷ Values ∷ Delete ∷ Fetch ∷ Prop ∷ On ∷ Go ∷ Step ∷ Steps ∷ From ∷ Over ∷ Reversely ∷ Bidirect ∷ Where ∷ Yield ∷ As ∷ And ∷ Or ∷ Null ∷ Default ∷ True ∷ False ∷ IntWord ∷ Int64Word ∷ BoolWord ∷ StringWord ∷ FixedWord ∷ PartsWord ∷ FactorWord ∷ IdsWord ∷ BadParts ∷ BadFactor ∷ BadIds ∷ SrcCall ∷ DstCall ∷ RankCall ∷ TypeCall ∷ IdCall ∷ EdgePropsCall ∷ VertexPropsCall ∷ PropsCall ∷ []

-- a token of each kind
abbrev pub example : ℕ → Token
example k = record { kind = get_or kinds k Ellipsis; number = pos 0; text = []; at = 0 }

-- src(edge) == NULL
pub base : (lifted : Bool) → Base ngql lifted
unfolding not_of in_brackets cond and_of comparison edge_expr edge_call call_word of_kind edge_property of_dot behind_dot named owner name rel_of lit
base true = base_by ngql true 9 (example 69 ∷ example 14 ∷ example 31 ∷ example 15 ∷ example 21 ∷ example 54 ∷ []) (step.Test expr.Src rel.Eq (record { val = val.Null; at = 0 }) ∷ []) refl
base false = base_by ngql false 9 (example 69 ∷ example 14 ∷ example 31 ∷ example 15 ∷ example 21 ∷ example 54 ∷ []) (step.Test expr.Src rel.Eq (record { val = val.Null; at = 0 }) ∷ []) refl

abbrev pub checked : IsChecked ngql
unfolding not_of in_brackets cond and_of comparison edge_expr edge_call call_word of_kind edge_property of_dot behind_dot named owner name rel_of lit
checked = record {
  example = example;
  dots = refl;
  fine = refl;
  samples = refl;
  guarded = refl;
  some = refl;
  first = refl;
  on = refl;
  base = base;
}

pub readable : IsReadable ngql checked line
unfolding int name vid ine lit option_number set_to parts_opt factor_opt number_ids text_ids ids_behind ids_kind ids_opt opt_of opt_list options space column_type not_null nullness standard col columns shape tag edge defined create use_of cols vals_behind vals rank ends_behind ends colon_vals vertex_row vertex_rows put_head put_vertices put_vertex edge_row edge_rows put_edges put_edge put insert vids ends_list del_edge del_vertex del delete call_word of_kind edge_call vertex_call behind_dot of_dot edge_property vertex_property owner named edge_expr vertex_expr alias edge_shown vertex_shown edge_yield vertex_yield other_ids other_ends behind_id behind_ends behind_first fetch_on fetch rel_of test_step comparison and_of cond in_brackets not_of step_count step_word some_steps steps from all_types types over_what over ways condition go_start go_path go_end go_words go stmt client_number client_mark client mark whole line
readable = record { fine = refl; samples = refl }

-- what is left behind a rule is no longer than what it read from
pub rest_within : {A : Type 0} (g : Rule A) → has_samples kind_of example g ≡ true → (d : ℕ) (ts : List Token) (v : A) (rest : List Token) → reads d g ts ≡ found v rest → length rest ≤ length ts
rest_within g samples d ts v rest e =
    let s = suffixed kind_of 0 false ngql.first (again_read ngql false d) d example refl [] (again_suffixed ngql checked false d) g samples in
    let p = s.found ts v rest e in
    let n : length ts ≡ length p.0 + length rest = ap length p.1 ∙ length-append p.0 rest in
    omega arith
