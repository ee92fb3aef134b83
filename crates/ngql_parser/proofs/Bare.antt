-- Each rule forgets the places that its tokens forget.
use Rattle.std.proofs.Common.{◌≡◌, ℕ, List, [], ◌∷◌, ◌++◌, Option, Some, None, map, option_map, flat_map, refl, sym, ap, ap₂, ◌∙◌}
use Rattle.std.proofs.lemmas.List.{map-append, map-id}
use Rattle.ngql_syntax.specs.declared.cond.RawStep.{RawStep}
use Rattle.ngql_syntax.specs.declared.cond.RawStep.TheVariants as step
use Rattle.ngql_syntax.specs.declared.define.Define.TheVariants as define
use Rattle.ngql_syntax.specs.declared.lit.Lit.{Lit}
use Rattle.ngql_syntax.specs.declared.spanned.Spanned.{Spanned}
use Rattle.ngql_parser.specs.declared.kind.Kind.{Kind}
use Rattle.ngql_parser.specs.declared.kind.Kind.TheVariants as kind
use Rattle.ngql_parser.specs.declared.fetch.Behind.{Behind}
use Rattle.ngql_parser.specs.declared.fetch.Behind.TheVariants as more
use Rattle.ngql_parser.specs.declared.token.Token.{Token}
use Rattle.grammar.specs.Grammar.{token, both, either, maybe, several, again}
use Rattle.ngql_parser.specs.Keeps.{Keeps}
use Rattle.ngql_parser.specs.Places.{bare_token, bare_name, bare_lit, bare_values, bare_ends, bare_vertex_row, bare_edge_row, bare_vertices, bare_edges, bare_define, bare_expr, bare_step, bare_go, bare_statement, bare_line}
use Rattle.ngql_parser.specs.Rules as rule
use Rattle.ngql_parser.specs.Rules.{Rule, ◌>>◌, ◌<<◌, ◌&◌, word, with_commas, in_parentheses}

abbrev pub bare_steps : List RawStep → List RawStep
bare_steps s = map bare_step s

-- a rule forgets places: where its tokens have none, neither has its value
pub record Bare {A : Type 0} (g : Rule A) (of : A → A) : Type 0 where
  pub keeps : Keeps bare_token bare_steps g of

leaf : {A : Type 0} {within beyond : List ℕ} {f : Token → A} (of : A → A) → ((t : Token) → f (bare_token t) ≡ of (f t)) → Bare (token within beyond f) of
leaf of same = record { keeps = same }

joins : {A B C : Type 0} {f : A → B → C} {g : Rule A} {h : Rule B} {one : A → A} {other : B → B} {of : C → C} → Bare g one → Bare h other → ((a : A) (b : B) → f (one a) (other b) ≡ of (f a b)) → Bare (both f g h) of
joins {one = one} {other = other} k l same = record { keeps = (one, other, k.keeps, l.keeps, same) }

choice : {A : Type 0} {g h : Rule A} {of : A → A} → Bare g of → Bare h of → Bare (either g h) of
choice k l = record { keeps = (k.keeps, l.keeps) }

option : {A C : Type 0} {f : Option A → C} {g : Rule A} {one : A → A} {of : C → C} → Bare g one → f None ≡ of (f None) → ((a : A) → f (Some (one a)) ≡ of (f (Some a))) → Bare (maybe f g) of
option {one = one} k none same = record { keeps = (one, k.keeps, none, same) }

items : {A C : Type 0} {f : List A → C} {limit : Option ℕ} {separator : ℕ} {g : Rule A} {one : A → A} {of : C → C} → Bare g one → ((found : List A) → f (map one found) ≡ of (f found)) → Bare (several f limit separator g) of
items {one = one} k same = record { keeps = (one, k.keeps, same) }

back : {A : Type 0} {f : List RawStep → A} (of : A → A) → ((r : List RawStep) → f (bare_steps r) ≡ of (f r)) → Bare (again f) of
back of same = record { keeps = same }

word_bare : (k : Kind) → Bare (word k) (λ at. 0)
word_bare k = leaf (λ at. 0) (λ t. refl)

after : {A B : Type 0} {g : Rule A} {h : Rule B} {one : A → A} {other : B → B} → Bare g one → Bare h other → Bare (g >> h) other
after k l = joins k l (λ a b. refl)

before : {A B : Type 0} {g : Rule A} {h : Rule B} {one : A → A} {other : B → B} → Bare g one → Bare h other → Bare (g << h) one
before k l = joins k l (λ a b. refl)

pair : {A B : Type 0} {g : Rule A} {h : Rule B} {one : A → A} {other : B → B} → Bare g one → Bare h other → Bare (g & h) (λ p. (one p.0, other p.1))
pair k l = joins k l (λ a b. refl)

commas_bare : {A : Type 0} {g : Rule A} {one : A → A} (limit : Option ℕ) → Bare g one → Bare (with_commas limit g) (map one)
commas_bare limit k = items k (λ found. refl)

parentheses_bare : {A : Type 0} {g : Rule A} {one : A → A} (limit : Option ℕ) → Bare g one → Bare (in_parentheses limit g) (map one)
parentheses_bare limit k = after (word_bare kind.Open) (before (option (commas_bare limit k) refl (λ a. refl)) (word_bare kind.Close))

int_bare : Bare (rule.int) (λ x. x)
unfolding rule.int
int_bare = leaf (λ x. x) (λ t. refl)

name_bare : Bare (rule.name) bare_name
unfolding rule.name
name_bare = leaf bare_name (λ t. refl)

vid_value_bare : (k : Kind) (t : Token) → rule.vid_value k (bare_token t) ≡ rule.vid_value k t
vid_value_bare kind.Text t = refl
vid_value_bare _ t = refl

vid_bare : Bare (rule.vid) bare_lit
unfolding rule.vid
vid_bare = leaf bare_lit (λ t. ap (λ v. record { val = v; at = 0 }) (vid_value_bare t.kind t))

ine_bare : Bare (rule.ine) (λ x. x)
unfolding rule.ine
ine_bare = option (after (word_bare kind.If) (after (word_bare kind.Not) (word_bare kind.Exists))) refl (λ a. refl)

lit_value_bare : (k : Kind) (t : Token) → rule.lit_value k (bare_token t) ≡ rule.lit_value k t
lit_value_bare kind.SmallInt t = refl
lit_value_bare kind.Int t = refl
lit_value_bare kind.True t = refl
lit_value_bare kind.False t = refl
lit_value_bare kind.Text t = refl
lit_value_bare _ t = refl

lit_bare : Bare (rule.lit) bare_lit
unfolding rule.lit
lit_bare = leaf bare_lit (λ t. ap (λ v. record { val = v; at = 0 }) (lit_value_bare t.kind t))

option_number_bare : Bare (rule.option_number) (λ x. x)
unfolding rule.option_number
option_number_bare = leaf (λ x. x) (λ t. refl)

set_to_bare : Bare (rule.set_to) (λ x. x)
unfolding rule.set_to
set_to_bare = after (word_bare kind.Equals) option_number_bare

parts_opt_bare : Bare (rule.parts_opt) (λ x. x)
unfolding rule.parts_opt
parts_opt_bare = joins (leaf (λ at. 0) (λ t. refl)) set_to_bare (λ a b. refl)

factor_opt_bare : Bare (rule.factor_opt) (λ x. x)
unfolding rule.factor_opt
factor_opt_bare = joins (leaf (λ at. 0) (λ t. refl)) set_to_bare (λ a b. refl)

number_ids_bare : Bare (rule.number_ids) (λ x. x)
unfolding rule.number_ids
number_ids_bare = leaf (λ x. x) (λ t. refl)

text_ids_bare : Bare (rule.text_ids) (λ x. x)
unfolding rule.text_ids
text_ids_bare = joins (word_bare kind.FixedWord) (after (word_bare kind.Open) (before option_number_bare (word_bare kind.Close))) (λ a b. refl)

ids_behind_bare : Bare (rule.ids_behind) (λ x. x)
unfolding rule.ids_behind
ids_behind_bare = choice number_ids_bare text_ids_bare

ids_kind_bare : Bare (rule.ids_kind) (λ x. x)
unfolding rule.ids_kind
ids_kind_bare = after (word_bare kind.Equals) ids_behind_bare

ids_opt_bare : Bare (rule.ids_opt) (λ x. x)
unfolding rule.ids_opt
ids_opt_bare = joins (leaf (λ at. 0) (λ t. refl)) ids_kind_bare (λ a b. refl)

opt_of_bare : Bare (rule.opt_of) (λ x. x)
unfolding rule.opt_of
opt_of_bare = choice parts_opt_bare (choice factor_opt_bare ids_opt_bare)

opt_list_bare : Bare (rule.opt_list) (map (λ x. x))
unfolding rule.opt_list
opt_list_bare = after (word_bare kind.Open) (before (commas_bare None opt_of_bare) (word_bare kind.Close))

options_bare : Bare (rule.options) (λ x. x)
unfolding rule.options
options_bare = option opt_list_bare refl (λ a. ap rule.options_of (map-id a))

space_bare : Bare (rule.space) bare_define
unfolding rule.space
space_bare = joins (word_bare kind.Space) (pair ine_bare (pair name_bare options_bare)) (λ a p. refl)

column_type_bare : Bare (rule.column_type) (λ x. x)
unfolding rule.column_type
column_type_bare = leaf (λ x. x) (λ t. refl)

not_null_bare : Bare (rule.not_null) (λ x. x)
unfolding rule.not_null
not_null_bare = joins (word_bare kind.Not) (word_bare kind.Null) (λ a b. refl)

nullness_bare : Bare (rule.nullness) (λ x. x)
unfolding rule.nullness
nullness_bare = option (choice (leaf (λ x. x) (λ t. refl)) not_null_bare) refl (λ a. refl)

standard_bare : Bare (rule.standard) (λ x. x)
unfolding rule.standard
standard_bare = option (joins (word_bare kind.Default) lit_bare (λ a b. refl)) refl (λ a. refl)

col_bare : Bare (rule.col) (λ x. x)
unfolding rule.col
col_bare = joins name_bare (pair column_type_bare (pair nullness_bare standard_bare)) (λ a b. refl)

columns_bare : Bare (rule.columns) (map (λ x. x))
unfolding rule.columns
columns_bare = parentheses_bare (Some 32) col_bare

shape_bare : Bare (rule.shape) (λ p. (p.0, (bare_name p.1.0, map (λ x. x) p.1.1)))
unfolding rule.shape
shape_bare = pair ine_bare (pair name_bare columns_bare)

tag_bare : Bare (rule.tag) bare_define
unfolding rule.tag
tag_bare = joins (word_bare kind.Tag) shape_bare (λ a p. ap (λ cs. define.Tag (bare_name p.1.0) cs p.0) (map-id p.1.1))

edge_bare : Bare (rule.edge) bare_define
unfolding rule.edge
edge_bare = joins (word_bare kind.Edge) shape_bare (λ a p. ap (λ cs. define.Edge (bare_name p.1.0) cs p.0) (map-id p.1.1))

defined_bare : Bare (rule.defined) bare_define
unfolding rule.defined
defined_bare = choice space_bare (choice tag_bare edge_bare)

create_bare : Bare (rule.create) bare_statement
unfolding rule.create
create_bare = joins (word_bare kind.Create) defined_bare (λ a d. refl)

use_of_bare : Bare (rule.use_of) bare_statement
unfolding rule.use_of
use_of_bare = joins (word_bare kind.Use) name_bare (λ a n. refl)

cols_bare : Bare (rule.cols) (map bare_name)
unfolding rule.cols
cols_bare = parentheses_bare None name_bare

vals_behind_bare : Bare (rule.vals_behind) (map bare_lit)
unfolding rule.vals_behind
vals_behind_bare = before (option (commas_bare None lit_bare) refl (λ a. refl)) (word_bare kind.Close)

vals_bare : Bare (rule.vals) bare_values
unfolding rule.vals
vals_bare = joins (word_bare kind.Open) vals_behind_bare (λ a b. refl)

rank_bare : Bare (rule.rank) (λ x. x)
unfolding rule.rank
rank_bare = option (after (word_bare kind.At) int_bare) refl (λ a. refl)

ends_behind_bare : Bare (rule.ends_behind) (λ p. (bare_lit p.0, p.1))
unfolding rule.ends_behind
ends_behind_bare = after (word_bare kind.Arrow) (pair vid_bare rank_bare)

ends_bare : Bare (rule.ends) bare_ends
unfolding rule.ends
ends_bare = joins vid_bare ends_behind_bare (λ a p. refl)

colon_vals_bare : Bare (rule.colon_vals) bare_values
unfolding rule.colon_vals
colon_vals_bare = after (word_bare kind.Colon) vals_bare

vertex_row_bare : Bare (rule.vertex_row) bare_vertex_row
unfolding rule.vertex_row
vertex_row_bare = joins vid_bare colon_vals_bare (λ a b. refl)

vertex_rows_bare : Bare (rule.vertex_rows) (map bare_vertex_row)
unfolding rule.vertex_rows
vertex_rows_bare = after (word_bare kind.Values) (commas_bare (Some 64) vertex_row_bare)

put_head_bare : Bare (rule.put_head) (λ h. (h.0, (bare_name h.1.0, map bare_name h.1.1)))
unfolding rule.put_head
put_head_bare = pair ine_bare (pair name_bare cols_bare)

put_vertices_bare : Bare (rule.put_vertices) bare_vertices
unfolding rule.put_vertices
put_vertices_bare = joins put_head_bare vertex_rows_bare (λ h rows. refl)

put_vertex_bare : Bare (rule.put_vertex) bare_statement
unfolding rule.put_vertex
put_vertex_bare = joins (word_bare kind.Vertex) put_vertices_bare (λ a b. refl)

edge_row_bare : Bare (rule.edge_row) bare_edge_row
unfolding rule.edge_row
edge_row_bare = joins ends_bare colon_vals_bare (λ a b. refl)

edge_rows_bare : Bare (rule.edge_rows) (map bare_edge_row)
unfolding rule.edge_rows
edge_rows_bare = after (word_bare kind.Values) (commas_bare (Some 64) edge_row_bare)

put_edges_bare : Bare (rule.put_edges) bare_edges
unfolding rule.put_edges
put_edges_bare = joins put_head_bare edge_rows_bare (λ h rows. refl)

put_edge_bare : Bare (rule.put_edge) bare_statement
unfolding rule.put_edge
put_edge_bare = joins (word_bare kind.Edge) put_edges_bare (λ a b. refl)

put_bare : Bare (rule.put) bare_statement
unfolding rule.put
put_bare = choice put_vertex_bare put_edge_bare

insert_bare : Bare (rule.insert) bare_statement
unfolding rule.insert
insert_bare = after (word_bare kind.Insert) put_bare

vids_bare : Bare (rule.vids) (map bare_lit)
unfolding rule.vids
vids_bare = commas_bare (Some 64) vid_bare

ends_list_bare : Bare (rule.ends_list) (map bare_ends)
unfolding rule.ends_list
ends_list_bare = commas_bare (Some 64) ends_bare

del_edge_bare : Bare (rule.del_edge) bare_statement
unfolding rule.del_edge
del_edge_bare = joins (word_bare kind.Edge) (pair name_bare ends_list_bare) (λ a p. refl)

del_vertex_bare : Bare (rule.del_vertex) bare_statement
unfolding rule.del_vertex
del_vertex_bare = joins (word_bare kind.Vertex) vids_bare (λ a b. refl)

del_bare : Bare (rule.del) bare_statement
unfolding rule.del
del_bare = choice del_edge_bare del_vertex_bare

delete_bare : Bare (rule.delete) bare_statement
unfolding rule.delete
delete_bare = after (word_bare kind.Delete) del_bare

call_by_bare : (k : Kind) → rule.call_by k ≡ bare_expr (rule.call_by k)
call_by_bare kind.SrcCall = refl
call_by_bare kind.DstCall = refl
call_by_bare kind.RankCall = refl
call_by_bare _ = refl

call_word_bare : Bare (rule.call_word) bare_expr
unfolding rule.call_word
call_word_bare = leaf bare_expr (λ t. call_by_bare t.kind)

of_kind_bare : (k : Kind) → Bare (rule.of_kind k) (λ at. 0)
unfolding rule.of_kind
of_kind_bare k = after (word_bare kind.Open) (before (word_bare k) (word_bare kind.Close))

edge_call_bare : Bare (rule.edge_call) bare_expr
unfolding rule.edge_call
edge_call_bare = before call_word_bare (of_kind_bare kind.Edge)

vertex_call_bare : Bare (rule.vertex_call) bare_expr
unfolding rule.vertex_call
vertex_call_bare = joins (word_bare kind.IdCall) (of_kind_bare kind.Vertex) (λ a b. refl)

behind_dot_bare : Bare (rule.behind_dot) bare_name
unfolding rule.behind_dot
behind_dot_bare = after (word_bare kind.Dot) name_bare

of_dot_bare : (k : Kind) → Bare (rule.of_dot k) bare_name
unfolding rule.of_dot
of_dot_bare k = after (of_kind_bare k) behind_dot_bare

edge_property_bare : Bare (rule.edge_property) bare_expr
unfolding rule.edge_property
edge_property_bare = joins (leaf (λ at. 0) (λ t. refl)) (of_dot_bare kind.Edge) (λ a b. refl)

vertex_property_bare : Bare (rule.vertex_property) bare_expr
unfolding rule.vertex_property
vertex_property_bare = joins (leaf (λ at. 0) (λ t. refl)) (of_dot_bare kind.Vertex) (λ a b. refl)

owner_bare : Bare (rule.owner) bare_name
unfolding rule.owner
owner_bare = leaf bare_name (λ t. refl)

named_bare : Bare (rule.named) bare_expr
unfolding rule.named
named_bare = joins owner_bare behind_dot_bare (λ a b. refl)

edge_expr_bare : Bare (rule.edge_expr) bare_expr
unfolding rule.edge_expr
edge_expr_bare = choice edge_call_bare (choice edge_property_bare named_bare)

vertex_expr_bare : Bare (rule.vertex_expr) bare_expr
unfolding rule.vertex_expr
vertex_expr_bare = choice vertex_call_bare (choice vertex_property_bare named_bare)

alias_bare : Bare (rule.alias) (option_map bare_name)
unfolding rule.alias
alias_bare = option (after (word_bare kind.As) name_bare) refl (λ a. refl)

edge_shown_bare : Bare (rule.edge_shown) bare_expr
unfolding rule.edge_shown
edge_shown_bare = before edge_expr_bare alias_bare

vertex_shown_bare : Bare (rule.vertex_shown) bare_expr
unfolding rule.vertex_shown
vertex_shown_bare = before vertex_expr_bare alias_bare

edge_yield_bare : Bare (rule.edge_yield) (map bare_expr)
unfolding rule.edge_yield
edge_yield_bare = after (word_bare kind.Yield) (commas_bare None edge_shown_bare)

vertex_yield_bare : Bare (rule.vertex_yield) (map bare_expr)
unfolding rule.vertex_yield
vertex_yield_bare = after (word_bare kind.Yield) (commas_bare None vertex_shown_bare)

other_ids_bare : Bare (rule.other_ids) (map bare_lit)
unfolding rule.other_ids
other_ids_bare = option (after (word_bare kind.Comma) (commas_bare (Some 63) vid_bare)) refl (λ a. refl)

other_ends_bare : Bare (rule.other_ends) (map bare_ends)
unfolding rule.other_ends
other_ends_bare = option (after (word_bare kind.Comma) (commas_bare (Some 63) ends_bare)) refl (λ a. refl)

abbrev bare_behind : Behind → Behind
bare_behind (more.Ids others shown) = more.Ids (map bare_lit others) (map bare_expr shown)
bare_behind (more.Ends dst r others shown) = more.Ends (bare_lit dst) r (map bare_ends others) (map bare_expr shown)

behind_id_bare : Bare (rule.behind_id) bare_behind
unfolding rule.behind_id
behind_id_bare = joins other_ids_bare vertex_yield_bare (λ a b. refl)

behind_ends_bare : Bare (rule.behind_ends) bare_behind
unfolding rule.behind_ends
behind_ends_bare = joins ends_behind_bare (pair other_ends_bare edge_yield_bare) (λ p q. refl)

behind_first_bare : Bare (rule.behind_first) bare_behind
unfolding rule.behind_first
behind_first_bare = choice behind_ends_bare behind_id_bare

fetch_on_bare : Bare (rule.fetch_on) bare_name
unfolding rule.fetch_on
fetch_on_bare = after (word_bare kind.Fetch) (after (word_bare kind.Prop) (after (word_bare kind.On) name_bare))

fetched_bare : (n : Spanned) (v : Lit) (b : Behind) → rule.fetched (bare_name n) (bare_lit v) (bare_behind b) ≡ bare_statement (rule.fetched n v b)
fetched_bare n v (more.Ids others shown) = refl
fetched_bare n v (more.Ends dst r others shown) = refl

fetch_bare : Bare (rule.fetch) bare_statement
unfolding rule.fetch
fetch_bare = joins fetch_on_bare (pair vid_bare behind_first_bare) (λ n p. fetched_bare n p.0 p.1)

rel_of_bare : Bare (rule.rel_of) (λ x. x)
unfolding rule.rel_of
rel_of_bare = leaf (λ x. x) (λ t. refl)

comparison_bare : Bare (rule.comparison) bare_steps
unfolding rule.comparison
comparison_bare = joins edge_expr_bare (pair rel_of_bare lit_bare) (λ a b. refl)

flat_bare : (s : RawStep) → s ≡ bare_step s → (items : List (List RawStep)) → flat_map (λ other. other ++ s ∷ []) (map bare_steps items) ≡ bare_steps (flat_map (λ other. other ++ s ∷ []) items)
flat_bare s own [] = refl
flat_bare s own (a ∷ items) =
    ap₂ (λ x y. x ++ y) (ap (λ x. bare_steps a ++ x ∷ []) own ∙ sym (map-append bare_step a (s ∷ []))) (flat_bare s own items)
    ∙ sym (map-append bare_step (a ++ s ∷ []) (flat_map (λ other. other ++ s ∷ []) items))

joined_bare : (s : RawStep) → s ≡ bare_step s → (items : List (List RawStep)) → rule.joined s (map bare_steps items) ≡ bare_steps (rule.joined s items)
joined_bare s own [] = refl
joined_bare s own (a ∷ items) =
    ap (λ x. bare_steps a ++ x) (flat_bare s own items) ∙ sym (map-append bare_step a (flat_map (λ other. other ++ s ∷ []) items))

and_of_bare : Bare (rule.and_of) bare_steps
unfolding rule.and_of
and_of_bare = items (back bare_steps (λ r. refl)) (joined_bare step.And refl)

cond_bare : Bare (rule.cond) bare_steps
unfolding rule.cond
cond_bare = items and_of_bare (joined_bare step.Or refl)

in_brackets_bare : Bare (rule.in_brackets) bare_steps
unfolding rule.in_brackets
in_brackets_bare = after (word_bare kind.Open) (before cond_bare (word_bare kind.Close))

pub not_of_bare : Bare (rule.not_of) bare_steps
unfolding rule.not_of
not_of_bare = choice (joins (word_bare kind.Not) (back bare_steps (λ r. refl)) (λ a s. sym (map-append bare_step s (step.Not ∷ [])))) (choice in_brackets_bare comparison_bare)

step_count_bare : Bare (rule.step_count) (λ x. x)
unfolding rule.step_count
step_count_bare = leaf (λ x. x) (λ t. refl)

step_word_bare : Bare (rule.step_word) (λ at. 0)
unfolding rule.step_word
step_word_bare = leaf (λ at. 0) (λ t. refl)

some_steps_bare : Bare (rule.some_steps) (λ x. x)
unfolding rule.some_steps
some_steps_bare = before step_count_bare step_word_bare

steps_bare : Bare (rule.steps) (λ x. x)
unfolding rule.steps
steps_bare = option some_steps_bare refl (λ a. refl)

from_bare : Bare (rule.from) (map bare_lit)
unfolding rule.from
from_bare = after (word_bare kind.From) vids_bare

all_types_bare : Bare (rule.all_types) (option_map (map bare_name))
unfolding rule.all_types
all_types_bare = leaf (option_map (map bare_name)) (λ t. refl)

types_bare : Bare (rule.types) (option_map (map bare_name))
unfolding rule.types
types_bare = items name_bare (λ found. refl)

over_what_bare : Bare (rule.over_what) (option_map (map bare_name))
unfolding rule.over_what
over_what_bare = choice all_types_bare types_bare

over_bare : Bare (rule.over) (option_map (map bare_name))
unfolding rule.over
over_bare = after (word_bare kind.Over) over_what_bare

ways_bare : Bare (rule.ways) (λ x. x)
unfolding rule.ways
ways_bare = option (leaf (λ x. x) (λ t. refl)) refl (λ a. refl)

condition_bare : Bare (rule.condition) (option_map bare_steps)
unfolding rule.condition
condition_bare = option (after (word_bare kind.Where) cond_bare) refl (λ a. refl)

go_start_bare : Bare (rule.go_start) (λ p. (p.0, map bare_lit p.1))
unfolding rule.go_start
go_start_bare = pair steps_bare from_bare

go_path_bare : Bare (rule.go_path) (λ p. (option_map (map bare_name) p.0, p.1))
unfolding rule.go_path
go_path_bare = pair over_bare ways_bare

go_end_bare : Bare (rule.go_end) (λ p. (option_map bare_steps p.0, map bare_expr p.1))
unfolding rule.go_end
go_end_bare = pair condition_bare edge_yield_bare

go_words_bare : Bare (rule.go_words) bare_go
unfolding rule.go_words
go_words_bare = joins go_start_bare (pair go_path_bare go_end_bare) (λ s p. refl)

go_bare : Bare (rule.go) bare_statement
unfolding rule.go
go_bare = joins (word_bare kind.Go) go_words_bare (λ a b. refl)

stmt_bare : Bare (rule.stmt) bare_statement
unfolding rule.stmt
stmt_bare = choice create_bare (choice use_of_bare (choice insert_bare (choice delete_bare (choice fetch_bare go_bare))))

client_number_bare : Bare (rule.client_number) (λ x. x)
unfolding rule.client_number
client_number_bare = leaf (λ x. x) (λ t. refl)

client_mark_bare : Bare (rule.client_mark) (λ x. x)
unfolding rule.client_mark
client_mark_bare = after (word_bare kind.At) (before client_number_bare (word_bare kind.Blank))

client_bare : Bare (rule.client) (λ x. x)
unfolding rule.client
client_bare = option client_mark_bare refl (λ a. refl)

mark_bare : (k : Kind) → Bare (rule.mark k) (λ x. x)
unfolding rule.mark
mark_bare k = option (word_bare k) refl (λ a. refl)

whole_bare : Bare (rule.whole) bare_statement
unfolding rule.whole
whole_bare = before stmt_bare (mark_bare kind.Semicolon)

pub line_bare : Bare (rule.line) bare_line
unfolding rule.line
line_bare = joins client_bare (pair (mark_bare kind.Tilde) whole_bare) (λ a b. refl)
