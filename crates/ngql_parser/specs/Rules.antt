-- The grammar, rule by rule in the order of the printed one.
use Rattle.std.specs.Prelude.{ℕ, ℤ, pos, negsuc, List, [], ◌∷◌, ◌++◌, Bool, true, false, Option, Some, None, flat_map, is_some, nat_le, if◌then◌else◌}
use Rattle.grammar.specs.Grammar.{Grammar, token, both, either, maybe, several, again}
use Rattle.grammar.specs.Language.{Language}
use Rattle.grammar.specs.Reading.{Reading, read}
use Rattle.graph_model.specs.declared.val.Val.{Val}
use Rattle.graph_model.specs.declared.val.Val.TheVariants as val
use Rattle.ngql_syntax.specs.declared.cond.Rel.{Rel}
use Rattle.ngql_syntax.specs.declared.cond.Rel.TheVariants as rel
use Rattle.ngql_syntax.specs.declared.cond.RawStep.{RawStep}
use Rattle.ngql_syntax.specs.declared.cond.RawStep.TheVariants as step
use Rattle.ngql_syntax.specs.declared.define.Column.{Column}
use Rattle.ngql_syntax.specs.declared.define.Define.{Define}
use Rattle.ngql_syntax.specs.declared.define.Define.TheVariants as define
use Rattle.ngql_syntax.specs.declared.define.Kind.{Kind as ColumnKind}
use Rattle.ngql_syntax.specs.declared.define.Kind.TheVariants as column_kind
use Rattle.ngql_syntax.specs.declared.expr.RawExpr.{RawExpr}
use Rattle.ngql_syntax.specs.declared.expr.RawExpr.TheVariants as expr
use Rattle.ngql_syntax.specs.declared.go.GoWords.{GoWords}
use Rattle.ngql_syntax.specs.declared.go.Way.{Way}
use Rattle.ngql_syntax.specs.declared.go.Way.TheVariants as way
use Rattle.ngql_syntax.specs.declared.lit.Lit.{Lit}
use Rattle.ngql_syntax.specs.declared.lit.Values.{Values}
use Rattle.ngql_syntax.specs.declared.put.EdgeRow.{EdgeRow}
use Rattle.ngql_syntax.specs.declared.put.Ends.{Ends}
use Rattle.ngql_syntax.specs.declared.put.PutEdges.{PutEdges}
use Rattle.ngql_syntax.specs.declared.put.PutVertices.{PutVertices}
use Rattle.ngql_syntax.specs.declared.put.VertexRow.{VertexRow}
use Rattle.ngql_syntax.specs.declared.spanned.Spanned.{Spanned}
use Rattle.ngql_syntax.specs.declared.statement.Line.{Line}
use Rattle.ngql_syntax.specs.declared.statement.Statement.{Statement}
use Rattle.ngql_syntax.specs.declared.statement.Statement.TheVariants as statement
use Rattle.part_keys.specs.declared.vid_kind.VidKind.{VidKind}
use Rattle.part_keys.specs.declared.vid_kind.VidKind.TheVariants as ids
use Rattle.ngql_parser.specs.declared.kind.Kind.{Kind}
use Rattle.ngql_parser.specs.declared.kind.Kind.TheVariants as kind
use Rattle.ngql_parser.specs.declared.fetch.Behind.{Behind}
use Rattle.ngql_parser.specs.declared.fetch.Behind.TheVariants as more
use Rattle.ngql_parser.specs.declared.option.Opt.{Opt}
use Rattle.ngql_parser.specs.declared.option.Opt.TheVariants as opt
use Rattle.ngql_parser.specs.declared.option.Options.{Options}
use Rattle.ngql_parser.specs.declared.token.Token.{Token}
use Rattle.ngql_parser.specs.Kinds.{code, names, owners}

abbrev pub Rule : Type 0 → Type 1
Rule A = Grammar Token (List RawStep) A

abbrev pub kind_of : Token → ℕ
kind_of t = code t.kind

-- a word or a mark, with its place
abbrev pub word : Kind → Rule ℕ
word k = token (code k ∷ []) [] (λ t. t.at)

-- one behind the other, of which the value of the first, of the second or of both is kept
infixr 10 ◌>>◌
abbrev pub ◌>>◌ : {A B : Type 0} → Rule A → Rule B → Rule B
g >> h = both (λ a b. b) g h

infixr 10 ◌<<◌
abbrev pub ◌<<◌ : {A B : Type 0} → Rule A → Rule B → Rule A
g << h = both (λ a b. a) g h

infixr 10 ◌&◌
abbrev pub ◌&◌ : {A B : Type 0} → Rule A → Rule B → Rule (A × B)
g & h = both (λ a b. (a, b)) g h

-- a list in parentheses, which may be empty
abbrev pub listed : {A : Type 0} → Option (List A) → List A
listed None = []
listed (Some items) = items

abbrev pub with_commas : {A : Type 0} → Option ℕ → Rule A → Rule (List A)
with_commas limit g = several (λ items. items) limit (code kind.Comma) g

abbrev pub in_parentheses : {A : Type 0} → Option ℕ → Rule A → Rule (List A)
in_parentheses limit g = word kind.Open >> maybe listed (with_commas limit g) << word kind.Close

-- int
unfoldable pub int : Rule ℤ
int = token (code kind.SmallInt ∷ code kind.Int ∷ []) (code kind.WideInt ∷ []) (λ t. t.number)

-- name: a word that is no keyword, or any word in backquotes
abbrev pub spanned : Token → Spanned
spanned t = record { text = t.text; at = t.at }

unfoldable pub name : Rule Spanned
name = token names [] spanned

-- vid = int | text
abbrev pub vid_value : Kind → Token → Val
vid_value kind.Text t = val.Words t.text
vid_value _ t = val.Int t.number

unfoldable pub vid : Rule Lit
vid = token (code kind.SmallInt ∷ code kind.Int ∷ code kind.Text ∷ []) (code kind.WideInt ∷ code kind.LongText ∷ []) (λ t. record { val = vid_value t.kind t; at = t.at })

-- ine = "IF" "NOT" "EXISTS"
unfoldable pub ine : Rule Bool
ine = maybe is_some (word kind.If >> word kind.Not >> word kind.Exists)

-- lit = int | "true" | "false" | text | "NULL"
abbrev pub lit_value : Kind → Token → Val
lit_value kind.SmallInt t = val.Int t.number
lit_value kind.Int t = val.Int t.number
lit_value kind.True t = val.Flag true
lit_value kind.False t = val.Flag false
lit_value kind.Text t = val.Words t.text
lit_value _ t = val.Null

unfoldable pub lit : Rule Lit
lit = token (code kind.SmallInt ∷ code kind.Int ∷ code kind.True ∷ code kind.False ∷ code kind.Text ∷ code kind.Null ∷ []) (code kind.WideInt ∷ code kind.LongText ∷ [])
    (λ t. record { val = lit_value t.kind t; at = t.at })

-- A number of an option. It is 1 to 64 where the option isn't refused.
abbrev pub small : ℤ → ℕ
small (pos n) = if nat_le n 64 then n else 0
small (negsuc n) = 0

unfoldable pub option_number : Rule ℕ
option_number = token (code kind.SmallInt ∷ code kind.Int ∷ code kind.WideInt ∷ []) [] (λ t. small t.number)

-- "=" int
unfoldable pub set_to : Rule ℕ
set_to = word kind.Equals >> option_number

-- opt = "partition_num" "=" int | "replica_factor" "=" int | "vid_type" "=" ("INT64" | "INT" | "FIXED_STRING" "(" int ")")
abbrev pub option_word : Kind → Kind → Rule ℕ
option_word k refused = token (code k ∷ []) (code refused ∷ []) (λ t. t.at)

unfoldable pub parts_opt : Rule Opt
parts_opt = both (λ at n. opt.Parts n) (option_word kind.PartsWord kind.BadParts) set_to

unfoldable pub factor_opt : Rule Opt
factor_opt = both (λ at n. opt.Factor n) (option_word kind.FactorWord kind.BadFactor) set_to

unfoldable pub number_ids : Rule VidKind
number_ids = token (code kind.Int64Word ∷ code kind.IntWord ∷ []) [] (λ t. ids.Num)

unfoldable pub text_ids : Rule VidKind
text_ids = both (λ at n. ids.Name n) (word kind.FixedWord) (word kind.Open >> option_number << word kind.Close)

unfoldable pub ids_behind : Rule VidKind
ids_behind = either number_ids text_ids

unfoldable pub ids_kind : Rule VidKind
ids_kind = word kind.Equals >> ids_behind

unfoldable pub ids_opt : Rule Opt
ids_opt = both (λ at kind. opt.Ids kind) (option_word kind.IdsWord kind.BadIds) ids_kind

unfoldable pub opt_of : Rule Opt
opt_of = either parts_opt (either factor_opt ids_opt)

-- [ "(" opt { "," opt } ")" ]: 10 parts of 1 replica with numbers as ids, where nothing else is written
abbrev pub with_opt : Options → Opt → Options
with_opt o (opt.Parts n) = record o { parts = n }
with_opt o (opt.Factor n) = record o { factor = n }
with_opt o (opt.Ids kind) = record o { ids = kind }

abbrev pub with_opts : Options → List Opt → Options
with_opts o [] = o
with_opts o (first ∷ others) = with_opts (with_opt o first) others

abbrev pub options_of : List Opt → Options
options_of opts = with_opts (record { parts = 10; factor = 1; ids = ids.Num }) opts

unfoldable pub opt_list : Rule (List Opt)
opt_list = word kind.Open >> with_commas None opt_of << word kind.Close

unfoldable pub options : Rule Options
options = maybe (λ found. options_of (listed found)) opt_list

-- "SPACE" [ine] name [ "(" opt { "," opt } ")" ]
unfoldable pub space : Rule Define
space = both (λ at p. define.Space p.1.0 p.1.1.parts p.1.1.factor p.1.1.ids p.0) (word kind.Space) (ine & name & options)

-- col = name ("int" | "int64" | "bool" | "string") [ "NULL" | "NOT" "NULL" ] [ "DEFAULT" lit ]
abbrev pub column_by : Kind → ColumnKind
column_by kind.BoolWord = column_kind.Flag
column_by kind.StringWord = column_kind.Words
column_by _ = column_kind.Int

unfoldable pub column_type : Rule ColumnKind
column_type = token (code kind.IntWord ∷ code kind.Int64Word ∷ code kind.BoolWord ∷ code kind.StringWord ∷ []) [] (λ t. column_by t.kind)

abbrev pub nullable_of : Option Bool → Bool
nullable_of None = true
nullable_of (Some found) = found

unfoldable pub not_null : Rule Bool
not_null = both (λ at a. false) (word kind.Not) (word kind.Null)

unfoldable pub nullness : Rule Bool
nullness = maybe nullable_of (either (token (code kind.Null ∷ []) [] (λ t. true)) not_null)

unfoldable pub standard : Rule (Option Val)
standard = maybe (λ found. found) (both (λ at l. l.val) (word kind.Default) lit)

unfoldable pub col : Rule Column
col = both (λ n p. record { name = n.text; kind = p.0; nullable = p.1.0; standard = p.1.1 }) name (column_type & nullness & standard)

unfoldable pub columns : Rule (List Column)
columns = in_parentheses (Some 32) col

-- ("TAG" | "EDGE") [ine] name "(" [ col { "," col } ] ")"
unfoldable pub shape : Rule (Bool × (Spanned × List Column))
shape = ine & name & columns

unfoldable pub tag : Rule Define
tag = both (λ at p. define.Tag p.1.0 p.1.1 p.0) (word kind.Tag) shape

unfoldable pub edge : Rule Define
edge = both (λ at p. define.Edge p.1.0 p.1.1 p.0) (word kind.Edge) shape

-- "CREATE" ..
unfoldable pub defined : Rule Define
defined = either space (either tag edge)

unfoldable pub create : Rule Statement
create = both (λ at d. statement.Make d) (word kind.Create) defined

-- "USE" name
unfoldable pub use_of : Rule Statement
use_of = both (λ at n. statement.Select n) (word kind.Use) name

-- cols = "(" [ name { "," name } ] ")"
unfoldable pub cols : Rule (List Spanned)
cols = in_parentheses None name

-- vals = "(" [ lit { "," lit } ] ")"
unfoldable pub vals_behind : Rule (List Lit)
vals_behind = maybe listed (with_commas None lit) << word kind.Close

unfoldable pub vals : Rule Values
vals = both (λ at list. record { at = at; list = list }) (word kind.Open) vals_behind

-- ends = vid "->" vid [ "@" int ]
abbrev pub rank_of : Option ℤ → ℤ
rank_of None = pos 0
rank_of (Some n) = n

unfoldable pub rank : Rule ℤ
rank = maybe rank_of (word kind.At >> int)

unfoldable pub ends_behind : Rule (Lit × ℤ)
ends_behind = word kind.Arrow >> vid & rank

unfoldable pub ends : Rule Ends
ends = both (λ src p. record { src = src; dst = p.0; rank = p.1 }) vid ends_behind

-- "VALUES" vid ":" vals { "," vid ":" vals }
unfoldable pub colon_vals : Rule Values
colon_vals = word kind.Colon >> vals

unfoldable pub vertex_row : Rule VertexRow
vertex_row = both (λ v values. record { id = v; values = values }) vid colon_vals

unfoldable pub vertex_rows : Rule (List VertexRow)
vertex_rows = word kind.Values >> with_commas (Some 64) vertex_row

-- [ine] name cols
unfoldable pub put_head : Rule (Bool × (Spanned × List Spanned))
put_head = ine & name & cols

-- "VERTEX" [ine] name cols "VALUES" vid ":" vals { "," vid ":" vals }
unfoldable pub put_vertices : Rule PutVertices
put_vertices = both (λ h rows. record { absent = h.0; name = h.1.0; columns = h.1.1; rows = rows }) put_head vertex_rows

unfoldable pub put_vertex : Rule Statement
put_vertex = both (λ at made. statement.PutVertex made) (word kind.Vertex) put_vertices

-- "EDGE" [ine] name cols "VALUES" ends ":" vals { "," ends ":" vals }
unfoldable pub edge_row : Rule EdgeRow
edge_row = both (λ e values. record { ends = e; values = values }) ends colon_vals

unfoldable pub edge_rows : Rule (List EdgeRow)
edge_rows = word kind.Values >> with_commas (Some 64) edge_row

unfoldable pub put_edges : Rule PutEdges
put_edges = both (λ h rows. record { absent = h.0; name = h.1.0; columns = h.1.1; rows = rows }) put_head edge_rows

unfoldable pub put_edge : Rule Statement
put_edge = both (λ at made. statement.PutEdge made) (word kind.Edge) put_edges

-- "INSERT" ..
unfoldable pub put : Rule Statement
put = either put_vertex put_edge

unfoldable pub insert : Rule Statement
insert = word kind.Insert >> put

-- vid { "," vid }, and ends { "," ends }: at most 64
unfoldable pub vids : Rule (List Lit)
vids = with_commas (Some 64) vid

unfoldable pub ends_list : Rule (List Ends)
ends_list = with_commas (Some 64) ends

-- "DELETE" "EDGE" name ends { "," ends } | "DELETE" "VERTEX" vid { "," vid }
unfoldable pub del_edge : Rule Statement
del_edge = both (λ at p. statement.DelEdge p.0 p.1) (word kind.Edge) (name & ends_list)

unfoldable pub del_vertex : Rule Statement
del_vertex = both (λ at found. statement.DelVertex found) (word kind.Vertex) vids

unfoldable pub del : Rule Statement
del = either del_edge del_vertex

unfoldable pub delete : Rule Statement
delete = word kind.Delete >> del

-- ("src" | "dst" | "rank" | "type") "(" "edge" ")"
abbrev pub call_by : Kind → RawExpr
call_by kind.SrcCall = expr.Src
call_by kind.DstCall = expr.Dst
call_by kind.RankCall = expr.Rank
call_by _ = expr.Label

unfoldable pub call_word : Rule RawExpr
call_word = token (code kind.SrcCall ∷ code kind.DstCall ∷ code kind.RankCall ∷ code kind.TypeCall ∷ []) [] (λ t. call_by t.kind)

unfoldable pub of_kind : Kind → Rule ℕ
of_kind k = word kind.Open >> word k << word kind.Close

unfoldable pub edge_call : Rule RawExpr
edge_call = call_word << of_kind kind.Edge

-- "id" "(" "vertex" ")"
unfoldable pub vertex_call : Rule RawExpr
vertex_call = both (λ at a. expr.Id) (word kind.IdCall) (of_kind kind.Vertex)

-- "properties" "(" ("edge" | "vertex") ")" "." name
unfoldable pub behind_dot : Rule Spanned
behind_dot = word kind.Dot >> name

unfoldable pub of_dot : Kind → Rule Spanned
of_dot k = of_kind k >> behind_dot

abbrev pub either_word : Kind → Kind → Rule ℕ
either_word one other = token (code one ∷ code other ∷ []) [] (λ t. t.at)

unfoldable pub edge_property : Rule RawExpr
edge_property = both (λ at n. expr.Property n) (either_word kind.EdgePropsCall kind.PropsCall) (of_dot kind.Edge)

unfoldable pub vertex_property : Rule RawExpr
vertex_property = both (λ at n. expr.Property n) (either_word kind.VertexPropsCall kind.PropsCall) (of_dot kind.Vertex)

-- name "." name
unfoldable pub owner : Rule Spanned
owner = token owners [] spanned

unfoldable pub named : Rule RawExpr
named = both expr.Named owner behind_dot

-- expr, of an edge and of a vertex
unfoldable pub edge_expr : Rule RawExpr
edge_expr = either edge_call (either edge_property named)

unfoldable pub vertex_expr : Rule RawExpr
vertex_expr = either vertex_call (either vertex_property named)

-- yield = "YIELD" expr [ "AS" name ] { "," expr [ "AS" name ] }
unfoldable pub alias : Rule (Option Spanned)
alias = maybe (λ found. found) (word kind.As >> name)

unfoldable pub edge_shown : Rule RawExpr
edge_shown = edge_expr << alias

unfoldable pub vertex_shown : Rule RawExpr
vertex_shown = vertex_expr << alias

unfoldable pub edge_yield : Rule (List RawExpr)
edge_yield = word kind.Yield >> with_commas None edge_shown

unfoldable pub vertex_yield : Rule (List RawExpr)
vertex_yield = word kind.Yield >> with_commas None vertex_shown

-- "FETCH" "PROP" "ON" name ( vid { "," vid } | ends { "," ends } ) yield
-- Both lists begin with an id, and what stands behind it tells which it is: behind the first, 63 others may come.
abbrev pub fetched : Spanned → Lit → Behind → Statement
fetched n v (more.Ids others shown) = statement.FetchVertex n (v ∷ others) shown
fetched n v (more.Ends dst r others shown) = statement.FetchEdge n (record { src = v; dst = dst; rank = r } ∷ others) shown

unfoldable pub other_ids : Rule (List Lit)
other_ids = maybe listed (word kind.Comma >> with_commas (Some 63) vid)

unfoldable pub other_ends : Rule (List Ends)
other_ends = maybe listed (word kind.Comma >> with_commas (Some 63) ends)

unfoldable pub behind_id : Rule Behind
behind_id = both more.Ids other_ids vertex_yield

unfoldable pub behind_ends : Rule Behind
behind_ends = both (λ p q. more.Ends p.0 p.1 q.0 q.1) ends_behind (other_ends & edge_yield)

unfoldable pub behind_first : Rule Behind
behind_first = either behind_ends behind_id

unfoldable pub fetch_on : Rule Spanned
fetch_on = word kind.Fetch >> word kind.Prop >> word kind.On >> name

unfoldable pub fetch : Rule Statement
fetch = both (λ n p. fetched n p.0 p.1) fetch_on (vid & behind_first)

-- "==" | "!=" | "<" | "<=" | ">" | ">="
abbrev pub rel_by : Kind → Rel
rel_by kind.Eq = rel.Eq
rel_by kind.Ne = rel.Ne
rel_by kind.Lt = rel.Lt
rel_by kind.Le = rel.Le
rel_by kind.Gt = rel.Gt
rel_by _ = rel.Ge

unfoldable pub rel_of : Rule Rel
rel_of = token (code kind.Eq ∷ code kind.Ne ∷ code kind.Lt ∷ code kind.Le ∷ code kind.Gt ∷ code kind.Ge ∷ []) [] (λ t. rel_by t.kind)

-- expr rel lit
unfoldable pub test_step : Rule RawStep
test_step = both (λ e p. step.Test e p.0 p.1) edge_expr (rel_of & lit)

unfoldable pub comparison : Rule (List RawStep)
comparison = both (λ e p. step.Test e p.0 p.1 ∷ []) edge_expr (rel_of & lit)

-- what stands between ANDs or ORs, joined from the left
abbrev pub joined : RawStep → List (List RawStep) → List RawStep
joined s [] = []
joined s (first ∷ others) = first ++ flat_map (λ other. other ++ s ∷ []) others

-- and = not { "AND" not }
unfoldable pub and_of : Rule (List RawStep)
and_of = several (joined step.And) None (code kind.And) (again (λ s. s))

-- cond = and { "OR" and }
unfoldable pub cond : Rule (List RawStep)
cond = several (joined step.Or) None (code kind.Or) and_of

-- "(" cond ")"
unfoldable pub in_brackets : Rule (List RawStep)
in_brackets = word kind.Open >> cond << word kind.Close

-- not = "NOT" not | "(" cond ")" | test
unfoldable pub not_of : Rule (List RawStep)
not_of = either (both (λ at s. s ++ step.Not ∷ []) (word kind.Not) (again (λ s. s))) (either in_brackets comparison)

-- The language: what leads back to itself is `not`.
abbrev pub ngql : Language Token (List RawStep)
ngql = record {
  kind = kind_of;
  ellipsis = 0;
  rule = not_of;
  on = [];
  first = code kind.Not ∷ code kind.Open ∷ code kind.SrcCall ∷ code kind.DstCall ∷ code kind.RankCall ∷ code kind.TypeCall ∷ code kind.EdgePropsCall ∷ code kind.PropsCall ∷ owners;
}

abbrev pub reads : {A : Type 0} → ℕ → Rule A → List Token → Reading Token A
reads d g ts = read ngql false d g ts

-- int ("STEP" | "STEPS"), where the number is 0 to 8
unfoldable pub step_count : Rule ℤ
step_count = token (code kind.SmallInt ∷ []) (code kind.Int ∷ code kind.WideInt ∷ []) (λ t. t.number)

unfoldable pub step_word : Rule ℕ
step_word = token (code kind.Step ∷ code kind.Steps ∷ []) [] (λ t. t.at)

abbrev pub steps_of : Option ℤ → ℕ
steps_of None = 1
steps_of (Some n) = small n

unfoldable pub some_steps : Rule ℤ
some_steps = step_count << step_word

unfoldable pub steps : Rule ℕ
steps = maybe steps_of some_steps

-- "FROM" vid { "," vid }
unfoldable pub from : Rule (List Lit)
from = word kind.From >> vids

-- "OVER" ( "*" | name { "," name } )
unfoldable pub all_types : Rule (Option (List Spanned))
all_types = token (code kind.Star ∷ []) [] (λ t. None)

unfoldable pub types : Rule (Option (List Spanned))
types = several (λ found. Some found) None (code kind.Comma) name

unfoldable pub over_what : Rule (Option (List Spanned))
over_what = either all_types types

unfoldable pub over : Rule (Option (List Spanned))
over = word kind.Over >> over_what

-- [ "REVERSELY" | "BIDIRECT" ]
abbrev pub way_by : Kind → Way
way_by kind.Reversely = way.Inward
way_by _ = way.Both

abbrev pub way_of : Option Way → Way
way_of None = way.Outward
way_of (Some found) = found

unfoldable pub ways : Rule Way
ways = maybe way_of (token (code kind.Reversely ∷ code kind.Bidirect ∷ []) [] (λ t. way_by t.kind))

-- [ "WHERE" cond ]
unfoldable pub condition : Rule (Option (List RawStep))
condition = maybe (λ found. found) (word kind.Where >> cond)

-- "GO" [ int ("STEP" | "STEPS") ] "FROM" .. "OVER" .. [ "REVERSELY" | "BIDIRECT" ] [ "WHERE" cond ] yield
unfoldable pub go_start : Rule (ℕ × List Lit)
go_start = steps & from

unfoldable pub go_path : Rule (Option (List Spanned) × Way)
go_path = over & ways

unfoldable pub go_end : Rule (Option (List RawStep) × List RawExpr)
go_end = condition & edge_yield

unfoldable pub go_words : Rule GoWords
go_words = both (λ s p. record { steps = s.0; start = s.1; over = p.0.0; way = p.0.1; keep = p.1.0; shown = p.1.1 }) go_start (go_path & go_end)

unfoldable pub go : Rule Statement
go = both (λ at made. statement.Go made) (word kind.Go) go_words

-- stmt
unfoldable pub stmt : Rule Statement
stmt = either create (either use_of (either insert (either delete (either fetch go))))

-- line = [ "@" client " " ] [ "~" ] stmt [ ";" ]
abbrev pub client_of : Option ℤ → ℕ
client_of None = 1
client_of (Some n) = small n

unfoldable pub client_number : Rule ℤ
client_number = token (code kind.Client ∷ []) [] (λ t. t.number)

unfoldable pub client_mark : Rule ℤ
client_mark = word kind.At >> client_number << word kind.Blank

unfoldable pub client : Rule ℕ
client = maybe client_of client_mark

unfoldable pub mark : Kind → Rule Bool
mark k = maybe is_some (word k)

unfoldable pub whole : Rule Statement
whole = stmt << mark kind.Semicolon

unfoldable pub line : Rule Line
line = both (λ c p. record { client = c; collected = p.0; statement = p.1 }) client (mark kind.Tilde & whole)
