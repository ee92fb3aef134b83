-- Words and marks of the grammar.
use Rattle.std.specs.Prelude.{ℕ, List, [], ◌∷◌, Option, Some, None, codes, if◌then◌else◌}
use denote.Ref.{Bor}
use Rattle.std.specs.Str.{str_eq_ignore_ascii_case}
use Rattle.ngql_parser.specs.declared.kind.Kind.{Kind}
use Rattle.ngql_parser.specs.declared.kind.Kind.TheVariants.{Create, Space, Use, Tag, Edge, If, Not, Exists, Insert, Vertex, Values, Delete, Fetch, Prop, On, Go, Step, Steps, From, Over, Reversely, Bidirect, Where, Yield, As, And, Or, Null, Default, True, False, IntWord, Int64Word, BoolWord, StringWord, FixedWord, PartsWord, FactorWord, IdsWord, SrcCall, DstCall, RankCall, TypeCall, IdCall, PropsCall, Arrow, At, Comma, Colon, Semicolon, Open, Close, Dot, Star, Tilde, Equals, Eq, Ne, Lt, Le, Gt, Ge}

-- the kind of a word by a table, in any case
abbrev pub kind_in : List (List ℕ × Kind) → List ℕ → Option Kind
kind_in [] word = None
kind_in (entry ∷ table) word = if str_eq_ignore_ascii_case word entry.0 then Some entry.1 else kind_in table word

abbrev pub entry_of : Bor (List ℕ) × Kind → List ℕ × Kind
entry_of entry = (entry.0.now, entry.1)

-- the keywords
abbrev pub keywords : List (List ℕ × Kind)
keywords =
    (codes "CREATE", Create) ∷
    (codes "SPACE", Space) ∷
    (codes "USE", Use) ∷
    (codes "TAG", Tag) ∷
    (codes "EDGE", Edge) ∷
    (codes "IF", If) ∷
    (codes "NOT", Not) ∷
    (codes "EXISTS", Exists) ∷
    (codes "INSERT", Insert) ∷
    (codes "VERTEX", Vertex) ∷
    (codes "VALUES", Values) ∷
    (codes "DELETE", Delete) ∷
    (codes "FETCH", Fetch) ∷
    (codes "PROP", Prop) ∷
    (codes "ON", On) ∷
    (codes "GO", Go) ∷
    (codes "STEP", Step) ∷
    (codes "STEPS", Steps) ∷
    (codes "FROM", From) ∷
    (codes "OVER", Over) ∷
    (codes "REVERSELY", Reversely) ∷
    (codes "BIDIRECT", Bidirect) ∷
    (codes "WHERE", Where) ∷
    (codes "YIELD", Yield) ∷
    (codes "AS", As) ∷
    (codes "AND", And) ∷
    (codes "OR", Or) ∷
    (codes "NULL", Null) ∷
    (codes "DEFAULT", Default) ∷
    (codes "TRUE", True) ∷
    (codes "FALSE", False) ∷
    []

-- the words that mean something in some places, and are names in others
abbrev pub words : List (List ℕ × Kind)
words =
    (codes "int", IntWord) ∷
    (codes "int64", Int64Word) ∷
    (codes "bool", BoolWord) ∷
    (codes "string", StringWord) ∷
    (codes "fixed_string", FixedWord) ∷
    (codes "partition_num", PartsWord) ∷
    (codes "replica_factor", FactorWord) ∷
    (codes "vid_type", IdsWord) ∷
    (codes "src", SrcCall) ∷
    (codes "dst", DstCall) ∷
    (codes "rank", RankCall) ∷
    (codes "type", TypeCall) ∷
    (codes "id", IdCall) ∷
    (codes "properties", PropsCall) ∷
    []

-- the marks
abbrev pub marks : List (List ℕ × Kind)
marks =
    (codes "->", Arrow) ∷
    (codes "@", At) ∷
    (codes ",", Comma) ∷
    (codes ":", Colon) ∷
    (codes ";", Semicolon) ∷
    (codes "(", Open) ∷
    (codes ")", Close) ∷
    (codes ".", Dot) ∷
    (codes "*", Star) ∷
    (codes "~", Tilde) ∷
    (codes "=", Equals) ∷
    (codes "==", Eq) ∷
    (codes "!=", Ne) ∷
    (codes "<", Lt) ∷
    (codes "<=", Le) ∷
    (codes ">", Gt) ∷
    (codes ">=", Ge) ∷
    []
