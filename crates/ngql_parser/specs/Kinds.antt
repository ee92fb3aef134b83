-- Kinds of tokens.
use Rattle.std.specs.Prelude.{ℕ, List, [], ◌∷◌}
use Rattle.ngql_parser.specs.declared.kind.Kind.{Kind}
use Rattle.ngql_parser.specs.declared.kind.Kind.TheVariants.{Ellipsis, Name, SmallInt, Int, WideInt, Text, LongText, Client, Blank, Arrow, At, Comma, Colon, Semicolon, Open, Close, Dot, Star, Tilde, Stray, Equals, Eq, Ne, Lt, Le, Gt, Ge, Create, Space, Use, Tag, Edge, If, Not, Exists, Insert, Vertex, Values, Delete, Fetch, Prop, On, Go, Step, Steps, From, Over, Reversely, Bidirect, Where, Yield, As, And, Or, Null, Default, True, False, IntWord, Int64Word, BoolWord, StringWord, FixedWord, PartsWord, FactorWord, IdsWord, BadParts, BadFactor, BadIds, SrcCall, DstCall, RankCall, TypeCall, IdCall, EdgePropsCall, VertexPropsCall, PropsCall}

-- The number of a kind. No line has a token of kind 0.
abbrev pub code : Kind → ℕ
code Ellipsis = 0
code Name = 1
code SmallInt = 2
code Int = 3
code WideInt = 4
code Text = 5
code LongText = 6
code Client = 7
code Blank = 8
code Arrow = 9
code At = 10
code Comma = 11
code Colon = 12
code Semicolon = 13
code Open = 14
code Close = 15
code Dot = 16
code Star = 17
code Tilde = 18
code Stray = 19
code Equals = 20
code Eq = 21
code Ne = 22
code Lt = 23
code Le = 24
code Gt = 25
code Ge = 26
code Create = 27
code Space = 28
code Use = 29
code Tag = 30
code Edge = 31
code If = 32
code Not = 33
code Exists = 34
code Insert = 35
code Vertex = 36
code Values = 37
code Delete = 38
code Fetch = 39
code Prop = 40
code On = 41
code Go = 42
code Step = 43
code Steps = 44
code From = 45
code Over = 46
code Reversely = 47
code Bidirect = 48
code Where = 49
code Yield = 50
code As = 51
code And = 52
code Or = 53
code Null = 54
code Default = 55
code True = 56
code False = 57
code IntWord = 58
code Int64Word = 59
code BoolWord = 60
code StringWord = 61
code FixedWord = 62
code PartsWord = 63
code FactorWord = 64
code IdsWord = 65
code BadParts = 66
code BadFactor = 67
code BadIds = 68
code SrcCall = 69
code DstCall = 70
code RankCall = 71
code TypeCall = 72
code IdCall = 73
code EdgePropsCall = 74
code VertexPropsCall = 75
code PropsCall = 76

-- what may be a name in front of a dot: words of the grammar too, unless they are called
abbrev pub owners : List ℕ
owners = code Name ∷ code IntWord ∷ code Int64Word ∷ code BoolWord ∷ code StringWord ∷ code FixedWord ∷ code PartsWord ∷ code FactorWord ∷ code IdsWord ∷ code BadParts ∷ code BadFactor ∷ code BadIds ∷ []

-- what may be a name: each word that is no keyword
abbrev pub names : List ℕ
names = code Name ∷ code IntWord ∷ code Int64Word ∷ code BoolWord ∷ code StringWord ∷ code FixedWord ∷ code PartsWord ∷ code FactorWord ∷ code IdsWord ∷ code BadParts ∷ code BadFactor ∷ code BadIds ∷ code SrcCall ∷ code DstCall ∷ code RankCall ∷ code TypeCall ∷ code IdCall ∷ code EdgePropsCall ∷ code VertexPropsCall ∷ code PropsCall ∷ []

-- the first kind of each option that is refused
abbrev pub bad_options : List ℕ
bad_options = code BadParts ∷ code BadFactor ∷ code BadIds ∷ []
