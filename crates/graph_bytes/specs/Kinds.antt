-- The first bytes of what has kinds: ids, values, halves, queries, and rows of answers.
use Rattle.std.specs.Prelude.{ℕ}

-- ---- ids

-- a number
abbrev pub number_id : ℕ
number_id = 0

-- a text
abbrev pub text_id : ℕ
text_id = 1

-- ---- values

-- null
abbrev pub null_value : ℕ
null_value = 0

-- a number
abbrev pub int_value : ℕ
int_value = 1

-- a flag
abbrev pub flag_value : ℕ
flag_value = 2

-- a text
abbrev pub words_value : ℕ
words_value = 3

-- ---- halves

-- the edge isn't there
abbrev pub absent_half : ℕ
absent_half = 0

-- the edge is there, with a row
abbrev pub here_half : ℕ
here_half = 1

-- ---- queries

-- a tag of a vertex
abbrev pub tag_query : ℕ
tag_query = 1

-- an edge
abbrev pub edge_query : ℕ
edge_query = 2

-- the edges from a vertex
abbrev pub out_query : ℕ
out_query = 3

-- the edges to a vertex
abbrev pub in_query : ℕ
in_query = 4

-- the edges from and to a vertex
abbrev pub both_query : ℕ
both_query = 5

-- ---- rows of answers

-- a tag's row
abbrev pub tag_found : ℕ
tag_found = 0

-- an edge's row
abbrev pub edge_found : ℕ
edge_found = 1
