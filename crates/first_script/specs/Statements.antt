-- What a line may spell: the two lines at the head, and the three statements.
use Rattle.std.specs.Prelude.{◌≡◌, ℕ, ℤ, pos, neg_ℤ, ◌^◌, ◌<◌, ◌≤◌, ◌⊎◌, Bool, true, ◌++◌, List, [], ◌∷◌, length, drop, take_while, codes, Option, None, Some, nat_eq, nat_lt, nat_le, option_map, option_and_then, bytes_eq, if◌then◌else◌}
use Rattle.std.specs.Char.{is_ascii_digit}
use Rattle.std.specs.List.{starts_with}
use Rattle.std.specs.Str.{all_ascii_digits}
use Rattle.std.specs.Str.Parse.{digits_value}
use Rattle.first_script.specs.declared.statement.Statement.{Statement}
use Rattle.first_script.specs.declared.statement.Statement.TheVariants.{Insert, Out, In}

infixl 10 ◌>>=◌
abbrev pub ◌>>=◌ : {A B : Type 0} → Option A → (A → Option B) → Option B
o >>= f = option_and_then f o

-- what stands behind a text at the front of the bytes
unfoldable pub behind : List ℕ → List ℕ → Option (List ℕ)
behind text bytes = if starts_with nat_eq bytes text then Some (drop (length text) bytes) else None

-- the number that digits spell behind a minus, and without one: at least one digit, and an i64
abbrev pub negative_of : List ℕ → Option ℤ
negative_of [] = None
negative_of (d ∷ ds) = if nat_le (digits_value 10 (d ∷ ds)) (2 ^ 63) then Some (neg_ℤ (pos (digits_value 10 (d ∷ ds)))) else None

abbrev pub natural_of : List ℕ → Option ℤ
natural_of [] = None
natural_of (d ∷ ds) = if nat_lt (digits_value 10 (d ∷ ds)) (2 ^ 63) then Some (pos (digits_value 10 (d ∷ ds))) else None

-- the longest run of digits at the front
abbrev pub digits_at : List ℕ → List ℕ
digits_at bytes = take_while is_ascii_digit bytes

-- a number and the bytes behind the digits that spell it
abbrev pub spelled : Option ℤ → List ℕ → Option (ℤ × List ℕ)
spelled number bytes = option_map (λ n. (n, drop (length (digits_at bytes)) bytes)) number

abbrev pub integer_without : Option (List ℕ) → List ℕ → Option (ℤ × List ℕ)
integer_without (Some unsigned) bytes = spelled (negative_of (digits_at unsigned)) unsigned
integer_without None bytes = spelled (natural_of (digits_at bytes)) bytes

-- an i64 at the front: an optional minus and the longest run of digits; and what stands behind it
unfoldable pub integer_at : List ℕ → Option (ℤ × List ℕ)
integer_at bytes = integer_without (behind (codes "-") bytes) bytes

-- an i64 behind a text, and what stands behind it
unfoldable pub integer_behind : List ℕ → List ℕ → Option (ℤ × List ℕ)
integer_behind text bytes = behind text bytes >>= integer_at

-- INSERT EDGE follow(degree) VALUES v->w:(n)
unfoldable pub insert_of : List ℕ → Option Statement
insert_of line = do
  src ← integer_behind (codes "INSERT EDGE follow(degree) VALUES ") line
  dst ← integer_behind (codes "->") src.1
  degree ← integer_behind (codes ":(") dst.1
  if bytes_eq degree.1 (codes ")") then Some (Insert src.0 dst.0 degree.0) else None

-- what is asked of the vertex, by the rest of the line
abbrev pub asked : ℤ → List ℕ → Option Statement
asked vid rest =
    if bytes_eq rest (codes " OVER follow YIELD dst(edge), follow.degree") then Some (Out vid) else
    (if bytes_eq rest (codes " OVER follow REVERSELY YIELD src(edge), follow.degree") then Some (In vid) else None)

-- GO FROM v OVER follow YIELD dst(edge), follow.degree
-- GO FROM v OVER follow REVERSELY YIELD src(edge), follow.degree
unfoldable pub go_of : List ℕ → Option Statement
go_of line = do
  vid ← integer_behind (codes "GO FROM ") line
  asked vid.0 vid.1

abbrev pub or_else : Option Statement → Option Statement → Option Statement
or_else (Some statement) other = Some statement
or_else None other = other

-- the statement that a line spells
abbrev pub statement_of : List ℕ → Option Statement
statement_of line = or_else (insert_of line) (go_of line)

-- the first line, and the second
unfoldable pub is_space_line : List ℕ → Bool
is_space_line line = bytes_eq line (codes "CREATE SPACE g(partition_num = 2, replica_factor = 1, vid_type = INT64)")

unfoldable pub is_edge_type_line : List ℕ → Bool
is_edge_type_line line = bytes_eq line (codes "CREATE EDGE follow(degree int)")

-- one digit or more
abbrev pub AreDigits : List ℕ → Type 0
AreDigits digits = (0 < length digits) × (all_ascii_digits digits ≡ true)

-- a text that spells an i64: digits, or a minus and digits
abbrev pub Spells : List ℕ → ℤ → Type 0
Spells text n =
    (AreDigits text × (digits_value 10 text < 2 ^ 63) × (n ≡ pos (digits_value 10 text)))
    ⊎ ((digits : List ℕ) × (text ≡ codes "-" ++ digits) × AreDigits digits × (digits_value 10 digits ≤ 2 ^ 63) × (n ≡ neg_ℤ (pos (digits_value 10 digits))))
