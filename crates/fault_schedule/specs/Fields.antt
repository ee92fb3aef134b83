-- What a field behind a command is.
use Rattle.std.specs.Prelude.{◌≡◌, ℕ, ◌<◌, true, length, ◌+◌, ◌-◌, ◌^◌, ◌==◌, ◌&&◌, List, decimal, bytes_eq, nat_le, position, Option, None, Some, option_map, option_and_then, if◌then◌else◌}
use Rattle.std.specs.Str.{all_ascii_digits}
use Rattle.std.specs.Str.Parse.{digits_value}
use Rattle.fault_schedule.specs.Spelling.{kind_words}

-- a word has a value: one digit or more, below 2^64
abbrev pub HasValue : List ℕ → Type 0
HasValue word = (0 < length word) × (all_ascii_digits word ≡ true) × (digits_value 10 word < 2 ^ 64)

-- the number that a word is the decimal spelling of, where it is at most so great
unfoldable pub number : ℕ → List ℕ → Option ℕ
number most word =
    if nat_le (digits_value 10 word) most && bytes_eq (decimal (digits_value 10 word)) word
    then Some (digits_value 10 word) else None

unfoldable pub small : List ℕ → Option ℕ
small word = number (2 ^ 32 - 1) word

-- a number from 1 to so many
abbrev pub positive : ℕ → Option ℕ
positive n = if n == 0 then None else Some n

unfoldable pub counted : ℕ → List ℕ → Option ℕ
counted most word = option_and_then positive (number most word)

-- the kind of packets that a word names
unfoldable pub kind : List ℕ → Option ℕ
kind word = option_map (λ at. at + 1) (position (λ known. bytes_eq known word) kind_words)
