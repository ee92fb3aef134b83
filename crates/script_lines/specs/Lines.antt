-- What a line of a script says.
use Rattle.std.specs.Prelude.{◌≡◌, ◌≢◌, ℕ, ◌≤◌, ◌<◌, ◌==◌, ◌&&◌, ◌||◌, Bool, true, false, List, length, drop, take_while, get_or}
use Rattle.fault_schedule.specs.declared.control.Control.{Control}
use Rattle.fault_schedule.specs.Spelling.{IsSpelled}
use Rattle.ngql_lex.specs.Lines.{without_cr}
use Rattle.ngql_parser.specs.declared.parse_refused.ParseRefused.TheVariants.{NoMemory}
use Rattle.ngql_parser.specs.Promise.{Spells, Says}
use Rattle.script_lines.specs.declared.reading.Reading.{Reading}
use Rattle.script_lines.specs.declared.reading.Reading.TheVariants as reading

-- how many bytes a line may have, without its LF
abbrev pub longest : ℕ
longest = 65536

-- a space or a tab
abbrev pub is_blank : ℕ → Bool
is_blank byte = (byte == 32) || (byte == 9)

abbrev pub behind_blanks : List ℕ → List ℕ
behind_blanks text = drop (length (take_while is_blank text)) text

-- Nothing is said by blanks, and by a comment, which begins with `#` or `//` behind them. A CR at the line's end is not of it.
abbrev pub begins_comment : List ℕ → Bool
begins_comment text = (get_or text 0 0 == 35) || ((get_or text 0 0 == 47) && (get_or text 1 0 == 47))

abbrev pub says_nothing : List ℕ → Bool
says_nothing line = (length (behind_blanks (without_cr line)) == 0) || begins_comment (behind_blanks (without_cr line))

-- a control line has `:` as its very first byte
abbrev pub begins_control : List ℕ → Bool
begins_control line = get_or line 0 0 == 58

-- One row a reading; a row holds where those above it don't: the length comes first, then blanks and comments, then control lines.
pub record SaysElse (line : List ℕ) (control : Bool) : Type 0 where
  pub fits : length line ≤ longest
  pub says : says_nothing line ≡ false
  pub begins : begins_control line ≡ control

abbrev pub IsReading : ℕ → List ℕ → Reading → Type 0
IsReading version line reading.TooLong = longest < length line
IsReading version line reading.Nothing = (length line ≤ longest) × (says_nothing line ≡ true)
IsReading version line (reading.Control control) = SaysElse line true × IsSpelled line control
IsReading version line reading.NoControl = SaysElse line true × ((control : Control) → IsSpelled line control → ⊥)
IsReading version line (reading.Statement statement) = SaysElse line false × Spells version line statement
IsReading version line (reading.Refused why) = SaysElse line false × Says version line why × (why ≢ NoMemory)
