-- How the answers of lines are printed.
use Rattle.std.specs.Prelude.{ℕ, ◌+◌, ◌==◌, true, false, List, [], ◌∷◌, ◌++◌, length, flat_map, codes, decimal, if◌then◌else◌}
use Rattle.std.specs.Fmt.{signed_decimal}
use Rattle.first_graph.specs.declared.val.Val.{Val}
use Rattle.first_graph.specs.declared.val.Val.TheVariants.{Null, Int, Flag, Words}
use Rattle.first_script.specs.declared.line_answer.LineAnswer.{LineAnswer}
use Rattle.first_script.specs.declared.line_answer.LineAnswer.TheVariants.{Fine, Skipped, Pending, Rows, Conflict, Cancelled, Unknown, Syntax}

-- a byte of a text: a double quote (34), a backslash (92), an LF (10) and a tab (9) stand behind a backslash
abbrev pub escaped : ℕ → List ℕ
escaped b =
    if b == 34 then codes "\\\"" else
    (if b == 92 then codes "\\\\" else
    (if b == 10 then codes "\\n" else
    (if b == 9 then codes "\\t" else b ∷ [])))

abbrev pub value_text : Val → List ℕ
value_text Null = codes "NULL"
value_text (Int number) = signed_decimal number
value_text (Flag true) = codes "true"
value_text (Flag false) = codes "false"
value_text (Words text) = codes "\"" ++ flat_map escaped text ++ codes "\""

-- a value behind others
abbrev pub next_text : Val → List ℕ
next_text value = codes ", " ++ value_text value

-- the values, joined by a comma and a space
abbrev pub values_text : List Val → List ℕ
values_text [] = []
values_text (value ∷ row) = value_text value ++ flat_map next_text row

-- a row on a line of its own
abbrev pub row_line : List Val → List ℕ
row_line row = codes "  " ++ values_text row ++ codes "\n"

-- what is said of the line, behind its number
abbrev pub said : LineAnswer → List ℕ
said Fine = codes "OK"
said Skipped = codes "SKIPPED"
said Pending = codes "PENDING"
said (Rows rows) = codes "ROWS " ++ decimal (length rows)
said (Conflict id place) = codes "CONFLICT " ++ decimal id.client ++ codes "." ++ decimal id.number ++ codes " AT " ++ decimal place
said (Cancelled place) = codes "CANCELLED AT " ++ decimal place
said (Unknown place) = codes "UNKNOWN AT " ++ decimal place
said Syntax = codes "ERROR syntax AT 1"

-- the rows that follow
abbrev pub rows_of : LineAnswer → List (List Val)
rows_of (Rows rows) = rows
rows_of Fine = []
rows_of Skipped = []
rows_of Pending = []
rows_of (Conflict id place) = []
rows_of (Cancelled place) = []
rows_of (Unknown place) = []
rows_of Syntax = []

-- the answer of a line: its number and what is said, and each row on a line of its own
abbrev pub print_line : ℕ → LineAnswer → List ℕ
print_line number answer = decimal number ++ codes ": " ++ said answer ++ codes "\n" ++ flat_map row_line (rows_of answer)

-- the answers of the lines from this number on
abbrev pub print : ℕ → List LineAnswer → List ℕ
print number [] = []
print number (answer ∷ answers) = print_line number answer ++ print (number + 1) answers
