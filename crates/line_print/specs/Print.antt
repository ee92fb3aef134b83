-- How the answers of lines are printed.
use Rattle.std.specs.Prelude.{ℕ, ◌+◌, ◌==◌, true, false, List, [], ◌∷◌, ◌++◌, length, flat_map, codes, decimal, if◌then◌else◌}
use Rattle.std.specs.Fmt.{signed_decimal}
use Rattle.graph_model.specs.declared.val.Val.{Val}
use Rattle.graph_model.specs.declared.val.Val.TheVariants.{Null, Int, Flag, Words}
use Rattle.meta_parts.specs.declared.table.Stage.{Stage}
use Rattle.meta_parts.specs.declared.table.Stage.TheVariants as stage
use Rattle.line_print.specs.declared.line_answer.LineAnswer.{LineAnswer}
use Rattle.line_print.specs.declared.line_answer.LineAnswer.TheVariants.{Fine, Skipped, Pending, Rows, Conflict, Cancelled, Unknown, Moves, Task, NoTask, Parts, Refused}
use Rattle.line_print.specs.declared.line_refused.LineRefused.{LineRefused}
use Rattle.line_print.specs.declared.line_refused.LineRefused.TheVariants as why

-- a byte of a text: a double quote (34), a backslash (92), an LF (10) and a tab (9) stand behind a backslash
abbrev pub escaped : ℕ → List ℕ
escaped b =
    if b == 34 then codes "\\\"" else
    (if b == 92 then codes "\\\\" else
    (if b == 10 then codes "\\n" else
    (if b == 9 then codes "\\t" else b ∷ [])))

-- a value
abbrev pub value_text : Val → List ℕ
value_text Null = codes "NULL"
value_text (Int number) = signed_decimal number
value_text (Flag true) = codes "true"
value_text (Flag false) = codes "false"
value_text (Words text) = codes "\"" ++ flat_map escaped text ++ codes "\""

-- a value behind others
abbrev pub next_text : Val → List ℕ
next_text value = codes ", " ++ value_text value

-- the values, joined by a comma and a space
abbrev pub values_text : List Val → List ℕ
values_text [] = []
values_text (value ∷ row) = value_text value ++ flat_map next_text row

-- a row on a line of its own
abbrev pub row_line : List Val → List ℕ
row_line row = codes "  " ++ values_text row ++ codes "\n"

-- a part on a line of its own: its number, and its nodes
abbrev pub node_text : ℕ → List ℕ
node_text node = codes " " ++ decimal node

abbrev pub part_line : ℕ × List ℕ → List ℕ
part_line part = codes "  " ++ decimal part.0 ++ codes ":" ++ flat_map node_text part.1 ++ codes "\n"

-- the name of a stage
abbrev pub stage_text : Stage → List ℕ
stage_text stage.ChangeLeader = codes "ChangeLeader"
stage_text stage.AddPart = codes "AddPart"
stage_text stage.AddLearner = codes "AddLearner"
stage_text stage.CatchUp = codes "CatchUp"
stage_text stage.MemberAdd = codes "MemberAdd"
stage_text stage.MemberRemove = codes "MemberRemove"
stage_text stage.UpdateMeta = codes "UpdateMeta"
stage_text stage.RemovePart = codes "RemovePart"
stage_text stage.End = codes "End"

-- why a line isn't taken
abbrev pub why_text : LineRefused → List ℕ
why_text why.TooLong = codes "line 65536"
why_text (why.Syntax at) = codes "syntax AT " ++ decimal at
why_text (why.NumberTooWide at) = codes "number AT " ++ decimal at
why_text (why.TooMany at) = codes "many AT " ++ decimal at
why_text (why.BadOption at) = codes "option AT " ++ decimal at
why_text why.NoSpace = codes "space"
why_text why.OneSpace = codes "spaces 1"
why_text (why.NoSuchName name) = codes "name " ++ name
why_text (why.NameTaken name) = codes "taken " ++ name
why_text (why.WrongCount at) = codes "count AT " ++ decimal at
why_text (why.WrongType name) = codes "type " ++ name
why_text (why.NotSet name) = codes "unset " ++ name
why_text (why.LongId at) = codes "vid AT " ++ decimal at
why_text why.TooWide = codes "wide 4096"
why_text why.NoRoom = codes "room"
why_text (why.TaskOpen part) = codes "task " ++ decimal part
why_text why.BadPlace = codes "place"
why_text (why.NoSuchNode node) = codes "node " ++ decimal node
why_text (why.NoSuchPart part) = codes "part " ++ decimal part
why_text why.NoSuchPacket = codes "packet"
why_text why.NodesFull = codes "nodes 8"
why_text why.DiskFault = codes "disk"
why_text (why.BadFile at) = codes "file " ++ decimal at

-- what is said of a line, behind its number
abbrev pub said : LineAnswer → List ℕ
said Fine = codes "OK"
said Skipped = codes "SKIPPED"
said Pending = codes "PENDING"
said (Rows rows) = codes "ROWS " ++ decimal (length rows)
said (Conflict id place) = codes "CONFLICT " ++ decimal id.client ++ codes "." ++ decimal id.number ++ codes " AT " ++ decimal place
said (Cancelled place) = codes "CANCELLED AT " ++ decimal place
said (Unknown place) = codes "UNKNOWN AT " ++ decimal place
said (Moves all done) = codes "MOVES " ++ decimal all ++ codes " DONE " ++ decimal done
said (Task part at) = codes "TASK " ++ decimal part ++ codes " " ++ stage_text at
said NoTask = codes "TASK none"
said (Parts parts) = codes "PARTS " ++ decimal (length parts)
said (Refused why) = codes "ERROR " ++ why_text why

-- the lines that follow: what was found, a row a line, or the parts
abbrev pub lines_below : LineAnswer → List ℕ
lines_below (Rows rows) = flat_map row_line rows
lines_below (Parts parts) = flat_map part_line parts
lines_below others = []

-- the answer of a line: its number and what is said, and the lines that follow
abbrev pub print_line : ℕ → LineAnswer → List ℕ
print_line number answer = decimal number ++ codes ": " ++ said answer ++ codes "\n" ++ lines_below answer

-- the answers of the lines from this number on
abbrev pub print : ℕ → List LineAnswer → List ℕ
print number [] = []
print number (answer ∷ answers) = print_line number answer ++ print (number + 1) answers
