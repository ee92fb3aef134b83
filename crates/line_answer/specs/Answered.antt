-- What a line is answered, by what became of it.
use Rattle.std.specs.Prelude.{Option, Some}
use Rattle.std.specs.Option.{option_map}
use Rattle.line_print.specs.declared.line_answer.LineAnswer.{LineAnswer}
use Rattle.line_print.specs.declared.line_answer.LineAnswer.TheVariants as line
use Rattle.line_print.specs.declared.line_refused.LineRefused.TheVariants.{TooWide}
use Rattle.line_print.specs.Refusals.{by_parser, by_book}
use Rattle.ngql_parser.specs.declared.parse_refused.ParseRefused.{ParseRefused}
use Rattle.schema_book.specs.declared.refused.BookRefused.{BookRefused}
use Rattle.schema_book.specs.Entries.{Entries}
use Rattle.shown_rows.specs.Rows.{fetched_rows, walked_rows}
use Rattle.statement_run.specs.declared.ending.Ending.{Ending}
use Rattle.statement_run.specs.declared.ending.Ending.TheVariants as end

-- A statement by how it ended: done, or its rows by what its reads found, or by the call that ended it. A walk that had too many
-- vertices to read is refused.
abbrev pub shown : Entries → Ending → LineAnswer
shown edges end.Fine = line.Fine
shown edges end.Skipped = line.Skipped
shown edges end.Pending = line.Pending
shown edges (end.Fetched plan views) = line.Rows (fetched_rows edges plan views)
shown edges (end.Walked plan views) = line.Rows (walked_rows edges plan views)
shown edges end.Wide = line.Refused TooWide
shown edges (end.Conflict other place) = line.Conflict other place
shown edges (end.Cancelled place) = line.Cancelled place
shown edges (end.Unknown place) = line.Unknown place

-- what became of a line: the parser or the schema refused it, the schema took what it defines, or its statement ended
pub data Became : Type 0 where
  Unparsed : ParseRefused → Became
  Unbound : BookRefused → Became
  Defined : Became
  Ended : Ending → Became

-- its answer; none where the parser or the schema had no memory
abbrev pub answered : Entries → Became → Option LineAnswer
answered edges (Unparsed why) = option_map line.Refused (by_parser why)
answered edges (Unbound why) = option_map line.Refused (by_book why)
answered edges Defined = Some line.Fine
answered edges (Ended ending) = Some (shown edges ending)
