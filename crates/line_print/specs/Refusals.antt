-- What a line is answered that the parser or the schema refuses. Want of memory is no answer.
use Rattle.std.specs.Prelude.{Option, None, Some}
use Rattle.ngql_parser.specs.declared.parse_refused.ParseRefused.{ParseRefused}
use Rattle.ngql_parser.specs.declared.parse_refused.ParseRefused.TheVariants as parser
use Rattle.schema_book.specs.declared.refused.BookRefused.{BookRefused}
use Rattle.schema_book.specs.declared.refused.BookRefused.TheVariants as book
use Rattle.line_print.specs.declared.line_refused.LineRefused.{LineRefused}
use Rattle.line_print.specs.declared.line_refused.LineRefused.TheVariants.{Syntax, NumberTooWide, TooMany, BadOption, NoSpace, OneSpace, NoSuchName, NameTaken, WrongCount, WrongType, NotSet, LongId}

-- a bad token is a syntax error too
abbrev pub by_parser : ParseRefused → Option LineRefused
by_parser (parser.BadToken at) = Some (Syntax at)
by_parser (parser.Syntax at) = Some (Syntax at)
by_parser (parser.NumberTooWide at) = Some (NumberTooWide at)
by_parser (parser.TooMany at) = Some (TooMany at)
by_parser (parser.BadOption at) = Some (BadOption at)
by_parser parser.NoMemory = None

abbrev pub by_book : BookRefused → Option LineRefused
by_book book.NoSpace = Some NoSpace
by_book book.OneSpace = Some OneSpace
by_book (book.NoSuchName name) = Some (NoSuchName name)
by_book (book.NameTaken name) = Some (NameTaken name)
by_book (book.WrongType name) = Some (WrongType name)
by_book (book.WrongCount at) = Some (WrongCount at)
by_book (book.NotSet name) = Some (NotSet name)
by_book (book.LongId at) = Some (LongId at)
by_book (book.TooMany at) = Some (TooMany at)
by_book book.NoMemory = None
