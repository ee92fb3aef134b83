-- What CREATE and USE make of a schema.
use Rattle.std.specs.Prelude.{◌+◌, Bool, not, ◌&&◌, ◌||◌, is_some, nat_lt, if◌then◌else◌, List, [], ◌∷◌, ◌++◌, length, Option, None, Some, Result, Ok, Err}
use Rattle.std.specs.Str.{bytes_eq}
use Rattle.ngql_syntax.specs.declared.define.Column.{Column}
use Rattle.ngql_syntax.specs.declared.define.Define.{Define}
use Rattle.ngql_syntax.specs.declared.define.Define.TheVariants as define
use Rattle.ngql_syntax.specs.declared.spanned.Spanned.{Spanned}
use Rattle.schema_book.specs.declared.made.Made.{Made}
use Rattle.schema_book.specs.declared.made.Made.TheVariants.{New, Already}
use Rattle.schema_book.specs.declared.refused.BookRefused.{BookRefused}
use Rattle.schema_book.specs.declared.refused.BookRefused.TheVariants.{NoSpace, OneSpace, NoSuchName, NameTaken, TooMany}
use Rattle.schema_book.specs.declared.space.Space.{Space}
use Rattle.schema_book.specs.Columns.{bad_column}
use Rattle.schema_book.specs.Entries.{Entries, is_named, most_entries}
use Rattle.schema_book.specs.Refusals.{unless, first_of, else_gives}
use Rattle.schema_book.specs.Schema.{Schema}

-- a space: the first is made; there is only one, which is there already, or has its name taken, or is another
abbrev pub space_created : Schema → Space → Bool → Option Space → Result (Made × Schema) BookRefused
space_created s new absent None = Ok (New 1, record s { space = Some new })
space_created s new absent (Some old) =
    if not (bytes_eq new.name old.name) then Err OneSpace
    else if absent then Ok (Already, s)
    else Err (NameTaken new.name)

-- what refuses a tag or an edge type, in this order; others are those of the other kind
abbrev pub entry_refused : Entries → Entries → Spanned → List Column → Option BookRefused
entry_refused own others name columns = first_of (
    unless (not (is_named name.text own || is_named name.text others)) (NameTaken name.text)
    ∷ unless (nat_lt (length own) most_entries) (TooMany name.at)
    ∷ bad_column [] columns
    ∷ [])

-- a tag or an edge type: it is there already, or is refused, or goes last and has the next number
abbrev pub entry_created : Entries → Entries → Spanned → List Column → Bool → Result (Made × Entries) BookRefused
entry_created own others name columns absent =
    if absent && is_named name.text own then Ok (Already, own)
    else else_gives (entry_refused own others name columns) (Ok (New (length own + 1), own ++ (name.text, columns) ∷ []))

abbrev pub with_tags : Schema → Result (Made × Entries) BookRefused → Result (Made × Schema) BookRefused
with_tags s (Ok made) = Ok (made.0, record s { tags = made.1 })
with_tags s (Err why) = Err why

abbrev pub with_edges : Schema → Result (Made × Entries) BookRefused → Result (Made × Schema) BookRefused
with_edges s (Ok made) = Ok (made.0, record s { edges = made.1 })
with_edges s (Err why) = Err why

-- what a definition makes of a schema; tags and edge types need a space
abbrev pub created : Schema → Define → Result (Made × Schema) BookRefused
created s (define.Space name parts factor ids absent) =
    space_created s (record { name = name.text; parts = parts; factor = factor; ids = ids }) absent s.space
created s (define.Tag name columns absent) =
    else_gives (unless (is_some s.space) NoSpace) (with_tags s (entry_created s.tags s.edges name columns absent))
created s (define.Edge name columns absent) =
    else_gives (unless (is_some s.space) NoSpace) (with_edges s (entry_created s.edges s.tags name columns absent))

-- what refuses USE: there is no space, or it has another name
abbrev pub select_refused : Option Space → Spanned → Option BookRefused
select_refused None name = Some NoSpace
select_refused (Some space) name = unless (bytes_eq name.text space.name) (NoSuchName name.text)
