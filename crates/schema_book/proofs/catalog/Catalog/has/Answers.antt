use Rattle.std.proofs.Common.{is_some, ap, ◌∙◌}
use Rattle.std.specs.Str.{bytes_eq}
use Rattle.schema_book.specs.Entries.{place_of}
use Rattle.schema_book.proofs.EntryLemmas.{place_read}
use Rattle.schema_book.proofs.catalog.Catalog.has.Goals as goal

pub returns : goal.returns
returns c =
    c.is_some.ensures ∙ ap is_some (c.get_index_of.ensures.index ∙ place_read (λ k. k.items) (bytes_eq c.args.name.now) c.self.inside.kept.entries ∙ ap (place_of c.args.name.now) c.self.view_is)
