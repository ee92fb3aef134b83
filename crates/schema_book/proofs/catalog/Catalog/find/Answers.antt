use Rattle.std.proofs.Common.{◌≡◌, None, Some, slice_get, ap, sym, ◌∙◌}
use Rattle.std.proofs.lemmas.Option.{slice_get-map}
use Rattle.std.specs.Option.{option_map}
use Rattle.std.specs.Str.{bytes_eq}
use Rattle.schema_book.specs.Entries.{place_of}
use Rattle.schema_book.proofs.EntryLemmas.{place_read, entry_nowhere, entry_there}
use Rattle.schema_book.proofs.catalog.Catalog.find.Goals as goal

pub returns-in_err-place-clause-found : goal.returns-in_err-place-clause-found
returns-in_err-place-clause-found c =
    let none : place_of c.args.name.now c.args.self.now ≡ None =
    sym (c.in_err-place.ensures.index ∙ place_read (λ k. k.items) (bytes_eq c.args.name.now) c.self.inside.kept.entries ∙ ap (place_of c.args.name.now) c.self.view_is) in
    rw c.from_residual.ensures (sym (entry_nowhere c.args.name.now c.args.self.now none))

pub returns-clause-found : goal.returns-clause-found
returns-clause-found c =
    let place : place_of c.args.name.now c.args.self.now ≡ Some c.in_ok-place.place =
    sym (c.in_ok-place.ensures.index ∙ place_read (λ k. k.items) (bytes_eq c.args.name.now) c.self.inside.kept.entries ∙ ap (place_of c.args.name.now) c.self.view_is) in
    let at : slice_get c.args.self.now c.in_ok-place.place ≡ Some (c.in_ok-columns.field-0-0.now.items, c.in_ok-columns.columns.now) =
    sym (ap (λ s. slice_get s c.in_ok-place.place) c.self.view_is) ∙ slice_get-map _ c.self.inside.kept.entries c.in_ok-place.place ∙ sym (ap (option_map (λ e. (e.0.items, e.1))) c.in_ok-columns.ensures.entry) in
    sym (entry_there c.args.name.now c.args.self.now c.in_ok-place.place _ place at)
