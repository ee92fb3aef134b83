use Rattle.std.proofs.Common.{◌≡◌, None, ap, sym, refl, subst, ◌∙◌}
use Rattle.std.specs.Str.{bytes_eq}
use Rattle.schema_book.specs.Entries.{place_of, AreSound}
use Rattle.schema_book.proofs.EntryLemmas.{put_behind, seen, one_more}
use Rattle.schema_book.proofs.catalog.Catalog.add.Goals as goal

pub invariant_of-self-2 : goal.invariant_of-self-2
invariant_of-self-2 c =
    let key_is = c.in_ok-key.ensures.items in
    let none : place_of c.in_ok-key.key.items (seen (λ k. k.items) c.self.inside.kept.entries) ≡ None = rw (key_is, c.self.view_is) c.requires.new in
    let is = ap (seen (λ k. k.items)) c.in_ok-insert.ensures.entries ∙ put_behind (λ k. k.items) bytes_eq c.self.inside.kept.entries c.in_ok-key.key c.args.columns none in
    subst AreSound (sym is) (one_more (seen (λ k. k.items) c.self.inside.kept.entries) c.in_ok-key.key.items c.args.columns c.self.invariant (rw c.self.view_is c.requires.few) c.requires.sound)

pub returns-clause-ok : goal.returns-clause-ok
returns-clause-ok c =
    let key_is = c.in_ok-key.ensures.items in
    let none : place_of c.in_ok-key.key.items (seen (λ k. k.items) c.self.inside.kept.entries) ≡ None = rw (key_is, c.self.view_is) c.requires.new in
    ap (seen (λ k. k.items)) c.in_ok-insert.ensures.entries ∙ put_behind (λ k. k.items) bytes_eq c.self.inside.kept.entries c.in_ok-key.key c.args.columns none ∙ rw (key_is, c.self.view_is) refl
