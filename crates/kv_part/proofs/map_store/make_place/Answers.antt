use Rattle.std.proofs.Common.{◌≡◌, false, sym, ◌∙◌}
use Rattle.kv_part.specs.Places.{is_placed}
use Rattle.kv_part.proofs.PlaceLemmas.{made_kept, made_same}
use Rattle.kv_part.proofs.map_store.make_place.Goals as goal

pub returns-clause-kept : goal.returns-clause-kept
returns-clause-kept c = λ other placed. rw c.in_ok-insert.ensures.entries (made_kept (λ k. k.items) c.args.places.now.entries c.in_ok-from_slice.field-0 other placed)

pub returns-clause-same : goal.returns-clause-same
returns-clause-same c =
    let absent : is_placed (λ k. k.items) c.args.places.now.entries c.in_ok-from_slice.field-0.items ≡ false = rw c.in_ok-from_slice.ensures.items (sym c.contains_key.ensures ∙ c.if-contains_key.false) in
    rw c.in_ok-insert.ensures.entries (made_same (λ k. k.items) c.args.places.now.entries c.in_ok-from_slice.field-0 absent)
