use Rattle.std.proofs.Common.{◌≡◌, ◌∷◌, Some, None, ap, subst, sym, ◌∙◌}
use Rattle.std.specs.Vec.Iter.{into_iter_items}
use Rattle.kv_part.specs.declared.batch.Write.{Write}
use Rattle.kv_part.specs.declared.batch.Write.TheVariants.{Put, Remove}
use Rattle.kv_part.specs.Store.{Contents, HasPlaces, written}
use Rattle.kv_part.specs.Places.{with_at}
use Rattle.kv_part.specs.MapStore.{contents, has_place_for}
use Rattle.kv_part.proofs.Writes.{places_same}
use Rattle.kv_part.proofs.map_store.MapStoreKeyStore.write.Goals as goal

pub loop-write-preserved-in-Put : goal.loop-write-preserved-in-Put
loop-write-preserved-in-Put c =
    let rest = into_iter_items c.next.new.self in
    let e : into_iter_items c.loop-write.write-iterator ≡ Put c.in-Put.key c.in-Put.value ∷ rest = c.in-Some.ensures.steps.0 ∙ ap (λ (w : Write). w ∷ rest) c.in-Put.is in
    let placed = subst (HasPlaces (has_place_for c.loop-write.self)) e c.loop-write.invariant.placed in
    record {
      can = tt;
      finite = tt;
      placed = places_same (has_place_for c.loop-write.self) (has_place_for (record { places = c.set_place.new.places })) rest c.set_place.ensures.kept placed.1;
      done = ap (λ (m : Contents). written m rest) (c.set_place.ensures.set ∙ ap (λ k. with_at (contents c.loop-write.self) k (Some c.in-Put.value)) c.as_slice.ensures) ∙ sym (ap (written (contents c.loop-write.self)) e) ∙ c.loop-write.invariant.done;
      places = λ key. c.set_place.ensures.kept key ∙ c.loop-write.invariant.places key;
    }

pub loop-write-preserved : goal.loop-write-preserved
loop-write-preserved c =
    let rest = into_iter_items c.next.new.self in
    let e : into_iter_items c.loop-write.write-iterator ≡ Remove c.in-Remove.key ∷ rest = c.in-Some.ensures.steps.0 ∙ ap (λ (w : Write). w ∷ rest) c.in-Remove.is in
    let placed = subst (HasPlaces (has_place_for c.loop-write.self)) e c.loop-write.invariant.placed in
    record {
      can = tt;
      finite = tt;
      placed = places_same (has_place_for c.loop-write.self) (has_place_for (record { places = c.set_place-in-Remove.new.places })) rest c.set_place-in-Remove.ensures.kept placed.1;
      done = ap (λ (m : Contents). written m rest) (c.set_place-in-Remove.ensures.set ∙ ap (λ k. with_at (contents c.loop-write.self) k None) c.as_slice-in-Remove.ensures) ∙ sym (ap (written (contents c.loop-write.self)) e) ∙ c.loop-write.invariant.done;
      places = λ key. c.set_place-in-Remove.ensures.kept key ∙ c.loop-write.invariant.places key;
    }
