use Rattle.std.proofs.Common.{◌≡◌, ◌+◌, ◌++◌, ◌∷◌, [], take, true, sym, ap, ◌∙◌}
use Rattle.std.proofs.lemmas.List.{take_more}
use Rattle.kv_part.specs.declared.batch.Write.{Write}
use Rattle.kv_part.specs.Store.{key_of}
use Rattle.kv_part.specs.MapStore.{has_place_for}
use Rattle.kv_part.proofs.Writes.{places_stay, places_push}
use Rattle.kv_part.proofs.map_store.MapStoreKeyStore.reserve.Goals as goal

pub returns-in_err-make_place-clause-kept : goal.returns-in_err-make_place-clause-kept
returns-in_err-make_place-clause-kept c = λ key placed. c.make_place.ensures.kept key (c.loop-write.invariant.kept key placed)

pub loop-write-preserved : goal.loop-write-preserved
loop-write-preserved c =
    let made : has_place_for (record { places = c.make_place.new.places }) (key_of c.write-item.result) ≡ true = rw (← c.key.ensures) c.in_ok-make_place.ensures.made in
    let batch = c.as_slice-write-items.result.now in
    let i = c.loop-write.write-index in
    let more : take (i + 1) batch ≡ take i batch ++ c.write-item.result ∷ [] = take_more batch i c.write-item.result c.loop-write-test.true ∙ ap (λ (w : Write). take i batch ++ w ∷ []) (sym c.write-item.is) in
    record {
      made = rw more (places_push (has_place_for (record { places = c.make_place.new.places })) (take i batch) c.write-item.result (places_stay (has_place_for c.loop-write.self) (has_place_for (record { places = c.make_place.new.places })) (take i batch) c.make_place.ensures.kept c.loop-write.invariant.made) made);
      kept = λ key placed. c.make_place.ensures.kept key (c.loop-write.invariant.kept key placed);
      same = c.make_place.ensures.same ∙ c.loop-write.invariant.same;
    }
