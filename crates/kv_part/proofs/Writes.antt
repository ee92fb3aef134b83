-- Places for the writes of a batch.
use Rattle.std.proofs.Common.{◌≡◌, ℕ, List, [], ◌∷◌, ◌++◌, Bool, true, ◌∙◌}
use Rattle.kv_part.specs.declared.batch.Write.{Write}
use Rattle.kv_part.specs.Store.{HasPlaces, key_of}

-- places that stay
pub places_stay : (p q : List ℕ → Bool) (ws : List Write) → ((key : List ℕ) → p key ≡ true → q key ≡ true) → HasPlaces p ws → HasPlaces q ws
places_stay p q [] stay has = tt
places_stay p q (w ∷ ws) stay has = (stay (key_of w) has.0, places_stay p q ws stay has.1)

-- one place more
pub places_push : (p : List ℕ → Bool) (ws : List Write) (w : Write) → HasPlaces p ws → p (key_of w) ≡ true → HasPlaces p (ws ++ w ∷ [])
places_push p [] w has here = (here, tt)
places_push p (v ∷ ws) w has here = (has.0, places_push p ws w has.1 here)

-- the same places
pub places_same : (p q : List ℕ → Bool) (ws : List Write) → ((key : List ℕ) → q key ≡ p key) → HasPlaces p ws → HasPlaces q ws
places_same p q ws same has = places_stay p q ws (λ key h. same key ∙ h) has
