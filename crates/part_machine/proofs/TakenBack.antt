-- Writes that are taken back leave the map as it was.
use Rattle.std.proofs.Common.{◌≡◌, ℕ, List, [], ◌∷◌, Option, Some, None, Bool, true, false, cond, ◌||◌, refl, ap, sym, ◌∙◌}
use Rattle.std.specs.Ordering.{is_eq}
use Rattle.std.specs.List.{list_any}
use Rattle.std.specs.FinMap.{get, get-insert, get-remove, same_map}
use Rattle.byte_fields.specs.Order.{bytes_cmp}
use Rattle.kv_part.specs.declared.batch.Write.{Write}
use Rattle.kv_part.specs.declared.batch.Write.TheVariants.{Put, Remove}
use Rattle.kv_part.specs.Store.{Contents, key_of, after, written}
use Rattle.kv_part.proofs.Orders.{total, exact, same}
use Rattle.part_machine.specs.Undone.{giving, backs}

-- the value that a write gives its key
abbrev pub value_of : Write → Option (List ℕ)
value_of (Put key value) = Some value
value_of (Remove key) = None

-- what the map has at a key behind a write
pub get-after : (m : Contents) (w : Write) (q : List ℕ) → get (after m w) q ≡ cond (is_eq (bytes_cmp q (key_of w))) (value_of w) (get m q)
get-after m (Put key value) q = get-insert total m key value q
get-after m (Remove key) q = get-remove total m key q

-- whether a key is among those that are written
abbrev pub touches : List ℕ → List Write → Bool
touches q ws = list_any (λ w. is_eq (bytes_cmp q (key_of w))) ws

-- a key that isn't written stays
pub untouched : (ws : List Write) (m : Contents) (q : List ℕ) → touches q ws ≡ false → get (written m ws) q ≡ get m q
untouched [] m q off = refl
untouched (w ∷ ws) m q off =
    elim (is_eq (bytes_cmp q (key_of w))) as (λ b. is_eq (bytes_cmp q (key_of w)) ≡ b → (b || touches q ws) ≡ false → get (written (after m w) ws) q ≡ get m q) [
      | true ↦ λ here o. absurd cc
      | false ↦ λ apart o. untouched ws (after m w) q o ∙ get-after m w q ∙ ap (λ b. cond b (value_of w) (get m q)) apart
    ] refl off

giving-value : (key : List ℕ) (o : Option (List ℕ)) → value_of (giving key o) ≡ o
giving-value key None = refl
giving-value key (Some value) = refl

giving-key : (key : List ℕ) (o : Option (List ℕ)) → key_of (giving key o) ≡ key
giving-key key None = refl
giving-key key (Some value) = refl

given : (n m : Contents) (w : Write) (q : List ℕ) → get (after n (giving (key_of w) (get m (key_of w)))) q ≡ cond (is_eq (bytes_cmp q (key_of w))) (get m q) (get n q)
given n m w q =
    get-after n (giving (key_of w) (get m (key_of w))) q
    ∙ ap (λ k. cond (is_eq (bytes_cmp q k)) (value_of (giving (key_of w) (get m (key_of w)))) (get n q)) (giving-key (key_of w) (get m (key_of w)))
    ∙ ap (λ v. cond (is_eq (bytes_cmp q (key_of w))) v (get n q)) (giving-value (key_of w) (get m (key_of w)))
    ∙ elim (is_eq (bytes_cmp q (key_of w))) as (λ b. is_eq (bytes_cmp q (key_of w)) ≡ b → cond b (get m (key_of w)) (get n q) ≡ cond b (get m q) (get n q)) [
      | true ↦ λ here. ap (get m) (sym (same q (key_of w) here))
      | false ↦ λ apart. refl
    ] refl

-- what the map has behind the writes that give back
gave : (ws : List Write) (n m : Contents) (q : List ℕ) → get (written n (backs m ws)) q ≡ cond (touches q ws) (get m q) (get n q)
gave [] n m q = refl
gave (w ∷ ws) n m q =
    gave ws (after n (giving (key_of w) (get m (key_of w)))) m q
    ∙ ap (cond (touches q ws) (get m q)) (given n m w q)
    ∙ elim (is_eq (bytes_cmp q (key_of w))) as (λ b. cond (touches q ws) (get m q) (cond b (get m q) (get n q)) ≡ cond (b || touches q ws) (get m q) (get n q)) [
      | true ↦ elim (touches q ws) as (λ t. cond t (get m q) (get m q) ≡ get m q) [ true ↦ refl | false ↦ refl ]
      | false ↦ refl
    ]

-- what was written and given back is as before
pub taken_back : (m : Contents) (ws : List Write) → written (written m ws) (backs m ws) ≡ m
taken_back m ws = same_map total exact _ _ (λ q. gave ws (written m ws) m q ∙
    elim (touches q ws) as (λ t. touches q ws ≡ t → cond t (get m q) (get (written m ws) q) ≡ get m q) [
      | true ↦ λ here. refl
      | false ↦ λ off. untouched ws m q off
    ] refl)
