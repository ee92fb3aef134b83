-- The pairs under a prefix stand next to each other in the order of keys, from the prefix on.
use Rattle.std.proofs.Common.{◌≡◌, inl, inr, ℕ, ◌<◌, List, [], ◌∷◌, Option, Some, None, Bool, true, false, cond, not, ◌&&◌, nat_eq, filter, length, refl, ap, sym, subst, ◌∙◌, arith}
use Rattle.std.specs.declared.cmp.Ordering.{Ordering}
use Rattle.std.specs.declared.cmp.Ordering.TheVariants.{Less, Equal, Greater}
use Rattle.std.specs.Ordering.{is_eq, is_le, nat_cmp, ordering_then, MatchOrdering}
use Rattle.std.specs.Cmp.{ranked}
use Rattle.std.specs.List.{AllByRecursion, starts_with}
use Rattle.std.specs.List.Sorted.{IsStrictlySortedBy}
use Rattle.std.specs.Map.{keys_of}
use Rattle.std.specs.FinMap.{entries, empty, len-empty, len-entries, entries-insert, get, remove, get-remove, same_map}
use Rattle.std.specs.FinMap.Entries.{put}
use Rattle.std.proofs.lemmas.Bool.{eq-eqb, ne_eqb, eqb-true, and_parts, and_right, and_left, both_ways}
use Rattle.std.proofs.lemmas.Map.Keys.{sorted_head, sorted_tail}
use Rattle.byte_fields.specs.Order.{bytes_cmp}
use Rattle.kv_part.specs.Store.{under}
use Rattle.kv_part.specs.Places.{with_at, stored, place_at}
use Rattle.kv_part.proofs.Orders.{total, exact, itself, same_or_apart}
use Rattle.kv_part.proofs.PlaceLemmas.{get-stored, value_in}

-- ---- prefixes and the order

-- whether a key begins with the prefix
abbrev pub begins : List ℕ → List ℕ → Bool
begins prefix key = starts_with nat_eq key prefix

lower : (a b : ℕ) → a < b → nat_eq a b ≡ false
lower a b lt = ne_eqb a b (λ e. omega (arith, lt, e))

past_by : (a b d : ℕ) (p k m : List ℕ) (r s : Ordering) → MatchOrdering r (a < b) (a ≡ b) (b < a) → MatchOrdering s (b < d) (b ≡ d) (d < b)
    → is_le (ordering_then r (bytes_cmp p k)) ≡ true → (nat_eq a b && begins p k) ≡ false → ordering_then s (bytes_cmp k m) ≡ Less
    → (is_le (bytes_cmp p k) ≡ true → begins p k ≡ false → bytes_cmp k m ≡ Less → begins p m ≡ false)
    → (nat_eq a d && begins p m) ≡ false
past_by a b d p k m Greater s ab bd le fails lt more = absurd cc
past_by a b d p k m Less Greater ab bd le fails lt more = absurd cc
past_by a b d p k m Equal Greater ab bd le fails lt more = absurd cc
past_by a b d p k m Less Less ab bd le fails lt more = and_left (nat_eq a d) (begins p m) (lower a d (omega (arith, ab, bd)))
past_by a b d p k m Less Equal ab bd le fails lt more = and_left (nat_eq a d) (begins p m) (lower a d (omega (arith, ab, bd)))
past_by a b d p k m Equal Less ab bd le fails lt more = and_left (nat_eq a d) (begins p m) (lower a d (omega (arith, ab, bd)))
past_by a b d p k m Equal Equal ab bd le fails lt more =
    let e : nat_eq a b ≡ true = eq-eqb a b ab in
    let not_begun : begins p k ≡ false = rw e at fails in
    and_right (nat_eq a d) (begins p m) (more le not_begun lt)

-- behind a key that is not below the prefix and doesn't begin with it no key does
pub past : (p k m : List ℕ) → is_le (bytes_cmp p k) ≡ true → begins p k ≡ false → bytes_cmp k m ≡ Less → begins p m ≡ false
past [] k m le fails lt = absurd cc
past (a ∷ p) [] m le fails lt = absurd cc
past (a ∷ p) (b ∷ k) [] le fails lt = absurd cc
past (a ∷ p) (b ∷ k) (d ∷ m) le fails lt = past_by a b d p k m (nat_cmp a b) (nat_cmp b d) (ranked a b (nat_cmp a b) refl) (ranked b d (nat_cmp b d) refl) le fails lt (past p k m)

from_by : (a b : ℕ) (p k : List ℕ) (r : Ordering) → MatchOrdering r (a < b) (a ≡ b) (b < a) → a ≡ b → is_le (bytes_cmp p k) ≡ true → is_le (ordering_then r (bytes_cmp p k)) ≡ true
from_by a b p k Less ab is le = refl
from_by a b p k Equal ab is le = le
from_by a b p k Greater ab is le = absurd (omega (arith, ab, is))

-- a key that begins with the prefix is not below it
pub from_prefix : (p k : List ℕ) → begins p k ≡ true → is_le (bytes_cmp p k) ≡ true
from_prefix [] [] b = refl
from_prefix [] (x ∷ k) b = refl
from_prefix (a ∷ p) [] b = absurd cc
from_prefix (a ∷ p) (x ∷ k) b =
    let parts = and_parts (nat_eq a x) (begins p k) b in
    from_by a x p k (nat_cmp a x) (ranked a x (nat_cmp a x) refl) (eqb-true a x parts.0) (from_prefix p k parts.1)

module _ {K : Type 0} (bytes : K → List ℕ) where
  abbrev Entries : Type 0
  Entries = List (K × Option (List ℕ))

  abbrev cmp : K → K → Ordering
  cmp x y = bytes_cmp (bytes x) (bytes y)

  -- ---- the pairs of the places

  abbrev pub pair_in : List ℕ → Option (List ℕ) → List (List ℕ × List ℕ) → List (List ℕ × List ℕ)
  pair_in key None pairs = pairs
  pair_in key (Some value) pairs = (key, value) ∷ pairs

  abbrev pub pairs_of : Entries → List (List ℕ × List ℕ)
  pairs_of [] = []
  pairs_of (e ∷ es) = pair_in (bytes e.0) e.1 (pairs_of es)

  below_place : (k : K) (es : Entries) → AllByRecursion (λ y. cmp k y ≡ Less) (keys_of es) → place_at bytes es (bytes k) ≡ None
  below_place k [] below = refl
  below_place k (e ∷ es) below = rw below.0 (below_place k es below.1)

  put_first_by : (key value : List ℕ) (p : Option (List ℕ)) (k : List ℕ) (ps : List (List ℕ × List ℕ)) → bytes_cmp key k ≡ Less → put bytes_cmp key value ps ≡ (key, value) ∷ ps → put bytes_cmp key value (pair_in k p ps) ≡ (key, value) ∷ pair_in k p ps
  put_first_by key value None k ps below more = more
  put_first_by key value (Some v) k ps below more = rw below refl

  put_first : (k : K) (value : List ℕ) (es : Entries) → AllByRecursion (λ y. cmp k y ≡ Less) (keys_of es) → put bytes_cmp (bytes k) value (pairs_of es) ≡ (bytes k, value) ∷ pairs_of es
  put_first k value [] below = refl
  put_first k value (e ∷ es) below = put_first_by (bytes k) value e.1 (bytes e.0) (pairs_of es) below.0 (put_first k value es below.1)

  nothing_in : {A : Type 0} (es : List A) → length es ≡ 0 → es ≡ []
  nothing_in [] h = refl
  nothing_in (e ∷ es) h = absurd (omega arith)

  not_removed : (es : Entries) (k : K) → place_at bytes es (bytes k) ≡ None → remove (stored bytes es) (bytes k) ≡ stored bytes es
  not_removed es k none =
      same_map total exact _ _ (λ q. get-remove total (stored bytes es) (bytes k) q ∙ elim (same_or_apart q (bytes k)) as (λ w. cond (is_eq (bytes_cmp q (bytes k))) None (get (stored bytes es) q) ≡ get (stored bytes es) q) [
        | inl is ↦ subst (λ (x : List ℕ). cond (is_eq (bytes_cmp x (bytes k))) None (get (stored bytes es) x) ≡ get (stored bytes es) x) (sym is) (rw (itself (bytes k)) (sym (get-stored bytes es (bytes k) ∙ ap value_in none)))
        | inr differs ↦ rw differs refl
      ])

  stored_by : (k : K) (p : Option (List ℕ)) (es : Entries) → AllByRecursion (λ y. cmp k y ≡ Less) (keys_of es) → entries (stored bytes es) ≡ pairs_of es → entries (with_at (stored bytes es) (bytes k) p) ≡ pair_in (bytes k) p (pairs_of es)
  stored_by k None es below more = ap entries (not_removed es k (below_place k es below)) ∙ more
  stored_by k (Some v) es below more = entries-insert total (stored bytes es) (bytes k) v ∙ ap (put bytes_cmp (bytes k) v) more ∙ put_first k v es below

  -- in the order of keys the pairs are the map's entries
  pub entries_stored : (es : Entries) → IsStrictlySortedBy cmp (keys_of es) → entries (stored bytes es) ≡ pairs_of es
  entries_stored [] sorted = nothing_in _ (sym (len-entries empty) ∙ len-empty bytes_cmp (List ℕ))
  entries_stored (e ∷ es) sorted = stored_by e.0 e.1 es (sorted_head cmp e.0 (keys_of es) sorted) (entries_stored es (sorted_tail cmp e.0 (keys_of es) sorted))

  -- ---- the places from the prefix on

  abbrev pub scan : List ℕ → Entries → List (List ℕ × List ℕ)
  scan prefix es = filter (λ pair. begins prefix pair.0) (pairs_of es)

  abbrev pub is_from : List ℕ → K × Option (List ℕ) → Bool
  is_from prefix e = is_le (bytes_cmp prefix (bytes e.0)) && not false

  -- each key is not below the prefix, and below those behind it
  abbrev pub IsAhead : List ℕ → Entries → Type 0
  IsAhead prefix [] = Unit {0}
  IsAhead prefix (e ∷ es) = (is_le (bytes_cmp prefix (bytes e.0)) ≡ true) × AllByRecursion (λ y. cmp e.0 y ≡ Less) (keys_of es) × IsAhead prefix es

  kept_by : (P : K → Type 0) (b : Bool) (e : K × Option (List ℕ)) (es : Entries) → P e.0 → AllByRecursion P (keys_of es) → AllByRecursion P (keys_of (cond b (e ∷ es) es))
  kept_by P true e es here more = (here, more)
  kept_by P false e es here more = more

  all_filter : (P : K → Type 0) (test : K × Option (List ℕ) → Bool) (es : Entries) → AllByRecursion P (keys_of es) → AllByRecursion P (keys_of (filter test es))
  all_filter P test [] all = tt
  all_filter P test (e ∷ es) all = kept_by P (test e) e (filter test es) all.0 (all_filter P test es all.1)

  ahead_by : (prefix : List ℕ) (b : Bool) (e : K × Option (List ℕ)) (es : Entries) → is_from prefix e ≡ b → AllByRecursion (λ y. cmp e.0 y ≡ Less) (keys_of es) → IsAhead prefix es → IsAhead prefix (cond b (e ∷ es) es)
  ahead_by prefix true e es is below more = ((and_parts (is_le (bytes_cmp prefix (bytes e.0))) true is).0, below, more)
  ahead_by prefix false e es is below more = more

  pub ahead : (prefix : List ℕ) (es : Entries) → IsStrictlySortedBy cmp (keys_of es) → IsAhead prefix (filter (is_from prefix) es)
  ahead prefix [] sorted = tt
  ahead prefix (e ∷ es) sorted =
      ahead_by prefix (is_from prefix e) e (filter (is_from prefix) es) refl (all_filter (λ y. cmp e.0 y ≡ Less) (is_from prefix) es (sorted_head cmp e.0 (keys_of es) sorted)) (ahead prefix es (sorted_tail cmp e.0 (keys_of es) sorted))

  -- a place that doesn't begin with the prefix gives nothing
  pub skipped : (prefix : List ℕ) (k : K) (p : Option (List ℕ)) (es : Entries) → begins prefix (bytes k) ≡ false → scan prefix ((k, p) ∷ es) ≡ scan prefix es
  skipped prefix k None es fails = refl
  skipped prefix k (Some v) es fails = rw fails refl

  -- one that does gives its pair
  pub scanned : (prefix : List ℕ) (k : K) (v : List ℕ) (es : Entries) → begins prefix (bytes k) ≡ true → scan prefix ((k, Some v) ∷ es) ≡ (bytes k, v) ∷ scan prefix es
  scanned prefix k v es passes = rw passes refl

  same_front : (prefix : List ℕ) (k : K) (p : Option (List ℕ)) (es fs : Entries) → scan prefix es ≡ scan prefix fs → (b : Bool) → begins prefix (bytes k) ≡ b → scan prefix ((k, p) ∷ es) ≡ scan prefix ((k, p) ∷ fs)
  same_front prefix k None es fs more b is = more
  same_front prefix k (Some v) es fs more true is = rw is (ap (λ (ps : List (List ℕ × List ℕ)). (bytes k, v) ∷ ps) more)
  same_front prefix k (Some v) es fs more false is = rw is more

  both_ways_by : (prefix : List ℕ) (e : K × Option (List ℕ)) → is_le (bytes_cmp prefix (bytes e.0)) ≡ true → is_from prefix e ≡ false → ⊥
  both_ways_by prefix e le fails = both_ways (is_from prefix e) fails (rw le refl)

  never : (prefix : List ℕ) (e : K × Option (List ℕ)) (b : Bool) → begins prefix (bytes e.0) ≡ b → is_from prefix e ≡ false → begins prefix (bytes e.0) ≡ false
  never prefix e true passes fails = absurd (let le = from_prefix prefix (bytes e.0) passes in both_ways_by prefix e le fails)
  never prefix e false passes fails = passes

  from_by_test : (prefix : List ℕ) (b : Bool) (e : K × Option (List ℕ)) (es fs : Entries) → is_from prefix e ≡ b → scan prefix es ≡ scan prefix fs → scan prefix (e ∷ es) ≡ scan prefix (cond b (e ∷ fs) fs)
  from_by_test prefix true e es fs is more = same_front prefix e.0 e.1 es fs more (begins prefix (bytes e.0)) refl
  from_by_test prefix false e es fs is more = skipped prefix e.0 e.1 es (never prefix e (begins prefix (bytes e.0)) refl is) ∙ more

  -- the places below the prefix give nothing
  pub scan_from : (prefix : List ℕ) (es : Entries) → scan prefix es ≡ scan prefix (filter (is_from prefix) es)
  scan_from prefix [] = refl
  scan_from prefix (e ∷ es) = from_by_test prefix (is_from prefix e) e es (filter (is_from prefix) es) refl (scan_from prefix es)

  none_begins : (prefix : List ℕ) (k : K) (es : Entries) → is_le (bytes_cmp prefix (bytes k)) ≡ true → begins prefix (bytes k) ≡ false → AllByRecursion (λ y. cmp k y ≡ Less) (keys_of es) → scan prefix es ≡ []
  none_begins prefix k [] le fails below = refl
  none_begins prefix k (e ∷ es) le fails below =
      skipped prefix e.0 e.1 es (past prefix (bytes k) (bytes e.0) le fails below.0) ∙ none_begins prefix k es le fails below.1

  -- from a place on that doesn't begin with the prefix there is nothing more
  pub ended : (prefix : List ℕ) (k : K) (p : Option (List ℕ)) (es : Entries) → IsAhead prefix ((k, p) ∷ es) → begins prefix (bytes k) ≡ false → scan prefix ((k, p) ∷ es) ≡ []
  ended prefix k p es is fails = skipped prefix k p es fails ∙ none_begins prefix k es is.0 fails is.1

  -- what is under the prefix
  pub under_is : (prefix : List ℕ) (es : Entries) → IsStrictlySortedBy cmp (keys_of es) → under prefix (stored bytes es) ≡ scan prefix (filter (is_from prefix) es)
  under_is prefix es sorted = ap (filter (λ pair. begins prefix pair.0)) (entries_stored es sorted) ∙ scan_from prefix es
