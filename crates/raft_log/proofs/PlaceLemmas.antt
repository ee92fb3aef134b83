-- The places of configurations, kept beside the log.
use Rattle.std.proofs.Common.{◌≡◌, inl, inr, ◌⊎◌, ℕ, zero, suc, ◌+◌, ◌-◌, ◌<◌, ◌≤◌, max, List, [], ◌∷◌, ◌++◌, length, take, Some, Bool, true, false, cond, slice_get, get_or, refl, ap, sym, ◌∙◌, arith, length-append, length-take}
use Rattle.std.specs.Prelude.{nat_le}
use Rattle.std.proofs.lemmas.Bool.{cases_lt, le-leb, lt-leb, cond-true, cond-false}
use Rattle.std.proofs.lemmas.Option.{slice_get_within}
use Rattle.std.proofs.lemmas.List.{append-nil, take-take, take_all, length-take-le, take_more}
use Rattle.std.proofs.Math.Seq.{take-append_seam}
use Rattle.std.specs.List.{AllByRecursion}
use Rattle.raft_log.specs.declared.config.Config.{Config}
use Rattle.raft_log.specs.declared.entry.Entry.{Entry}
use Rattle.raft_log.specs.declared.entry.Item.{Item}
use Rattle.raft_log.specs.declared.entry.Item.TheVariants.{NoOp, Members, Payload}
use Rattle.raft_log.specs.Config.{IsConfig, IsItem, AreEntries}
use Rattle.raft_log.specs.Log.{entry_at, config_behind, config_from, config_of, config_index, index_before, no_members, is_members}
use Rattle.raft_log.specs.Places.{places_from, config_places, noted, forgotten, members_in}

-- ---- one more entry, or one less

last_place : (item : Item) (n m : ℕ) → m ≡ suc n → cond (is_members item) (suc n ∷ []) [] ≡ noted item m
last_place NoOp n m e = refl
last_place (Members config) n m e = ap (λ k. k ∷ []) (sym e)
last_place (Payload bytes) n m e = refl

ahead : (b : Bool) (n : ℕ) (all front back : List ℕ) → all ≡ front ++ back → cond b (n ∷ all) all ≡ cond b (n ∷ front) front ++ back
ahead true n all front back e = ap (λ xs. n ∷ xs) e
ahead false n all front back e = e

places_append : (n m : ℕ) (log : List Entry) (entry : Entry) → m ≡ suc (n + length log) → places_from n (log ++ entry ∷ []) ≡ places_from n log ++ noted entry.item m
places_append n m [] entry e = last_place entry.item n m (omega (arith, e))
places_append n m (first ∷ log) entry e =
    ahead (is_members first.item) (suc n) (places_from (suc n) (log ++ entry ∷ [])) (places_from (suc n) log) (noted entry.item m) (places_append (suc n) m log entry (omega (arith, e)))

pub append_kept : (log : List Entry) (entry : Entry) → config_places (log ++ entry ∷ []) ≡ config_places log ++ noted entry.item (length log + 1)
append_kept log entry = places_append 0 (length log + 1) log entry (omega arith)

forgotten_is : (item : Item) (front : List ℕ) (place : ℕ) → forgotten item (front ++ noted item place) ≡ front
forgotten_is NoOp front place = append-nil front
forgotten_is (Members config) front place =
    let e : length (front ++ place ∷ []) - 1 ≡ length front = omega (arith, length-append front (place ∷ [])) in
    rw e (take-append_seam front (place ∷ []))
forgotten_is (Payload bytes) front place = append-nil front

pub pop_kept : (log : List Entry) (entry : Entry) → forgotten entry.item (config_places (log ++ entry ∷ [])) ≡ config_places log
pop_kept log entry = ap (forgotten entry.item) (append_kept log entry) ∙ forgotten_is entry.item (config_places log) (length log + 1)

-- ---- cutting

pub cut_more : {A : Type 0} (k : ℕ) (xs : List A) → k ≤ length xs → take (length (take k xs) - 1) (take k xs) ≡ take (k - 1) xs
cut_more k xs le = rw (length-take-le k xs le) (take-take (k - 1) k xs (omega arith))

pub cut_end : {A : Type 0} (index counter : ℕ) (xs : List A) → 0 < index → length xs + 1 ≤ counter → index ≤ counter → counter ≤ max index (length xs + 1) → take (length xs - (counter - index)) xs ≡ take (index - 1) xs
cut_end index counter xs above reached from within = elim (cases_lt (length xs) index) [
  | inl past ↦ (let e : length xs - (counter - index) ≡ length xs = omega arith in rw e (take_all (length xs) xs (omega arith) ∙ sym (take_all (index - 1) xs (omega arith))))
  | inr inside ↦ (let e : length xs - (counter - index) ≡ index - 1 = omega arith in rw e refl)
]

module _ {A : Type 0} (P : A → Type 0) where
  pub all_behind : (xs : List A) (x : A) → AllByRecursion P xs → P x → AllByRecursion P (xs ++ x ∷ [])
  all_behind [] x all is = (is, tt)
  all_behind (y ∷ xs) x all is = (all.0, all_behind xs x all.1 is)

  pub all_front : (xs ys : List A) → AllByRecursion P (xs ++ ys) → AllByRecursion P xs
  all_front [] ys all = tt
  all_front (y ∷ xs) ys all = (all.0, all_front xs ys all.1)

module _ {A : Type 0} (P : A → Type 0) where
  pub all_of-take : (n : ℕ) (xs : List A) → AllByRecursion P xs → AllByRecursion P (take n xs)
  all_of-take zero xs all = tt
  all_of-take (suc n) [] all = tt
  all_of-take (suc n) (x ∷ xs) all = (all.0, all_of-take n xs all.1)

-- ---- the last configuration

-- no configuration, or the last one at index `suc i`
record Without (n : ℕ) (config : Config) (log : List Entry) : Type 0 where
  index : config_index log ≡ 0
  last : config_from config log ≡ config
  places : places_from n log ≡ []

record Within (n : ℕ) (config : Config) (log : List Entry) : Type 0 where
  i : ℕ
  term : ℕ
  held : Config
  front : List ℕ
  index : config_index log ≡ suc i
  entry : slice_get log i ≡ Some (record { term = term; item = Members held })
  last : config_from config log ≡ held
  places : places_from n log ≡ front ++ (n + suc i) ∷ []

behind : (n term : ℕ) (item : Item) (config : Config) (log : List Entry) → Without (suc n) (config_behind config item) log ⊎ Within (suc n) (config_behind config item) log
    → Without n config (record { term = term; item = item } ∷ log) ⊎ Within n config (record { term = term; item = item } ∷ log)
behind n term NoOp config log (inl none) = inl (record { index = rw none.index refl; last = none.last; places = none.places })
behind n term (Payload bytes) config log (inl none) = inl (record { index = rw none.index refl; last = none.last; places = none.places })
behind n term (Members held) config log (inl none) = inr (record {
  i = 0;
  term = term;
  held = held;
  front = [];
  index = rw none.index refl;
  entry = refl;
  last = none.last;
  places = let e : suc n ≡ n + 1 = omega arith in rw none.places (ap (λ k. k ∷ []) e);
})
behind n term NoOp config log (inr at) = inr (record {
  i = suc at.i;
  term = at.term;
  held = at.held;
  front = at.front;
  index = rw at.index refl;
  entry = at.entry;
  last = at.last;
  places = let e : suc n + suc at.i ≡ n + suc (suc at.i) = omega arith in at.places ∙ ap (λ k. at.front ++ k ∷ []) e;
})
behind n term (Payload bytes) config log (inr at) = inr (record {
  i = suc at.i;
  term = at.term;
  held = at.held;
  front = at.front;
  index = rw at.index refl;
  entry = at.entry;
  last = at.last;
  places = let e : suc n + suc at.i ≡ n + suc (suc at.i) = omega arith in at.places ∙ ap (λ k. at.front ++ k ∷ []) e;
})
behind n term (Members other) config log (inr at) = inr (record {
  i = suc at.i;
  term = at.term;
  held = at.held;
  front = suc n ∷ at.front;
  index = rw at.index refl;
  entry = at.entry;
  last = at.last;
  places = let e : suc n + suc at.i ≡ n + suc (suc at.i) = omega arith in ap (λ xs. suc n ∷ xs) (at.places ∙ ap (λ k. at.front ++ k ∷ []) e);
})

found : (n : ℕ) (config : Config) (log : List Entry) → Without n config log ⊎ Within n config log
found n config [] = inl (record { index = refl; last = refl; places = refl })
found n config (entry ∷ log) = behind n entry.term entry.item config log (found (suc n) (config_behind config entry.item) log)

pub config_is : (log : List Entry) → members_in (entry_at log (config_index log)) ≡ config_of log
config_is log = elim (found 0 no_members log) [
  | inl none ↦ rw none.index (sym none.last)
  | inr at ↦ rw (at.index, at.entry) (sym at.last)
]

-- ---- the last configuration up to an index

-- the last of these places that is at most an index, or what was found before
abbrev pub last_up_to : ℕ → ℕ → List ℕ → ℕ
last_up_to index before [] = before
last_up_to index before (place ∷ places) = last_up_to index (cond (nat_le place index) place before) places

pub up_to-snoc : (index before : ℕ) (places : List ℕ) (place : ℕ) → last_up_to index before (places ++ place ∷ []) ≡ cond (nat_le place index) place (last_up_to index before places)
up_to-snoc index before [] place = refl
up_to-snoc index before (first ∷ places) place = up_to-snoc index (cond (nat_le first index) first before) places place

-- one place further
up_to-step : (index left : ℕ) (places : List ℕ) → 0 < left → left ≤ length places
    → last_up_to index 0 (take left places) ≡ cond (nat_le (get_or places (left - 1) 0) index) (get_or places (left - 1) 0) (last_up_to index 0 (take (left - 1) places))
up_to-step index left places above within =
    let one : left - 1 + 1 ≡ left = omega arith in
    ap (λ n. last_up_to index 0 (take n places)) (sym one) ∙ ap (last_up_to index 0) (take_more places (left - 1) 0 (omega arith))
    ∙ up_to-snoc index 0 (take (left - 1) places) (get_or places (left - 1) 0)

pub up_to_there : (index left : ℕ) (places : List ℕ) → 0 < left → left ≤ length places → get_or places (left - 1) 0 ≤ index → last_up_to index 0 (take left places) ≡ get_or places (left - 1) 0
up_to_there index left places above within low = up_to-step index left places above within ∙ cond-true _ _ _ (le-leb (get_or places (left - 1) 0) index low)

pub up_to_before : (index left : ℕ) (places : List ℕ) → 0 < left → left ≤ length places → index < get_or places (left - 1) 0 → last_up_to index 0 (take left places) ≡ last_up_to index 0 (take (left - 1) places)
up_to_before index left places above within high = up_to-step index left places above within ∙ cond-false _ _ _ (lt-leb (get_or places (left - 1) 0) index high)

-- all places from an index on are above it
above_last : (b : Bool) (n index before : ℕ) (places : List ℕ) → index ≤ n → last_up_to index before places ≡ before → last_up_to index before (cond b (suc n ∷ places) places) ≡ before
above_last true n index before places low rest = let above : nat_le (suc n) index ≡ false = lt-leb (suc n) index (omega arith) in ap (λ b. last_up_to index (cond b (suc n) before) places) above ∙ rest
above_last false n index before places low rest = rest

none_below : (n index before : ℕ) (log : List Entry) → index ≤ n → last_up_to index before (places_from n log) ≡ before
none_below n index before [] low = refl
none_below n index before (entry ∷ log) low = above_last (is_members entry.item) n index before (places_from (suc n) log) low (none_below (suc n) index before log (omega arith))

-- an index found behind so many entries, or what was found before
abbrev found_behind : ℕ → ℕ → ℕ → ℕ
found_behind n before zero = before
found_behind n before (suc i) = n + suc i

behind_entry : (n before : ℕ) (item : Item) (index : ℕ) → found_behind (suc n) (cond (is_members item) (suc n) before) index ≡ found_behind n before (index_before item index)
behind_entry n before NoOp zero = refl
behind_entry n before (Members config) zero = omega arith
behind_entry n before (Payload bytes) zero = refl
behind_entry n before NoOp (suc i) = omega arith
behind_entry n before (Members config) (suc i) = omega arith
behind_entry n before (Payload bytes) (suc i) = omega arith

one_more_place : (b : Bool) (n index before : ℕ) (places : List ℕ) → suc n ≤ index → last_up_to index before (cond b (suc n ∷ places) places) ≡ last_up_to index (cond b (suc n) before) places
one_more_place true n index before places within = let w : nat_le (suc n) index ≡ true = le-leb (suc n) index within in ap (λ b. last_up_to index (cond b (suc n) before) places) w
one_more_place false n index before places within = refl

found_up_to : (k n index before : ℕ) (log : List Entry) → index ≡ n + k → last_up_to index before (places_from n log) ≡ found_behind n before (config_index (take k log))
found_up_to zero n index before log e = none_below n index before log (omega arith)
found_up_to (suc k) n index before [] e = refl
found_up_to (suc k) n index before (entry ∷ log) e =
    one_more_place (is_members entry.item) n index before (places_from (suc n) log) (omega arith)
    ∙ found_up_to k (suc n) index (cond (is_members entry.item) (suc n) before) log (omega arith)
    ∙ behind_entry n before entry.item (config_index (take k log))

from_nothing : (i : ℕ) → found_behind 0 0 i ≡ i
from_nothing zero = refl
from_nothing (suc i) = omega arith

pub index_up_to : (index : ℕ) (log : List Entry) → last_up_to index 0 (config_places log) ≡ config_index (take index log)
index_up_to index log = found_up_to index 0 index 0 log (omega arith) ∙ from_nothing (config_index (take index log))

index_within : (log : List Entry) → config_index log ≤ length log
index_within log = elim (found 0 no_members log) [
  | inl none ↦ rw none.index (omega arith)
  | inr at ↦ (let w = slice_get_within log at.i (record { term = at.term; item = Members at.held }) at.entry in rw at.index (omega arith))
]

entry_in-take : (k i : ℕ) (log : List Entry) → i ≤ k → entry_at (take k log) i ≡ entry_at log i
entry_in-take k zero log within = refl
entry_in-take zero (suc i) log within = absurd (omega arith)
entry_in-take (suc k) (suc i) [] within = refl
entry_in-take (suc k) (suc zero) (entry ∷ log) within = refl
entry_in-take (suc k) (suc (suc i)) (entry ∷ log) within = entry_in-take k (suc i) log (omega arith)

-- what stands at the last place up to an index is the last configuration up to it
pub config_up_to_is : (log : List Entry) (index : ℕ) → members_in (entry_at log (config_index (take index log))) ≡ config_of (take index log)
config_up_to_is log index =
    let w = index_within (take index log) in
    let t = length-take index log in
    sym (ap members_in (entry_in-take index (config_index (take index log)) log (omega arith))) ∙ config_is (take index log)

-- ---- each configuration is one

behind_kept : (config : Config) (item : Item) → IsConfig config → IsItem item → IsConfig (config_behind config item)
behind_kept config NoOp is fits = is
behind_kept config (Members other) is fits = fits
behind_kept config (Payload bytes) is fits = is

from_kept : (config : Config) (log : List Entry) → IsConfig config → AreEntries log → IsConfig (config_from config log)
from_kept config [] is all = is
from_kept config (entry ∷ log) is all = from_kept (config_behind config entry.item) log (behind_kept config entry.item is all.0) all.1

pub config_kept : (log : List Entry) → AreEntries log → IsConfig (config_of log)
config_kept log all = from_kept no_members log (record { apart = tt; few = omega arith }) all

pub config_up_to_kept : (log : List Entry) (index : ℕ) → AreEntries log → IsConfig (config_of (take index log))
config_up_to_kept log index all = config_kept (take index log) (all_of-take (λ (entry : Entry). IsItem entry.item) index log all)
