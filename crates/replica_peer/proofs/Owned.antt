-- Which entries stand in a log behind a step.
use Rattle.std.proofs.Common.{◌≡◌, ℕ, zero, suc, Bool, true, List, [], ◌∷◌, ◌++◌, take, drop, Option, None, Some, refl, ap, sym, subst, ◌∙◌}
use Rattle.std.specs.Prelude.{◌&&◌}
use Rattle.std.specs.List.{AllByRecursion, list_all}
use Rattle.std.proofs.lemmas.Bool.{and_parts}
use Rattle.std.proofs.lemmas.List.Folds.{list_all-append}
use Rattle.raft_log.specs.declared.entry.Entry.{Entry}
use Rattle.raft_log.specs.declared.entry.Item.{Item}
use Rattle.raft_log.specs.declared.entry.Item.TheVariants.{NoOp, Members, Payload}
use Rattle.raft_log.specs.declared.record.Record.{Record}
use Rattle.raft_log.specs.Config.{IsItem, AreEntries}
use Rattle.raft_log.proofs.PlaceLemmas.{all_of-take}
use Rattle.raft_core.specs.Core.{Core}
use Rattle.raft_core.specs.Durable.{Durable, durable, kept}
use Rattle.replica_file.specs.Grammar.{item_may}
use Rattle.replica_file.specs.Laws.{MayStand}
use Rattle.replica_model.specs.Asks.{is_entry, are_entries}
use Rattle.replica_model.specs.Replica.{Home}
use Rattle.replica_model.specs.Spelling.{value_of}
use Rattle.replica_record.specs.Framed.{MayBeKept}
use Rattle.replica_record.specs.Own.{allowed_in}
use Rattle.replica_peer.specs.Room.{HoldsEntries}

both_true : (a b : Bool) → a ≡ true → b ≡ true → (a && b) ≡ true
both_true a b e f = λ i. e i && f i

all_taken : {X : Type 0} (p : X → Bool) (n : ℕ) (xs : List X) → list_all p xs ≡ true → list_all p (take n xs) ≡ true
all_taken p zero xs all = refl
all_taken p (suc n) [] all = refl
all_taken p (suc n) (x ∷ xs) all =
    let both = and_parts (p x) (list_all p xs) all in
    both_true (p x) (list_all p (take n xs)) both.0 (all_taken p n xs both.1)

all_dropped : {X : Type 0} (p : X → Bool) (n : ℕ) (xs : List X) → list_all p xs ≡ true → list_all p (drop n xs) ≡ true
all_dropped p zero xs all = all
all_dropped p (suc n) [] all = refl
all_dropped p (suc n) (x ∷ xs) all = all_dropped p n xs (and_parts (p x) (list_all p xs) all).1

module _ (home : Home) where
  abbrev may : Entry → Bool
  may entry = is_entry home (value_of home.spelling entry.item)

  -- a part of a log of entries of the part
  pub between_are : (from upto : ℕ) (log : List Entry) → are_entries home log ≡ true → are_entries home (drop from (take upto log)) ≡ true
  between_are from upto log are = all_dropped may from (take upto log) (all_taken may upto log are)

  item_is : (item : Item) → item_may (allowed_in home) item ≡ true → is_entry home (value_of home.spelling item) ≡ true
  item_is NoOp is = refl
  item_is (Members config) is = refl
  item_is (Payload bytes) is = is

  stand : (entries : List Entry) → MayStand (allowed_in home) entries → are_entries home entries ≡ true
  stand [] all = refl
  stand (e ∷ entries) all = both_true (may e) (are_entries home entries) (item_is e.item all.0) (stand entries all.1)

  -- a log with a record of such entries
  pub behind_are : (before behind : Core) (made : Option Record) → durable behind ≡ kept (durable before) made → MayBeKept (allowed_in home) made → are_entries home before.log ≡ true → are_entries home behind.log ≡ true
  behind_are before behind None is own are = ap (λ (d : Durable). are_entries home d.log) is ∙ are
  behind_are before behind (Some r) is own are =
      ap (λ (d : Durable). are_entries home d.log) is
      ∙ list_all-append may (take r.keep before.log) r.entries
      ∙ both_true (are_entries home (take r.keep before.log)) (are_entries home r.entries) (all_taken may r.keep before.log are) (stand r.entries own)

module _ {A : Type 0} (P : A → Type 0) where
  all_append : (xs ys : List A) → AllByRecursion P xs → AllByRecursion P ys → AllByRecursion P (xs ++ ys)
  all_append [] ys first second = second
  all_append (x ∷ xs) ys first second = (first.0, all_append xs ys first.1 second)

  all_behind : (xs ys : List A) → AllByRecursion P (xs ++ ys) → AllByRecursion P ys
  all_behind [] ys all = all
  all_behind (x ∷ xs) ys all = all_behind xs ys all.1

-- a record of a step holds entries, where the log and what is put behind it do
pub holds : (log entries : List Entry) (keep : ℕ) (behind : Core) (before : Durable) (made : Option Record) → AreEntries log → AreEntries entries → behind.log ≡ take keep log ++ entries → durable behind ≡ kept before made → HoldsEntries made
holds log entries keep behind before None are more put is = tt
holds log entries keep behind before (Some r) are more put is =
    let P : Entry → Type 0 = λ entry. IsItem entry.item in
    all_behind P (take r.keep before.log) r.entries (subst AreEntries (ap (λ (d : Durable). d.log) is)
    (subst AreEntries (sym put) (all_append P (take keep log) entries (all_of-take P keep log are) more)))
