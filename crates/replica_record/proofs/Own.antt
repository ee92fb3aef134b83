-- The payloads of a part's log, and the entries that may stand in it.
use Rattle.std.proofs.Common.{◌≡◌, List, [], ◌∷◌, Bool, true, false, refl, sym, ap, subst, ◌∙◌}
use Rattle.std.specs.Prelude.{◌&&◌}
use Rattle.raft_log.specs.declared.entry.Entry.{Entry}
use Rattle.raft_log.specs.declared.entry.Item.{Item}
use Rattle.raft_log.specs.declared.entry.Item.TheVariants.{NoOp, Members, Payload}
use Rattle.replica_file.specs.Grammar.{item_may, all_may}
use Rattle.replica_file.specs.Laws.{MayStand}
use Rattle.replica_model.specs.Asks.{is_entry, are_entries}
use Rattle.replica_model.specs.Replica.{Home}
use Rattle.replica_model.specs.Spelling.{value_of}
use Rattle.replica_record.specs.Own.{allowed_in}

pub and_true : (a b : Bool) → (a && b) ≡ true → (a ≡ true) × (b ≡ true)
and_true true b e = (refl, e)
and_true false b e = absurd cc

item_is : (home : Home) (item : Item) → is_entry home (value_of home.spelling item) ≡ item_may (allowed_in home) item
item_is home NoOp = refl
item_is home (Members config) = refl
item_is home (Payload bytes) = refl

-- an entry that may stand in the log may stand in the file
pub own_items : (home : Home) (entries : List Entry) → are_entries home entries ≡ true → MayStand (allowed_in home) entries
own_items home [] is = tt
own_items home (e ∷ entries) is =
    let both = and_true (is_entry home (value_of home.spelling e.item)) (are_entries home entries) is in
    (sym (item_is home e.item) ∙ both.0, own_items home entries both.1)

-- and the other way round
both_are : (home : Home) (entries : List Entry) → all_may (allowed_in home) entries ≡ are_entries home entries
both_are home [] = refl
both_are home (e ∷ entries) =
    subst (λ (b : Bool). (item_may (allowed_in home) e.item && all_may (allowed_in home) entries) ≡ (b && are_entries home entries)) (sym (item_is home e.item))
    (ap (λ (b : Bool). item_may (allowed_in home) e.item && b) (both_are home entries))

pub entries_are : (home : Home) (entries : List Entry) → all_may (allowed_in home) entries ≡ true → are_entries home entries ≡ true
entries_are home entries is = sym (both_are home entries) ∙ is
