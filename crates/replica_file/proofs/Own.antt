-- Lists of entries that may all stand in the part's log.
use Rattle.std.proofs.Common.{◌≡◌, ℕ, zero, suc, ◌&&◌, Bool, true, false, List, [], ◌∷◌, ◌++◌, take, refl}
use Rattle.raft_log.specs.declared.entry.Entry.{Entry}
use Rattle.raft_log.specs.declared.record.Record.{Record}
use Rattle.replica_file.specs.Durable.{Durable, kept_by}
use Rattle.replica_file.specs.Grammar.{Allowed, may_stand, all_may}
use Rattle.replica_file.specs.Laws.{MayStand}

two_true : (a b : Bool) → a ≡ true → b ≡ true → (a && b) ≡ true
two_true true b e f = f
two_true false b e f = absurd cc

one_true : (a b : Bool) → (a && b) ≡ true → (a ≡ true) × (b ≡ true)
one_true true b e = (refl, e)
one_true false b e = absurd cc

pub are_all : (allowed : Allowed) (es : List Entry) → MayStand allowed es → all_may allowed es ≡ true
are_all allowed [] may = refl
are_all allowed (e ∷ es) may = two_true (may_stand allowed e) (all_may allowed es) may.0 (are_all allowed es may.1)

taken_own : (allowed : Allowed) (n : ℕ) (es : List Entry) → all_may allowed es ≡ true → all_may allowed (take n es) ≡ true
taken_own allowed zero [] own = refl
taken_own allowed zero (e ∷ es) own = refl
taken_own allowed (suc n) [] own = refl
taken_own allowed (suc n) (e ∷ es) own = let both = one_true (may_stand allowed e) (all_may allowed es) own in two_true (may_stand allowed e) (all_may allowed (take n es)) both.0 (taken_own allowed n es both.1)

joined_own : (allowed : Allowed) (es more : List Entry) → all_may allowed es ≡ true → all_may allowed more ≡ true → all_may allowed (es ++ more) ≡ true
joined_own allowed [] more own others = others
joined_own allowed (e ∷ es) more own others = let both = one_true (may_stand allowed e) (all_may allowed es) own in two_true (may_stand allowed e) (all_may allowed (es ++ more)) both.0 (joined_own allowed es more both.1 others)

pub kept_own : (allowed : Allowed) (before : Durable) (r : Record) → all_may allowed before.log ≡ true → all_may allowed r.entries ≡ true → all_may allowed (kept_by before r).log ≡ true
kept_own allowed before r own others = joined_own allowed (take r.keep before.log) r.entries (taken_own allowed r.keep before.log own) others
