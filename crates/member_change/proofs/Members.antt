-- A change that no row refuses leaves a configuration.
use Rattle.std.proofs.Common.{◌≡◌, inl, inr, ℕ, ◌+◌, ◌≤◌, List, [], ◌∷◌, length, true, false, refl, sym, arith}
use Rattle.std.specs.Prelude.{nat_lt, ◌==◌, ◌||◌}
use Rattle.std.specs.List.{AllByRecursion, list_any}
use Rattle.std.proofs.lemmas.Bool.{cases_Bool, or_parts, or_from, eqb-false, ne_eqb, not-false, leb-false}
use Rattle.raft_log.specs.declared.config.Config.{Config}
use Rattle.raft_log.specs.Config.{IsConfig}
use Rattle.raft_log.specs.Majority.{is_among}
use Rattle.raft_log.specs.Peers.{put_among, but}
use Rattle.raft_log.proofs.PeerLemmas.{length_put, fewer}
use Rattle.member_change.specs.declared.change.Change.{Change}
use Rattle.member_change.specs.declared.change.Change.TheVariants.{AddLearner, Promote, Remove}
use Rattle.member_change.specs.Permit.{changed, names_no_member, is_so_already, finds_no_place}

pub other_way : (a b : ℕ) → a == b ≡ false → b == a ≡ false
other_way a b e = ne_eqb b a (λ same. eqb-false a b e (sym same))

pub none_in-put : (id y : ℕ) (xs : List ℕ) → id == y ≡ false → is_among y xs ≡ false → is_among y (put_among id xs) ≡ false
none_in-put id y [] apart none = rw apart refl
none_in-put id y (x ∷ xs) apart none = let p = or_parts (x == y) (is_among y xs) none in elim (cases_Bool (nat_lt id x)) [
  | inl below ↦ rw below (or_from (id == y) (is_among y (x ∷ xs)) apart none)
  | inr not_below ↦ rw not_below (or_from (x == y) (is_among y (put_among id xs)) p.0 (none_in-put id y xs apart p.1))
]

none_in-but : (id y : ℕ) (xs : List ℕ) → is_among y xs ≡ false → is_among y (but id xs) ≡ false
none_in-but id y [] none = refl
none_in-but id y (x ∷ xs) none = let p = or_parts (x == y) (is_among y xs) none in elim (cases_Bool (x == id)) [
  | inl same ↦ rw same (none_in-but id y xs p.1)
  | inr apart ↦ rw apart (or_from (x == y) (is_among y (but id xs)) p.0 (none_in-but id y xs p.1))
]

-- one that is among them is taken out
one_fewer : (id : ℕ) (xs : List ℕ) → is_among id xs ≡ true → length (but id xs) + 1 ≤ length xs
one_fewer id [] e = absurd cc
one_fewer id (x ∷ xs) e = elim (cases_Bool (x == id)) [
  | inl same ↦ (let h = fewer id xs in rw same (omega (arith, h)))
  | inr apart ↦ (let more : is_among id xs ≡ true = rw apart at e in let h = one_fewer id xs more in rw apart (omega (arith, h)))
]

-- no learner is among the voters
abbrev Apart : List ℕ → List ℕ → Type 0
Apart voters learners = AllByRecursion (λ id. list_any (λ peer. peer == id) voters ≡ false) learners

learner_put : (id : ℕ) (voters learners : List ℕ) → is_among id voters ≡ false → Apart voters learners → Apart voters (put_among id learners)
learner_put id voters [] none all = (none, tt)
learner_put id voters (x ∷ learners) none all = elim (cases_Bool (nat_lt id x)) [
  | inl below ↦ rw below (none, all)
  | inr not_below ↦ rw not_below (all.0, learner_put id voters learners none all.1)
]

learner_promoted : (id : ℕ) (voters learners : List ℕ) → Apart voters learners → Apart (put_among id voters) (but id learners)
learner_promoted id voters [] all = tt
learner_promoted id voters (x ∷ learners) all = elim (cases_Bool (x == id)) [
  | inl same ↦ rw same (learner_promoted id voters learners all.1)
  | inr apart ↦ rw apart (none_in-put id x voters (other_way x id apart) all.0, learner_promoted id voters learners all.1)
]

member_gone : (id : ℕ) (voters learners : List ℕ) → Apart voters learners → Apart (but id voters) (but id learners)
member_gone id voters [] all = tt
member_gone id voters (x ∷ learners) all = elim (cases_Bool (x == id)) [
  | inl same ↦ rw same (member_gone id voters learners all.1)
  | inr apart ↦ rw apart (none_in-but id x voters all.0, member_gone id voters learners all.1)
]

pub changed_kept : (config : Config) (change : Change) → IsConfig config → names_no_member config change ≡ false → is_so_already config change ≡ false → finds_no_place config change ≡ false → IsConfig (changed config change)
changed_kept config (AddLearner peer) is named fresh place =
    let none = or_parts (is_among peer config.voters) (is_among peer config.learners) fresh in
    let long = length_put peer config.learners in
    let room = leb-false 8 (length config.voters + length config.learners) place in
    record { apart = learner_put peer config.voters config.learners none.0 is.apart; few = omega (arith, long, room) }
changed_kept config (Promote peer) is named fresh place =
    let member = not-false (is_among peer config.voters || is_among peer config.learners) named in
    let learns : is_among peer config.learners ≡ true = rw fresh at member in
    let long = length_put peer config.voters in
    let short = one_fewer peer config.learners learns in
    let few = is.few in
    record { apart = learner_promoted peer config.voters config.learners is.apart; few = omega (arith, long, short, few) }
changed_kept config (Remove peer) is named fresh place =
    let voters = fewer peer config.voters in
    let learners = fewer peer config.learners in
    let few = is.few in
    record { apart = member_gone peer config.voters config.learners is.apart; few = omega (arith, voters, learners, few) }
