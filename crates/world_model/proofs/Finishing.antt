-- Behind a leader's step the world of chains decides and applies what the replica did.
use Rattle.std.proofs.Common.{◌≡◌, ℕ, zero, suc, ◌+◌, ◌-◌, ◌≤◌, List, [], ◌∷◌, length, take, drop, Option, Some, true, refl, ap, sym, subst, ◌∙◌, arith}
use Rattle.std.specs.Prelude.{◌&&◌, nat_lt, slice_get}
use Rattle.std.specs.List.{AllByRecursion, take-map, drop-map}
use Rattle.std.proofs.lemmas.Bool.{cond-true, cond_both}
use Rattle.std.proofs.lemmas.List.{length-map, drop-take, take-take}
use Rattle.std.proofs.lemmas.Option.{same_Some, none-some}
use Rattle.raft_log.specs.declared.entry.Entry.{Entry}
use Rattle.raft_log.specs.Decided.{count_term, Follows}
use Rattle.raft_core.specs.Core.{Core, is_leading}
use Rattle.raft_group.specs.Group.{Group, decided_after}
use Rattle.raft_group.specs.Facts.{pairs_of, AgreesWith}
use Rattle.raft_core.proofs.Lists.{all_through-map}
use Rattle.raft_group.proofs.Places.{get_drop, get_take, all_places}
use Rattle.raft_group.proofs.Led.{map_stands}
use Rattle.part_keys.specs.declared.proposal.Proposal.{Proposal}
use Rattle.part_keys.specs.declared.proposal.Proposal.TheVariants.{Made}
use Rattle.chain_world.specs.declared.event.ChainEvent.{ChainEvent}
use Rattle.chain_world.specs.declared.packet.ChainEnd.{ChainEnd}
use Rattle.chain_world.specs.Ledger.{Ledger}
use Rattle.chain_world.specs.State.{Chains, made_by}
use Rattle.chain_world.specs.World.{is_part, run_from}
use Rattle.replica_model.specs.declared.packet.Place.{Place}
use Rattle.replica_model.specs.Spelling.{value_of, valued, values_of}
use Rattle.world_model.specs.State.{Space}
use Rattle.world_model.specs.After.{decides_all, passes, ledger_behind}
use Rattle.world_model.specs.Chained.{HasMade, IsKept, AreSendersIn}
use Rattle.world_model.proofs.Deciding.{FollowsOn, decide_all, follows_on}
use Rattle.world_model.proofs.Applying.{StandOn, KeepsSenders}
use Rattle.world_model.proofs.Backed.{IsPlain}

drop_next : {A : Type 0} (ys : List A) (n : ℕ) (x : A) (xs : List A) → drop n ys ≡ x ∷ xs → drop (suc n) ys ≡ xs
drop_next [] zero x xs is = absurd (none-some x (ap (λ zs. slice_get zs 0) is))
drop_next [] (suc n) x xs is = absurd (none-some x (ap (λ zs. slice_get zs 0) is))
drop_next (y ∷ ys) zero x xs is = ap (drop 1) is
drop_next (y ∷ ys) (suc n) x xs is = drop_next ys n x xs is

all_take : {A : Type 0} (P : A → Type 0) (n : ℕ) (xs : List A) → AllByRecursion P xs → AllByRecursion P (take n xs)
all_take P zero xs all = tt
all_take P (suc n) [] all = tt
all_take P (suc n) (x ∷ xs) all = (all.0, all_take P n xs all.1)

all_drop : {A : Type 0} (P : A → Type 0) (n : ℕ) (xs : List A) → AllByRecursion P xs → AllByRecursion P (drop n xs)
all_drop P zero xs all = all
all_drop P (suc n) [] all = tt
all_drop P (suc n) (x ∷ xs) all = all_drop P n xs all.1

-- a piece of a list stands in it
pub piece_stands : (decided : List (ℕ × Proposal)) (t n k : ℕ) → AllByRecursion (λ (e : ℕ × Proposal). e.0 ≤ t) (take k (drop n decided)) → StandOn decided t n (take k (drop n decided))
piece_stands decided t n zero all = tt
piece_stands decided t n (suc k) all = go (drop n decided) refl all (piece_stands decided t (suc n) k)
  where
    go : (xs : List (ℕ × Proposal)) → drop n decided ≡ xs → AllByRecursion (λ (e : ℕ × Proposal). e.0 ≤ t) (take (suc k) xs)
        → (AllByRecursion (λ (e : ℕ × Proposal). e.0 ≤ t) (take k (drop (suc n) decided)) → StandOn decided t (suc n) (take k (drop (suc n) decided)))
        → StandOn decided t n (take (suc k) xs)
    go [] is each rest = tt
    go (x ∷ xs) is each rest =
        (let at : slice_get decided n ≡ Some x = ap (slice_get decided) (let q : n ≡ n + 0 = omega arith in q) ∙ sym (get_drop decided n 0) ∙ ap (λ ys. slice_get ys 0) is in
        let behind : drop (suc n) decided ≡ xs = drop_next decided n x xs is in
        (at, each.0, subst (λ ys. StandOn decided t (suc n) (take k ys)) behind (rest (subst (λ ys. AllByRecursion (λ (e : ℕ × Proposal). e.0 ≤ t) (take k ys)) (sym behind) each.1))))

module _ (sp : Space) (p : ℕ) (part : is_part sp.parts p ≡ true) where
  -- the chains decide what the group decides
  pub decide_behind : (c : Chains) (core : Core) (h : Group) (leaders_made : HasMade sp c p h.leaders) (decided : List Entry) → c.ledger.decided p ≡ values_of sp.spelling decided
      → Follows h.leaders (pairs_of h.decided) → h.decided ≡ decided_after decided core
      → (events : List ChainEvent) × (run_from sp.ids sp.parts c events ≡ record c { ledger = ledger_behind sp c.ledger p core }) × AllByRecursion IsPlain events
  decide_behind c core h leaders_made decided same follows grown =
      cond_both (passes c.ledger p core) (decides_all sp.parts c.ledger p more) c.ledger
      (λ (m : Ledger). (events : List ChainEvent) × (run_from sp.ids sp.parts c events ≡ record c { ledger = m }) × AllByRecursion IsPlain events)
      (λ passed. decide_all sp.ids sp.parts p part more c
      (subst (λ xs. FollowsOn (made_by c p) xs more) (sym same)
      (subst (λ n. FollowsOn (made_by c p) (values_of sp.spelling decided) (values_of sp.spelling (drop n log))) (sym same_length)
      (follows_on sp.spelling h.leaders (made_by c p) leaders_made decided (drop (length decided) log)
      (subst (λ (xs : List Entry). Follows h.leaders (pairs_of xs)) (grown ∙ cond-true (is_leading core.role && nat_lt (length decided) core.commit) _ decided
      (subst (λ n. (is_leading core.role && nat_lt n core.commit) ≡ true) same_length passed)) follows)))))
      (λ not. ([], refl, tt))
    where
      log : List Entry
      log = take core.commit core.log

      more : List (ℕ × Proposal)
      more = values_of sp.spelling (drop (length (c.ledger.decided p)) (take core.commit core.log))

      same_length : length (c.ledger.decided p) ≡ length decided
      same_length = ap length same ∙ length-map decided (valued sp.spelling)

  module _ (core : Core) (decided : List Entry) (agrees : AgreesWith decided core) (bounded : (k : ℕ) (e : Entry) → slice_get core.log k ≡ Some e → e.term ≤ core.term) where
    -- what a step commits stands in the decided list
    committed_is : (a : ℕ) → a ≤ core.commit → values_of sp.spelling (drop a (take core.commit core.log)) ≡ take (core.commit - a) (drop a (values_of sp.spelling decided))
    committed_is a low =
        ap (λ (xs : List Entry). values_of sp.spelling (drop a xs)) agrees.same
        ∙ ap (λ n. values_of sp.spelling (drop a (take n decided))) (let q : core.commit ≡ a + (core.commit - a) = omega arith in q)
        ∙ ap (values_of sp.spelling) (drop-take a (core.commit - a) decided)
        ∙ sym (take-map (valued sp.spelling) (core.commit - a) (drop a decided))
        ∙ ap (take (core.commit - a)) (sym (drop-map (valued sp.spelling) a decided))

    committed_bounded : (a : ℕ) → AllByRecursion (λ (e : ℕ × Proposal). e.0 ≤ core.term) (values_of sp.spelling (drop a (take core.commit core.log)))
    committed_bounded a = all_through-map (λ (e : Entry). e.term ≤ core.term) (λ (e : ℕ × Proposal). e.0 ≤ core.term) (valued sp.spelling) (λ e is. is) (drop a (take core.commit core.log))
        (all_drop (λ (e : Entry). e.term ≤ core.term) a (take core.commit core.log) (all_take (λ (e : Entry). e.term ≤ core.term) core.commit core.log (all_places (λ (e : Entry). e.term ≤ core.term) core.log bounded)))

    pub committed_stands : (a : ℕ) → a ≤ core.commit → StandOn (values_of sp.spelling decided) core.term a (values_of sp.spelling (drop a (take core.commit core.log)))
    committed_stands a low =
        subst (StandOn (values_of sp.spelling decided) core.term a) (sym (committed_is a low))
        (piece_stands (values_of sp.spelling decided) core.term a (core.commit - a)
        (subst (AllByRecursion (λ (e : ℕ × Proposal). e.0 ≤ core.term)) (committed_is a low) (committed_bounded a)))

    -- a kept sender of an entry that is committed
    pub same_front : (n : ℕ) → n ≤ core.commit → take n (values_of sp.spelling decided) ≡ values_of sp.spelling (take n core.log)
    same_front n low =
        take-map (valued sp.spelling) n decided
        ∙ ap (λ (xs : List Entry). values_of sp.spelling xs) (sym (front n low decided) ∙ ap (take n) (sym agrees.same) ∙ front n low core.log)
      where
        front : (n : ℕ) → n ≤ core.commit → (xs : List Entry) → take n (take core.commit xs) ≡ take n xs
        front n low xs = take-take n core.commit xs low

    pub committed_keeps : (ours : ℕ → Option Place) (theirs : ℕ → Option ChainEnd) → ((n : ℕ) (s : Place) → ours (suc n) ≡ Some s → IsKept sp core theirs n s)
        → KeepsSenders (values_of sp.spelling decided) core.term core.commit ours theirs
    committed_keeps ours theirs kept n x before at s known =
        let k = kept n s known in
        let there = sym (get_take (values_of sp.spelling decided) core.commit n before) ∙ ap (λ (xs : List (ℕ × Proposal)). slice_get xs n) (same_front core.commit (omega arith)) in
        let same : Some (core.term, Made x) ≡ Some (valued sp.spelling k.its) =
        sym at ∙ there ∙ ap (λ (xs : List (ℕ × Proposal)). slice_get xs n) (sym (take-map (valued sp.spelling) core.commit core.log))
        ∙ get_take (values_of sp.spelling core.log) core.commit n before ∙ map_stands (valued sp.spelling) core.log n k.its k.there in
        let value : value_of sp.spelling k.its.item ≡ Made x = ap (λ (e : ℕ × Proposal). e.1) (sym (same_Some (core.term, Made x) (valued sp.spelling k.its) same)) in
        (k.known, ap (λ (xs : List (ℕ × Proposal)). theirs (count_term xs core.term)) (same_front n (omega arith)) ∙ k.kept, subst (λ y. AreSendersIn y s k.known) value k.are)
