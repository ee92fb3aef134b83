-- What a group decides, the world of chains may decide.
use Rattle.std.proofs.Common.{◌≡◌, ℕ, suc, ◌+◌, ◌≤◌, List, [], ◌∷◌, ◌++◌, length, take, map, Some, Bool, true, false, cond, refl, ap, sym, subst, ◌∙◌, eqb-true, append_assoc}
use Rattle.std.specs.Prelude.{◌==◌, nat_le, slice_get, if◌then◌else◌}
use Rattle.std.specs.List.{AllByRecursion, list_all}
use Rattle.std.proofs.lemmas.Bool.{cond-true, and_from, eq-eqb, le-leb}
use Rattle.std.proofs.lemmas.List.{map-append}
use Rattle.std.proofs.lemmas.Option.{none-some}
use Rattle.raft_log.specs.declared.entry.Entry.{Entry}
use Rattle.raft_log.specs.declared.entry.Item.{Item}
use Rattle.raft_log.specs.Decided.{Leadership, made_in, count_term, IsNext, Follows}
use Rattle.raft_group.specs.Facts.{pairs_of, StandsAt}
use Rattle.raft_group.proofs.Led.{map_stands}
use Rattle.part_keys.specs.declared.proposal.Proposal.{Proposal}
use Rattle.part_keys.specs.declared.vid_kind.VidKind.{VidKind}
use Rattle.chain_world.proofs.Occurring.{after_is}
use Rattle.chain_world.specs.declared.event.ChainEvent.{ChainEvent}
use Rattle.chain_world.specs.declared.event.ChainEvent.TheVariants.{Decide}
use Rattle.chain_world.specs.Ledger.{decides}
use Rattle.chain_world.specs.State.{Chains, made_by}
use Rattle.chain_world.specs.World.{is_part, are_at_most, may_decide, after, run_from}
use Rattle.chain_world.proofs.Occurring.{deciding}
use Rattle.part_keys.specs.Spelled.{Spelling}
use Rattle.replica_model.specs.Spelling.{value_of, valued, values_of}
use Rattle.world_model.specs.After.{decides_all}
use Rattle.world_model.proofs.Lists.{set_at}
use Rattle.world_model.proofs.Backed.{IsPlain}

-- each entry is the next one that was proposed in its term, and no term before it is greater
abbrev pub FollowsOn : (ℕ → List Proposal) → List (ℕ × Proposal) → List (ℕ × Proposal) → Type 0
FollowsOn made decided [] = Unit {0}
FollowsOn made decided (d ∷ more) =
    AllByRecursion (λ (e : ℕ × Proposal). e.0 ≤ d.0) decided × (slice_get (made d.0) (count_term decided d.0) ≡ Some d.1) × FollowsOn made (decided ++ d ∷ []) more

-- a test that each element passes
pub all_pass : {A : Type 0} (p : A → Bool) (xs : List A) → AllByRecursion (λ x. p x ≡ true) xs → list_all p xs ≡ true
all_pass p [] all = refl
all_pass p (x ∷ xs) all = and_from (p x) (list_all p xs) all.0 (all_pass p xs all.1)

at_most : (t : ℕ) (xs : List (ℕ × Proposal)) → AllByRecursion (λ (e : ℕ × Proposal). e.0 ≤ t) xs → are_at_most t xs ≡ true
at_most t [] all = refl
at_most t (x ∷ xs) all = and_from (nat_le x.0 t) (are_at_most t xs) (le-leb x.0 t all.0) (at_most t xs all.1)

module _ (ids : VidKind) (parts p : ℕ) (part : is_part parts p ≡ true) where
  decide_one : (c : Chains) (d : ℕ × Proposal) → AllByRecursion (λ (e : ℕ × Proposal). e.0 ≤ d.0) (c.ledger.decided p)
      → slice_get (made_by c p d.0) (count_term (c.ledger.decided p) d.0) ≡ Some d.1
      → after ids parts c (Decide p d.0 (count_term (c.ledger.decided p) d.0)) ≡ record c { ledger = decides parts c.ledger p d }
  decide_one c d rising made =
      let n = count_term (c.ledger.decided p) d.0 in
      let then_it_is = deciding parts c p d.0 (slice_get (made_by c p d.0) n) in
      after_is ids parts c (Decide p d.0 n)
      ∙ cond-true (is_part parts p) (if may_decide c p d.0 n then then_it_is else c) c part
      ∙ cond-true (may_decide c p d.0 n) then_it_is c (and_from (are_at_most d.0 (c.ledger.decided p)) (n == n) (at_most d.0 (c.ledger.decided p) rising) (eq-eqb n n refl))
      ∙ ap (deciding parts c p d.0) made

  -- one after another, each is lawful
  pub decide_all : (more : List (ℕ × Proposal)) (c : Chains) → FollowsOn (made_by c p) (c.ledger.decided p) more
      → (events : List ChainEvent) × (run_from ids parts c events ≡ record c { ledger = decides_all parts c.ledger p more }) × AllByRecursion IsPlain events
  decide_all [] c follows = ([], refl, tt)
  decide_all (d ∷ more) c follows =
      let behind = record c { ledger = decides parts c.ledger p d } in
      let rest = decide_all more behind (subst (λ xs. FollowsOn (made_by c p) xs more) (sym (set_at c.ledger.decided p (c.ledger.decided p ++ d ∷ []))) follows.2) in
      (Decide p d.0 (count_term (c.ledger.decided p) d.0) ∷ rest.0, ap (λ x. run_from ids parts x rest.0) (decide_one c d follows.0 follows.1) ∙ rest.1, (tt, rest.2))

-- The group's decided entries follow its leaderships; so their values follow what the leaders of the chains proposed.
made_in_stands : (leaders : List (Leadership Item)) (t n : ℕ) (x : Item) → slice_get (made_in leaders t) n ≡ Some x
    → (k : ℕ) × (l : Leadership Item) × StandsAt leaders k l × (l.term ≡ t) × (slice_get l.made n ≡ Some x)
made_in_stands [] t n x e = absurd (none-some x e)
made_in_stands (l ∷ leaders) t n x e = go (l.term == t) refl (made_in_stands leaders t n x) e
  where
    go : (b : Bool) → l.term == t ≡ b
        → (slice_get (made_in leaders t) n ≡ Some x → (k : ℕ) × (m : Leadership Item) × StandsAt leaders k m × (m.term ≡ t) × (slice_get m.made n ≡ Some x))
        → slice_get (cond b l.made (made_in leaders t)) n ≡ Some x
        → (k : ℕ) × (m : Leadership Item) × StandsAt (l ∷ leaders) k m × (m.term ≡ t) × (slice_get m.made n ≡ Some x)
    go true is rest f = (0, l, refl, eqb-true l.term t is, f)
    go false is rest f = (let r = rest f in (suc r.0, r.1, r.2, r.3, r.4))

module _ (s : Spelling) where
  pub same_count : (log : List Entry) (t : ℕ) → count_term (values_of s log) t ≡ count_term (pairs_of log) t
  same_count [] t = refl
  same_count (e ∷ log) t = ap (λ n. (if e.term == t then 1 else 0) + n) (same_count log t)

  same_terms : (log : List Entry) (t : ℕ) → AllByRecursion (λ (e : ℕ × Item). e.0 ≤ t) (pairs_of log) → AllByRecursion (λ (e : ℕ × Proposal). e.0 ≤ t) (values_of s log)
  same_terms [] t all = tt
  same_terms (e ∷ log) t all = (all.0, same_terms log t all.1)

  front_pairs : (decided : List Entry) (x : Entry) (more : List Entry) → take (length decided) (pairs_of (decided ++ x ∷ more)) ≡ pairs_of decided
  front_pairs [] x more = refl
  front_pairs (e ∷ decided) x more = ap (λ xs. (e.term, e.item) ∷ xs) (front_pairs decided x more)

  next_pair : (decided : List Entry) (x : Entry) (more : List Entry) → slice_get (pairs_of (decided ++ x ∷ more)) (length decided) ≡ Some (x.term, x.item)
  next_pair [] x more = refl
  next_pair (e ∷ decided) x more = next_pair decided x more

  module _ (leaders : List (Leadership Item)) (made : ℕ → List Proposal) (has : (k : ℕ) (l : Leadership Item) → StandsAt leaders k l → map (value_of s) l.made ≡ made l.term) where
    pub follows_on : (decided more : List Entry) → Follows leaders (pairs_of (decided ++ more)) → FollowsOn made (values_of s decided) (values_of s more)
    follows_on decided [] follows = tt
    follows_on decided (x ∷ more) follows =
        let next = subst (λ (xs : List (ℕ × Item)). IsNext leaders xs (x.term, x.item)) (front_pairs decided x more) (follows (length decided) (x.term, x.item) (next_pair decided x more)) in
        let m = made_in_stands leaders x.term (count_term (pairs_of decided) x.term) x.item next.made in
        let n = same_count decided x.term in (
          same_terms decided x.term next.rising,
          (ap (slice_get (made x.term)) n ∙ ap (λ t. slice_get (made t) (count_term (pairs_of decided) x.term)) (sym m.3)
              ∙ ap (λ (xs : List Proposal). slice_get xs (count_term (pairs_of decided) x.term)) (sym (has m.0 m.1 m.2))
              ∙ map_stands (value_of s) m.1.made (count_term (pairs_of decided) x.term) x.item m.4),
          subst (λ xs. FollowsOn made xs (values_of s more)) (map-append (valued s) decided (x ∷ []))
              (follows_on (decided ++ x ∷ []) more (subst (λ (xs : List Entry). Follows leaders (pairs_of xs)) (sym (append_assoc decided (x ∷ []) more)) follows)),
        )
