-- What a leader of the world of chains does, and what stays as it was.
use Rattle.std.proofs.Common.{◌≡◌, ◌≢◌, ◌⊎◌, inl, inr, ℕ, zero, suc, ◌+◌, ◌<◌, ◌≤◌, List, [], ◌∷◌, ◌++◌, length, take, Some, None, Bool, true, false, refl, ap, ◌∙◌, arith}
use Rattle.std.specs.Prelude.{◌==◌, ◌&&◌, nat_lt, nat_le, slice_get, is_none, if◌then◌else◌}
use Rattle.std.specs.List.{AllByRecursion}
use Rattle.std.proofs.lemmas.Option.{same_Some, none-some}
use Rattle.std.proofs.lemmas.Bool.{cond-true, cond-false, and_from, eq-eqb, ne_eqb, le-leb, lt-ltb}
use Rattle.part_keys.specs.declared.chain.Policy.{Policy}
use Rattle.part_keys.specs.declared.proposal.Proposal.{Proposal}
use Rattle.part_rules.specs.Folded.{folded, folded_from, item_applied as item_folded}
use Rattle.part_rules.specs.Part.{Part, blank}
use Rattle.part_keys.specs.declared.vid_kind.VidKind.{VidKind}
use Rattle.chain_world.proofs.Occurring.{after_is}
use Rattle.chain_world.specs.declared.event.ChainEvent.TheVariants.{Lead, Take, Apply}
use Rattle.chain_world.specs.State.{Chains, Leader, Post as ChainPost, decided_of, with_leader}
use Rattle.chain_world.specs.World.{is_part, is_to, may_lead, are_below, new_leader, taking, applying, after}
use Rattle.chain_world.proofs.Occurring.{took, applied_next, applies}
use Rattle.world_model.specs.Grouped.{Has}
use Rattle.world_model.proofs.Lists.{has_left}

-- One leader is this now, and packets left; all else is as it was.
pub record Moves (c behind : Chains) (p t : ℕ) (leader : Leader) : Type 0 where
  pub ledger : behind.ledger ≡ c.ledger
  pub founded : behind.founded ≡ c.founded
  pub clients : behind.clients ≡ c.clients
  pub here : behind.leaders p t ≡ Some leader
  pub others : (q u : ℕ) → (q ≢ p) ⊎ (u ≢ t) → behind.leaders q u ≡ c.leaders q u
  pub posts : (x : ChainPost) → Has c.posts x → Has behind.posts x

pub moves_twice : {c d e : Chains} {p t : ℕ} {l m : Leader} → Moves c d p t l → Moves d e p t m → Moves c e p t m
moves_twice a b = record {
  ledger = b.ledger ∙ a.ledger;
  founded = b.founded ∙ a.founded;
  clients = b.clients ∙ a.clients;
  here = b.here;
  others = λ q u other. b.others q u other ∙ a.others q u other;
  posts = λ x h. b.posts x (a.posts x h);
}

leader_here : (c : Chains) (p t : ℕ) (l : Leader) → (with_leader c p t l).leaders p t ≡ Some l
leader_here c p t l = cond-true ((p == p) && (t == t)) (Some l) (c.leaders p t) (and_from (p == p) (t == t) (eq-eqb p p refl) (eq-eqb t t refl))

leader_off : (c : Chains) (p t : ℕ) (l : Leader) (q u : ℕ) → (q ≢ p) ⊎ (u ≢ t) → (with_leader c p t l).leaders q u ≡ c.leaders q u
leader_off c p t l q u (inl other) = cond-false ((q == p) && (u == t)) (Some l) (c.leaders q u) (ap (λ b. b && (u == t)) (ne_eqb q p other))
leader_off c p t l q u (inr other) = cond-false ((q == p) && (u == t)) (Some l) (c.leaders q u) (and_no (q == p) (u == t) (ne_eqb u t other))
  where
    and_no : (a b : Bool) → b ≡ false → (a && b) ≡ false
    and_no true b e = e
    and_no false b e = refl

-- a leader was changed, and these packets were sent
pub moves_with : (c : Chains) (p t : ℕ) (l : Leader) (more : List ChainPost) → Moves c (record (with_leader c p t l) { posts = c.posts ++ more }) p t l
moves_with c p t l more = record {
  ledger = refl;
  founded = refl;
  clients = refl;
  here = leader_here c p t l;
  others = leader_off c p t l;
  posts = λ x h. has_left c.posts more x h;
}

-- the terms of a list are below
pub below : (t : ℕ) (xs : List (ℕ × Proposal)) → AllByRecursion (λ (e : ℕ × Proposal). e.0 < t) xs → are_below t xs ≡ true
below t [] all = refl
below t (x ∷ xs) all = and_from (nat_lt x.0 t) (are_below t xs) (lt-ltb x.0 t all.0) (below t xs all.1)

module _ (ids : VidKind) (parts p t : ℕ) (part : is_part parts p ≡ true) where
  -- Lead
  pub lead_one : (c : Chains) (policy : Policy) (a : ℕ) → 0 < t → c.leaders p t ≡ None → a ≤ length (decided_of c p)
      → AllByRecursion (λ (e : ℕ × Proposal). e.0 < t) (take a (decided_of c p)) → after ids parts c (Lead p t policy a) ≡ with_leader c p t (new_leader policy a)
  lead_one c policy a above none within lesser =
      after_is ids parts c (Lead p t policy a)
      ∙ cond-true (is_part parts p) (if may_lead c p t a then with_leader c p t (new_leader policy a) else c) c part
      ∙ cond-true (may_lead c p t a) (with_leader c p t (new_leader policy a)) c
      (and_from ((nat_lt 0 t && is_none (c.leaders p t)) && nat_le a (length (decided_of c p))) (are_below t (take a (decided_of c p)))
      (and_from (nat_lt 0 t && is_none (c.leaders p t)) (nat_le a (length (decided_of c p)))
      (and_from (nat_lt 0 t) (is_none (c.leaders p t)) (lt-ltb 0 t above) (ap is_none none))
      (le-leb a (length (decided_of c p)) within))
      (below t (take a (decided_of c p)) lesser))

  -- Take
  pub take_one : (c : Chains) (l : Leader) (k : ℕ) (post : ChainPost) → c.leaders p t ≡ Some l → slice_get c.posts k ≡ Some post → is_to p t post.packet.to ≡ true
      → after ids parts c (Take p t k) ≡ taking ids parts c p t l post.packet
  take_one c l k post is at here =
      after_is ids parts c (Take p t k)
      ∙ cond-true (is_part parts p) (took ids parts c p t (c.leaders p t) (slice_get c.posts k)) c part
      ∙ ap (λ o. took ids parts c p t o (slice_get c.posts k)) is ∙ ap (took ids parts c p t (Some l)) at
      ∙ cond-true (is_to p t post.packet.to) (taking ids parts c p t l post.packet) c here

  -- Apply
  pub apply_one : (c : Chains) (l : Leader) (e : ℕ × Proposal) → c.leaders p t ≡ Some l → slice_get (decided_of c p) l.applied ≡ Some e → e.0 ≤ t
      → after ids parts c (Apply p t) ≡ applying parts c p t l e
  apply_one c l e is at within =
      after_is ids parts c (Apply p t)
      ∙ cond-true (is_part parts p) (applies parts c p t (c.leaders p t)) c part
      ∙ ap (applies parts c p t) is ∙ ap (applied_next parts c p t l) at
      ∙ cond-true (nat_le e.0 t) (applying parts c p t l e) c (le-leb e.0 t within)

-- the machine behind one entry more
folded_more : (parts : ℕ) (index : ℕ) (m : Part) (xs : List (ℕ × Proposal)) (e : ℕ × Proposal) → folded_from parts index m (xs ++ e ∷ []) ≡ (item_folded parts (index + length xs) e.1 (folded_from parts index m xs)).0
folded_more parts index m [] e = ap (λ n. (item_folded parts n e.1 m).0) (let q : index ≡ index + 0 = omega arith in q)
folded_more parts index m (x ∷ xs) e =
    folded_more parts (suc index) (item_folded parts index x.1 m).0 xs e
    ∙ ap (λ n. (item_folded parts n e.1 (folded_from parts (suc index) (item_folded parts index x.1 m).0 xs)).0) (let q : suc index + length xs ≡ index + suc (length xs) = omega arith in q)

take_more : {A : Type 0} (xs : List A) (n : ℕ) (x : A) → slice_get xs n ≡ Some x → take (suc n) xs ≡ take n xs ++ x ∷ []
take_more [] n x e = absurd (none-some x e)
take_more (y ∷ xs) zero x e = ap (λ z. z ∷ []) (same_Some y x e)
take_more (y ∷ xs) (suc n) x e = ap (λ zs. y ∷ zs) (take_more xs n x e)

take_length : {A : Type 0} (xs : List A) (n : ℕ) (x : A) → slice_get xs n ≡ Some x → length (take n xs) ≡ n
take_length [] n x e = absurd (none-some x e)
take_length (y ∷ xs) zero x e = refl
take_length (y ∷ xs) (suc n) x e = ap suc (take_length xs n x e)

-- the machine behind the first entries and the next one
pub machine_more : (parts : ℕ) (decided : List (ℕ × Proposal)) (n : ℕ) (e : ℕ × Proposal) → slice_get decided n ≡ Some e
    → folded parts (take (suc n) decided) ≡ (item_folded parts (suc n) e.1 (folded parts (take n decided))).0
machine_more parts decided n e at =
    ap (folded parts) (take_more decided n e at) ∙ folded_more parts 1 blank (take n decided) e
    ∙ ap (λ k. (item_folded parts k e.1 (folded parts (take n decided))).0) (let l = take_length decided n e at in let q : 1 + length (take n decided) ≡ suc n = omega arith in q)
