-- A part gets a leader; configurations are proposed.
use Rattle.std.proofs.Common.{◌≡◌, ◌⊎◌, inl, inr, ℕ, ◌<◌, ◌≤◌, List, [], ◌∷◌, length, take, Option, Some, None, Bool, true, false, ◌&&◌, cond, refl, ap, sym, subst, ◌∙◌, arith, append-nil, eqb-true}
use Rattle.std.specs.Prelude.{◌==◌, nat_lt, nat_le, is_some, is_none, if◌then◌else◌}
use Rattle.std.specs.FinMap.{get-empty}
use Rattle.std.specs.Ordering.{nat_cmp}
use Rattle.std.proofs.lemmas.Bool.{false≢true, cond_both, and_parts, ltb-true, leb-true}
use Rattle.std.proofs.lemmas.Option.{none-some, slice_get_within}
use Rattle.raft_log.specs.declared.config.Config.{Config}
use Rattle.part_keys.specs.declared.chain.Policy.{Policy}
use Rattle.part_keys.specs.declared.proposal.Proposal.{Proposal}
use Rattle.part_keys.specs.declared.proposal.Proposal.TheVariants.{Members}
use Rattle.chain_world.specs.Places.{Among, At}
use Rattle.chain_world.specs.Course.{Courses}
use Rattle.chain_world.specs.State.{Post, Leader, Chains, decided_of, made_by, made_by_leader, with_leader}
use Rattle.chain_world.specs.World.{with_made, is_unfounded, are_below, may_lead, new_leader}
use Rattle.chain_world.proofs.Occurring.{member_proposed, founding}
use Rattle.chain_world.specs.Invariant.Protocol.{HasPut, HasFenced, IsProposed, IsKept, IsLed}
use Rattle.chain_world.proofs.Staying.{AreQuiet, gone_on, quiet_put, quiet_fenced, kept_behind}
use Rattle.chain_world.proofs.Moving.{same_leader, leader_set, set_split, set_some, ready_less}
use Rattle.chain_world.proofs.Taking.{sender_on}
use Rattle.chain_world.proofs.Quietly.{quietly_kept}

no_posts : AreQuiet []
no_posts post none = absurd none

-- no packet left
nothing_left : (parts : ℕ) (s : Chains) (k : Courses) (founded : ℕ → List Proposal) (leaders : ℕ → ℕ → Option Leader)
    → IsKept parts (gone_on s s.ledger.steps founded leaders [] s.clients) k → IsKept parts (record { ledger = s.ledger; founded = founded; leaders = leaders; posts = s.posts; clients = s.clients }) k
nothing_left parts s k founded leaders kept =
    subst (λ (posts : List Post). IsKept parts (record { ledger = s.ledger; founded = founded; leaders = leaders; posts = posts; clients = s.clients }) k) (append-nil s.posts) kept

module _ (parts : ℕ) (s : Chains) (k : Courses) (kept : IsKept parts s k) where
  -- the leader proposes a configuration
  members_kept : (p t : ℕ) (config : Config) (o : Option Leader) → s.leaders p t ≡ o → IsKept parts (member_proposed s p t config o) k
  members_kept p t config None is = kept
  members_kept p t config (Some l) is =
      let led = kept.leaders p t l is in
      nothing_left parts s k s.founded (leader_set s.leaders p t (with_made l (Members config ∷ [])))
      (quietly_kept parts s k kept p t l is (with_made l (Members config ∷ [])) (Members config ∷ []) refl [] no_posts led.within
      (λ n e at. sender_on l.made (Members config ∷ []) n e (led.senders n e at)) led.rules
      (λ x among. elim among [ inl same ↦ subst (IsProposed parts _ k p t) (sym same) tt | inr none ↦ absurd none ]) (λ post none. absurd none))

  -- the first configuration
  module _ (p : ℕ) (config : Config) (none_yet : length (s.founded p) ≡ 0) where
    abbrev founded : ℕ → List Proposal
    founded q = if q == p then Members config ∷ [] else s.founded q

    abbrev founded_world : Chains
    founded_world = gone_on s s.ledger.steps founded s.leaders [] s.clients

    made_still : (q u i : ℕ) (x : Proposal) → At (made_by s q u) i x → At (made_by founded_world q u) i x
    made_still q u i x = go (u == 0) (q == p) (λ e. ap (λ (n : ℕ). length (s.founded n)) (eqb-true q p e) ∙ none_yet)
      where
        go : (a b : Bool) → (b ≡ true → length (s.founded q) ≡ 0) → At (cond a (s.founded q) (made_by_leader (s.leaders q u))) i x → At (cond a (cond b (Members config ∷ []) (s.founded q)) (made_by_leader (s.leaders q u))) i x
        go true true h at = absurd (let w = slice_get_within (s.founded q) i x at in let z = h refl in omega arith)
        go true false h at = at
        go false b h at = at

    made_then : (q u : ℕ) (x : Proposal) → Among x (made_by founded_world q u) → Among x (made_by s q u) ⊎ IsProposed parts founded_world k q u x
    made_then q u x = go (u == 0) (q == p)
      where
        go : (a b : Bool) → Among x (cond a (cond b (Members config ∷ []) (s.founded q)) (made_by_leader (s.leaders q u))) → Among x (cond a (s.founded q) (made_by_leader (s.leaders q u))) ⊎ IsProposed parts founded_world k q u x
        go true true among = inr (elim among [ inl same ↦ subst (IsProposed parts founded_world k q u) (sym same) tt | inr none ↦ absurd none ])
        go true false among = inl among
        go false b among = inl among

    founded_put : (q u v : ℕ) → HasPut founded_world q u v → HasPut s q u v
    founded_put = quiet_put s s.ledger.steps founded s.leaders [] s.clients no_posts

    founded_fenced : (q u v : ℕ) → HasFenced founded_world q u v → HasFenced s q u v
    founded_fenced = quiet_fenced s s.ledger.steps founded s.leaders [] s.clients no_posts

    founded_kept : IsKept parts founded_world k
    founded_kept = kept_behind s s.ledger.steps founded s.leaders [] s.clients parts k kept (record { led = λ q u there. there; invoked = λ id op h. h; rights = λ id a m r. r }) (record {
      made = made_still;
      proposed = made_then;
      meant = λ post none. absurd none;
      one_mode = λ q u v a b. kept.one_mode q u v (founded_put q u v a) (founded_fenced q u v b);
      unput = λ q u v w c a known fate. kept.unput q u v w c (founded_put q u v a) known fate;
      leaders_new = λ q u l is. (let led = kept.leaders q u l is in record {
        above = led.above;
        within = led.within;
        senders = led.senders;
        rules = ready_less parts (decided_of s q) u l.applied l.lead.table (HasPut s q u) (HasFenced s q u) (HasPut founded_world q u) (HasFenced founded_world q u) (founded_put q u) (founded_fenced q u) l.lead.ready led.rules;
      });
    })

  -- Members
  pub member_event : (p t : ℕ) (config : Config) → IsKept parts (if t == 0 then founding s p config else member_proposed s p t config (s.leaders p t)) k
  member_event p t config = cond_both (t == 0) (founding s p config) (member_proposed s p t config (s.leaders p t)) (λ (z : Chains). IsKept parts z k)
      (λ _. cond_both (is_unfounded s p) _ s (λ (z : Chains). IsKept parts z k)
      (λ none. nothing_left parts s k (founded p config (eqb-true (length (s.founded p)) 0 none)) s.leaders (founded_kept p config (eqb-true (length (s.founded p)) 0 none))) (λ _. kept))
      (λ _. members_kept p t config (s.leaders p t) refl)

  -- Lead: a new leader isn't ready, and nobody of its name has sent anything
  module _ (p t : ℕ) (policy : Policy) (a : ℕ) (above : 0 < t) (unled : s.leaders p t ≡ None) (within : a ≤ length (decided_of s p)) where
    abbrev leaders : ℕ → ℕ → Option Leader
    leaders = leader_set s.leaders p t (new_leader policy a)

    abbrev led_world : Chains
    led_world = gone_on s s.ledger.steps s.founded leaders [] s.clients

    led_put : (q u v : ℕ) → HasPut led_world q u v → HasPut s q u v
    led_put = quiet_put s s.ledger.steps s.founded leaders [] s.clients no_posts

    led_fenced : (q u v : ℕ) → HasFenced led_world q u v → HasFenced s q u v
    led_fenced = quiet_fenced s s.ledger.steps s.founded leaders [] s.clients no_posts

    never_put : (v : ℕ) → HasPut s p t v → ⊥
    never_put v h = let m = kept.meant _ h.2.1 in let e = same_leader p t m.part t m.sender in
        false≢true (ap is_some (sym unled) ∙ ap (λ (n : ℕ). is_some (s.leaders n t)) e.0 ∙ m.led)

    never_fenced : (v : ℕ) → HasFenced s p t v → ⊥
    never_fenced v h = let m = kept.meant _ h.2.1 in let e = same_leader p t m.part t m.sender in
        false≢true (ap is_some (sym unled) ∙ ap (λ (n : ℕ). is_some (s.leaders n t)) e.0 ∙ m.led)

    here : (q u : ℕ) → ((q == p) && (u == t)) ≡ true → s.leaders q u ≡ None
    here q u e = let f = and_parts (q == p) (u == t) e in ap (λ (n : ℕ). s.leaders n u) (eqb-true q p f.0) ∙ ap (s.leaders p) (eqb-true u t f.1) ∙ unled

    led_made : (q u i : ℕ) (x : Proposal) → At (made_by s q u) i x → At (made_by led_world q u) i x
    led_made q u i x = go (u == 0) ((q == p) && (u == t)) (here q u)
      where
        go : (b c : Bool) → (c ≡ true → s.leaders q u ≡ None) → At (cond b (s.founded q) (made_by_leader (s.leaders q u))) i x → At (cond b (s.founded q) (made_by_leader (cond c (Some (new_leader policy a)) (s.leaders q u)))) i x
        go true c h at = at
        go false true h at = absurd (none-some x (subst (λ (o : Option Leader). At (made_by_leader o) i x) (h refl) at))
        go false false h at = at

    led_proposed : (q u : ℕ) (x : Proposal) → Among x (made_by led_world q u) → Among x (made_by s q u) ⊎ IsProposed parts led_world k q u x
    led_proposed q u x = go (u == 0) ((q == p) && (u == t))
      where
        go : (b c : Bool) → Among x (cond b (s.founded q) (made_by_leader (cond c (Some (new_leader policy a)) (s.leaders q u)))) → Among x (cond b (s.founded q) (made_by_leader (s.leaders q u))) ⊎ IsProposed parts led_world k q u x
        go true c among = inl among
        go false true among = inr (elim among [ inl same ↦ subst (IsProposed parts led_world k q u) (sym same) tt | inr none ↦ absurd none ])
        go false false among = inl among

    new_led : IsLed parts led_world p t (new_leader policy a)
    new_led = record {
      above = above;
      within = within;
      senders = λ n e at. absurd (none-some e at);
      rules = record { empty = λ v. get-empty nat_cmp v; unput = λ v h. never_put v (led_put p t v h); unfenced = λ v h. never_fenced v (led_fenced p t v h) };
    }

    all_led : (q u : ℕ) (l : Leader) → leaders q u ≡ Some l → IsLed parts led_world q u l
    all_led q u l e = elim (set_split s.leaders p t (new_leader policy a) q u l e) [
      | inl own ↦ subst (λ (n : ℕ). IsLed parts led_world n u l) (sym own.0) (subst (λ (n : ℕ). IsLed parts led_world p n l) (sym own.1) (subst (IsLed parts led_world p t) (sym own.2) new_led))
      | inr other ↦ (let led = kept.leaders q u l other.0 in record {
        above = led.above;
        within = led.within;
        senders = led.senders;
        rules = ready_less parts (decided_of s q) u l.applied l.lead.table (HasPut s q u) (HasFenced s q u) (HasPut led_world q u) (HasFenced led_world q u) (led_put q u) (led_fenced q u) l.lead.ready led.rules;
      })
    ]

    lead_kept : IsKept parts led_world k
    lead_kept = kept_behind s s.ledger.steps s.founded leaders [] s.clients parts k kept (record { led = set_some s.leaders p t (new_leader policy a); invoked = λ id op h. h; rights = λ id b m r. r }) (record {
      made = led_made;
      proposed = led_proposed;
      meant = λ post none. absurd none;
      one_mode = λ q u v x y. kept.one_mode q u v (led_put q u v x) (led_fenced q u v y);
      unput = λ q u v w c x known fate. kept.unput q u v w c (led_put q u v x) known fate;
      leaders_new = all_led;
    })

  -- Lead
  pub lead_event : (p t : ℕ) (policy : Policy) (a : ℕ) → IsKept parts (if may_lead s p t a then with_leader s p t (new_leader policy a) else s) k
  lead_event p t policy a = cond_both (may_lead s p t a) (with_leader s p t (new_leader policy a)) s (λ (z : Chains). IsKept parts z k)
      (λ may. (let one = and_parts (nat_lt 0 t && is_none (s.leaders p t) && nat_le a (length (decided_of s p))) (are_below t (take a (decided_of s p))) may in
      let two = and_parts (nat_lt 0 t && is_none (s.leaders p t)) (nat_le a (length (decided_of s p))) one.0 in
      let three = and_parts (nat_lt 0 t) (is_none (s.leaders p t)) two.0 in
      nothing_left parts s k s.founded (leader_set s.leaders p t (new_leader policy a))
      (lead_kept p t policy a (ltb-true 0 t three.0) (none_is (s.leaders p t) three.1) (leb-true a (length (decided_of s p)) two.1))))
      (λ _. kept)
    where
      none_is : (o : Option Leader) → is_none o ≡ true → o ≡ None
      none_is None e = refl
      none_is (Some l) e = absurd (false≢true e)
