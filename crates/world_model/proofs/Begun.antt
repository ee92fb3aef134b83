-- The start, in the world of chains: each part's first configuration is its first proposal.
use Rattle.std.proofs.Common.{◌≡◌, ◌≢◌, inl, inr, ℕ, zero, suc, ◌<◌, ◌≤◌, List, [], ◌∷◌, ◌++◌, length, map, Bool, true, false, cond, refl, ap, sym, subst, ◌∙◌, arith, eqb-true}
use Rattle.std.specs.Prelude.{◌==◌, nat_lt, nat_le}
use Rattle.std.specs.List.{AllByRecursion}
use Rattle.std.proofs.lemmas.Bool.{cond-true, and_from, and_parts, eqb-false, lt-ltb, ltb-true, le-leb, leb-true, cases_lt}
use Rattle.std.proofs.lemmas.Option.{same_Some, none-some}
use Rattle.raft_log.specs.declared.entry.Item.{Item}
use Rattle.raft_log.specs.Decided.{Leadership}
use Rattle.raft_group.specs.Group.{founding as group_founding}
use Rattle.raft_group.specs.Facts.{StandsAt}
use Rattle.part_keys.specs.declared.proposal.Proposal.{Proposal}
use Rattle.part_keys.specs.declared.proposal.Proposal.TheVariants.{Members}
use Rattle.chain_world.proofs.Occurring.{after_is}
use Rattle.chain_world.specs.declared.event.ChainEvent.{ChainEvent}
use Rattle.chain_world.specs.declared.event.ChainEvent.TheVariants as event
use Rattle.chain_world.specs.State.{Chains, start as chains_start, with_founded, made_by}
use Rattle.replica_model.specs.Spelling.{value_of}
use Rattle.replica_model.specs.declared.input.Tick.{Tick}
use Rattle.chain_world.specs.World.{after, run, is_part, is_unfounded}
use Rattle.chain_world.proofs.Occurring.{founding}
use Rattle.meta_parts.specs.declared.table.PartTable.{PartTable}
use Rattle.raft_core.proofs.Lists.{all_both}
use Rattle.world_model.specs.State.{Space, began as unused}
use Rattle.world_model.specs.Chained.{HasMade}
use Rattle.world_model.proofs.Lists.{set_off}
use Rattle.world_model.proofs.Calling.{run_more}
use Rattle.world_model.proofs.GroupRuns.{groups_start}
use Rattle.world_model.proofs.Joining.{Has_chains}
use Rattle.world_model.proofs.Backed.{IsPlain, Onward, plain_all}

module _ (sp : Space) where
  -- the first configurations of parts 1 to n
  abbrev founders : ℕ → List ChainEvent
  founders zero = []
  founders (suc n) = founders n ++ event.Members (suc n) 0 (sp.first (suc n)) ∷ []

  abbrev founded : ℕ → ℕ → List Proposal
  founded zero = λ q. []
  founded (suc n) = λ q. cond (q == suc n) (Members (sp.first (suc n)) ∷ []) (founded n q)

  abbrev founded_chains : ℕ → Chains
  founded_chains n = record chains_start { founded = founded n }

  -- behind them nothing
  founded_above : (n q : ℕ) → n < q → founded n q ≡ []
  founded_above zero q high = refl
  founded_above (suc n) q high = set_off (founded n) (suc n) q (Members (sp.first (suc n)) ∷ []) (λ e. (let h = high in omega arith)) ∙ founded_above n q (let h = high in omega arith)

  -- each of them has its own
  founded_at : (n q : ℕ) → 0 < q → q ≤ n → founded n q ≡ Members (sp.first q) ∷ []
  founded_at zero q above low = absurd (let a = above in let l = low in omega arith)
  founded_at (suc n) q above low = go (founded_at n q above) (q == suc n) refl
    where
      under : q ≢ suc n → q ≤ n
      under other = elim (cases_lt n q) [ inl high ↦ absurd (other (let h = high in let l = low in omega arith)) | inr fine ↦ (let f = fine in omega arith) ]

      go : (q ≤ n → founded n q ≡ Members (sp.first q) ∷ []) → (b : Bool) → q == suc n ≡ b → cond b (Members (sp.first (suc n)) ∷ []) (founded n q) ≡ Members (sp.first q) ∷ []
      go below true e = ap (λ m. Members (sp.first m) ∷ []) (sym (eqb-true q (suc n) e))
      go below false e = below (under (eqb-false q (suc n) e))

  founds : (n : ℕ) → n ≤ sp.parts → run sp.ids sp.parts (founders n) ≡ founded_chains n
  founds zero low = refl
  founds (suc n) low =
      run_more sp.ids sp.parts chains_start (founders n) (event.Members (suc n) 0 (sp.first (suc n)) ∷ [])
      ∙ ap (λ x. after sp.ids sp.parts x (event.Members (suc n) 0 (sp.first (suc n)))) (founds n (let l = low in omega arith))
      ∙ after_is sp.ids sp.parts (founded_chains n) (event.Members (suc n) 0 (sp.first (suc n)))
      ∙ cond-true (is_part sp.parts (suc n)) (founding (founded_chains n) (suc n) (sp.first (suc n))) (founded_chains n)
      (and_from (nat_lt 0 (suc n)) (nat_le (suc n) sp.parts) (lt-ltb 0 (suc n) (omega arith)) (le-leb (suc n) sp.parts low))
      ∙ cond-true (is_unfounded (founded_chains n) (suc n)) (with_founded (founded_chains n) (suc n) (Members (sp.first (suc n)) ∷ [])) (founded_chains n)
      (ap (λ (xs : List Proposal). length xs == 0) (founded_above n (suc n) (omega arith)))

  abbrev began : Chains
  began = founded_chains sp.parts

  -- the one leadership of a part that begins
  only : (p k : ℕ) (l : Leadership Item) → StandsAt (groups_start sp p).leaders k l → group_founding (sp.first p) ≡ l
  only p zero l at = same_Some (group_founding (sp.first p)) l at
  only p (suc k) l at = absurd (none-some l at)

  made_first : (p : ℕ) → is_part sp.parts p ≡ true → HasMade sp began p (groups_start sp p).leaders
  made_first p part k l at =
      let within = and_parts (nat_lt 0 p) (nat_le p sp.parts) part in
      subst (λ (x : Leadership Item). map (value_of sp.spelling) x.made ≡ made_by began p x.term) (only p k l at) (sym (founded_at sp.parts p (ltb-true 0 p within.0) (leb-true p sp.parts within.1)))

  -- no tick stands behind them
  founders_plain : (n : ℕ) → AllByRecursion IsPlain (founders n)
  founders_plain zero = tt
  founders_plain (suc n) = all_both IsPlain (founders n) (event.Members (suc n) 0 (sp.first (suc n)) ∷ []) (founders_plain n) (tt, tt)

  pub chained_start : (told : ℕ → Tick → Type 0) (t : PartTable) → (c : Chains) × Has_chains sp (unused t) (groups_start sp) c × Onward sp told chains_start c
  chained_start told t = (
    began,
    record {
      reached = (founders sp.parts, founds sp.parts (omega arith));
      ledger_is = refl;
      made = made_first;
      led = λ p part k l at above. absurd (let a = above in let e = ap (λ (x : Leadership Item). x.term) (only p k l at) in omega arith);
      unled = λ p t none. refl;
      stand = λ p y. tt;
      calls = λ n. record { last = refl; asks = refl; named = λ call e. absurd (none-some call e); due = λ due e. absurd (none-some due e) };
      routed = λ n. record { queue = tt; call = λ call e. absurd (none-some call e) };
      mail = λ k post at. absurd (none-some post at);
      requests = λ n call e. absurd (none-some call e);
    },
    record { events = founders sp.parts; is = founds sp.parts (omega arith); backed = plain_all told (founders sp.parts) (founders_plain sp.parts) },
  )
