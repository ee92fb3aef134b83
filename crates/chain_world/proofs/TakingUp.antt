-- A chain is taken up: its row is set, and its Remote or Fence leaves.
use Rattle.std.proofs.Common.{◌≡◌, ◌⊎◌, inl, inr, ℕ, suc, ◌<◌, ◌≤◌, List, Some, Bool, true, false, ap, sym, subst, ◌∙◌}
use Rattle.std.specs.Prelude.{is_some}
use Rattle.std.specs.FinMap.{get}
use Rattle.std.proofs.lemmas.Bool.{false≢true}
use Rattle.std.proofs.lemmas.Option.{same_Some}
use Rattle.part_keys.specs.declared.chain.PrimeRec.{PrimeRec}
use Rattle.part_keys.specs.declared.chain.ChainState.{ChainState}
use Rattle.part_keys.specs.declared.proposal.Proposal.{Proposal}
use Rattle.chain_leader.specs.Rules.{Table}
use Rattle.chain_world.specs.Invariant.Protocol.{StandsAt, IsRow, HasRow, IsReady, is_fence}
use Rattle.chain_world.proofs.Tables.{IsSet}
use Rattle.chain_world.proofs.Ready.{IsReadyBut, there_is, same_or_other}

module _ (parts : ℕ) (decided : List (ℕ × Proposal)) (puts fences puts_now fences_now : ℕ → Type 0) (t n v : ℕ) (table u : Table) (row : ChainState) (rec : PrimeRec)
    (r : IsReadyBut parts decided puts fences t n v table) (stands : StandsAt parts decided n v rec) (list : row.list ≡ rec.list) (remote : row.remote ≡ rec.remote) (is : IsSet table v row u) where
  rows_set : (is_fence row.mode ≡ true → v ≤ suc r.noop) → (w : ℕ) (x : ChainState) → get u w ≡ Some x → IsRow parts decided n (suc r.noop) w x
  rows_set before w x has = elim (same_or_other w v) [
    | inl here ↦ (let same : is.here ≡ x = same_Some is.here x (sym is.there ∙ ap (get u) (sym here) ∙ has) in record {
      rec = rec;
      standing = subst (λ (m : ℕ). StandsAt parts decided n m rec) (sym here) stands;
      list = ap (λ (c : ChainState). c.list) (sym same) ∙ is.same.list ∙ list;
      remote = ap (λ (c : ChainState). c.remote) (sym same) ∙ is.same.remote ∙ remote;
      before = λ f. subst (λ (m : ℕ). m ≤ suc r.noop) (sym here) (before (sym is.same.fence ∙ ap (λ (c : ChainState). is_fence c.mode) same ∙ f));
    })
    | inr other ↦ r.rows w x (sym (is.others w other) ∙ has)
  ]

  own_set : (w : ℕ) (x : PrimeRec) → StandsAt parts decided n w x → suc r.noop < w → is_some (get u w) ≡ true
  own_set w x at behind = elim (same_or_other w v) [
    | inl here ↦ there_is (get u w) is.here (ap (get u) here ∙ is.there)
    | inr other ↦ ap is_some (is.others w other) ∙ r.own w x other at behind
  ]

  -- a row of this kind that was there is there still, at this chain too where its row is of the kind
  has_set : (b : Bool) (w : ℕ) → ((w ≡ v) → is_fence row.mode ≡ b) → HasRow table w b → HasRow u w b
  has_set b w kind h = elim (same_or_other w v) [
    | inl here ↦ (is.here, ap (get u) here ∙ is.there, is.same.fence ∙ kind here)
    | inr other ↦ (h.0, is.others w other ∙ h.1, h.2)
  ]

  has_here : (b : Bool) (w : ℕ) → w ≡ v → is_fence row.mode ≡ b → HasRow u w b
  has_here b w here kind = (is.here, ap (get u) here ∙ is.there, is.same.fence ∙ kind)

  -- its Remote leaves
  pub put_set : is_fence row.mode ≡ false → v ≤ n → (fences v → ⊥) → ((w : ℕ) → puts_now w → puts w ⊎ (w ≡ v)) → ((w : ℕ) → fences_now w → fences w)
      → IsReady parts decided puts_now fences_now t n u
  put_set kind within unfenced split same = record {
    noop = r.noop;
    started = r.started;
    applied = r.applied;
    rows = rows_set (λ f. absurd (false≢true (sym kind ∙ f)));
    own = own_set;
    put = λ w h. elim (split w h) [
      | inl old ↦ (let p = r.put w old in (p.0, λ x at. has_set false w (λ _. kind) (p.1 x at)))
      | inr here ↦ (subst (λ (m : ℕ). m ≤ n) (sym here) within, λ x at. has_here false w here kind)
    ];
    fenced = λ w h. (let p = r.fenced w (same w h) in (p.0, λ x at. has_set true w (λ here. absurd (unfenced (subst fences here (same w h)))) (p.1 x at)));
  }

  -- its Fence leaves
  pub fence_set : is_fence row.mode ≡ true → v ≤ suc r.noop → (puts v → ⊥) → ((w : ℕ) → fences_now w → fences w ⊎ (w ≡ v)) → ((w : ℕ) → puts_now w → puts w)
      → IsReady parts decided puts_now fences_now t n u
  fence_set kind within unput split same = record {
    noop = r.noop;
    started = r.started;
    applied = r.applied;
    rows = rows_set (λ f. within);
    own = own_set;
    put = λ w h. (let p = r.put w (same w h) in (p.0, λ x at. has_set false w (λ here. absurd (unput (subst puts here (same w h)))) (p.1 x at)));
    fenced = λ w h. elim (split w h) [
      | inl old ↦ (let p = r.fenced w old in (p.0, λ x at. has_set true w (λ _. kind) (p.1 x at)))
      | inr here ↦ (subst (λ (m : ℕ). m ≤ suc r.noop) (sym here) within, λ x at. has_here true w here kind)
    ];
  }
