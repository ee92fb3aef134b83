-- A ready leader's table through its moves.
use Rattle.std.proofs.Common.{◌≡◌, ◌⊎◌, inl, inr, ℕ, suc, ◌<◌, ◌≤◌, List, length, Option, Some, None, Bool, true, false, refl, ap, sym, subst, ◌∙◌, arith, eqb-true}
use Rattle.std.specs.Prelude.{is_some, ◌==◌}
use Rattle.std.specs.FinMap.{get}
use Rattle.std.proofs.lemmas.Bool.{false≢true, eqb-false}
use Rattle.std.proofs.lemmas.Option.{same_Some, none-some}
use Rattle.part_keys.specs.declared.chain.PrimeRec.{PrimeRec}
use Rattle.part_keys.specs.declared.chain.ChainState.{ChainState}
use Rattle.part_keys.specs.declared.proposal.Proposal.{Proposal}
use Rattle.part_keys.specs.declared.proposal.Proposal.TheVariants.{Start}
use Rattle.chain_leader.specs.Rules.{Table}
use Rattle.chain_world.specs.Places.{At}
use Rattle.chain_world.specs.Invariant.Protocol.{StandsAt, IsRow, HasRow, IsReady, IsUnready, IsReadyIf}
use Rattle.chain_world.proofs.Fronts.{keeps_more, numbered}
use Rattle.chain_world.proofs.Tables.{Alike}

-- what is there
pub is_there : {X : Type 0} (o : Option X) → is_some o ≡ true → (x : X) × (o ≡ Some x)
is_there None e = absurd (false≢true e)
is_there (Some x) e = (x, refl)

pub there_is : {X : Type 0} (o : Option X) (x : X) → o ≡ Some x → is_some o ≡ true
there_is o x e = ap is_some e

-- a number is this one, or another
pub same_or_other : (w v : ℕ) → (w ≡ v) ⊎ ((w ≡ v) → ⊥)
same_or_other w v = go (w == v) refl
  where
    go : (b : Bool) → (w == v) ≡ b → (w ≡ v) ⊎ ((w ≡ v) → ⊥)
    go true e = inl (eqb-true w v e)
    go false e = inr (eqb-false w v e)

-- A ready leader whose table may lack one chain that just began.
pub record IsReadyBut (parts : ℕ) (decided : List (ℕ × Proposal)) (puts fences : ℕ → Type 0) (t n fresh : ℕ) (table : Table) : Type 0 where
  pub noop : ℕ
  pub started : At decided noop (t, Start)
  pub applied : noop < n
  pub rows : (v : ℕ) (row : ChainState) → get table v ≡ Some row → IsRow parts decided n (suc noop) v row
  pub own : (v : ℕ) (rec : PrimeRec) → ((v ≡ fresh) → ⊥) → StandsAt parts decided n v rec → suc noop < v → is_some (get table v) ≡ true
  pub put : (v : ℕ) → puts v → (v ≤ n) × ((rec : PrimeRec) → StandsAt parts decided n v rec → HasRow table v false)
  pub fenced : (v : ℕ) → fences v → (v ≤ suc noop) × ((rec : PrimeRec) → StandsAt parts decided n v rec → HasRow table v true)

module _ (parts : ℕ) (decided : List (ℕ × Proposal)) (puts fences : ℕ → Type 0) (t : ℕ) where
  abbrev pub may_lack : (n fresh : ℕ) (table : Table) → IsReady parts decided puts fences t n table → IsReadyBut parts decided puts fences t n fresh table
  may_lack n fresh table r = record { noop = r.noop; started = r.started; applied = r.applied; rows = r.rows; own = λ v rec other. r.own v rec; put = r.put; fenced = r.fenced }

  pub lacks_none : (n fresh : ℕ) (table : Table) → ((rec : PrimeRec) → StandsAt parts decided n fresh rec → ⊥) → IsReadyBut parts decided puts fences t n fresh table → IsReady parts decided puts fences t n table
  lacks_none n fresh table gone r = record {
    noop = r.noop;
    started = r.started;
    applied = r.applied;
    rows = r.rows;
    put = r.put;
    fenced = r.fenced;
    own = λ v rec stands. r.own v rec (λ same. gone rec (subst (λ (w : ℕ). StandsAt parts decided n w rec) same stands)) stands;
  }

  -- tables that are alike serve alike
  has_alike : (table other : Table) → Alike table other → (v : ℕ) (b : Bool) → HasRow table v b → HasRow other v b
  has_alike table other alike v b h = let f = alike.forth v h.0 h.1 in (f.0, f.1, f.2.fence ∙ h.2)

  pub ready_alike : (n : ℕ) (table other : Table) → Alike table other → (b : Bool) → IsReadyIf parts decided puts fences t n table b → IsReadyIf parts decided puts fences t n other b
  ready_alike n table other alike true r = record {
    noop = r.noop;
    started = r.started;
    applied = r.applied;
    rows = λ v row has. (let b = alike.back v row has in let i = r.rows v b.0 b.1 in
        record { rec = i.rec; standing = i.standing; list = b.2.list ∙ i.list; remote = b.2.remote ∙ i.remote; before = λ f. i.before (sym b.2.fence ∙ f) });
    own = λ v rec stands behind. (let o = is_there (get table v) (r.own v rec stands behind) in let f = alike.forth v o.0 o.1 in there_is (get other v) f.0 f.1);
    put = λ v h. (let p = r.put v h in (p.0, λ rec stands. has_alike table other alike v false (p.1 rec stands)));
    fenced = λ v h. (let p = r.fenced v h in (p.0, λ rec stands. has_alike table other alike v true (p.1 rec stands)));
  }
  ready_alike n table other alike false r = record {
    empty = λ v. none_alike v (get other v) refl;
    unput = r.unput;
    unfenced = r.unfenced;
  }
    where
      none_alike : (v : ℕ) (o : Option ChainState) → get other v ≡ o → get other v ≡ None
      none_alike v None e = e
      none_alike v (Some row) e = absurd (let b = alike.back v row e in none-some b.0 (sym (r.empty v) ∙ b.1))

  -- one entry more is applied: the rows that stay are those whose chains stand still
  pub advanced : (n : ℕ) (e : ℕ × Proposal) → At decided n e → n < length decided → (table other : Table)
      → ((v : ℕ) (row : ChainState) → get other v ≡ Some row → (get table v ≡ Some row) × ((rec : PrimeRec) × StandsAt parts decided (suc n) v rec))
      → ((v : ℕ) (row : ChainState) (rec : PrimeRec) → get table v ≡ Some row → StandsAt parts decided (suc n) v rec → get other v ≡ Some row)
      → IsReady parts decided puts fences t n table → IsReadyBut parts decided puts fences t (suc n) (suc n) other
  advanced n e at within table other back stays r = record {
    noop = r.noop;
    started = r.started;
    applied = let a = r.applied in omega arith;
    rows = λ v row has. row_on v row (back v row has);
    own = λ v rec older stands behind. (let o = is_there (get table v) (by_stood v rec older stands (λ old was. r.own v old was behind)) in
        there_is (get other v) o.0 (stays v o.0 rec o.1 stands));
    put = λ v h. (let p = r.put v h in (let a = p.0 in omega arith, λ rec stands. has_on v rec false p.0 stands p.1));
    fenced = λ v h. (let p = r.fenced v h in (p.0, λ rec stands. has_on v rec true (let a = p.0 in let b = r.applied in omega arith) stands p.1));
  }
    where
      by_stood : {P : Type 0} (v : ℕ) (rec : PrimeRec) → ((v ≡ suc n) → ⊥) → StandsAt parts decided (suc n) v rec → ((old : PrimeRec) → StandsAt parts decided n v old → P) → P
      by_stood v rec older stands then_it = elim (keeps_more parts decided n e at v rec stands) [ inl new ↦ absurd (older new.0) | inr was ↦ then_it was.old was.was ]

      row_on : (v : ℕ) (row : ChainState) → (get table v ≡ Some row) × ((rec : PrimeRec) × StandsAt parts decided (suc n) v rec) → IsRow parts decided (suc n) (suc r.noop) v row
      row_on v row b =
          let i = r.rows v row b.0 in
          let m = numbered parts decided n (omega arith) v i.rec i.standing in
          let le = m.0 in
          elim (keeps_more parts decided n e at v b.1.0 b.1.1) [
            | inl new ↦ absurd (let f = new.0 in omega arith)
            | inr was ↦ (let same : was.old ≡ i.rec = same_Some was.old i.rec (sym was.was ∙ i.standing) in record {
              rec = b.1.0;
              standing = b.1.1;
              list = i.list ∙ sym (ap (λ (x : PrimeRec). x.list) same) ∙ sym was.list;
              remote = i.remote ∙ sym (ap (λ (x : PrimeRec). x.remote) same) ∙ sym was.remote;
              before = i.before;
            })
          ]

      has_on : (v : ℕ) (rec : PrimeRec) (b : Bool) → v ≤ n → StandsAt parts decided (suc n) v rec → ((old : PrimeRec) → StandsAt parts decided n v old → HasRow table v b) → HasRow other v b
      has_on v rec b le stands h = by_stood v rec (λ new. absurd (let f = new in omega arith)) stands
          (λ old was. (let x = h old was in (x.0, stays v x.0 rec x.1 stands, x.2)))

  -- the own no-op is applied
  pub becomes_ready : (n : ℕ) → At decided n (t, Start) → n < length decided → (table : Table) → IsUnready puts fences table → IsReady parts decided puts fences t (suc n) table
  becomes_ready n at within table r = record {
    noop = n;
    started = at;
    applied = omega arith;
    rows = λ v row has. absurd (none-some row (sym (r.empty v) ∙ has));
    own = λ v rec stands behind. absurd (let m = numbered parts decided (suc n) (omega arith) v rec stands in let le = m.0 in omega arith);
    put = λ v h. absurd (r.unput v h);
    fenced = λ v h. absurd (r.unfenced v h);
  }
