-- What a machine shows behind its calls.
use Rattle.std.proofs.Common.{◌≡◌, ℕ, suc, List, [], ◌∷◌, Some, None, Bool, ap, sym, subst, ◌∙◌}
use Rattle.std.specs.FinMap.{empty, get, get-empty}
use Rattle.std.specs.Ordering.{nat_cmp}
use Rattle.kv_part.specs.Store.{Contents, written}
use Rattle.part_keys.specs.declared.entry.PartEntry.{PartEntry}
use Rattle.part_rules.specs.Part.{Part, blank}
use Rattle.part_rules.specs.Machine.{applied}
use Rattle.part_keys.specs.declared.chain.PrimeRec.{PrimeRec}
use Rattle.part_store.proofs.Blank.{keeps_blank}
use Rattle.part_store.specs.Settings.{IsSetting}
use Rattle.part_store.specs.declared.setting.Setting.{Setting}
use Rattle.part_machine.specs.Chains.{Chains, standing, turned}
use Rattle.part_machine.specs.Machine.{IsMachine}
use Rattle.part_machine.specs.Plans.{IsState, IsNext, ArePlans, ArePlaced}
use Rattle.part_machine.specs.Playing.{KeepsPlaces, IsRun, undone, returned}
use Rattle.part_machine.specs.declared.back.Back.{Back}
use Rattle.part_machine.specs.declared.machine.Machine.{Machine}
use Rattle.part_machine.specs.declared.plan.Plan.{Plan}
use Rattle.part_machine.proofs.Runs.{placed_stay}

module _ {S : Type 0} (meaning : S → Contents) (has : S → List ℕ → Bool) where
  -- a state that is said of equal things
  moved : (s t : Setting) (n k : ℕ) (p : Part) (m o : Contents) (c d : Chains) → t ≡ s → k ≡ n → o ≡ m → d ≡ c → IsState s n p m c → IsState t k p o d
  moved s t n k p m o c d same-s same-n same-m same-c state =
      subst (λ (x : Setting). IsState x k p o d) (sym same-s)
      (subst (λ (x : ℕ). IsState s x p o d) (sym same-n)
      (subst (λ (x : Contents). IsState s n p x d) (sym same-m)
      (subst (IsState s n p m) (sym same-c) state)))

  planned : (s t : Setting) (n k : ℕ) (p : Part) (m o : Contents) (c d : Chains) (plans : List Plan) (entries : List (ℕ × PartEntry)) → t ≡ s → k ≡ n → o ≡ m → d ≡ c → ArePlans s n p m c plans entries → ArePlans t k p o d plans entries
  planned s t n k p m o c d plans entries same-s same-n same-m same-c are =
      subst (λ (x : Setting). ArePlans x k p o d plans entries) (sym same-s)
      (subst (λ (x : ℕ). ArePlans s x p o d plans entries) (sym same-n)
      (subst (λ (x : Contents). ArePlans s n p x d plans entries) (sym same-m)
      (subst (λ (x : Chains). ArePlans s n p m x plans entries) (sym same-c) are)))

  -- The first plan of a machine, and what it makes.
  module _ (a : Machine S) (p : Part) (index : ℕ) (entry : PartEntry) (rest : List (ℕ × PartEntry)) (is : IsMachine meaning has p ((index, entry) ∷ rest) a) (plan : Plan) (more : List Plan) (first : a.plans.items ≡ plan ∷ more) where
    first_are : ArePlans a.setting a.next p (meaning a.store) (standing a.chains.entries) (plan ∷ more) ((index, entry) ∷ rest)
    first_are = subst (λ (l : List Plan). ArePlans a.setting a.next p (meaning a.store) (standing a.chains.entries) l ((index, entry) ∷ rest)) first is.planned

    first_placed : ArePlaced (has a.store) a.chains.entries (plan ∷ more)
    first_placed = subst (ArePlaced (has a.store) a.chains.entries) first is.placed

    pub first_next : IsNext a.next index
    first_next = first_are.0

    pub first_answer : plan.answer ≡ (applied a.setting.parts index entry p).1
    first_answer = first_are.1.answer

    pub applied_is : (b : Machine S) → b.setting ≡ a.setting → b.next ≡ suc index → meaning b.store ≡ written (meaning a.store) plan.batch → standing b.chains.entries ≡ turned (standing a.chains.entries) plan.turn
        → KeepsPlaces (has a.store) (has b.store) a.chains.entries b.chains.entries → b.plans.items ≡ more → IsMachine meaning has (applied a.setting.parts index entry p).0 rest b
    applied_is b same-s same-n same-m same-c kept plans = record {
      setting = subst IsSetting (sym same-s) is.setting;
      state = moved a.setting b.setting (suc index) b.next (applied a.setting.parts index entry p).0 (written (meaning a.store) plan.batch) (meaning b.store) (turned (standing a.chains.entries) plan.turn) (standing b.chains.entries) same-s same-n same-m same-c first_are.1.state;
      planned = planned a.setting b.setting (suc index) b.next (applied a.setting.parts index entry p).0 (written (meaning a.store) plan.batch) (meaning b.store) (turned (standing a.chains.entries) plan.turn) (standing b.chains.entries) b.plans.items rest same-s same-n same-m same-c
          (subst (λ (l : List Plan). ArePlans a.setting (suc index) (applied a.setting.parts index entry p).0 (written (meaning a.store) plan.batch) (turned (standing a.chains.entries) plan.turn) l rest) (sym plans) first_are.2);
      placed = subst (ArePlaced (has b.store) b.chains.entries) (sym plans) (placed_stay kept more first_placed.1);
    }

  -- What was played and taken back leaves its plans, or none.
  module _ (b c e : Machine S) (done : List (ℕ × PartEntry)) (list : List Back) (p : Part) (is-setting : IsSetting b.setting) (state : IsState b.setting b.next p (meaning b.store) (standing b.chains.entries)) (run : IsRun meaning has b done c list)
      (same-s : e.setting ≡ b.setting) (same-n : e.next ≡ b.next) (store : meaning e.store ≡ undone (meaning c.store) list) (chains : standing e.chains.entries ≡ returned (standing c.chains.entries) list) where
    back_state : IsState e.setting e.next p (meaning e.store) (standing e.chains.entries)
    back_state = moved b.setting e.setting b.next e.next p (meaning b.store) (meaning e.store) (standing b.chains.entries) (standing e.chains.entries) same-s same-n (store ∙ run.undo) (chains ∙ run.back) state

    pub reserved_is : KeepsPlaces (has c.store) (has e.store) c.chains.entries e.chains.entries → e.plans.items ≡ c.plans.items → IsMachine meaning has p done e
    reserved_is kept plans = record {
      setting = subst IsSetting (sym same-s) is-setting;
      state = back_state;
      planned = planned b.setting e.setting b.next e.next p (meaning b.store) (meaning e.store) (standing b.chains.entries) (standing e.chains.entries) e.plans.items done same-s same-n (store ∙ run.undo) (chains ∙ run.back)
          (subst (λ (l : List Plan). ArePlans b.setting b.next p (meaning b.store) (standing b.chains.entries) l done) (sym plans) (run.plans p state));
      placed = subst (ArePlaced (has e.store) e.chains.entries) (sym plans) (placed_stay kept c.plans.items run.placed);
    }

    pub none_reserved : e.plans.items ≡ [] → IsMachine meaning has p [] e
    none_reserved plans = record {
      setting = subst IsSetting (sym same-s) is-setting;
      state = back_state;
      planned = subst (λ (l : List Plan). ArePlans e.setting e.next p (meaning e.store) (standing e.chains.entries) l []) (sym plans) tt;
      placed = subst (ArePlaced (has e.store) e.chains.entries) (sym plans) tt;
    }

  -- What a machine shows where nothing is reserved any more.
  pub forgotten : (a : Machine S) (p : Part) (entries : List (ℕ × PartEntry)) → IsMachine meaning has p entries a
      → (b : Machine S) → b.setting ≡ a.setting → b.next ≡ a.next → meaning b.store ≡ meaning a.store → standing b.chains.entries ≡ standing a.chains.entries → b.plans.items ≡ []
      → IsMachine meaning has p [] b
  forgotten a p entries is b same-s same-n same-m same-c plans = record {
    setting = subst IsSetting (sym same-s) is.setting;
    state = moved a.setting b.setting a.next b.next p (meaning a.store) (meaning b.store) (standing a.chains.entries) (standing b.chains.entries) same-s same-n same-m same-c is.state;
    planned = subst (λ (l : List Plan). ArePlans b.setting b.next p (meaning b.store) (standing b.chains.entries) l []) (sym plans) tt;
    placed = subst (ArePlaced (has b.store) b.chains.entries) (sym plans) tt;
  }

  -- A machine that is new.
  pub new_is : (a : Machine S) → IsSetting a.setting → meaning a.store ≡ empty → a.chains.entries ≡ [] → a.plans.items ≡ [] → IsMachine meaning has blank [] a
  new_is a setting store chains plans = record {
    setting = setting;
    state = record {
      keeps = keeps_blank a.setting (meaning a.store) store;
      same = none;
      own = λ v chain there. absurd (nothing v chain there);
      below = λ v chain there. absurd (nothing v chain there);
    };
    planned = subst (λ (l : List Plan). ArePlans a.setting a.next blank (meaning a.store) (standing a.chains.entries) l []) (sym plans) tt;
    placed = subst (ArePlaced (has a.store) a.chains.entries) (sym plans) tt;
  }
    where
      none : standing a.chains.entries ≡ empty
      none = ap standing chains

      nothing : (v : ℕ) (chain : PrimeRec) → get (standing a.chains.entries) v ≡ Some chain → ⊥
      nothing v chain there = let t : None ≡ Some chain = sym (get-empty nat_cmp v) ∙ ap (λ (c : Chains). get c v) (sym none) ∙ there in cc
