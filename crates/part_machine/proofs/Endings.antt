-- The plans of a Local, a Double, a Close and an Abort.
use Rattle.std.proofs.Common.{◌≡◌, ℕ, [], ◌++◌, Option, None, Some, Bool, true, false, cond, refl, ap, sym, subst, ◌∙◌, arith}
use Rattle.std.specs.FinMap.{get, insert}
use Rattle.kv_part.specs.Store.{Contents, written}
use Rattle.part_keys.specs.declared.chain.PrimeRec.{PrimeRec}
use Rattle.part_keys.specs.declared.entry.PartEntry.TheVariants.{Local, Double, Close, Abort}
use Rattle.part_rules.specs.Part.{Part}
use Rattle.part_rules.specs.Machine.{localized_by, doubled_by, closed_by, aborted_by, settling, doubling, closing, aborting}
use Rattle.part_rules.specs.declared.applied.Applied.TheVariants.{Settled, Doubled, Closed, Aborted, Nothing}
use Rattle.part_rules.specs.declared.kept.Outcome.TheVariants as kept
use Rattle.part_store.specs.Keeps.{Keeps}
use Rattle.part_store.specs.Settings.{IsSetting}
use Rattle.part_store.specs.Writes.{out_writes, standing_writes, standing_removals}
use Rattle.part_store.specs.declared.setting.Setting.{Setting}
use Rattle.part_store.proofs.Changes.{with_outs, keeps_outs, keeps_ended}
use Rattle.part_store.proofs.Standing.{without_chain}
use Rattle.part_store.proofs.Doubling.{written-append, keeps_doubled, doubled_chain}
use Rattle.part_machine.specs.Calls.{outcome_writes}
use Rattle.part_machine.specs.Chains.{Chains}
use Rattle.part_machine.specs.Plans.{IsState, IsNext, IsPlan}
use Rattle.part_machine.proofs.States.{plan_of, still_plan, begins, ends, keeps_outcome}

module _ (s : Setting) (is : IsSetting s) {next index : ℕ} {p : Part} {m : Contents} {chains : Chains} (is-next : IsNext next index) (st : IsState s next p m chains) (v : ℕ) where
  at : (o : Option PrimeRec) → get chains v ≡ o → get p.chains v ≡ o
  at o there = ap (λ (c : Chains). get c v) (sym st.same) ∙ there

  -- there is no such chain
  pub no_local : get chains v ≡ None → IsPlan s index (Local v) p m chains (record { batch = []; turn = None; answer = Nothing })
  no_local none = still_plan s is is-next st (Local v) Nothing (ap (localized_by p v) (at None none))

  pub no_double : get chains v ≡ None → IsPlan s index (Double v) p m chains (record { batch = []; turn = None; answer = Nothing })
  no_double none = still_plan s is is-next st (Double v) Nothing (ap (doubled_by p v) (at None none))

  pub no_close : get chains v ≡ None → IsPlan s index (Close v) p m chains (record { batch = []; turn = None; answer = Nothing })
  no_close none = still_plan s is is-next st (Close v) Nothing (ap (closed_by p v) (at None none))

  pub no_abort : get chains v ≡ None → IsPlan s index (Abort v) p m chains (record { batch = []; turn = None; answer = Nothing })
  no_abort none = still_plan s is is-next st (Abort v) Nothing (ap (aborted_by p v) (at None none))

  module _ (chain : PrimeRec) (there : get chains v ≡ Some chain) where
    -- the chain is of the other kind
    pub local_of_double : chain.double ≡ true → IsPlan s index (Local v) p m chains (record { batch = []; turn = None; answer = Nothing })
    local_of_double double = still_plan s is is-next st (Local v) Nothing (ap (localized_by p v) (at (Some chain) there) ∙ ap (λ b. cond b (p, Nothing) (settling p v chain, Settled chain.id)) double)

    pub double_of_double : chain.double ≡ true → IsPlan s index (Double v) p m chains (record { batch = []; turn = None; answer = Nothing })
    double_of_double double = still_plan s is is-next st (Double v) Nothing (ap (doubled_by p v) (at (Some chain) there) ∙ ap (λ b. cond b (p, Nothing) (doubling p v chain, Doubled chain.id)) double)

    pub close_of_single : chain.double ≡ false → IsPlan s index (Close v) p m chains (record { batch = []; turn = None; answer = Nothing })
    close_of_single single = still_plan s is is-next st (Close v) Nothing (ap (closed_by p v) (at (Some chain) there) ∙ ap (λ b. cond b (closing p v chain, Closed chain.id) (p, Nothing)) single)

    pub abort_of_double : chain.double ≡ true → IsPlan s index (Abort v) p m chains (record { batch = []; turn = None; answer = Nothing })
    abort_of_double double = still_plan s is is-next st (Abort v) Nothing (ap (aborted_by p v) (at (Some chain) there) ∙ ap (λ b. cond b (p, Nothing) (aborting p v chain, Aborted chain.id)) double)

    -- the store behind the out-halves, and behind the chain's end
    outs_kept : Keeps s (with_outs p chain.list) (written m (out_writes s chain.list))
    outs_kept = let fits = st.keeps.fits.chains v chain (at (Some chain) there) in keeps_outs s p chain.list fits.each is.kind m st.keeps fits.once

    end_kept : (q : Part) (n : Contents) (double : Bool) → Keeps s q n → q.chains ≡ p.chains → chain.double ≡ double → Keeps s (without_chain q v) (written n (standing_removals s double chain.list))
    end_kept q n double keeps same kind =
        subst (λ (b : Bool). Keeps s (without_chain q v) (written n (standing_removals s b chain.list))) kind
        (keeps_ended s is.kind q n keeps v chain (ap (λ (c : Chains). get c v) same ∙ at (Some chain) there))

    -- a chain that isn't double is settled
    pub local_plan : chain.double ≡ false → IsPlan s index (Local v) p m chains
        (record { batch = (out_writes s chain.list ++ standing_removals s false chain.list) ++ outcome_writes s m chain.id kept.Fine; turn = Some (record { at = v; chain = None }); answer = Settled chain.id })
    local_plan single =
        let own = st.own v chain there in
        let outs = out_writes s chain.list in
        let gone = standing_removals s false chain.list in
        let ended : Keeps s (without_chain (with_outs p chain.list) v) (written m (outs ++ gone)) =
        subst (Keeps s (without_chain (with_outs p chain.list) v)) (sym (written-append m outs gone)) (end_kept (with_outs p chain.list) (written m outs) false outs_kept refl single) in
        let all : Keeps s (settling p v chain) (written m ((outs ++ gone) ++ outcome_writes s m chain.id kept.Fine)) =
        subst (Keeps s (settling p v chain)) (sym (written-append m (outs ++ gone) (outcome_writes s m chain.id kept.Fine)))
        (keeps_outcome s is p (without_chain (with_outs p chain.list) v) m (written m (outs ++ gone)) chain.id kept.Fine st.keeps ended refl own.client tt) in
        plan_of s is is-next st (Local v) _ (settling p v chain, Settled chain.id)
        (ap (localized_by p v) (at (Some chain) there) ∙ ap (λ b. cond b (p, Nothing) (settling p v chain, Settled chain.id)) single)
        (ends s is is-next st (settling p v chain) (written m ((outs ++ gone) ++ outcome_writes s m chain.id kept.Fine)) v refl all) refl

    -- a double one is closed
    pub close_plan : chain.double ≡ true → IsPlan s index (Close v) p m chains
        (record { batch = standing_removals s true chain.list ++ outcome_writes s m chain.id kept.Fine; turn = Some (record { at = v; chain = None }); answer = Closed chain.id })
    close_plan double =
        let own = st.own v chain there in
        let gone = standing_removals s true chain.list in
        let all : Keeps s (closing p v chain) (written m (gone ++ outcome_writes s m chain.id kept.Fine)) =
        subst (Keeps s (closing p v chain)) (sym (written-append m gone (outcome_writes s m chain.id kept.Fine)))
        (keeps_outcome s is p (without_chain p v) m (written m gone) chain.id kept.Fine st.keeps (end_kept p m true st.keeps refl double) refl own.client tt) in
        plan_of s is is-next st (Close v) _ (closing p v chain, Closed chain.id)
        (ap (closed_by p v) (at (Some chain) there) ∙ ap (λ b. cond b (closing p v chain, Closed chain.id) (p, Nothing)) double)
        (ends s is is-next st (closing p v chain) (written m (gone ++ outcome_writes s m chain.id kept.Fine)) v refl all) refl

    -- one that isn't double is aborted
    pub abort_plan : chain.double ≡ false → IsPlan s index (Abort v) p m chains
        (record { batch = standing_removals s false chain.list ++ outcome_writes s m chain.id kept.Cancelled; turn = Some (record { at = v; chain = None }); answer = Aborted chain.id })
    abort_plan single =
        let own = st.own v chain there in
        let gone = standing_removals s false chain.list in
        let all : Keeps s (aborting p v chain) (written m (gone ++ outcome_writes s m chain.id kept.Cancelled)) =
        subst (Keeps s (aborting p v chain)) (sym (written-append m gone (outcome_writes s m chain.id kept.Cancelled)))
        (keeps_outcome s is p (without_chain p v) m (written m gone) chain.id kept.Cancelled st.keeps (end_kept p m false st.keeps refl single) refl own.client tt) in
        plan_of s is is-next st (Abort v) _ (aborting p v chain, Aborted chain.id)
        (ap (aborted_by p v) (at (Some chain) there) ∙ ap (λ b. cond b (p, Nothing) (aborting p v chain, Aborted chain.id)) single)
        (ends s is is-next st (aborting p v chain) (written m (gone ++ outcome_writes s m chain.id kept.Cancelled)) v refl all) refl

    -- one that isn't double becomes double
    pub double_plan : chain.double ≡ false → IsPlan s index (Double v) p m chains
        (record { batch = ((out_writes s chain.list ++ standing_removals s false chain.list) ++ standing_writes s true v chain.id chain.list) ++ outcome_writes s m chain.id kept.Pending; turn = Some (record { at = v; chain = Some (doubled_chain chain) }); answer = Doubled chain.id })
    double_plan single =
        let own = st.own v chain there in
        let stands = at (Some chain) there in
        let fits = st.keeps.fits.chains v chain stands in
        let outs = out_writes s chain.list in
        let gone = standing_removals s false chain.list in
        let come = standing_writes s true v chain.id chain.list in
        let named : standing_removals s false chain.list ++ standing_writes s true chain.v chain.id chain.list ≡ gone ++ come = ap (λ (n : ℕ). gone ++ standing_writes s true n chain.id chain.list) fits.named in
        let q : Part = record (with_outs p chain.list) { chains = insert p.chains v (doubled_chain chain) } in
        let doubled : Keeps s q (written m ((outs ++ gone) ++ come)) =
        subst (Keeps s q) (ap (written (written m outs)) named ∙ written-append (written m outs) gone come ∙ ap (λ (n : Contents). written n come) (sym (written-append m outs gone)) ∙ sym (written-append m (outs ++ gone) come))
        (keeps_doubled s is.kind (with_outs p chain.list) (written m outs) outs_kept v chain stands single) in
        let all : Keeps s (doubling p v chain) (written m (((outs ++ gone) ++ come) ++ outcome_writes s m chain.id kept.Pending)) =
        subst (Keeps s (doubling p v chain)) (sym (written-append m ((outs ++ gone) ++ come) (outcome_writes s m chain.id kept.Pending)))
        (keeps_outcome s is p q m (written m ((outs ++ gone) ++ come)) chain.id kept.Pending st.keeps doubled refl own.client tt) in
        let low = st.below v chain there in
        let risen = is-next.risen in
        plan_of s is is-next st (Double v) _ (doubling p v chain, Doubled chain.id)
        (ap (doubled_by p v) stands ∙ ap (λ b. cond b (p, Nothing) (doubling p v chain, Doubled chain.id)) single)
        (begins s is is-next st (doubling p v chain) (written m (((outs ++ gone) ++ come) ++ outcome_writes s m chain.id kept.Pending)) v (doubled_chain chain) (omega arith) refl (record { client = own.client; list = own.list }) all) refl
