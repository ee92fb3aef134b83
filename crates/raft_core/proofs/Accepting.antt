-- Taking an Append, by the code's parts.
use Rattle.std.proofs.Common.{◌≡◌, inl, inr, ℕ, ◌+◌, ◌-◌, ◌≤◌, min, max, List, [], ◌∷◌, length, take, drop, true, false, refl, ap, sym, ◌∙◌, arith}
use Rattle.std.specs.Prelude.{◌==◌, nat_lt, ◌&&◌, if◌then◌else◌}
use Rattle.std.proofs.lemmas.Bool.{cases_Bool, eqb-true, eqb-false}
use Rattle.std.proofs.lemmas.List.{length-drop, length-take}
use Rattle.raft_log.specs.declared.entry.Entry.{Entry}
use Rattle.raft_log.specs.declared.mark.Mark.{Mark}
use Rattle.raft_log.specs.declared.message.RaftMsg.TheVariants.{Appended}
use Rattle.raft_core.specs.declared.state.PeerState.{PeerState}
use Rattle.raft_core.specs.Core.{Sends}
use Rattle.raft_core.specs.Appends.{conflicts, kept_by, reach, accepted}
use Rattle.raft_core.specs.Ahead.{core_with, made_by, agreeing}
use Rattle.raft_core.proofs.Agreeing.{agreeing_within, missing_is, stays_all, stays_some, conflicts_is}

pub order_is : (log entries : List Entry) (behind commit count own new : ℕ) → commit ≤ length log → count ≡ agreeing (drop behind (take commit log)) entries → own ≡ commit - behind → new ≡ length entries
    → (nat_lt count own && nat_lt count new) ≡ conflicts (drop behind (take commit log)) entries
order_is log entries behind commit count own new within e f g =
    let short = length-drop behind (take commit log) in
    let cut = length-take commit log in
    let long : own ≡ length (drop behind (take commit log)) = omega (arith, short, cut, f, within) in
    rw (e, long, g) (sym (conflicts_is (drop behind (take commit log)) entries))

keep_is : (log entries : List Entry) (previous : Mark) (count : ℕ) → previous.index ≤ length log → count ≡ agreeing (drop previous.index log) entries
    → (if count == length entries then length log else previous.index + count) ≡ kept_by log previous entries
keep_is log entries previous count within e =
    let long = length-drop previous.index log in
    let most = agreeing_within (drop previous.index log) entries in
    elim (cases_Bool (count == length entries)) [
      | inl all ↦ (let h = stays_all (drop previous.index log) entries (sym e ∙ eqb-true count (length entries) all) in rw all (omega (arith, h, long)))
      | inr some ↦ (let ne = eqb-false count (length entries) some in let h = stays_some (drop previous.index log) entries (omega (arith, e, most.1, ne)) in rw some (omega (arith, h, e)))
    ]

pub accepted_is : (state : PeerState) (log entries : List Entry) (from : ℕ) (previous : Mark) (sent round count keep commit : ℕ) (new : List Entry) (sends : Sends) → previous.index ≤ length log
    → count ≡ agreeing (drop previous.index log) entries
    → keep ≡ (if count == length entries then length log else previous.index + count)
    → new ≡ drop count entries
    → sends ≡ (from, Appended state.term true (reach previous entries) round) ∷ []
    → commit ≡ max state.commit (min sent (reach previous entries))
    → made_by log (record { state = record state { commit = commit }; keep = keep; entries = new; sends = sends; began = false }) ≡ accepted (core_with state log) from previous sent round entries
accepted_is state log entries from previous sent round count keep commit new sends within e f g h k =
    let kept = f ∙ keep_is log entries previous count within e in
    let missed = g ∙ ap (λ n. drop n entries) e ∙ sym (missing_is (drop previous.index log) entries) in
    rw (kept, missed, h, k) refl
