-- A leader that isn't ready sends nothing for a chain.
use Rattle.std.proofs.Common.{◌≡◌, ℕ, List, [], Bool, true, false, cond, refl, sym, ◌∙◌, subst}
use Rattle.std.specs.Prelude.{◌==◌, ◌&&◌}
use Rattle.std.specs.List.{AllByRecursion}
use Rattle.std.proofs.lemmas.Bool.{cond_both, cond-false, and_parts, false≢true}
use Rattle.part_keys.specs.declared.entry.PartEntry.{PartEntry}
use Rattle.part_keys.specs.declared.entry.PartEntry.TheVariants as entry
use Rattle.part_keys.specs.declared.proposal.Proposal.{Proposal}
use Rattle.part_keys.specs.declared.proposal.Proposal.TheVariants.{Start, Members, Made, Blank}
use Rattle.part_keys.specs.declared.vid_kind.VidKind.{VidKind}
use Rattle.part_keys.specs.Routing.{is_payload}
use Rattle.part_rules.specs.declared.applied.Applied.{Applied}
use Rattle.part_rules.specs.declared.applied.Applied.TheVariants.{Begun}
use Rattle.part_rules.specs.Part.{Part}
use Rattle.part_rules.specs.Machine.{applied}
use Rattle.chain_leader.specs.declared.body.ChainBody.{ChainBody}
use Rattle.chain_leader.specs.declared.body.ChainBody.TheVariants as says
use Rattle.chain_leader.specs.declared.letter.Letter.{Letter}
use Rattle.chain_leader.specs.Calls.{is_write}
use Rattle.chain_leader.specs.Rules.{Table}
use Rattle.chain_leader.specs.Leading.{Leading, Taken, still, proposing, taken, ruled_by, forgetting, chain_in, on_item_by}
use Rattle.chain_leader.specs.Modes.{is_for_chain, IsSilent}

module _ (l : Leading) (unready : l.ready ≡ false) where
  -- nothing leaves, and the leader is as it was
  abbrev Quiet : Taken → Type 0
  Quiet made = (made.letters ≡ []) × (made.leading ≡ l)

  quiet_proposing : (ids : VidKind) (parts part : ℕ) (x : PartEntry) → Quiet (proposing ids parts part l x)
  quiet_proposing ids parts part x = cond_both (is_payload ids parts part x) _ _ Quiet (λ _. (refl, refl)) (λ _. (refl, refl))

  -- what asks for a ready leader
  where_ready : (own : Bool) (made : Taken) → Quiet (cond (l.ready && own) made (still l))
  where_ready own made = cond_both (l.ready && own) _ _ Quiet (λ yes. absurd (false≢true (sym unready ∙ (and_parts l.ready own yes).0))) (λ _. (refl, refl))

  quiet_taken : (ids : VidKind) (parts part term : ℕ) (machine : Part) (body : ChainBody) (from : ℕ) → Quiet (taken ids parts part term machine l body from)
  quiet_taken ids parts part term machine (says.Request number x) from = cond_both (is_write x) _ _ Quiet (λ _. quiet_proposing ids parts part x) (λ _. (refl, refl))
  quiet_taken ids parts part term machine (says.Answer number answer) from = (refl, refl)
  quiet_taken ids parts part term machine (says.NotLeader about other hint) from = (refl, refl)
  quiet_taken ids parts part term machine (says.Remote t v list) from = quiet_proposing ids parts part (entry.Remote from t v list)
  quiet_taken ids parts part term machine (says.Done t v) from = where_ready (t == term) _
  quiet_taken ids parts part term machine (says.Stale t v above) from = (refl, refl)
  quiet_taken ids parts part term machine (says.Fence t v edges) from = quiet_proposing ids parts part (entry.Fence from t v edges)
  quiet_taken ids parts part term machine (says.Fenced t v written) from = where_ready (t == term) _
  quiet_taken ids parts part term machine (says.Resume t after) from = where_ready (t == term) _

  -- no rule is taken
  quiet_rule : (ready : Bool) → ready ≡ false → (term : ℕ) (t : Table) (behind : Part) (said : Applied) → (ruled_by ready term t behind said).letters ≡ []
  quiet_rule true e term t behind said = absurd (false≢true (sym e))
  quiet_rule false e term t behind (Begun v) = refl
  quiet_rule false e term t behind other = refl

  abbrev AreQuiet : List Letter → Type 0
  AreQuiet letters = AllByRecursion (λ (letter : Letter). is_for_chain letter ≡ false) letters

  quiet_item : (parts term : ℕ) (machine : Part) (index : ℕ) (own : Bool) (x : Proposal) → AreQuiet (on_item_by parts term machine l index own x).rules
  quiet_item parts term machine index true Start = (refl, tt)
  quiet_item parts term machine index false Start = tt
  quiet_item parts term machine index own (Members config) = tt
  quiet_item parts term machine index own Blank = tt
  quiet_item parts term machine index own (Made x) =
      (let behind = applied parts index x machine in
      subst AreQuiet (sym (quiet_rule l.ready unready term (forgetting l.table behind.0 (chain_in x)) behind.0 behind.1)) tt)

  pub silent : IsSilent l
  silent = record {
    by_packet = λ ids parts part term machine body from. (quiet_taken ids parts part term machine body from).0;
    as_it_was = λ ids parts part term machine body from. (quiet_taken ids parts part term machine body from).1;
    by_call = λ id. cond-false _ _ _ unready;
    by_pulse = cond-false _ _ _ unready;
    by_item = λ parts term machine index d. quiet_item parts term machine index (d.0 == term) d.1;
  }
