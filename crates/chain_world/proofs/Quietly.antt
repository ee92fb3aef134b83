-- A leader moves and sends no Remote and no Fence.
use Rattle.std.proofs.Common.{◌≡◌, ℕ, ◌≤◌, List, ◌++◌, length, Some, sym, ◌∙◌}
use Rattle.std.proofs.lemmas.Bool.{false≢true}
use Rattle.part_keys.specs.declared.proposal.Proposal.{Proposal}
use Rattle.chain_world.specs.declared.packet.ChainEnd.{ChainEnd}
use Rattle.chain_world.specs.Places.{Among}
use Rattle.chain_world.specs.Course.{Courses}
use Rattle.chain_world.specs.State.{Post, Leader, Chains, decided_of}
use Rattle.chain_world.specs.Invariant.Protocol.{HasPut, HasFenced, IsMeant, IsProposed, IsKept, IsKeptSender, IsReadyIf}
use Rattle.chain_world.proofs.Staying.{AreQuiet, quiet_put, quiet_fenced}
use Rattle.chain_world.proofs.Moving.{leader_set, moved, moves_kept, ready_less}

module _ (parts : ℕ) (s : Chains) (k : Courses) (kept : IsKept parts s k) (p t : ℕ) (l : Leader) (is : s.leaders p t ≡ Some l) (behind : Leader) (xs : List Proposal) (made : behind.made ≡ l.made ++ xs) (more : List Post) (quiet : AreQuiet more) where
  abbrev world : Chains
  world = moved parts s k kept p t l is behind xs made more

  -- what it sent is what it sent before
  pub put_less : (v : ℕ) → HasPut world p t v → HasPut s p t v
  put_less v = quiet_put s s.ledger.steps s.founded (leader_set s.leaders p t behind) more s.clients quiet p t v

  pub fenced_less : (v : ℕ) → HasFenced world p t v → HasFenced s p t v
  fenced_less v = quiet_fenced s s.ledger.steps s.founded (leader_set s.leaders p t behind) more s.clients quiet p t v

  -- the leader's new state is as ready
  pub quietly_kept : behind.applied ≤ length (decided_of s p) → ((n : ℕ) (sender : ChainEnd) → behind.senders n ≡ Some sender → IsKeptSender behind.made n sender)
      → IsReadyIf parts (decided_of s p) (HasPut s p t) (HasFenced s p t) t behind.applied behind.lead.table behind.lead.ready
      → ((x : Proposal) → Among x xs → IsProposed parts world k p t x)
      → ((post : Post) → Among post more → IsMeant parts world k post)
      → IsKept parts world k
  quietly_kept within senders rules proposes says = moves_kept parts s k kept p t l is behind xs made more (record {
    mine = λ post among chains. absurd (false≢true (sym (quiet post among) ∙ chains));
    proposes = proposes;
    says = says;
    one_mode = λ v a b. kept.one_mode p t v (put_less v a) (fenced_less v b);
    unput = λ v u c a known fate. kept.unput p t v u c (put_less v a) known fate;
    led = record {
      above = (kept.leaders p t l is).above;
      within = within;
      senders = senders;
      rules = ready_less parts (decided_of s p) t behind.applied behind.lead.table (HasPut s p t) (HasFenced s p t) (HasPut world p t) (HasFenced world p t) put_less fenced_less behind.lead.ready rules;
    };
  })
