-- A packet that comes to a leader, prepared in the world of chains.
use Rattle.std.proofs.Common.{◌≡◌, ℕ, ◌<◌, map, Some, None, Bool, true, false, refl, sym, subst}
use Rattle.std.specs.Prelude.{◌==◌, ◌&&◌, not}
use Rattle.std.specs.FinMap.{contains_key}
use Rattle.std.proofs.lemmas.Bool.{cond-true, cond_both}
use Rattle.raft_log.specs.declared.message.RaftMsg.{RaftMsg}
use Rattle.raft_core.specs.declared.input.RaftInput.TheVariants as raft
use Rattle.part_keys.specs.declared.entry.PartEntry.{PartEntry}
use Rattle.part_keys.specs.declared.entry.PartEntry.TheVariants as entry
use Rattle.part_keys.specs.declared.proposal.Proposal.TheVariants.{Made}
use Rattle.part_keys.specs.Routing.{belongs}
use Rattle.chain_leader.specs.declared.body.About.TheVariants as about
use Rattle.chain_leader.specs.declared.body.ChainBody.{ChainBody}
use Rattle.chain_leader.specs.declared.body.ChainBody.TheVariants as says
use Rattle.chain_leader.specs.Leading.{taken}
use Rattle.chain_world.specs.State.{Chains, Leader, machine_behind as chain_machine_of}
use Rattle.chain_world.specs.World.{is_part}
use Rattle.replica_model.specs.declared.packet.Place.{Place}
use Rattle.replica_model.specs.declared.packet.Place.TheVariants as place
use Rattle.replica_model.specs.declared.packet.Body.{Body}
use Rattle.replica_model.specs.declared.packet.Body.TheVariants as body
use Rattle.replica_model.specs.declared.packet.Packet.{Packet}
use Rattle.replica_model.specs.declared.input.Input.{Input}
use Rattle.replica_model.specs.declared.input.Input.TheVariants as input
use Rattle.replica_model.specs.declared.input.Tick.{Tick}
use Rattle.replica_model.specs.Replica.{Replica, leads, machine_of, waits}
use Rattle.replica_model.specs.Asks.{Asks, Nothing, Points, Raft, Reads, asks, asks_message, asks_leader, asks_body, may_hear, part_from, kept_sender, may_read, takes, offers, is_sender, query_of, hint_in, read_in, refuses, about_in}
use Rattle.world_model.specs.State.{Space, home_of}
use Rattle.world_model.specs.Chained.{end_in, IsMailed, HasMail, HasInput, IsHeard}
use Rattle.world_model.proofs.Preparing.{Prepared, take_prepared}
use Rattle.world_model.proofs.Answering.{IsPrepared, quiet, offered, tick_prepared}
use Rattle.world_model.proofs.Backed.{IsTold}

first_of : (a b d : Bool) → (a && b && d) ≡ true → a ≡ true
first_of true b d e = refl
first_of false b d e = e

module _ (sp : Space) (told : ℕ → Tick → Type 0) (p : ℕ) (part : is_part sp.parts p ≡ true) (c : Chains) (r : Replica) (above : 0 < r.core.term) (l : Leader) (here : c.leaders p r.core.term ≡ Some l) (lead_is : l.lead ≡ r.lead)
    (machine_is : machine_of (home_of sp p) r ≡ chain_machine_of sp.parts c p l.applied) (led : leads r ≡ true) where
  abbrev Is : Input → Asks → Type 0
  Is i a = IsPrepared sp told p part c r above l here lead_is i a

  module _ (packet : Packet) where
    abbrev i : Input
    i = input.Sent packet

    takes_prepared : (sender : Place) (said : ChainBody) (m : ℕ) → IsMailed c.posts sender (end_in p said) said m → Is i (takes (home_of sp p) r sender said)
    takes_prepared sender said m mail =
        let tk = taken sp.ids sp.parts p r.core.term (machine_of (home_of sp p) r) r.lead said (part_from sender) in
        cond_both (is_sender said sender) (offers sp.spelling tk (kept_sender sender said)) Nothing (Is i)
        (λ well. offered sp told p part c r above l here lead_is i refl tk (kept_sender sender said) tk.proposals
        (subst (λ lead. Prepared sp told p r.core.term part c l here (taken sp.ids sp.parts p r.core.term (machine_of (home_of sp p) r) lead said (part_from sender)).leading
        (map Made (taken sp.ids sp.parts p r.core.term (machine_of (home_of sp p) r) lead said (part_from sender)).proposals) (kept_sender sender said)
        (taken sp.ids sp.parts p r.core.term (machine_of (home_of sp p) r) lead said (part_from sender)).letters) lead_is
        (take_prepared sp told p r.core.term part c l here (machine_of (home_of sp p) r) machine_is sender said m mail)))
        (λ not_so. tt)

    request_prepared : (sender : Place) (number : ℕ) (x : PartEntry) (m : ℕ) → IsMailed c.posts sender (end_in p (says.Request number x)) (says.Request number x) m → Is i (asks_leader (home_of sp p) r sender (says.Request number x) None (query_of x))
    request_prepared sender number (entry.Read id query) m mail = cond_both (may_read (home_of sp p) r (record { id = id; query = query })) (Reads id query) Nothing (Is i)
        (λ may. record { ready = first_of r.lead.ready (belongs sp.ids sp.parts p (entry.Read id query)) (not (waits r.rows id)) may; no_again = refl; number = number; from = mail.from; moment = m; there = mail.there })
        (λ not_so. tt)
    request_prepared sender number (entry.Prime id list absent) m mail = takes_prepared sender (says.Request number (entry.Prime id list absent)) m mail
    request_prepared sender number (entry.Local v) m mail = takes_prepared sender (says.Request number (entry.Local v)) m mail
    request_prepared sender number (entry.Double v) m mail = takes_prepared sender (says.Request number (entry.Double v)) m mail
    request_prepared sender number (entry.Close v) m mail = takes_prepared sender (says.Request number (entry.Close v)) m mail
    request_prepared sender number (entry.Abort v) m mail = takes_prepared sender (says.Request number (entry.Abort v)) m mail
    request_prepared sender number (entry.Remote q u v list) m mail = takes_prepared sender (says.Request number (entry.Remote q u v list)) m mail
    request_prepared sender number (entry.Fence q u v edges) m mail = takes_prepared sender (says.Request number (entry.Fence q u v edges)) m mail
    request_prepared sender number (entry.Vertex id op) m mail = takes_prepared sender (says.Request number (entry.Vertex id op)) m mail

    lead_prepared : (sender : Place) (said : ChainBody) (m : ℕ) → HasMail c.posts sender (end_in p said) said m → Is i (asks_leader (home_of sp p) r sender said (hint_in said) (read_in said))
    lead_prepared sender (says.Request number x) m mail = request_prepared sender number x m mail
    lead_prepared sender (says.Answer number answer) m mail = takes_prepared sender _ m mail
    lead_prepared sender (says.NotLeader (about.Call number) q hint) m mail = quiet sp told p part c r above l here lead_is
    lead_prepared sender (says.NotLeader (about.Chain v) q hint) m mail = cond_both (contains_key r.lead.table v) (Points v hint) Nothing (Is i) (λ has. tt) (λ not. tt)
    lead_prepared sender (says.Remote u v list) m mail = takes_prepared sender _ m mail
    lead_prepared sender (says.Done u v) m mail = takes_prepared sender _ m mail
    lead_prepared sender (says.Stale u v above_it) m mail = takes_prepared sender _ m mail
    lead_prepared sender (says.Fence u v edges) m mail = takes_prepared sender _ m mail
    lead_prepared sender (says.Fenced u v written) m mail = takes_prepared sender _ m mail
    lead_prepared sender (says.Resume u after) m mail = takes_prepared sender _ m mail

    message_prepared : (sender : Place) (m : RaftMsg) → Is i (asks_message (home_of sp p) r sender m)
    message_prepared (place.Client n) m = tt
    message_prepared (place.Peer q a) m = cond_both ((q == p) && may_hear (home_of sp p) m) (Raft (raft.Msg a m) r.lead None) Nothing (Is i) (λ own. (quiet sp told p part c r above l here lead_is, tt)) (λ not. tt)

    body_prepared : (sender : Place) (b : Body) → HasInput c.posts p sender b → Is i (asks_body (home_of sp p) r sender b)
    body_prepared sender (body.Raft m) heard = message_prepared sender m
    body_prepared sender (body.Chain said) heard = subst (Is i) (sym (cond-true (leads r) (asks_leader (home_of sp p) r sender said (hint_in said) (read_in said)) (refuses sender (about_in (home_of sp p) sender said)) led))
        (lead_prepared sender said heard.0 heard.1)

  -- whatever comes to a leader
  pub input_prepared : (j : Input) → IsTold told p j → IsHeard c.posts p j → Is j (asks (home_of sp p) r j)
  input_prepared (input.Sent packet) its heard = body_prepared packet packet.from packet.body heard
  input_prepared (input.Tick t) its heard = tick_prepared sp told p part c r above l here lead_is t its led
