-- A leader's step in the world of chains: once its counterpart is there and has proposed what it proposed, all that is
-- decided and applied follows.
use Rattle.std.proofs.Common.{◌≡◌, ◌≢◌, ◌⊎◌, ℕ, suc, ◌+◌, ◌≤◌, List, ◌++◌, length, take, drop, Option, Some, true, ap, sym, subst, ◌∙◌, arith}
use Rattle.std.specs.Prelude.{slice_get}
use Rattle.std.specs.List.{AllByRecursion}
use Rattle.std.proofs.lemmas.List.{length-map, length-drop, length-take}
use Rattle.raft_log.specs.declared.entry.Entry.{Entry}
use Rattle.raft_log.specs.Decided.{Follows}
use Rattle.raft_core.specs.Core.{Core}
use Rattle.raft_core.proofs.Lists.{all_both, all_weaker}
use Rattle.raft_group.specs.Group.{Group, decided_after}
use Rattle.raft_group.specs.Facts.{pairs_of, AgreesWith}
use Rattle.part_keys.specs.declared.proposal.Proposal.{Proposal}
use Rattle.part_rules.specs.Part.{Part}
use Rattle.part_rules.specs.Folded.{folded}
use Rattle.chain_leader.specs.declared.letter.Letter.{Letter}
use Rattle.chain_leader.specs.Leading.{Leading}
use Rattle.chain_world.specs.declared.event.ChainEvent.{ChainEvent}
use Rattle.chain_world.specs.State.{Chains, Leader, Post as ChainPost, decided_of}
use Rattle.chain_world.specs.World.{is_part, run_from}
use Rattle.replica_model.specs.declared.packet.Place.{Place}
use Rattle.replica_model.specs.Spelling.{valued, values_of}
use Rattle.replica_model.specs.Letters.{Worked, works}
use Rattle.replica_model.specs.declared.input.Tick.{Tick}
use Rattle.world_model.specs.State.{Space, home_of}
use Rattle.world_model.specs.After.{ledger_behind}
use Rattle.world_model.specs.Grouped.{Has}
use Rattle.world_model.specs.Chained.{HasMade, HasLeaders, HasNoOther, IsKept}
use Rattle.world_model.proofs.Sending.{Like, AreSentThere, IsSentThere}
use Rattle.world_model.proofs.Moving.{Moves}
use Rattle.world_model.proofs.Applying.{StandOn, KeepsSenders, HasApplied, apply_all, sent_on}
use Rattle.world_model.proofs.Finishing.{decide_behind, committed_stands, committed_keeps, same_front}
use Rattle.world_model.proofs.Calling.{run_more}
use Rattle.world_model.proofs.Making.{made_stays, led_stays, unled_stays}
use Rattle.world_model.proofs.Backed.{Backed, IsPlain, plain_all}

module _ (sp : Space) (told : ℕ → Tick → Type 0) (p : ℕ) (part : is_part sp.parts p ≡ true) (c : Chains) (h : Group) (behind : Core) (lead : Leading) (ours : ℕ → Option Place) (before : ℕ) (letters : List Letter) where
  -- the counterpart is there
  pub record Headed : Type 0 where
    pub events : List ChainEvent
    pub chains : Chains
    pub is : run_from sp.ids sp.parts c events ≡ chains
    pub backed : AllByRecursion (Backed told) events
    pub leader : Leader
    pub moves : Moves c chains p behind.term leader
    pub lead_is : leader.lead ≡ lead
    pub applied_is : leader.applied ≡ before
    pub made : HasMade sp chains p h.leaders
    pub led : HasLeaders chains p h.leaders
    pub unled : HasNoOther chains p h.leaders
    pub kept : (n : ℕ) (s : Place) → ours (suc n) ≡ Some s → IsKept sp behind leader.senders n s
    pub sent : AreSentThere chains.posts p behind.term letters

  -- and behind the step
  pub record Finished (w : Worked) : Type 0 where
    pub events : List ChainEvent
    pub chains : Chains
    pub is : run_from sp.ids sp.parts c events ≡ chains
    pub backed : AllByRecursion (Backed told) events
    pub ledger : chains.ledger ≡ ledger_behind sp c.ledger p behind
    pub founded : chains.founded ≡ c.founded
    pub clients : chains.clients ≡ c.clients
    pub others : (q u : ℕ) → (q ≢ p) ⊎ (u ≢ behind.term) → chains.leaders q u ≡ c.leaders q u
    pub posts : (x : ChainPost) → Has c.posts x → Has chains.posts x
    pub leader : Leader
    pub here : chains.leaders p behind.term ≡ Some leader
    pub lead_is : leader.lead ≡ w.leading
    pub applied_is : leader.applied ≡ behind.commit
    pub made : HasMade sp chains p h.leaders
    pub led : HasLeaders chains p h.leaders
    pub unled : HasNoOther chains p h.leaders
    pub kept : (n : ℕ) (s : Place) → ours (suc n) ≡ Some s → IsKept sp behind leader.senders n s
    pub answers : AllByRecursion (Like chains.posts p behind.term) w.answers
    pub rules : AreSentThere chains.posts p behind.term w.rules
    pub sent : AreSentThere chains.posts p behind.term letters

  module _ (me : ℕ) (decided : List Entry) (same : c.ledger.decided p ≡ values_of sp.spelling decided) (follows : Follows h.leaders (pairs_of h.decided)) (grown : h.decided ≡ decided_after decided behind)
      (now_same : (ledger_behind sp c.ledger p behind).decided p ≡ values_of sp.spelling h.decided) (agrees : AgreesWith h.decided behind)
      (bounded : (k : ℕ) (e : Entry) → slice_get behind.log k ≡ Some e → e.term ≤ behind.term) (rises : before ≤ behind.commit) (within : behind.commit ≤ length behind.log)
      (machine : Part) (machine_is : machine ≡ folded sp.parts (values_of sp.spelling (take before behind.log))) (s : Headed) where
    abbrev committed : List (ℕ × Proposal)
    committed = values_of sp.spelling (drop before (take behind.commit behind.log))

    many : before + length committed ≡ behind.commit
    many =
        (let a = length-map (drop before (take behind.commit behind.log)) (valued sp.spelling) in
        let b = length-drop before (take behind.commit behind.log) in
        let d = length-take behind.commit behind.log in
        omega arith)

    decides : (events : List ChainEvent) × (run_from sp.ids sp.parts s.chains events ≡ record s.chains { ledger = ledger_behind sp s.chains.ledger p behind }) × AllByRecursion IsPlain events
    decides = decide_behind sp p part s.chains behind h s.made decided (ap (λ l. l.decided p) s.moves.ledger ∙ same) follows grown

    abbrev then_chains : Chains
    then_chains = record s.chains { ledger = ledger_behind sp s.chains.ledger p behind }

    list_is : decided_of then_chains p ≡ values_of sp.spelling h.decided
    list_is = ap (λ l. (ledger_behind sp l p behind).decided p) s.moves.ledger ∙ now_same

    applies : HasApplied sp p behind.term me part ours then_chains s.leader (before + length committed) (works (home_of sp p) me behind.term ours machine s.leader.lead (suc before) committed)
    applies = apply_all sp p behind.term me part ours committed then_chains s.leader before machine s.applied_is
        (machine_is ∙ ap (folded sp.parts) (sym (same_front sp p part behind h.decided agrees bounded before rises) ∙ ap (take before) (sym list_is)))
        s.moves.here
        (subst (λ xs. StandOn xs behind.term before committed) (sym list_is) (committed_stands sp p part behind h.decided agrees bounded before rises))
        behind.commit (let m = many in omega arith)
        (subst (λ xs. KeepsSenders xs behind.term behind.commit ours s.leader.senders) (sym list_is) (committed_keeps sp p part behind h.decided agrees bounded ours s.leader.senders s.kept))

    pub finish : Finished (works (home_of sp p) me behind.term ours machine lead (suc before) committed)
    finish = subst (λ l. Finished (works (home_of sp p) me behind.term ours machine l (suc before) committed)) s.lead_is
        (let d = decides in
        let a = applies in
        record {
          events = s.events ++ d.0 ++ a.events;
          chains = a.behind;
          is = run_more sp.ids sp.parts c (s.events ++ d.0) a.events ∙ ap (λ x. run_from sp.ids sp.parts x a.events) (run_more sp.ids sp.parts c s.events d.0 ∙ ap (λ x. run_from sp.ids sp.parts x d.0) s.is ∙ d.1) ∙ a.is;
          backed = all_both (Backed told) (s.events ++ d.0) a.events (all_both (Backed told) s.events d.0 s.backed (plain_all told d.0 d.2)) (plain_all told a.events a.plain);
          ledger = a.moves.ledger ∙ ap (λ l. ledger_behind sp l p behind) s.moves.ledger;
          founded = a.moves.founded ∙ s.moves.founded;
          clients = a.moves.clients ∙ s.moves.clients;
          others = λ q u other. a.moves.others q u other ∙ s.moves.others q u other;
          posts = λ x has. a.moves.posts x (s.moves.posts x has);
          leader = a.leader;
          here = a.moves.here;
          lead_is = a.lead;
          applied_is = a.applied_is ∙ many;
          made = λ k l at. s.made k l at ∙ sym (made_stays then_chains a.behind p behind.term s.leader a.leader s.moves.here a.moves a.made l.term);
          led = λ k l at above. led_stays then_chains a.behind p behind.term s.leader a.leader s.moves.here a.moves a.made l.term (s.led k l at above);
          unled = λ t none. unled_stays then_chains a.behind p behind.term s.leader a.leader s.moves.here a.moves a.made t (s.unled t none);
          kept = λ n x given. subst (λ f. IsKept sp behind f n x) (sym a.senders) (s.kept n x given);
          answers = a.answers;
          rules = a.rules;
          sent = all_weaker (IsSentThere s.chains.posts p behind.term) (IsSentThere a.behind.posts p behind.term) (sent_on s.chains.posts a.behind.posts p behind.term a.moves.posts) letters s.sent;
        })
