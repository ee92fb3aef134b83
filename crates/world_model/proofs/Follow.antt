-- A Raft step of a replica is followed in the world of chains, whether it leads behind it, on or newly, or doesn't.
use Rattle.std.proofs.Common.{◌≡◌, ◌⊎◌, inl, inr, ℕ, ◌<◌, ◌≤◌, List, [], ◌∷◌, ◌++◌, length, map, Option, None, Some, Bool, true, false, refl, ap, sym, subst, ◌∙◌, arith}
use Rattle.std.specs.Prelude.{◌==◌, ◌&&◌, nat_lt}
use Rattle.std.proofs.lemmas.Bool.{both_ways, cond-true, cond-false, cond_both, cases_Bool, and_from, eq-eqb, ne_eqb}
use Rattle.raft_core.specs.declared.input.RaftInput.{RaftInput}
use Rattle.raft_core.specs.Core.{Core, is_leading, is_ready}
use Rattle.raft_core.specs.Step.{stepped as raft_stepped}
use Rattle.raft_core.specs.Laws.{IsPeer, LedOn, LedNewly}
use Rattle.raft_core.proofs.RoundLaws.{rounds_rise}
use Rattle.raft_core.proofs.StepLaws.{appends_as_leader, commits}
use Rattle.raft_core.proofs.Lists.{all_weaker}
use Rattle.raft_group.specs.Group.{Group, Round, round_begun, rounds_after, led_before, made_on}
use Rattle.raft_group.specs.Facts.{LeadsBy}
use Rattle.chain_leader.specs.declared.letter.Letter.{Letter}
use Rattle.chain_leader.specs.Leading.{Leading}
use Rattle.chain_leader.specs.declared.body.ChainBody.TheVariants as says
use Rattle.chain_world.specs.declared.packet.ChainEnd.TheVariants as ends
use Rattle.chain_world.specs.State.{Chains, Post as ChainPost}
use Rattle.chain_world.specs.World.{is_part}
use Rattle.replica_model.specs.declared.packet.Place.{Place}
use Rattle.replica_model.specs.declared.input.Input.{Input}
use Rattle.replica_model.specs.declared.input.Tick.{Tick}
use Rattle.replica_model.specs.Replica.{Replica}
use Rattle.replica_model.specs.Stepped.{Viewed, senders_with, again_of, leads_on, policy_behind, raft_step}
use Rattle.world_model.specs.State.{Space, home_of, moment_in}
use Rattle.world_model.specs.After.{asked_behind}
use Rattle.world_model.specs.Grouped.{Has}
use Rattle.world_model.specs.Chained.{HasMade, HasLeaders, HasNoOther, IsRow, IsReplica, chain_post}
use Rattle.world_model.proofs.Lists.{has_left}
use Rattle.world_model.proofs.Making.{proposals_of}
use Rattle.world_model.proofs.Preparing.{Prepared}
use Rattle.world_model.proofs.Answering.{added, grown_is, IsAlone}
use Rattle.world_model.proofs.Begins.{heads_on}
use Rattle.world_model.proofs.Ready.{own_stays}
use Rattle.world_model.proofs.Heading.{Headed}
use Rattle.world_model.proofs.Rows.{rows_stay, IsAskedWell}
use Rattle.world_model.proofs.Following.{Followed}
use Rattle.world_model.proofs.Moments.{moment_same, kept_below, moment_now}
use Rattle.world_model.proofs.Stepped.{Steps, step_off, step_on, step_newly, heads_begun, finishes, same_machine}
use Rattle.world_model.proofs.Went.{Went, went_nowhere}
use Rattle.world_model.proofs.Backed.{Elects}

module _ (sp : Space) (told : ℕ → Tick → Type 0) (p y : ℕ) (part : is_part sp.parts p ≡ true) (g h : Group) (c : Chains) (moments : ℕ → ℕ → ℕ → ℕ) (now : ℕ) (r : Replica) (i : Input) (asked : RaftInput) (lead : Leading) (sender : Option Place) (read : Option Viewed)
    (s : Steps sp p y g h c r asked) (made : HasMade sp c p g.leaders) (led : HasLeaders c p g.leaders) (unled : HasNoOther c p g.leaders) (replica : IsReplica sp c g.rounds (moments p) p r) where
  abbrev behind : Core
  behind = (raft_stepped r.core asked).core

  -- the moments of this part's rounds behind the step
  abbrev at_behind : ℕ → ℕ → ℕ
  at_behind = asked_behind moments now p r.core behind p

  peer : IsPeer r.core
  peer = subst IsPeer s.core_old (s.old.peers y)

  -- what was prepared for a leader
  pub record Ready (is : is_leading r.core.role ≡ true) : Type 0 where
    pub above : 0 < r.core.term
    pub pre : Prepared sp told p r.core.term part c (replica.leads is).leader (replica.leads is).is lead (proposals_of sp.spelling (added r.core asked)) sender (again_of true r.lead i)
    pub alone : IsAlone sp told p part c r above (replica.leads is).leader (replica.leads is).is (replica.leads is).lead asked sender
    pub ready : lead.ready ≡ r.lead.ready

  -- where a read begins a round, its leader is ready and what it shows was seen
  abbrev pub IsAsked : Type 0
  IsAsked = ((is_ready r.core ≡ true) ⊎ (read ≡ None)) × IsAskedWell c.posts r.core (length g.decided) read now

  well_on : (o : Option Viewed) (more : List ChainPost) → ((x : ChainPost) → Has c.posts x → Has more x) → IsAskedWell c.posts r.core (length g.decided) o now → IsAskedWell more r.core (length g.decided) o now
  well_on None more grows well = tt
  well_on (Some x) more grows well = λ e. (let seen = well e in (seen.0, grows _ seen.1))

  rounds_stay : (x : Round) → Has g.rounds x → Has (rounds_after g.rounds g.decided r.core behind) x
  rounds_stay x has = cond_both (is_leading behind.role && nat_lt r.core.round behind.round) (g.rounds ++ round_begun (length g.decided) r.core behind ∷ []) g.rounds (λ (xs : List Round). Has xs x)
      (λ rose. has_left g.rounds (round_begun (length g.decided) r.core behind ∷ []) x has) (λ not_so. has)

  three : (a b d : Bool) → a ≡ true → b ≡ true → d ≡ true → (a && b && d) ≡ true
  three a b d e f k = ap (λ x. x && b && d) e ∙ ap (λ x. true && x && d) f ∙ k

  module _ (leading : is_leading behind.role ≡ true) where
    pub headed_on : (on : LedOn r.core asked behind) → Ready on.led → Headed sp told p part c h behind lead (senders_with sender (length behind.log) r.senders) r.core.commit (again_of true r.lead i)
    headed_on on pre =
        let its = s.old.leads y (ap (λ (x : Core). is_leading x.role) s.core_old ∙ on.led) in
        let leader = replica.leads on.led in
        heads_on sp told p part c g.leaders s.old.one_a_term made led unled r pre.above leader.leader leader.is leader.lead leader.applied leader.senders
        its.0 its.1 its.2 (subst (λ (x : Core). LeadsBy x its.1) s.core_old its.3) behind asked (grown_is r.core asked behind.log on.got) on.same_term lead sender (again_of true r.lead i) pre.alone pre.pre h
        (s.leaders ∙ cond-true (is_leading behind.role) _ g.leaders leading
        ∙ cond-true (led_before r.core behind) (map (made_on behind) g.leaders) _ (and_from (is_leading r.core.role) (r.core.term == behind.term) on.led (eq-eqb r.core.term behind.term (sym on.same_term))))

    -- an older round has the moment that it had
    same_moment : LedOn r.core asked behind → (round : ℕ) → round ≤ r.core.round → moment_in (at_behind behind.term) round ≡ moment_in (moments p r.core.term) round
    same_moment on round low =
        moment_same (moments p behind.term) (at_behind behind.term) round (kept_below moments now p r.core behind p behind.term round low)
        ∙ ap (λ t. moment_in (moments p t) round) on.same_term

    goes_on : LedOn r.core asked behind → ((is : is_leading r.core.role ≡ true) → Ready is) → IsAsked → Followed sp told p c h at_behind (raft_step (home_of sp p) r i (raft_stepped r.core asked) lead sender read)
    goes_on on prepared well =
        let leader = replica.leads on.led in
        let pre = prepared on.led in
        let grown = grown_is r.core asked behind.log on.got in
        let ours = senders_with sender (length behind.log) r.senders in
        let headed = headed_on on pre in
        let f = finishes sp told p y part g h c at_behind r i asked lead sender read s made led unled leading (same_machine sp told p y part g h c at_behind r i asked lead sender read s made led unled (added r.core asked) grown) ours lead (again_of true r.lead i) headed in
        step_on sp told p y part g h c at_behind r i asked lead sender read s made led unled leading (added r.core asked) grown
        (three (is_leading r.core.role) (is_leading behind.role) (behind.term == r.core.term) on.led leading (eq-eqb behind.term r.core.term on.same_term))
        headed
        (λ is. own_stays r.core behind (added r.core asked) grown on.same_term (commits r.core asked peer).falls_not (leader.ready (sym pre.ready ∙ is)))
        (rows_stay g.rounds g.decided r.core behind leading f.chains.posts (at_behind behind.term) now (moment_now moments now p r.core behind leading) r.rows read
        (λ kept. all_weaker (IsRow c.posts g.rounds (moments p r.core.term) r.core) (IsRow f.chains.posts (rounds_after g.rounds g.decided r.core behind) (at_behind behind.term) behind)
        (λ row was. record {
          round = was.round;
          begun = rounds_stay was.round was.begun;
          its_term = was.its_term ∙ sym on.same_term;
          its_number = was.its_number;
          within = (let low = was.within in let rise = rounds_rise r.core asked on.led leading (sym on.same_term) in omega arith);
          ready = was.ready;
          seen = λ e. (let seen = was.seen e in (
            seen.0,
            f.posts _ (subst (λ m. Has c.posts (chain_post seen.0 (ends.Client row.id.client) (says.Answer row.id.number row.answer) m)) (sym (same_moment on row.round was.within)) seen.1),
          ));
        }) r.rows leader.rows)
        well.0 (well_on read f.chains.posts f.posts well.1))

    pub not_on : LedNewly r.core behind → leads_on r.core behind ≡ false
    not_on newly =
        elim newly.not_before [
          | inl unled_before ↦ off_first (is_leading r.core.role) (is_leading behind.role) (behind.term == r.core.term) unled_before
          | inr later ↦ off_last (is_leading r.core.role) (is_leading behind.role) (behind.term == r.core.term) (ne_eqb behind.term r.core.term (λ e. (let l = later in omega arith)))
        ]
      where
        off_first : (a b d : Bool) → a ≡ false → (a && b && d) ≡ false
        off_first a b d e = ap (λ x. x && b && d) e

        off_last : (a b d : Bool) → d ≡ false → (a && b && d) ≡ false
        off_last true true d e = e
        off_last true false d e = refl
        off_last false b d e = refl

    begins : Elects told p (policy_behind r.lead.policy (raft_stepped r.core asked).began i) → LedNewly r.core behind → Followed sp told p c h at_behind (raft_step (home_of sp p) r i (raft_stepped r.core asked) lead sender read)
    begins elects newly = step_newly sp told p y part g h c at_behind r i asked lead sender read s made led unled leading elects newly (not_on newly)

  -- Whatever its peer is asked, the chains follow.
  pub follow_raft : ((began : Bool) → Elects told p (policy_behind r.lead.policy began i)) → ((is : is_leading r.core.role ≡ true) → Ready is) → IsAsked → Followed sp told p c h at_behind (raft_step (home_of sp p) r i (raft_stepped r.core asked) lead sender read)
  follow_raft elects prepared well = elim (cases_Bool (is_leading behind.role)) [
    | inr off ↦ step_off sp told p y part g h c at_behind r i asked lead sender read s made led unled off
    | inl leading ↦ elim (appends_as_leader r.core asked peer leading) [ inl on ↦ goes_on leading on prepared well | inr newly ↦ begins leading (elects (raft_stepped r.core asked).began) newly ]
  ]

  -- So does a step that stopped behind its record: its leader begins, or took what came; nothing is decided or applied.
  headed_went : is_leading behind.role ≡ true → {ours : ℕ → Option Place} {l : Leading} {letters : List Letter} → Headed sp told p part c h behind l ours r.core.commit letters → Went sp told p c h c.ledger behind
  headed_went leading headed = record {
    events = headed.events;
    chains = headed.chains;
    is = headed.is;
    backed = headed.backed;
    ledger_is = headed.moves.ledger;
    founded = headed.moves.founded;
    clients = headed.moves.clients;
    others = λ q u other. elim other [
      | inl q_off ↦ headed.moves.others q u (inl q_off)
      | inr rest ↦ elim rest [ inl u_off ↦ headed.moves.others q u (inr u_off) | inr off ↦ absurd (both_ways (is_leading behind.role) off leading) ]
    ];
    posts = headed.moves.posts;
    made = λ is. headed.made;
    led = λ is. headed.led;
    unled = headed.unled;
  }

  pub halt_raft : ((began : Bool) → Elects told p (policy_behind r.lead.policy began i)) → ((is : is_leading r.core.role ≡ true) → Ready is) → Went sp told p c h c.ledger behind
  halt_raft elects prepared = elim (cases_Bool (is_leading behind.role)) [
    | inr off ↦ went_nowhere sp told p c g h c.ledger behind (s.leaders ∙ cond-false (is_leading behind.role) _ g.leaders off) refl (λ is. made) (λ is. led) unled
    | inl leading ↦ elim (appends_as_leader r.core asked peer leading) [
      | inl on ↦ headed_went leading (headed_on leading on (prepared on.led))
      | inr newly ↦ headed_went leading (heads_begun sp told p y part g h c at_behind r i asked lead sender read s made led unled leading (elects (raft_stepped r.core asked).began) newly (not_on leading newly))
    ]
  ]
