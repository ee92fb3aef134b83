-- The counterpart of a replica that leads behind a Raft step: it leads on, or it begins to lead.
use Rattle.std.proofs.Common.{◌≡◌, inl, inr, ℕ, suc, ◌+◌, ◌<◌, List, [], ◌∷◌, ◌++◌, length, take, map, Option, Some, None, true, refl, ap, sym, subst, ◌∙◌, arith, eqb-true}
use Rattle.std.specs.Prelude.{◌==◌}
use Rattle.std.specs.List.{AllByRecursion}
use Rattle.std.proofs.lemmas.Bool.{cond-true, cond-false, cases_Bool}
use Rattle.std.proofs.lemmas.List.{length-map, length-append}
use Rattle.std.proofs.lemmas.Option.{same_Some, none-some}
use Rattle.raft_log.specs.declared.entry.Entry.{Entry}
use Rattle.raft_log.specs.declared.entry.Item.{Item}
use Rattle.raft_log.specs.Decided.{Leadership, count_term}
use Rattle.raft_core.specs.Core.{Core}
use Rattle.raft_core.specs.Votes.{no_op}
use Rattle.raft_core.specs.declared.input.RaftInput.{RaftInput}
use Rattle.raft_group.specs.Group.{Group, begun, made_on}
use Rattle.raft_group.specs.Facts.{pairs_of, StandsAt, HasOneATerm, AgreesWith, LeadsBy}
use Rattle.part_keys.specs.declared.chain.Policy.{Policy}
use Rattle.chain_leader.specs.declared.letter.Letter.{Letter}
use Rattle.chain_leader.specs.Leading.{Leading, idle}
use Rattle.chain_world.specs.declared.event.ChainEvent.TheVariants.{Lead}
use Rattle.chain_world.specs.State.{Chains, Leader, made_by, decided_of, with_leader}
use Rattle.chain_world.specs.World.{is_part, new_leader}
use Rattle.replica_model.specs.declared.packet.Place.{Place}
use Rattle.replica_model.specs.Spelling.{value_of, valued, values_of}
use Rattle.replica_model.specs.Replica.{Replica, no_senders}
use Rattle.replica_model.specs.Stepped.{senders_with}
use Rattle.replica_model.specs.declared.input.Tick.{Tick}
use Rattle.world_model.specs.State.{Space}
use Rattle.world_model.specs.Chained.{HasMade, HasLeaders, HasNoOther, IsKept, AreSendersIn}
use Rattle.world_model.proofs.Sending.{AreSentThere}
use Rattle.world_model.proofs.Moving.{Moves, moves_with, lead_one}
use Rattle.world_model.proofs.Preparing.{Prepared}
use Rattle.world_model.proofs.Answering.{added, IsAlone}
use Rattle.world_model.proofs.Making.{proposals_of, made_here, on_made, on_led, on_unled, new_unled, new_lesser, new_made, new_led, new_no_other}
use Rattle.world_model.proofs.Keeping.{count_log, kept_on, kept_new}
use Rattle.world_model.proofs.Heading.{Headed}
use Rattle.world_model.proofs.Backed.{Elects}

module _ (sp : Space) (told : ℕ → Tick → Type 0) (p : ℕ) (part : is_part sp.parts p ≡ true) (c : Chains) (leaders : List (Leadership Item)) (one : HasOneATerm leaders)
    (made : HasMade sp c p leaders) (led : HasLeaders c p leaders) (unled : HasNoOther c p leaders) where
  -- It leads on.
  module _ (r : Replica) (above : 0 < r.core.term) (l : Leader) (here : c.leaders p r.core.term ≡ Some l) (lead_is : l.lead ≡ r.lead) (applied_is : l.applied ≡ r.core.commit)
      (keeps : (n : ℕ) (s : Place) → r.senders (suc n) ≡ Some s → IsKept sp r.core l.senders n s)
      (k : ℕ) (its : Leadership Item) (there : StandsAt leaders k its) (by : LeadsBy r.core its)
      (behind : Core) (asked : RaftInput) (grown : behind.log ≡ r.core.log ++ added r.core asked) (same : behind.term ≡ r.core.term)
      (lead : Leading) (sender : Option Place) (letters : List Letter) (alone : IsAlone sp told p part c r above l here lead_is asked sender)
      (pre : Prepared sp told p r.core.term part c l here lead (proposals_of sp.spelling (added r.core asked)) sender letters) where
    made_count : count_term (pairs_of r.core.log) r.core.term ≡ length l.made
    made_count =
        count_log r.core its by ∙ sym (length-map its.made (value_of sp.spelling))
        ∙ ap length (made k its there ∙ ap (made_by c p) by.term ∙ made_here c p r.core.term l above here)

    old_kept : (n : ℕ) (s : Place) → r.senders (suc n) ≡ Some s → IsKept sp behind pre.leader.senders n s
    old_kept n s given = kept_on sp r.core behind same (added r.core asked) grown l.senders pre.leader.senders (length l.made) made_count pre.others n s (keeps n s given)

    new_kept : (s : Place) (o : IsAlone sp told p part c r above l here lead_is asked (Some s)) → sender ≡ Some s → IsKept sp behind pre.leader.senders (length r.core.log) s
    new_kept s o given =
        let proposed = ap (proposals_of sp.spelling) o.2 ∙ ap (λ x. x ∷ []) o.4 in
        let known = pre.own o.0 proposed s given in
        kept_new sp r.core behind same o.1 (grown ∙ ap (λ xs. r.core.log ++ xs) o.2) o.3 pre.leader.senders known.0 s
        (ap pre.leader.senders made_count ∙ known.1) (subst (λ x. AreSendersIn x s known.0) (sym o.4) known.2)

    last_is : (s : Place) → IsAlone sp told p part c r above l here lead_is asked (Some s) → (n : ℕ) → suc n ≡ length behind.log → length r.core.log ≡ n
    last_is s o n e =
        (let a : length behind.log ≡ length r.core.log + length (o.1 ∷ []) = ap length (grown ∙ ap (λ xs. r.core.log ++ xs) o.2) ∙ length-append r.core.log (o.1 ∷ []) in
        omega arith)

    all_kept : (o : Option Place) → IsAlone sp told p part c r above l here lead_is asked o → sender ≡ o → (n : ℕ) (s : Place) → senders_with o (length behind.log) r.senders (suc n) ≡ Some s → IsKept sp behind pre.leader.senders n s
    all_kept None one_of is n s given = old_kept n s given
    all_kept (Some first) one_of is n s given = elim (cases_Bool (suc n == length behind.log)) [
      | inl last ↦
          (let its_s : first ≡ s = same_Some first s (sym (cond-true (suc n == length behind.log) (Some first) (r.senders (suc n)) last) ∙ given) in
          subst (λ w. IsKept sp behind pre.leader.senders n w) its_s
          (subst (λ m. IsKept sp behind pre.leader.senders m first) (last_is first one_of n (eqb-true (suc n) (length behind.log) last)) (new_kept first one_of is)))
      | inr other ↦ old_kept n s (sym (cond-false (suc n == length behind.log) (Some first) (r.senders (suc n)) other) ∙ given)
    ]

    pub heads_on : (h : Group) → h.leaders ≡ map (made_on behind) leaders → Headed sp told p part c h behind lead (senders_with sender (length behind.log) r.senders) r.core.commit letters
    heads_on h leaders_are = record {
      events = pre.events;
      chains = pre.behind;
      is = pre.is;
      backed = pre.backed;
      leader = pre.leader;
      moves = subst (λ t. Moves c pre.behind p t pre.leader) (sym same) pre.moves;
      lead_is = pre.lead_is;
      applied_is = pre.applied_is ∙ applied_is;
      made = subst (λ xs. HasMade sp pre.behind p xs) (sym leaders_are) (on_made sp p c leaders one made led unled r.core behind (added r.core asked) grown same k its there by l pre.leader here pre.behind pre.moves pre.made);
      led = subst (λ xs. HasLeaders pre.behind p xs) (sym leaders_are) (on_led sp p c leaders one made led unled r.core behind (added r.core asked) grown same k its there by l pre.leader here pre.behind pre.moves pre.made);
      unled = subst (λ xs. HasNoOther pre.behind p xs) (sym leaders_are) (on_unled sp p c leaders one made led unled r.core behind (added r.core asked) grown same k its there by l pre.leader here pre.behind pre.moves pre.made);
      kept = all_kept sender alone refl;
      sent = subst (λ t. AreSentThere pre.behind.posts p t letters) (sym same) pre.sent;
    }

  -- It begins to lead.
  module _ (before behind : Core) (grown : behind.log ≡ before.log ++ no_op behind.term ∷ []) (above : 0 < behind.term)
      (k : ℕ) (its : Leadership Item) (there : StandsAt (leaders ++ begun before behind ∷ []) k its) (by : LeadsBy behind its) (new_one : HasOneATerm (leaders ++ begun before behind ∷ []))
      (decided : List Entry) (agrees : AgreesWith decided before) (list_is : decided_of c p ≡ values_of sp.spelling decided) (policy : Policy) where
    abbrev begun_chains : Chains
    begun_chains = with_leader c p behind.term (new_leader policy before.commit)

    begun_moves : Moves c begun_chains p behind.term (new_leader policy before.commit)
    begun_moves = (let m = moves_with c p behind.term (new_leader policy before.commit) [] in
        record { ledger = refl; founded = refl; clients = refl; here = m.here; others = m.others; posts = λ x h. h })

    pub heads_newly : Elects told p policy → (h : Group) → h.leaders ≡ leaders ++ begun before behind ∷ [] → Headed sp told p part c h behind (record idle { policy = policy }) no_senders before.commit []
    heads_newly elects h leaders_are = record {
      events = Lead p behind.term policy before.commit ∷ [];
      chains = begun_chains;
      is = lead_one sp.ids sp.parts p behind.term part c policy before.commit above
          (new_unled sp p c leaders one made led unled before behind grown above k its there by new_one)
          (let a = agrees.within in let b = ap length list_is ∙ length-map decided (valued sp.spelling) in omega arith)
          (subst (λ xs. AllByRecursion (λ e. e.0 < behind.term) (take before.commit xs)) (sym list_is) (new_lesser sp p c leaders one made led unled before behind grown above k its there by new_one decided agrees));
      backed = (elects, tt);
      leader = new_leader policy before.commit;
      moves = begun_moves;
      lead_is = refl;
      applied_is = refl;
      made = subst (λ xs. HasMade sp begun_chains p xs) (sym leaders_are) (new_made sp p c leaders one made led unled before behind grown above k its there by new_one policy before.commit begun_chains begun_moves);
      led = subst (λ xs. HasLeaders begun_chains p xs) (sym leaders_are) (new_led sp p c leaders one made led unled before behind grown above k its there by new_one policy before.commit begun_chains begun_moves);
      unled = subst (λ xs. HasNoOther begun_chains p xs) (sym leaders_are) (new_no_other sp p c leaders one made led unled before behind grown above k its there by new_one policy before.commit begun_chains begun_moves);
      kept = λ n s given. absurd (none-some s given);
      sent = tt;
    }
