-- What leaves in a step: messages of the group, and packets about calls and chains.
use Rattle.std.proofs.Common.{◌≡◌, ℕ, zero, suc, List, [], ◌∷◌, ◌++◌, map, Option, Some, None, Bool, refl, sym, subst}
use Rattle.std.specs.Prelude.{slice_get}
use Rattle.std.specs.List.{AllByRecursion, filter}
use Rattle.std.proofs.lemmas.Option.{same_Some, none-some}
use Rattle.std.proofs.lemmas.Bool.{cond_both}
use Rattle.raft_log.specs.declared.message.RaftMsg.{RaftMsg}
use Rattle.raft_core.specs.declared.input.RaftInput.{RaftInput}
use Rattle.raft_core.specs.Core.{is_leading}
use Rattle.raft_core.specs.Step.{Stepped as RaftStepped, stepped as raft_stepped}
use Rattle.raft_core.proofs.Lists.{all_of-map, all_through-map, all_of-filter_map, all_both}
use Rattle.raft_group.specs.Group.{Group, sent_by, with_step}
use Rattle.raft_group.proofs.Places.{all_places}
use Rattle.part_keys.specs.declared.proposal.Proposal.{Proposal}
use Rattle.part_rules.specs.Part.{Part}
use Rattle.part_rules.specs.Folded.{item_applied}
use Rattle.chain_leader.specs.declared.letter.Letter.{Letter}
use Rattle.chain_leader.specs.declared.letter.Letter.TheVariants.{Tell, Cross, Back, Again}
use Rattle.chain_leader.specs.Leading.{Leading, Taken, on_item}
use Rattle.replica_model.specs.declared.packet.Place.{Place}
use Rattle.replica_model.specs.declared.packet.Packet.{Packet}
use Rattle.replica_model.specs.declared.input.Input.{Input}
use Rattle.replica_model.specs.Spelling.{values_of}
use Rattle.replica_model.specs.Replica.{Home, Replica, machine_of}
use Rattle.replica_model.specs.Letters.{Worked, addressed, packets_of, works}
use Rattle.replica_model.specs.Stepped.{Leaving, leaving, Viewed, Led, led_of, message_of, answer_row, is_confirmed, led_by, policy_behind, leaves_of, rules_behind}
use Rattle.world_model.specs.State.{Post, posted}
use Rattle.world_model.specs.Grouped.{Has, IsCarried}
use Rattle.world_model.proofs.Lists.{map_has, has_right}

-- what holds of each holds of the one that stands there
pub all_at : {A : Type 0} (P : A → Type 0) (xs : List A) → AllByRecursion P xs → (k : ℕ) (x : A) → slice_get xs k ≡ Some x → P x
all_at P [] all k x e = absurd (none-some x e)
all_at P (z ∷ xs) all zero x e = subst P (same_Some z x e) all.0
all_at P (z ∷ xs) all (suc k) x e = all_at P xs all.1 k x e

module _ (g : ℕ → Group) where
  abbrev pub Carried : Packet → Type 0
  Carried packet = IsCarried g packet.from packet.to packet.body

  abbrev pub AreCarried : List Leaving → Type 0
  AreCarried leaves = AllByRecursion (λ (l : Leaving). Carried l.packet) leaves

  -- with their moments
  pub carried_posts : (asked : ℕ → ℕ) (leaves : List Leaving) → AreCarried leaves → AllByRecursion (λ (post : Post). Carried post.packet) (map (posted asked) leaves)
  carried_posts asked leaves all = all_through-map (λ (l : Leaving). Carried l.packet) (λ (post : Post). Carried post.packet) (posted asked) (λ l c. c) leaves all

  one : (x y : Packet) → Carried x → Some x ≡ Some y → Carried y
  one x y c e = subst Carried (same_Some x y e) c

  module _ (part me term : ℕ) (hints : ℕ → ℕ) where
    letter_carried : (sender : Option Place) (letter : Letter) (packet : Packet) → Unit {0} → addressed part me term hints sender letter ≡ Some packet → Carried packet
    letter_carried sender (Tell id answer) packet u e = one _ packet tt e
    letter_carried sender (Cross q tries said) packet u e = one _ packet tt e
    letter_carried None (Back said) packet u e = absurd (none-some packet e)
    letter_carried (Some from) (Back said) packet u e = one _ packet tt e
    letter_carried sender (Again after) packet u e = one _ packet tt e

    each_unit : (letters : List Letter) → AllByRecursion (λ (letter : Letter). Unit {0}) letters
    each_unit [] = tt
    each_unit (letter ∷ letters) = (tt, each_unit letters)

    letters_carried : (sender : Option Place) (letters : List Letter) → AllByRecursion Carried (packets_of part me term hints sender letters)
    letters_carried sender letters = all_of-filter_map (λ (letter : Letter). Unit {0}) Carried (addressed part me term hints sender) (letter_carried sender) letters (each_unit letters)

  left : (packets : List Packet) → AllByRecursion Carried packets → AreCarried (map leaving packets)
  left packets all = all_through-map Carried (λ (l : Leaving). Carried l.packet) leaving (λ packet c. c) packets all

  module _ (home : Home) (me term : ℕ) (senders : ℕ → Option Place) where
    works_carried : (machine : Part) (l : Leading) (index : ℕ) (entries : List (ℕ × Proposal)) → AllByRecursion Carried (works home me term senders machine l index entries).answers
    works_carried machine l index [] = tt
    works_carried machine l index (d ∷ entries) =
        let first = on_item home.parts term machine l index d in
        all_both Carried (packets_of home.part me term (λ v. 0) (senders index) first.answers) _ (letters_carried home.part me term (λ v. 0) (senders index) first.answers)
        (works_carried (item_applied home.parts index d.1 machine).0 first.leading (suc index) entries)

  module _ (home : Home) (r : Replica) (i : Input) (st : RaftStepped) (lead : Leading) (sender : Option Place) (asked : Option Viewed) (on : Bool)
      (sends : AllByRecursion (λ (send : ℕ × RaftMsg). Carried (message_of home.part r.core.me send)) st.sends) where
    abbrev led : Led
    led = led_of home r i st lead sender asked on

    answers_carried : AllByRecursion Carried led.worked.answers
    answers_carried = cond_both (is_leading st.core.role)
        (works home r.core.me st.core.term led.senders (machine_of home r) (led_by on lead (policy_behind r.lead.policy st.began i)) (suc r.core.commit) (values_of home.spelling st.committed))
        (record { leading = led_by on lead (policy_behind r.lead.policy st.began i); answers = []; rules = [] })
        (λ (w : Worked). AllByRecursion Carried w.answers)
        (λ yes. works_carried home r.core.me st.core.term led.senders (machine_of home r) (led_by on lead (policy_behind r.lead.policy st.began i)) (suc r.core.commit) (values_of home.spelling st.committed))
        (λ no. tt)

    pub step_carried : AreCarried (leaves_of home r.core.me st led)
    step_carried =
        let a = map leaving (map (message_of home.part r.core.me) st.sends) in
        let b = map leaving led.worked.answers in
        let c = map (answer_row home.part r.core.me) (filter (is_confirmed st.confirmed) led.rows) in
        let d = map leaving (packets_of home.part r.core.me st.core.term led.hints None (led.worked.rules ++ led.again)) in
        let P : Leaving → Type 0 = λ l. Carried l.packet in
        all_both P ((a ++ b) ++ c) d
        (all_both P (a ++ b) c
        (all_both P a b
        (left (map (message_of home.part r.core.me) st.sends) (all_through-map (λ (send : ℕ × RaftMsg). Carried (message_of home.part r.core.me send)) Carried (message_of home.part r.core.me) (λ send c. c) st.sends sends))
        (left led.worked.answers answers_carried))
        (all_of-map P (answer_row home.part r.core.me) (λ row. tt) (filter (is_confirmed st.confirmed) led.rows)))
        (left (packets_of home.part r.core.me st.core.term led.hints None (led.worked.rules ++ led.again)) (letters_carried home.part r.core.me st.core.term led.hints None (led.worked.rules ++ led.again)))

  -- what the leader's rules send alone
  pub rules_carried : (home : Home) (r : Replica) (tk : Taken) → AreCarried (rules_behind home r tk).leaves
  rules_carried home r tk =
      left (packets_of home.part r.core.me r.core.term r.hints None tk.letters) (letters_carried home.part r.core.me r.core.term r.hints None tk.letters)

-- the messages of a step are sent in the group behind it
module _ (g : ℕ → Group) (part y : ℕ) (h : Group) (i : RaftInput) (is : g part ≡ with_step h y (raft_stepped (h.core y) i)) where
  pub step_sends : AllByRecursion (λ (send : ℕ × RaftMsg). Carried g (message_of part y send)) (raft_stepped (h.core y) i).sends
  step_sends = all_places (λ (send : ℕ × RaftMsg). Carried g (message_of part y send)) (raft_stepped (h.core y) i).sends
      (λ j send at. (
        refl,
        subst (λ (x : Group). Has x.sent (sent_by y send)) (sym is)
            (has_right h.sent (map (sent_by y) (raft_stepped (h.core y) i).sends) (sent_by y send) (map_has (sent_by y) (raft_stepped (h.core y) i).sends send (j, at))),
      ))
