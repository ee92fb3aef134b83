-- The laws of hints.
use Rattle.std.proofs.Common.{◌≡◌, ℕ, List, [], ◌∷◌, ◌++◌, map, Option, Some, None, Bool, true, false, refl, ap, sym, ◌∙◌}
use Rattle.std.specs.Prelude.{◌==◌, ◌||◌, not, if◌then◌else◌}
use Rattle.std.specs.List.{AllByRecursion, filter, list_any}
use Rattle.std.specs.FinMap.{contains_key}
use Rattle.std.proofs.lemmas.Bool.{cond_both, both_ways, eqb-true, or_left, or_right, false≢true}
use Rattle.std.proofs.lemmas.Option.{same_Some}
use Rattle.raft_core.specs.declared.input.RaftInput.{RaftInput}
use Rattle.raft_core.specs.declared.input.RaftInput.TheVariants.{Confirm}
use Rattle.raft_core.specs.Step.{stepped as raft_stepped}
use Rattle.raft_core.proofs.Lists.{all_both, all_weaker, all_of-map, all_through-map, all_of-filter_map}
use Rattle.chain_leader.specs.declared.body.ChainBody.{ChainBody}
use Rattle.chain_leader.specs.declared.body.ChainBody.TheVariants as says
use Rattle.chain_leader.specs.declared.letter.Letter.{Letter}
use Rattle.chain_leader.specs.declared.letter.Letter.TheVariants.{Tell, Cross, Back, Again as AgainTo}
use Rattle.chain_leader.specs.Rules.{Table}
use Rattle.chain_leader.specs.Leading.{Leading, read}
use Rattle.replica_model.specs.declared.packet.Place.{Place}
use Rattle.replica_model.specs.declared.packet.Packet.{Packet}
use Rattle.replica_model.specs.declared.input.Input.{Input}
use Rattle.replica_model.specs.Replica.{Home, Row, Replica, machine_of}
use Rattle.replica_model.specs.Asks.{Asks, Nothing, Refuses, Points, Leads, Raft, Reads, asks}
use Rattle.replica_model.specs.Letters.{chain_of, addressed, packets_of, is_about, used}
use Rattle.replica_model.specs.Stepped.{Leaving, leaving, Viewed, policy_behind, led_by, led_of, leads_on, is_confirmed, answer_row, message_of, raft_step, does, stepped}
use Rattle.replica_model.specs.Laws.{writes_of, is_of_chain, KeepsHints, UsesHints, HintsGo}
use Rattle.replica_model.proofs.Letters.{IsOfRules, OfRules, IsOfNone, of_again, again_of_rules, IsPlain}
use Rattle.replica_model.proofs.Founded.{Founded, founded}
use Rattle.replica_model.proofs.StepLaws.{all_two, of_work}

-- the words
pub hints_go : (hints : ℕ → ℕ) (table : Table) (letters : List Letter) → HintsGo hints table letters
hints_go hints table letters = record {
  sent = λ v is. ap (λ b. if b || not (contains_key table v) then 0 else hints v) is;
  gone = λ v off. gone v (list_any (is_about v) letters) (contains_key table v) off;
  stays = λ v none on. ap (λ b. if b || not (contains_key table v) then 0 else hints v) none ∙ ap (λ b. if false || not b then 0 else hints v) on;
}
  where
    gone : (v : ℕ) (sent there : Bool) → there ≡ false → (if sent || not there then 0 else hints v) ≡ 0
    gone v true there off = refl
    gone v false there off = ap (λ b. if false || not b then 0 else hints v) off

-- lists
module _ {A : Type 0} where
  any_each : (test : A → Bool) (xs : List A) → AllByRecursion (λ x. test x ≡ true → list_any test xs ≡ true) xs
  any_each test [] = tt
  any_each test (x ∷ xs) = (
    or_left (test x) (list_any test xs),
    all_weaker (λ y. test y ≡ true → list_any test xs ≡ true) (λ y. test y ≡ true → list_any test (x ∷ xs) ≡ true) (λ y later yes. or_right (test x) (list_any test xs) (later yes)) xs (any_each test xs),
  )

-- a Remote or a Fence that leaves is a letter about its chain
about_of : (v : ℕ) (said : ChainBody) → writes_of v said ≡ true → (chain_of said == v) ≡ true
about_of v (says.Remote term w list) e = e
about_of v (says.Fence term w edges) e = e
about_of v other e = absurd (false≢true e)

module _ (part me term : ℕ) (hints behind : ℕ → ℕ) (v : ℕ) where
  -- what leaves, where the chain of a Remote or a Fence has no hint behind it
  abbrev Uses : Packet → Type 0
  Uses packet = is_of_chain v packet.body ≡ true → behind v ≡ 0

  abbrev UsesIt : Leaving → Type 0
  UsesIt l = Uses l.packet

  abbrev UsedBy : Letter → Type 0
  UsedBy letter = is_about v letter ≡ true → behind v ≡ 0

  by_letter : (letter : Letter) (packet : Packet) → IsOfRules letter × UsedBy letter → addressed part me term hints None letter ≡ Some packet → Uses packet
  by_letter (Tell id a) packet is e it = absurd (false≢true is.0)
  by_letter (Cross q tries said) packet is e it = is.1 (about_of v said (ap (λ (x : Packet). is_of_chain v x.body) (same_Some _ packet e) ∙ it))
  by_letter (Back said) packet is e it = absurd (false≢true is.0)
  by_letter (AgainTo after) packet is e it = absurd (false≢true (ap (λ (x : Packet). is_of_chain v x.body) (same_Some _ packet e) ∙ it))

  by_letters : (letters : List Letter) → OfRules letters → AllByRecursion UsedBy letters → AllByRecursion UsesIt (map leaving (packets_of part me term hints None letters))
  by_letters letters of spent =
      all_through-map Uses UsesIt leaving (λ packet uses. uses) (packets_of part me term hints None letters)
      (all_of-filter_map (λ letter. IsOfRules letter × UsedBy letter) Uses (addressed part me term hints None) by_letter letters (all_two IsOfRules UsedBy letters of spent))

  by_messages : (packets : List Packet) → AllByRecursion (λ (packet : Packet). is_of_chain v packet.body ≡ false) packets → AllByRecursion UsesIt (map leaving packets)
  by_messages packets none = all_through-map (λ (packet : Packet). is_of_chain v packet.body ≡ false) UsesIt leaving (λ packet no yes. absurd (both_ways (is_of_chain v packet.body) no yes)) packets none

  by_rows : (rows : List Row) → AllByRecursion UsesIt (map (answer_row part me) rows)
  by_rows rows = all_of-map UsesIt (answer_row part me) (λ row yes. absurd (false≢true yes)) rows

-- letters whose hints are used up
used_by : (hints : ℕ → ℕ) (table : Table) (letters : List Letter) (v : ℕ) → AllByRecursion (λ letter. is_about v letter ≡ true → used hints table letters v ≡ 0) letters
used_by hints table letters v =
    all_weaker (λ letter. is_about v letter ≡ true → list_any (is_about v) letters ≡ true) (λ letter. is_about v letter ≡ true → used hints table letters v ≡ 0)
    (λ letter there yes. (hints_go hints table letters).sent v (there yes)) letters (any_each (is_about v) letters)

module _ (home : Home) (r : Replica) (i : Input) where
  raft_uses : (asked : RaftInput) (lead : Leading) (sender : Option Place) (viewed : Option Viewed) → UsesHints (raft_step home r i (raft_stepped r.core asked) lead sender viewed)
  raft_uses asked lead sender viewed v =
      let st = raft_stepped r.core asked in
      let led = led_of home r i st lead sender viewed (leads_on r.core st.core) in
      let work = of_work home r i asked led.senders (led_by led.on lead (policy_behind r.lead.policy st.began i)) in
      let part = home.part in
      let me = r.core.me in
      let term = st.core.term in
      let behind = used led.hints led.worked.leading.table led.worked.rules in
      let P : Leaving → Type 0 = λ l. is_of_chain v l.packet.body ≡ true → behind v ≡ 0 in
      let letters = led.worked.rules ++ led.again in
      let a = map leaving (map (message_of part me) st.sends) in
      let b = map leaving led.worked.answers in
      let c = map (answer_row part me) (filter (is_confirmed st.confirmed) led.rows) in
      let d = map leaving (packets_of part me term led.hints None letters) in
      all_both P ((a ++ b) ++ c) d
      (all_both P (a ++ b) c
      (all_both P a b
      (by_messages part me term led.hints behind v (map (message_of part me) st.sends) (all_of-map (λ (packet : Packet). is_of_chain v packet.body ≡ false) (message_of part me) (λ send. refl) st.sends))
      (by_messages part me term led.hints behind v led.worked.answers (all_weaker IsPlain (λ (packet : Packet). is_of_chain v packet.body ≡ false) (λ packet plain. plain.1 v) led.worked.answers work.0)))
      (by_rows part me term led.hints behind v (filter (is_confirmed st.confirmed) led.rows)))
      (by_letters part me term led.hints behind v letters (all_both IsOfRules led.worked.rules led.again work.1 (again_of_rules led.on r.lead i))
      (all_both (λ letter. is_about v letter ≡ true → behind v ≡ 0) led.worked.rules led.again
      (used_by led.hints led.worked.leading.table led.worked.rules v)
      (all_weaker IsOfNone (λ letter. is_about v letter ≡ true → behind v ≡ 0) (λ letter none yes. absurd (both_ways (is_about v letter) (none.1 v) yes)) led.again (of_again led.on r.lead i))))

  uses_of : (a : Asks) → Founded r a → UsesHints (does home r i a)
  uses_of (Raft asked lead sender) is v = raft_uses asked lead sender None v
  uses_of (Reads id query) is v = raft_uses Confirm r.lead None (Some (record { id = id; answer = read (machine_of home r) query })) v
  uses_of Nothing is v = tt
  uses_of (Refuses from other) is v = ((λ yes. absurd (false≢true yes)), tt)
  uses_of (Points w peer) is v = tt
  uses_of (Leads tk) is v =
      by_letters home.part r.core.me r.core.term r.hints (used r.hints tk.leading.table tk.letters) v tk.letters is (used_by r.hints tk.leading.table tk.letters v)

  pub hints_are_used : UsesHints (stepped home r i)
  hints_are_used v = uses_of (asks home r i) (founded home r i) v

  raft_stands : (asked : RaftInput) (lead : Leading) (sender : Option Place) (viewed : Option Viewed) → KeepsHints r (raft_step home r i (raft_stepped r.core asked) lead sender viewed)
  raft_stands asked lead sender viewed stand v off =
      let st = raft_stepped r.core asked in
      let led = led_of home r i st lead sender viewed (leads_on r.core st.core) in
      (hints_go led.hints led.worked.leading.table led.worked.rules).gone v off

  stands_of : (a : Asks) → Founded r a → KeepsHints r (does home r i a)
  stands_of (Raft asked lead sender) is stand v off = raft_stands asked lead sender None stand v off
  stands_of (Reads id query) is stand v off = raft_stands Confirm r.lead None (Some (record { id = id; answer = read (machine_of home r) query })) stand v off
  stands_of Nothing is stand v off = stand v off
  stands_of (Refuses from other) is stand v off = stand v off
  stands_of (Points w peer) is stand v off =
      cond_both (v == w) peer (r.hints v) (λ n. n ≡ 0)
      (λ same. absurd (both_ways (contains_key r.lead.table w) (ap (contains_key r.lead.table) (sym (eqb-true v w same)) ∙ off) is))
      (λ _. stand v off)
  stands_of (Leads tk) is stand v off = (hints_go r.hints tk.leading.table tk.letters).gone v off

  pub hints_are_kept : KeepsHints r (stepped home r i)
  hints_are_kept stand v off = stands_of (asks home r i) (founded home r i) stand v off
