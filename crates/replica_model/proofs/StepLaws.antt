-- The laws of a step.
use Rattle.std.proofs.Common.{◌≡◌, ℕ, suc, ◌<◌, List, [], ◌∷◌, ◌++◌, map, Option, Some, None, Bool, true, false, cond, refl, ap, sym, ◌∙◌, append_assoc, inl, inr, arith}
use Rattle.std.specs.Prelude.{◌==◌, ◌⊎◌, ◌&&◌, nat_lt, not, if◌then◌else◌}
use Rattle.std.specs.List.{AllByRecursion, filter}
use Rattle.std.proofs.lemmas.Bool.{leb-true, ltb-true, and_from, eq-eqb, cond-false, cond_both, both_ways}
use Rattle.raft_log.specs.Log.{config_index}
use Rattle.raft_core.specs.declared.input.RaftInput.{RaftInput}
use Rattle.raft_core.specs.declared.input.RaftInput.TheVariants.{Confirm}
use Rattle.raft_core.specs.Core.{Core, is_leading}
use Rattle.raft_core.specs.Durable.{durable, kept}
use Rattle.raft_core.specs.Laws.{IsPeer}
use Rattle.raft_core.specs.Step.{stepped as raft_stepped}
use Rattle.raft_core.specs.Rounds.{confirmed_of}
use Rattle.raft_core.proofs.StepLaws.{kept_is_all}
use Rattle.raft_core.proofs.Lists.{all_both, all_weaker, all_of-map, all_through-map, all_of-filter}
use Rattle.chain_leader.specs.Leading.{Leading, read}
use Rattle.replica_model.specs.declared.packet.Place.{Place}
use Rattle.replica_model.specs.declared.packet.Packet.{Packet}
use Rattle.replica_model.specs.declared.input.Input.{Input}
use Rattle.replica_model.specs.Spelling.{values_of}
use Rattle.replica_model.specs.Replica.{Home, Row, Replica, machine_of, leads}
use Rattle.replica_model.specs.Asks.{Asks, Nothing, Refuses, Points, Leads, Raft, Reads, asks}
use Rattle.replica_model.specs.Letters.{packets_of}
use Rattle.replica_model.specs.Stepped.{Leaving, leaving, Viewed, policy_behind, led_by, led_of, leads_on, keeps_rows, row_with, rows_with, is_confirmed, answer_row, message_of, works_at, refusal_to, raft_step, does, stepped}
use Rattle.replica_model.specs.Laws.{tells_view, HaveRounds, AnswersRow, WaitedFor, AnswersConfirmed, KeepsRounds, DropsRows, IsNoRemote, IsNoFence}
use Rattle.replica_model.proofs.Letters.{IsOfRules, again_of_rules, TellsNone, IsPlain, rules_told, Works, of_works}
use Rattle.replica_model.proofs.Founded.{Founded, founded}

module _ (home : Home) (r : Replica) (i : Input) where
  one_record_of : (a : Asks) → IsPeer r.core → durable (does home r i a).replica.core ≡ kept (durable r.core) (does home r i a).kept
  one_record_of (Raft asked lead sender) peer = kept_is_all r.core asked peer
  one_record_of (Reads id query) peer = kept_is_all r.core Confirm peer
  one_record_of Nothing peer = refl
  one_record_of (Refuses from other) peer = refl
  one_record_of (Points v hint) peer = refl
  one_record_of (Leads tk) peer = refl

  pub one_record : IsPeer r.core → durable (stepped home r i).replica.core ≡ kept (durable r.core) (stepped home r i).kept
  one_record peer = one_record_of (asks home r i) peer

-- packets of no round, which tell no view
of_none : (part : ℕ) (r : Replica) (n : ℕ) (packets : List Packet) → AllByRecursion TellsNone packets → AllByRecursion (WaitedFor part r n) (map leaving packets)
of_none part r n packets none =
    all_through-map TellsNone (WaitedFor part r n) leaving
    (λ packet no. record { reached = omega arith; counts = λ yes. absurd (both_ways (tells_view packet.body) no yes); waited = λ yes. absurd (both_ways (tells_view packet.body) no yes) })
    packets none

-- what holds of all, twice
pub all_two : {A : Type 0} (P Q : A → Type 0) (xs : List A) → AllByRecursion P xs → AllByRecursion Q xs → AllByRecursion (λ x. P x × Q x) xs
all_two P Q [] p q = tt
all_two P Q (x ∷ xs) p q = ((p.0, q.0), all_two P Q xs p.1 q.1)

-- each of some rows is one of them
each_among : (part me : ℕ) (all front rows : List Row) → all ≡ front ++ rows → AllByRecursion (λ (row : Row). AnswersRow part me all (answer_row part me row)) rows
each_among part me all front [] e = tt
each_among part me all front (row ∷ rows) e = (
  record { front = front; row = row; rest = rows; among = e; is = refl },
  each_among part me all (front ++ row ∷ []) rows (e ∙ sym (append_assoc front (row ∷ []) rows)),
)

module _ (part : ℕ) (r : Replica) where
  -- a row has a round, and waited before the step or begins its round
  abbrev pub IsWaiting : Row → Type 0
  IsWaiting row = (0 < row.round) × (AnswersRow part r.core.me r.rows (answer_row part r.core.me row) ⊎ (r.core.round < row.round))

  -- answers of the rows that are confirmed
  of_rows : (n : ℕ) (rows : List Row) → AllByRecursion IsWaiting rows → AllByRecursion (WaitedFor part r n) (map (answer_row part r.core.me) (filter (is_confirmed n) rows))
  of_rows n [] have = tt
  of_rows n (row ∷ rows) have = go (is_confirmed n row) refl (of_rows n rows have.1)
    where
      go : (b : Bool) → is_confirmed n row ≡ b → AllByRecursion (WaitedFor part r n) (map (answer_row part r.core.me) (filter (is_confirmed n) rows))
          → AllByRecursion (WaitedFor part r n) (map (answer_row part r.core.me) (cond b (row ∷ filter (is_confirmed n) rows) (filter (is_confirmed n) rows)))
      go true e rest = (record { reached = leb-true row.round n e; counts = λ yes. have.0.0; waited = λ yes. have.0.1 }, rest)
      go false e rest = rest

  -- the rows that stand behind a step of the peer
  have_new : (viewed : Option Viewed) (behind : Core) → AllByRecursion IsWaiting (row_with viewed r.core behind)
  have_new None behind = tt
  have_new (Some viewed) behind =
      cond_both (nat_lt r.core.round behind.round) _ _ (AllByRecursion IsWaiting)
      (λ rose. let above = ltb-true r.core.round behind.round rose in ((omega (arith, above), inr above), tt))
      (λ _. tt)

  have_rows : (viewed : Option Viewed) (behind : Core) → HaveRounds r.rows → AllByRecursion IsWaiting (rows_with r.rows viewed r.core behind)
  have_rows viewed behind have =
      let Among : Row → Type 0 = λ row. AnswersRow part r.core.me r.rows (answer_row part r.core.me row) in
      cond_both (keeps_rows r.core behind) _ _ (AllByRecursion IsWaiting)
      (λ _. all_both IsWaiting r.rows (row_with viewed r.core behind)
      (all_weaker (λ row. (0 < row.round) × Among row) IsWaiting (λ row both. (both.0, inl both.1)) r.rows
      (all_two (λ (row : Row). 0 < row.round) Among r.rows have (each_among part r.core.me r.rows [] r.rows refl)))
      (have_new viewed behind))
      (λ _. tt)

module _ (home : Home) (r : Replica) (i : Input) where
  pub of_work : (asked : RaftInput) (senders : ℕ → Option Place) (lead : Leading) → Works (works_at home r (raft_stepped r.core asked) senders lead)
  of_work asked senders lead =
      let st = raft_stepped r.core asked in
      cond_both (is_leading st.core.role) _ _ Works
      (λ _. of_works home r.core.me st.core.term senders (machine_of home r) lead (suc r.core.commit) (values_of home.spelling st.committed))
      (λ _. (tt, tt))

  raft_waits : (asked : RaftInput) (lead : Leading) (sender : Option Place) (viewed : Option Viewed) → AnswersConfirmed home r (raft_step home r i (raft_stepped r.core asked) lead sender viewed)
  raft_waits asked lead sender viewed have =
      let st = raft_stepped r.core asked in
      let led = led_of home r i st lead sender viewed (leads_on r.core st.core) in
      let n = confirmed_of st.core in
      let P : Leaving → Type 0 = WaitedFor home.part r n in
      let work = of_work asked led.senders (led_by led.on lead (policy_behind r.lead.policy st.began i)) in
      let a = map leaving (map (message_of home.part r.core.me) st.sends) in
      let b = map leaving led.worked.answers in
      let c = map (answer_row home.part r.core.me) (filter (is_confirmed n) led.rows) in
      let d = map leaving (packets_of home.part r.core.me st.core.term led.hints None (led.worked.rules ++ led.again)) in
      all_both P ((a ++ b) ++ c) d
      (all_both P (a ++ b) c
      (all_both P a b
      (of_none home.part r n (map (message_of home.part r.core.me) st.sends) (all_of-map TellsNone (message_of home.part r.core.me) (λ send. refl) st.sends))
      (of_none home.part r n led.worked.answers (all_weaker IsPlain TellsNone (λ packet plain. plain.0) led.worked.answers work.0)))
      (of_rows home.part r n led.rows (have_rows home.part r viewed st.core have)))
      (of_none home.part r n (packets_of home.part r.core.me st.core.term led.hints None (led.worked.rules ++ led.again))
      (rules_told home.part r.core.me st.core.term led.hints (led.worked.rules ++ led.again) (all_both IsOfRules led.worked.rules led.again work.1 (again_of_rules led.on r.lead i))))

  waits_of : (a : Asks) → Founded r a → AnswersConfirmed home r (does home r i a)
  waits_of (Raft asked lead sender) is = raft_waits asked lead sender None
  waits_of (Reads id query) is = raft_waits Confirm r.lead None (Some (record { id = id; answer = read (machine_of home r) query }))
  waits_of Nothing is = λ have. tt
  waits_of (Refuses from other) is = λ have. of_none home.part r (confirmed_of r.core) (refusal_to home r from other ∷ []) (refl, tt)
  waits_of (Points v hint) is = λ have. tt
  waits_of (Leads tk) is = λ have. of_none home.part r (confirmed_of r.core) (packets_of home.part r.core.me r.core.term r.hints None tk.letters) (rules_told home.part r.core.me r.core.term r.hints tk.letters is)

  pub reads_wait : AnswersConfirmed home r (stepped home r i)
  reads_wait = waits_of (asks home r i) (founded home r i)

  raft_keeps : (asked : RaftInput) (lead : Leading) (sender : Option Place) (viewed : Option Viewed) → KeepsRounds r (raft_step home r i (raft_stepped r.core asked) lead sender viewed)
  raft_keeps asked lead sender viewed have =
      let st = raft_stepped r.core asked in
      all_of-filter (λ (row : Row). 0 < row.round) (λ (row : Row). not (is_confirmed st.confirmed row)) (rows_with r.rows viewed r.core st.core)
      (all_weaker (IsWaiting home.part r) (λ (row : Row). 0 < row.round) (λ row waiting. waiting.0) (rows_with r.rows viewed r.core st.core) (have_rows home.part r viewed st.core have))

  keeps_of : (a : Asks) → KeepsRounds r (does home r i a)
  keeps_of (Raft asked lead sender) = raft_keeps asked lead sender None
  keeps_of (Reads id query) = raft_keeps Confirm r.lead None (Some (record { id = id; answer = read (machine_of home r) query }))
  keeps_of Nothing = λ have. have
  keeps_of (Refuses from other) = λ have. have
  keeps_of (Points v hint) = λ have. have
  keeps_of (Leads tk) = λ have. have

  pub rounds_are_kept : KeepsRounds r (stepped home r i)
  rounds_are_kept = keeps_of (asks home r i)

  -- a step that is none of the peer's changes neither term nor configuration
  leads_still : is_leading r.core.role ≡ true → keeps_rows r.core r.core ≡ true
  leads_still led = and_from (leads_on r.core r.core) (config_index r.core.log == config_index r.core.log)
      (and_from (is_leading r.core.role && is_leading r.core.role) (r.core.term == r.core.term) (and_from (is_leading r.core.role) (is_leading r.core.role) led led) (eq-eqb r.core.term r.core.term refl))
      (eq-eqb (config_index r.core.log) (config_index r.core.log) refl)

  raft_drops : (asked : RaftInput) (lead : Leading) (sender : Option Place) (viewed : Option Viewed) → DropsRows r (raft_step home r i (raft_stepped r.core asked) lead sender viewed)
  raft_drops asked lead sender viewed led off =
      let behind = (raft_stepped r.core asked).core in
      ap (filter (λ (row : Row). not (is_confirmed (raft_stepped r.core asked).confirmed row)))
      (cond-false (keeps_rows r.core behind) (r.rows ++ row_with viewed r.core behind) [] off)

  drops_of : (a : Asks) → DropsRows r (does home r i a)
  drops_of (Raft asked lead sender) = raft_drops asked lead sender None
  drops_of (Reads id query) = raft_drops Confirm r.lead None (Some (record { id = id; answer = read (machine_of home r) query }))
  drops_of Nothing = λ led off. absurd (both_ways (keeps_rows r.core r.core) off (leads_still led))
  drops_of (Refuses from other) = λ led off. absurd (both_ways (keeps_rows r.core r.core) off (leads_still led))
  drops_of (Points v hint) = λ led off. absurd (both_ways (keeps_rows r.core r.core) off (leads_still led))
  drops_of (Leads tk) = λ led off. absurd (both_ways (keeps_rows r.core r.core) off (leads_still led))

  pub rows_are_dropped : DropsRows r (stepped home r i)
  rows_are_dropped = drops_of (asks home r i)

-- what comes from a client
module _ (home : Home) (r : Replica) where
  nothing_both : (b : Bool) → (if b then Nothing else Nothing) ≡ Nothing
  nothing_both true = refl
  nothing_both false = refl

  pub no_remote : IsNoRemote home r
  no_remote c whom term v list = nothing_both (leads r)

  pub no_fence : IsNoFence home r
  no_fence c whom term v edges = nothing_both (leads r)
