-- What leaves in a step has a spelling, and so has all that the replica holds behind it.
use Rattle.std.proofs.Common.{◌≡◌, ℕ, suc, List, ◌++◌, map, length, Option, None, Some, Bool, true, false, subst, [], ◌∷◌}
use Rattle.std.specs.Prelude.{◌==◌, nat_lt, not, if◌then◌else◌, IfSome}
use Rattle.std.specs.List.{AllByRecursion, filter}
use Rattle.std.proofs.lemmas.Bool.{cond_both}
use Rattle.std.proofs.lemmas.Option.{same_Some, none-some}
use Rattle.raft_log.specs.declared.message.RaftMsg.{RaftMsg}
use Rattle.raft_core.specs.declared.input.RaftInput.{RaftInput}
use Rattle.raft_core.specs.declared.input.RaftInput.TheVariants.{Confirm}
use Rattle.raft_core.specs.Core.{Core, opened as core_opened, is_leading}
use Rattle.raft_core.specs.Laws.{IsPeer}
use Rattle.raft_core.specs.Step.{stepped as raft_stepped}
use Rattle.raft_log.specs.Config.{IsConfig, AreEntries}
use Rattle.raft_log.specs.declared.config.Config.{Config}
use Rattle.raft_log.specs.declared.entry.Item.TheVariants.{Members}
use Rattle.raft_core.specs.Durable.{durable, reopened}
use Rattle.raft_core.proofs.Lists.{all_both, all_of-filter, all_through-map}
use Rattle.raft_core.proofs.StepLaws.{stays_peer, opened_is_peer}
use Rattle.graph_bytes.specs.Fits.{IsSmall}
use Rattle.maps.proofs.Keys.{nat_keys}
use Rattle.part_keys.specs.declared.chain.ChainState.{ChainState}
use Rattle.part_keys.specs.declared.chain.Policy.{Policy}
use Rattle.chain_leader.specs.Leading.{Leading, idle, read}
use Rattle.replica_model.specs.declared.packet.Place.{Place}
use Rattle.replica_model.specs.declared.packet.Packet.{Packet}
use Rattle.replica_model.specs.declared.input.Input.{Input}
use Rattle.replica_model.specs.declared.input.Input.TheVariants as input
use Rattle.replica_model.specs.declared.input.Tick.TheVariants as tick
use Rattle.replica_model.specs.Replica.{Home, Row, Replica, no_senders, machine_of, fresh, opened, created}
use Rattle.replica_model.specs.Spelling.{values_of}
use Rattle.replica_model.specs.Asks.{Asks, Nothing, Refuses, Points, Leads, Raft, Reads, asks}
use Rattle.replica_model.specs.Letters.{packets_of}
use Rattle.replica_model.specs.Stepped.{Leaving, leaving, Stepped, Viewed, leads_on, policy_behind, led_by, senders_with, row_with, keeps_rows, rows_with, is_confirmed, answer_row, message_of, again_of, works_at, led_of, raft_step, does, stepped}
use Rattle.packet_codec.specs.Fits.{HasSpellingPlace, HasSpellingAnswer, HasSpellingMessage, HasSpelling}
use Rattle.replica_spelling.specs.Spelled.{IsHome, AreFitting, IsSpelledState, IsSpelledTable, IsSpelledRow, IsSpelled, IsSpelledInput, AreSpelled}
use Rattle.replica_spelling.proofs.Asked.{IsSpelledRaft, IsSpelledAsks, machine_spelled, asks_spelled}
use Rattle.replica_spelling.proofs.Entries.{values_fit, items_behind, entries_behind, committed_fit, sends_spelled}
use Rattle.replica_spelling.proofs.Held.{held_empty}
use Rattle.replica_spelling.proofs.Letters.{IsSpelledSender, IsSpelledLetter, AreSpelledLetters, back_spelled, packets_spelled}
use Rattle.replica_spelling.proofs.Rules.{AreSpelledSenders, IsSpelledWorked, works_spelled}
use Rattle.replica_spelling.proofs.Views.{view_spelled}

-- what a step leaves, and the replica behind it
abbrev pub IsSpelledStep : Home → Stepped → Type 0
IsSpelledStep home st = AreSpelled st.leaves × IsSpelled home st.replica

abbrev IsSpelledViewed : Option Viewed → Type 0
IsSpelledViewed None = Unit {0}
IsSpelledViewed (Some viewed) = IsSmall viewed.id.client × HasSpellingAnswer viewed.answer

empty_spelled : IsSpelledTable idle.table
empty_spelled = held_empty nat_keys (λ v (chain : ChainState). IsSpelledState chain)

no_senders_spelled : AreSpelledSenders no_senders
no_senders_spelled index sender e = absurd (none-some sender e)

-- a replica that has just come up
pub fresh_spelled : (home : Home) (core : Core) → IsPeer core → AreEntries core.log → AreFitting home core.log → IsSpelled home (fresh core)
fresh_spelled home core peer items fit = record { peer = peer; items = items; entries = fit; table = empty_spelled; senders = no_senders_spelled; rows = tt }

pub created_spelled : (home : Home) (me : ℕ) (first : Option Config) → IfSome first IsConfig → IsSpelled home (created me first)
created_spelled home me None is = fresh_spelled home (core_opened me 0 0 []) (opened_is_peer me 0 0 []) tt tt
created_spelled home me (Some config) is = fresh_spelled home (core_opened me 0 0 (record { term = 0; item = Members config } ∷ [])) (opened_is_peer me 0 0 (record { term = 0; item = Members config } ∷ [])) (is, tt) (tt, tt)

pub reopened_spelled : (home : Home) (r : Replica) (me : ℕ) → IsSpelled home r → IsSpelled home (opened me (durable r.core))
reopened_spelled home r me is = fresh_spelled home (reopened me (durable r.core)) (opened_is_peer me r.core.term r.core.vote r.core.log) is.items is.entries

led_by_spelled : (on : Bool) (lead : Leading) (policy : Policy) → IsSpelledTable lead.table → IsSpelledTable (led_by on lead policy).table
led_by_spelled true lead policy is = is
led_by_spelled false lead policy is = empty_spelled

with_spelled : (sender : Option Place) (last : ℕ) (senders : ℕ → Option Place) → IsSpelledSender sender → AreSpelledSenders senders → AreSpelledSenders (senders_with sender last senders)
with_spelled None last senders is from index s e = from index s e
with_spelled (Some sender) last senders is from index s e =
    cond_both (index == last) (Some sender) (senders index) (λ (o : Option Place). o ≡ Some s → HasSpellingPlace s) (λ _ same. subst HasSpellingPlace (same_Some sender s same) is) (λ _ there. from index s there) e

senders_spelled : (on : Bool) (sender : Option Place) (last : ℕ) (senders : ℕ → Option Place) → IsSpelledSender sender → AreSpelledSenders senders → AreSpelledSenders (if on then senders_with sender last senders else no_senders)
senders_spelled true sender last senders is from = with_spelled sender last senders is from
senders_spelled false sender last senders is from = no_senders_spelled

row_spelled : (viewed : Option Viewed) (before behind : Core) → IsSpelledViewed viewed → AllByRecursion IsSpelledRow (row_with viewed before behind)
row_spelled None before behind is = tt
row_spelled (Some viewed) before behind is = cond_both (nat_lt before.round behind.round) _ _ (AllByRecursion IsSpelledRow) (λ _. (is, tt)) (λ _. tt)

rows_spelled : (rows : List Row) (viewed : Option Viewed) (before behind : Core) → AllByRecursion IsSpelledRow rows → IsSpelledViewed viewed → AllByRecursion IsSpelledRow (rows_with rows viewed before behind)
rows_spelled rows viewed before behind all is = cond_both (keeps_rows before behind) _ _ (AllByRecursion IsSpelledRow)
    (λ _. all_both IsSpelledRow rows (row_with viewed before behind) all (row_spelled viewed before behind is)) (λ _. tt)

again_spelled : (part me : ℕ) (on : Bool) (l : Leading) (i : Input) → AreSpelledLetters part me (again_of on l i)
again_spelled part me false l i = tt
again_spelled part me true l (input.Sent packet) = tt
again_spelled part me true l (input.Tick (tick.Elect policy)) = tt
again_spelled part me true l (input.Tick tick.Pulse) = cond_both l.ready _ _ (AreSpelledLetters part me) (λ _. (tt, tt)) (λ _. tt)
again_spelled part me true l (input.Tick (tick.GiveUp id)) = tt
again_spelled part me true l (input.Tick (tick.Transfer peer)) = tt
again_spelled part me true l (input.Tick (tick.Change change)) = tt

-- packets that leave
leave : (packets : List Packet) → AllByRecursion HasSpelling packets → AreSpelled (map leaving packets)
leave packets all = all_through-map HasSpelling (λ (l : Leaving). HasSpelling l.packet) leaving (λ packet is. is) packets all

messages_leave : (part me : ℕ) (sends : List (ℕ × RaftMsg)) → IsSmall part → AllByRecursion (λ (send : ℕ × RaftMsg). HasSpellingMessage send.1) sends → AreSpelled (map leaving (map (message_of part me) sends))
messages_leave part me sends small all = leave (map (message_of part me) sends)
    (all_through-map (λ (send : ℕ × RaftMsg). HasSpellingMessage send.1) HasSpelling (message_of part me) (λ send is. record { from = small; to = small; body = is }) sends all)

rows_leave : (part me : ℕ) (rows : List Row) → IsSmall part → AllByRecursion IsSpelledRow rows → AreSpelled (map (answer_row part me) rows)
rows_leave part me rows small all = all_through-map IsSpelledRow (λ (l : Leaving). HasSpelling l.packet) (answer_row part me) (λ row is. record { from = small; to = is.0; body = is.1 }) rows all

module _ (home : Home) (at : IsHome home) (r : Replica) (is : IsSpelled home r) where
  -- ---- a step of the Raft peer

  module _ (i : Input) (asked : RaftInput) (lead : Leading) (sender : Option Place) (viewed : Option Viewed) (by : IsSpelledRaft home asked lead sender) (seen : IsSpelledViewed viewed) where
    worked_spelled : (senders : ℕ → Option Place) (l : Leading) → AreSpelledSenders senders → IsSpelledTable l.table → IsSpelledWorked home.part r.core.me (works_at home r (raft_stepped r.core asked) senders l)
    worked_spelled senders l from table =
        let st = raft_stepped r.core asked in
        cond_both (is_leading st.core.role) _ _ (IsSpelledWorked home.part r.core.me)
        (λ _. works_spelled home at.part at.some at.few r.core.me st.core.term senders from (machine_of home r) l (suc r.core.commit) (values_of home.spelling st.committed)
        (values_fit home st.committed (committed_fit home r.core asked is.peer is.entries by.fits)) (machine_spelled home at r is) table)
        (λ _. (table, (tt, tt)))

    raft_spelled : IsSpelledStep home (raft_step home r i (raft_stepped r.core asked) lead sender viewed)
    raft_spelled =
        let st = raft_stepped r.core asked in
        let part = home.part in
        let me = r.core.me in
        let on = leads_on r.core st.core in
        let led = led_of home r i st lead sender viewed on in
        let from = senders_spelled on sender (length st.core.log) r.senders by.from is.senders in
        let work = worked_spelled led.senders (led_by on lead (policy_behind r.lead.policy st.began i)) from (led_by_spelled on lead (policy_behind r.lead.policy st.began i) by.table) in
        let rows = rows_spelled r.rows viewed r.core st.core is.rows seen in
        let letters = led.worked.rules ++ led.again in
        let P : Leaving → Type 0 = λ l. HasSpelling l.packet in
        let a = map leaving (map (message_of part me) st.sends) in
        let b = map leaving led.worked.answers in
        let c = map (answer_row part me) (filter (is_confirmed st.confirmed) led.rows) in
        let d = map leaving (packets_of part me st.core.term led.hints None letters) in (
          all_both P ((a ++ b) ++ c) d
              (all_both P (a ++ b) c
              (all_both P a b
              (messages_leave part me st.sends at.part (sends_spelled r.core asked is.peer is.items by.input))
              (leave led.worked.answers work.1.0))
              (rows_leave part me (filter (is_confirmed st.confirmed) led.rows) at.part (all_of-filter IsSpelledRow (is_confirmed st.confirmed) led.rows rows)))
              (leave (packets_of part me st.core.term led.hints None letters)
              (packets_spelled part me at.part st.core.term led.hints None tt letters
              (all_both (IsSpelledLetter part me) led.worked.rules led.again work.1.1 (again_spelled part me on r.lead i)))),
          record {
            peer = stays_peer r.core asked is.peer;
            items = items_behind home r.core asked is.peer is.items by.input;
            entries = entries_behind home r.core asked is.peer is.entries by.fits;
            table = work.0;
            senders = from;
            rows = all_of-filter IsSpelledRow (λ (row : Row). not (is_confirmed st.confirmed row)) led.rows rows;
          },
        )

  -- ---- what is asked

  read_raft : IsSpelledRaft home Confirm r.lead None
  read_raft = record { input = tt; fits = tt; table = is.table; from = tt }

  same_but : (lead : Leading) (hints : ℕ → ℕ) → IsSpelledTable lead.table → IsSpelled home (record r { lead = lead; hints = hints })
  same_but lead hints table = record { peer = is.peer; items = is.items; entries = is.entries; table = table; senders = is.senders; rows = is.rows }

  does_spelled : (i : Input) (a : Asks) → IsSpelledAsks home r a → IsSpelledStep home (does home r i a)
  does_spelled i Nothing by = (tt, is)
  does_spelled i (Refuses from other) by = ((record { from = at.part; to = back_spelled from by; body = at.part }, tt), is)
  does_spelled i (Points v hint) by = (tt, same_but r.lead (λ w. if w == v then hint else r.hints w) is.table)
  does_spelled i (Leads tk) by = (
    leave (packets_of home.part r.core.me r.core.term r.hints None tk.letters) (packets_spelled home.part r.core.me at.part r.core.term r.hints None tt tk.letters by.1),
    same_but tk.leading _ by.0,
  )
  does_spelled i (Raft asked lead sender) by = raft_spelled i asked lead sender None by tt
  does_spelled i (Reads id query) by = raft_spelled i Confirm r.lead None (Some (record { id = id; answer = read (machine_of home r) query })) read_raft (by, view_spelled (machine_of home r) (machine_spelled home at r is) query)

  pub step_spelled : (i : Input) → IsSpelledInput home i → IsSpelledStep home (stepped home r i)
  step_spelled i heard = does_spelled i (asks home r i) (asks_spelled home at r is i heard)
