-- What each rule keeps of the log, and what it puts behind that.
use Rattle.std.proofs.Common.{◌≡◌, inl, inr, ℕ, ◌≤◌, List, [], ◌∷◌, length, drop, Ok, Err, Bool, true, false, refl, sym, subst, arith, length-drop}
use Rattle.std.specs.Prelude.{◌==◌, nat_lt, nat_le, ◌&&◌}
use Rattle.std.proofs.lemmas.Bool.{cases_Bool, cond_both}
use Rattle.raft_log.specs.declared.entry.Entry.{Entry}
use Rattle.raft_log.specs.declared.mark.Mark.{Mark}
use Rattle.raft_log.specs.declared.message.RaftMsg.{RaftMsg}
use Rattle.raft_log.specs.declared.message.RaftMsg.TheVariants.{Append, Appended, Vote, Voted, TimeoutNow}
use Rattle.raft_log.specs.Config.{IsConfig, AreEntries}
use Rattle.raft_log.specs.Log.{matches, config_of}
use Rattle.member_change.specs.declared.change.Change.{Change}
use Rattle.member_change.specs.Permit.{Answer, member_in}
use Rattle.member_change.proofs.Rows.{answers_by_rows}
use Rattle.member_change.proofs.Members.{changed_kept}
use Rattle.raft_core.specs.declared.input.RaftInput.{RaftInput}
use Rattle.raft_core.specs.declared.input.RaftInput.TheVariants.{Msg, Elect, Pulse, Propose, Transfer, Change as ChangeInput, Confirm}
use Rattle.raft_core.specs.Ahead.{IsMessage, IsInput}
use Rattle.raft_core.specs.Core.{Core, Made, Sends, said, is_leading, is_voter}
use Rattle.raft_core.specs.Votes.{term_in, past_terms, with_term, turned_down, grants, voted, has_won, ruled, standing, asking, may_stand, stood, with_vote, counts, counted}
use Rattle.raft_core.specs.Appends.{stays, missing, following, is_out_of_order, taken, told, cleared, led, committing, appending}
use Rattle.raft_core.specs.Members.{may_follow, matched_in, permitted, changed_by, members_changed}
use Rattle.raft_core.specs.Rounds.{past_rounds}
use Rattle.raft_core.specs.Step.{handled, on_message, pulsed, made_of}
use Rattle.raft_core.proofs.Behind.{within_matching}

-- no more of a log than there is, and entries behind it whose configurations are ones
pub record Keeps (log : List Entry) (made : Made) : Type 0 where
  pub within : made.keep ≤ length log
  pub items : AreEntries made.entries

keeps_said : (core : Core) (sends : Sends) → Keeps core.log (said core sends)
keeps_said core sends = record { within = omega arith; items = tt }

keeps_ruled : (core : Core) (sends : Sends) (began : Bool) → Keeps core.log (ruled core sends began)
keeps_ruled core sends began = cond_both (has_won core) _ _ (Keeps core.log)
    (λ won. record { within = omega arith; items = (tt, tt) })
    (λ lost. record { within = omega arith; items = tt })

keeps_stood : (core : Core) → Keeps core.log (stood core)
keeps_stood core = cond_both (may_stand core) _ _ (Keeps core.log) (λ may. keeps_ruled (standing core) (asking (standing core)) true) (λ not. keeps_said core [])

-- entries that came
stays_within : (own new : List Entry) → stays own new ≤ length own
stays_within [] new = omega arith
stays_within (entry ∷ own) [] = omega arith
stays_within (entry ∷ own) (other ∷ new) = let h = stays_within own new in elim (cases_Bool (entry.term == other.term)) [
  | inl same ↦ rw same (omega (arith, h))
  | inr apart ↦ rw apart (omega arith)
]

missing_are : (own new : List Entry) → AreEntries new → AreEntries (missing own new)
missing_are [] new are = are
missing_are (entry ∷ own) [] are = tt
missing_are (entry ∷ own) (other ∷ new) are = let h = missing_are own new are.1 in elim (cases_Bool (entry.term == other.term)) [
  | inl same ↦ rw same h
  | inr apart ↦ rw apart are
]

keeps_taken : (core : Core) (from : ℕ) (previous : Mark) (commit round : ℕ) (entries : List Entry) → AreEntries entries → Keeps core.log (taken core from previous commit round entries)
keeps_taken core from previous commit round entries are = cond_both (is_out_of_order core previous entries) _ _ (Keeps core.log)
    (λ out. keeps_said core [])
    (λ order. cond_both (matches core.log previous.index previous.term) _ _ (Keeps core.log)
    (λ is.
    let w = within_matching core.log previous.index previous.term is in
    let s = stays_within (drop previous.index core.log) entries in
    let d = length-drop previous.index core.log in
    record { within = omega arith; items = missing_are (drop previous.index core.log) entries are })
    (λ not. keeps_said (following core from) _))

keeps_voted : (core : Core) (from : ℕ) (last : Mark) → Keeps core.log (voted core from last)
keeps_voted core from last = cond_both (grants core from last) _ _ (Keeps core.log) (λ is. keeps_said (record core { vote = from }) _) (λ not. keeps_said core _)

keeps_counted : (core : Core) (from : ℕ) (granted : Bool) → Keeps core.log (counted core from granted)
keeps_counted core from granted = cond_both (counts core from granted) _ _ (Keeps core.log) (λ is. keeps_ruled (with_vote core from) [] false) (λ not. keeps_said core [])

keeps_told : (core : Core) (from : ℕ) (ok : Bool) (index round : ℕ) → Keeps core.log (said (told core from ok index round) [])
keeps_told core from ok index round = cond_both (is_leading core.role && nat_le index (length core.log)) _ _ (λ c. Keeps core.log (said c []))
    (λ is. record { within = omega arith; items = tt }) (λ not. keeps_said core [])

keeps_handled : (core : Core) (from : ℕ) (message : RaftMsg) → IsMessage message → Keeps core.log (handled core from message)
keeps_handled core from (Append term previous commit round entries) is = keeps_taken core from previous commit round entries is
keeps_handled core from (Appended term ok index round) is = keeps_told core from ok index round
keeps_handled core from (Vote term last) is = keeps_voted core from last
keeps_handled core from (Voted term granted) is = keeps_counted core from granted
keeps_handled core from (TimeoutNow term) is = keeps_stood core

keeps_turned_down : (core : Core) (from : ℕ) (message : RaftMsg) → Keeps core.log (turned_down core from message)
keeps_turned_down core from (Append term previous commit round entries) = keeps_said core _
keeps_turned_down core from (Appended term ok index round) = keeps_said core _
keeps_turned_down core from (Vote term last) = keeps_said core _
keeps_turned_down core from (Voted term granted) = keeps_said core _
keeps_turned_down core from (TimeoutNow term) = keeps_said core _

keeps_message : (core : Core) (from : ℕ) (message : RaftMsg) → IsMessage message → Keeps core.log (on_message core from message)
keeps_message core from message is = cond_both (term_in message == past_terms) _ _ (Keeps core.log)
    (λ past. keeps_said core [])
    (λ fits. cond_both (nat_lt (term_in message) core.term) _ _ (Keeps core.log)
    (λ old. keeps_turned_down core from message)
    (λ new. cond_both (nat_lt core.term (term_in message)) _ _ (λ c. Keeps core.log (handled c from message))
    (λ above. keeps_handled (with_term core (term_in message)) from message is)
    (λ own. keeps_handled core from message is)))

keeps_pulsed : (core : Core) → Keeps core.log (pulsed core)
keeps_pulsed core = cond_both (is_leading core.role) _ _ (Keeps core.log)
    (λ leads. keeps_said (cleared core) [])
    (λ not. cond_both (core.heard && is_voter core) _ _ (Keeps core.log) (λ heard. keeps_said (record core { heard = false }) []) (λ quiet. keeps_stood core))

keeps_changed : (core : Core) (change : Change) → IsConfig (config_of core.log) → Keeps core.log (members_changed core change)
keeps_changed core change is = cond_both (is_leading core.role) _ _ (Keeps core.log) (λ leads. answered (permitted core change) refl) (λ not. keeps_said core [])
  where
    answered : (answer : Answer) → permitted core change ≡ answer → Keeps core.log (changed_by core change answer)
    answered (Ok config) e =
        let p = answers_by_rows core.role core.log core.commit core.term core.me (matched_in core.rows (member_in change)) change config e in
        record { within = omega arith; items = (subst IsConfig (sym p.is) (changed_kept (config_of core.log) change is p.named p.new p.place), tt) }
    answered (Err refusal) e = keeps_said core []

pub keeps_rules : (core : Core) (input : RaftInput) → IsConfig (config_of core.log) → IsInput input → Keeps core.log (made_of core input)
keeps_rules core (Msg from message) config is = keeps_message core from message is
keeps_rules core Elect config is = keeps_stood core
keeps_rules core Pulse config is = keeps_pulsed core
keeps_rules core (Propose bytes) config is = cond_both (is_leading core.role) _ _ (Keeps core.log) (λ leads. record { within = omega arith; items = (tt, tt) }) (λ not. keeps_said core [])
keeps_rules core (Transfer peer) config is = cond_both (is_leading core.role && may_follow core peer) _ _ (Keeps core.log) (λ may. keeps_said core _) (λ not. keeps_said core [])
keeps_rules core (ChangeInput change) config is = keeps_changed core change config
keeps_rules core Confirm config is = cond_both (is_leading core.role && nat_lt core.round past_rounds) _ _ (Keeps core.log) (λ may. record { within = omega arith; items = tt }) (λ not. keeps_said core [])

-- what stands behind a leader's step keeps and puts the same
pub led_keeps : (made : Made) → ((led made).keep ≡ made.keep) × ((led made).entries ≡ made.entries)
led_keeps made = cond_both (is_leading made.core.role) (record made { core = appending (committing made.core); sends = _ }) made (λ (m : Made). (m.keep ≡ made.keep) × (m.entries ≡ made.entries)) (λ leads. (refl, refl)) (λ not. (refl, refl))
