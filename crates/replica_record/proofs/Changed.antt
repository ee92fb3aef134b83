-- A step has a record exactly where what is durable changes.
use Rattle.std.proofs.Common.{◌≡◌, ℕ, zero, suc, ◌+◌, ◌≤◌, List, [], ◌∷◌, ◌++◌, length, take, drop, Option, None, Some, Ok, Err, Bool, true, false, cond, refl, ap, sym, ◌∙◌, arith, length-append, length-take, length-drop}
use Rattle.std.specs.Prelude.{◌==◌, nat_lt, nat_le, ◌&&◌, if◌then◌else◌}
use Rattle.std.proofs.lemmas.Bool.{cond_both, cond-true, and_from, both_ways, eq-eqb}
use Rattle.std.proofs.lemmas.List.{nil_from_length}
use Rattle.raft_log.specs.declared.entry.Entry.{Entry}
use Rattle.raft_log.specs.declared.mark.Mark.{Mark}
use Rattle.raft_log.specs.declared.message.RaftMsg.{RaftMsg}
use Rattle.raft_log.specs.declared.message.RaftMsg.TheVariants.{Append, Appended, Vote, Voted, TimeoutNow}
use Rattle.raft_log.specs.Log.{matches}
use Rattle.member_change.specs.declared.change.Change.{Change}
use Rattle.member_change.specs.Permit.{Answer}
use Rattle.raft_core.specs.declared.input.RaftInput.{RaftInput}
use Rattle.raft_core.specs.declared.input.RaftInput.TheVariants.{Msg, Elect, Pulse, Propose, Transfer, Change as ChangeInput, Confirm}
use Rattle.raft_core.specs.Core.{Core, Made, Sends, is_leading, is_voter}
use Rattle.raft_core.specs.Laws.{IsPeer}
use Rattle.raft_core.specs.Votes.{term_in, past_terms, with_term, turned_down, grants, no_op, has_won, ruled, standing, asking, may_stand, stood, with_vote, counts}
use Rattle.raft_core.specs.Appends.{stays, missing, is_out_of_order, taken, led}
use Rattle.raft_core.specs.Members.{may_follow, permitted, members_entry, changed_by, members_changed}
use Rattle.raft_core.specs.Rounds.{past_rounds}
use Rattle.raft_core.specs.Step.{handled, on_message, pulsed, payload, made_of, is_none, is_unchanged, record_of, stepped as raft_stepped}
use Rattle.raft_core.proofs.Behind.{within_matching, behind_step}
use Rattle.raft_core.proofs.Keeping.{led_keeps}
use Rattle.replica_file.specs.Durable.{Durable, kept}
use Rattle.replica_model.proofs.StepLaws.{one_record}
use Rattle.replica_model.specs.declared.input.Input.{Input}
use Rattle.replica_model.specs.Asks.{Asks, Nothing, Refuses, Points, Leads, Raft, Reads, asks}
use Rattle.replica_model.specs.Replica.{Home, Replica}
use Rattle.replica_model.specs.Stepped.{does, stepped}
use Rattle.replica_record.specs.Durable.{durable_of}
use Rattle.replica_record.proofs.Steps as steps

-- entries that leave the log as it was are none
abbrev Changes : List Entry → Made → Type 0
Changes log made = take made.keep log ++ made.entries ≡ log → made.entries ≡ []

-- ---- entries behind a log, and entries that came

one_more : (log : List Entry) (x : Entry) → take (length log) log ++ x ∷ [] ≡ log → x ∷ [] ≡ []
one_more log x e =
    let l = ap length e in
    let a = length-append (take (length log) log) (x ∷ []) in
    let t = length-take (length log) log in
    nil_from_length (x ∷ []) (omega (arith, l, a, t))

behind_front : (i s : ℕ) (log new : List Entry) → i ≤ length log → take (i + s) log ++ new ≡ log → take s (drop i log) ++ new ≡ drop i log
behind_front zero s log new within e = let same : 0 + s ≡ s = omega arith in ap (λ n. take n log ++ new) (sym same) ∙ e
behind_front (suc i) zero [] new within e = let same : suc i + 0 ≡ suc i = omega arith in ap (λ n. take n [] ++ new) (sym same) ∙ e
behind_front (suc i) (suc s) [] new within e = let same : suc i + suc s ≡ suc (i + suc s) = omega arith in ap (λ n. take n [] ++ new) (sym same) ∙ e
behind_front (suc i) s (x ∷ log) new within e =
    let same : suc i + s ≡ suc (i + s) = omega arith in
    behind_front i s log new (omega (arith, within)) (ap (drop 1) (ap (λ n. take n (x ∷ log) ++ new) (sym same) ∙ e))

abbrev first_of : Entry → List Entry → Entry
first_of x [] = x
first_of x (y ∷ ys) = y

none_missing : (own new : List Entry) → take (stays own new) own ++ missing own new ≡ own → missing own new ≡ []
none_missing [] new e = e
none_missing (x ∷ own) [] e = refl
none_missing (x ∷ own) (o ∷ new) e = by_term (x.term == o.term) refl (none_missing own new) e
  where
    by_term : (b : Bool) → (x.term == o.term) ≡ b → (take (stays own new) own ++ missing own new ≡ own → missing own new ≡ [])
        → take (if b then suc (stays own new) else 0) (x ∷ own) ++ (if b then missing own new else o ∷ new) ≡ x ∷ own → (if b then missing own new else o ∷ new) ≡ []
    by_term true same rest e = rest (ap (drop 1) e)
    by_term false apart rest e = absurd (both_ways (x.term == o.term) apart (eq-eqb x.term o.term (ap (λ (y : Entry). y.term) (sym (ap (first_of x) e)))))

-- ---- the rules of a Raft step

changes_ruled : (core : Core) (sends : Sends) (began : Bool) → Changes core.log (ruled core sends began)
changes_ruled core sends began = cond_both (has_won core) _ _ (Changes core.log) (λ won. one_more core.log (no_op core.term)) (λ lost e. refl)

changes_stood : (core : Core) → Changes core.log (stood core)
changes_stood core = cond_both (may_stand core) _ _ (Changes core.log) (λ may. changes_ruled (standing core) (asking (standing core)) true) (λ not e. refl)

changes_taken : (core : Core) (from : ℕ) (previous : Mark) (commit round : ℕ) (entries : List Entry) → Changes core.log (taken core from previous commit round entries)
changes_taken core from previous commit round entries = cond_both (is_out_of_order core previous entries) _ _ (Changes core.log)
    (λ out e. refl)
    (λ order. cond_both (matches core.log previous.index previous.term) _ _ (Changes core.log)
    (λ is e.
    let own = drop previous.index core.log in
    none_missing own entries (behind_front previous.index (stays own entries) core.log (missing own entries) (within_matching core.log previous.index previous.term is) e))
    (λ not e. refl))

changes_handled : (core : Core) (from : ℕ) (message : RaftMsg) → Changes core.log (handled core from message)
changes_handled core from (Append term previous commit round entries) = changes_taken core from previous commit round entries
changes_handled core from (Appended term ok index round) = λ e. refl
changes_handled core from (Vote term last) = cond_both (grants core from last) _ _ (Changes core.log) (λ yes e. refl) (λ no e. refl)
changes_handled core from (Voted term granted) = cond_both (counts core from granted) _ _ (Changes core.log) (λ yes. changes_ruled (with_vote core from) [] false) (λ no e. refl)
changes_handled core from (TimeoutNow term) = changes_stood core

changes_turned_down : (core : Core) (from : ℕ) (message : RaftMsg) → Changes core.log (turned_down core from message)
changes_turned_down core from (Append term previous commit round entries) = λ e. refl
changes_turned_down core from (Appended term ok index round) = λ e. refl
changes_turned_down core from (Vote term last) = λ e. refl
changes_turned_down core from (Voted term granted) = λ e. refl
changes_turned_down core from (TimeoutNow term) = λ e. refl

changes_message : (core : Core) (from : ℕ) (message : RaftMsg) → Changes core.log (on_message core from message)
changes_message core from message = cond_both (term_in message == past_terms) _ _ (Changes core.log)
    (λ past e. refl)
    (λ fits. cond_both (nat_lt (term_in message) core.term) _ _ (Changes core.log)
    (λ old. changes_turned_down core from message)
    (λ new. cond_both (nat_lt core.term (term_in message)) _ _ (λ c. Changes core.log (handled c from message))
    (λ above. changes_handled (with_term core (term_in message)) from message)
    (λ own. changes_handled core from message)))

changes_pulsed : (core : Core) → Changes core.log (pulsed core)
changes_pulsed core = cond_both (is_leading core.role) _ _ (Changes core.log) (λ leads e. refl)
    (λ not. cond_both (core.heard && is_voter core) _ _ (Changes core.log) (λ heard e. refl) (λ quiet. changes_stood core))

changes_members : (core : Core) (change : Change) → Changes core.log (members_changed core change)
changes_members core change = cond_both (is_leading core.role) _ _ (Changes core.log) (λ leads. answered (permitted core change)) (λ not e. refl)
  where
    answered : (answer : Answer) → Changes core.log (changed_by core change answer)
    answered (Ok config) = one_more core.log (members_entry core.term config)
    answered (Err refusal) = λ e. refl

changes_rules : (core : Core) (i : RaftInput) → Changes core.log (made_of core i)
changes_rules core (Msg from message) = changes_message core from message
changes_rules core Elect = changes_stood core
changes_rules core Pulse = changes_pulsed core
changes_rules core (Propose bytes) = cond_both (is_leading core.role) _ _ (Changes core.log) (λ leads. one_more core.log (payload core.term bytes)) (λ not e. refl)
changes_rules core (Transfer peer) = cond_both (is_leading core.role && may_follow core peer) _ _ (Changes core.log) (λ may e. refl) (λ not e. refl)
changes_rules core (ChangeInput change) = changes_members core change
changes_rules core Confirm = cond_both (is_leading core.role && nat_lt core.round past_rounds) _ _ (Changes core.log) (λ may e. refl) (λ not e. refl)

-- where term, vote and log are as they were, a Raft step has no record
none_of : (entries : List Entry) → entries ≡ [] → is_none entries ≡ true
none_of entries e = ap is_none e

no_record : (core : Core) (i : RaftInput) → IsPeer core → (raft_stepped core i).core.term ≡ core.term → (raft_stepped core i).core.vote ≡ core.vote → (raft_stepped core i).core.log ≡ core.log → (raft_stepped core i).kept ≡ None
no_record core i peer term vote log =
    let made = led (made_of core i) in
    let same = led_keeps (made_of core i) in
    let copied : take made.keep core.log ++ made.entries ≡ core.log = sym (behind_step core i peer).kept ∙ log in
    let ruled : take (made_of core i).keep core.log ++ (made_of core i).entries ≡ core.log = (λ j. take (sym same.0 j) core.log ++ sym same.1 j) ∙ copied in
    let none : made.entries ≡ [] = same.1 ∙ changes_rules core i ruled in
    cond-true (is_unchanged core made) None (Some (record { term = made.core.term; vote = made.core.vote; keep = made.keep; entries = made.entries }))
    (and_from ((made.core.term == core.term) && (made.core.vote == core.vote)) (is_none made.entries)
    (and_from (made.core.term == core.term) (made.core.vote == core.vote) (eq-eqb made.core.term core.term term) (eq-eqb made.core.vote core.vote vote))
    (none_of made.entries none))

-- ---- a step of a replica

no_record_of : (home : Home) (r : Replica) (i : Input) → IsPeer r.core → (a : Asks) → durable_of (does home r i a).replica ≡ durable_of r → (does home r i a).kept ≡ None
no_record_of home r i peer Nothing same = refl
no_record_of home r i peer (Refuses from other) same = refl
no_record_of home r i peer (Points v hint) same = refl
no_record_of home r i peer (Leads tk) same = refl
no_record_of home r i peer (Raft asked lead sender) same = no_record r.core asked peer (ap (λ (d : Durable). d.term) same) (ap (λ (d : Durable). d.vote) same) (ap (λ (d : Durable). d.log) same)
no_record_of home r i peer (Reads id query) same = no_record r.core Confirm peer (ap (λ (d : Durable). d.term) same) (ap (λ (d : Durable). d.vote) same) (ap (λ (d : Durable). d.log) same)

pub none_where_same : (home : Home) (r : Replica) (i : Input) → IsPeer r.core → durable_of (stepped home r i).replica ≡ durable_of r → (stepped home r i).kept ≡ None
none_where_same home r i peer same = no_record_of home r i peer (asks home r i) same

pub same_where_none : (home : Home) (r : Replica) (i : Input) → IsPeer r.core → (stepped home r i).kept ≡ None → durable_of (stepped home r i).replica ≡ durable_of r
same_where_none home r i peer none =
    steps.durable_behind r (stepped home r i).replica (stepped home r i).kept (one_record home r i peer) ∙ ap (kept (durable_of r)) none
