-- What each rule leaves behind: the facts that the laws of a step are made of.
use Rattle.std.proofs.Common.{◌≡◌, ◌⊎◌, inl, inr, ℕ, zero, suc, ◌+◌, ◌-◌, ◌<◌, ◌≤◌, max, List, [], ◌∷◌, ◌++◌, length, take, drop, map, Some, None, Ok, Err, Bool, true, false, not, ◌&&◌, refl, ap, sym, subst, ◌∙◌, arith, length-append, length-take, length-drop}
use Rattle.std.specs.Prelude.{◌==◌, nat_lt, nat_le, if◌then◌else◌, slice_get}
use Rattle.std.specs.List.{AllByRecursion}
use Rattle.std.proofs.lemmas.Bool.{ltb-true, leb-true, both_ways, and_parts, false≢true, cond_both}
use Rattle.std.proofs.lemmas.List.{take-append-le}
use Rattle.std.proofs.lemmas.Option.{same_Some, none-some}
use Rattle.raft_log.specs.declared.config.Config.{Config}
use Rattle.raft_log.specs.declared.entry.Entry.{Entry}
use Rattle.raft_log.specs.declared.mark.Mark.{Mark}
use Rattle.raft_log.specs.declared.role.Role.{Role}
use Rattle.raft_log.specs.declared.role.Role.TheVariants.{Follower, Candidate, Leader}
use Rattle.raft_log.specs.declared.message.RaftMsg.{RaftMsg}
use Rattle.raft_log.specs.declared.message.RaftMsg.TheVariants.{Append, Appended, Vote, Voted, TimeoutNow}
use Rattle.raft_log.specs.Log.{matches, has_term, mark_at}
use Rattle.raft_core.specs.declared.input.RaftInput.{RaftInput}
use Rattle.raft_core.specs.declared.input.RaftInput.TheVariants.{Msg, Elect, Pulse, Propose, Transfer, Change as ChangeInput, Confirm}
use Rattle.raft_core.specs.Core.{Core, Row, Made, Sends, still, is_voter, is_leading, is_standing}
use Rattle.raft_core.specs.Votes.{term_in, past_terms, with_term, raised, turned_down, grants, voted, fresh_row, others_of, no_op, leading, has_won, ruled, standing, asking, may_stand, stood, with_vote, counts, counted}
use Rattle.raft_core.specs.Appends.{is_out_of_order, following, accepted, taken, on_appended, row_told, told, greatest_committable, is_committable, committing, wants, append_for, append_to, row_sent, appending, appends, led, row_cleared, cleared, most_entries}
use Rattle.raft_core.specs.Members.{may_follow, transferred, permitted, members_entry, put_row, rows_changed, with_members, changed_by, members_changed}
use Rattle.raft_core.specs.Rounds.{past_rounds, confirming}
use Rattle.member_change.specs.declared.change.Change.{Change}
use Rattle.member_change.specs.declared.change.Change.TheVariants.{AddLearner, Promote, Remove}
use Rattle.member_change.specs.Permit.{Answer}
use Rattle.raft_core.specs.Step.{handled, on_message, pulsed, payload, proposed, made_of}
use Rattle.raft_core.specs.Laws.{IsRow, IsPeer, IsChangedBy, IsProposedTo, LedOn, LedNewly, IsOfLog, IsSentBy, reach_of}
use Rattle.raft_core.proofs.Lists.{all_of-map, all_through-map, all_of-filter_map, all_of-filter, all_both, all_weaker, take_whole, take_whole_and, take_of-drop_length}
use Rattle.raft_core.proofs.Logs.{with_reaches, with_no_longer, with_nothing, commit_stays}

-- a message that is no Append of another log
abbrev pub AreSentBy : Core → Sends → Type 0
AreSentBy core sends = AllByRecursion (λ (send : ℕ × RaftMsg). IsSentBy core send.1) sends

-- who led: the same leader on, or a new one
abbrev pub Leads : Core → RaftInput → Core → Type 0
Leads core input behind = is_leading behind.role ≡ true → LedOn core input behind ⊎ LedNewly core behind

pub record Behind (core : Core) (input : RaftInput) (made : Made) : Type 0 where
  pub same : made.core.me ≡ core.me
  pub kept : made.core.log ≡ take made.keep core.log ++ made.entries
  pub unwritten : made.entries ≡ [] → made.core.log ≡ core.log
  pub rises : core.term ≤ made.core.term
  pub falls_not : core.commit ≤ made.core.commit
  pub decided : take core.commit made.core.log ≡ take core.commit core.log
  pub peer : IsPeer made.core
  pub leads : Leads core input made.core
  pub no_longer : length made.core.log ≤ max (length core.log + 1) (reach_of input)
  pub sends : AreSentBy made.core made.sends

-- a role that doesn't lead has no claim
not_leading : {P : Type 0} → false ≡ true → P
not_leading e = absurd (false≢true e)

-- The log is as it was.
module _ (core : Core) (input : RaftInput) where
  pub behind_same : (behind : Core) (sends : Sends) (began : Bool) → behind.me ≡ core.me → behind.log ≡ core.log → behind.commit ≡ core.commit → core.term ≤ behind.term
      → IsPeer behind → Leads core input behind → AreSentBy behind sends
      → Behind core input (record { core = behind; keep = length behind.log; entries = []; sends = sends; began = began })
  behind_same behind sends began me log commit term peer leads sent = record {
    same = me;
    kept = take_whole behind.log ∙ ap (λ xs. take (length behind.log) xs ++ []) log;
    unwritten = λ e. log;
    rises = term;
    falls_not = omega arith;
    decided = ap (take core.commit) log;
    peer = peer;
    leads = leads;
    no_longer = (let e = ap length log in omega arith);
    sends = sent;
  }

-- nothing is done
pub behind_still : (core : Core) (input : RaftInput) → IsPeer core → (is_leading core.role ≡ true → IsProposedTo core input core.log) → Behind core input (still core)
behind_still core input peer quiet = behind_same core input core [] false refl refl refl (omega arith) peer
    (λ leads. inl (record { led = leads; same_term = refl; got = quiet leads })) tt

-- one entry is put behind the log
module _ (core : Core) (input : RaftInput) (behind : Core) (entry : Entry) where
  pub behind_one_more : (sends : Sends) (began : Bool) → core.commit ≤ length core.log → behind.me ≡ core.me → behind.log ≡ core.log ++ entry ∷ [] → core.commit ≤ behind.commit → core.term ≤ behind.term
      → IsPeer behind → Leads core input behind → AreSentBy behind sends
      → Behind core input (record { core = behind; keep = length core.log; entries = entry ∷ []; sends = sends; began = began })
  behind_one_more sends began within me log commit term peer leads sent = record {
    same = me;
    kept = log ∙ take_whole_and core.log (entry ∷ []);
    unwritten = λ e. cc;
    rises = term;
    falls_not = commit;
    decided = ap (take core.commit) log ∙ take-append-le core.commit core.log (entry ∷ []) within;
    peer = peer;
    leads = leads;
    no_longer = (let e = ap length log ∙ length-append core.log (entry ∷ []) in omega arith);
    sends = sent;
  }

-- Elections.
pub peer_with_term : (core : Core) (term : ℕ) → IsPeer core → IsPeer (with_term core term)
peer_with_term core term peer = record { within = peer.within; standing = λ e. not_leading e; leading = λ e. not_leading e; rows = λ e. not_leading e }

fresh_rows : (next last : ℕ) (ids : List ℕ) → 0 < next → next ≤ last + 1 → AllByRecursion (IsRow last) (map (fresh_row next) ids)
fresh_rows next last ids above within = all_of-map (IsRow last) (fresh_row next) (λ id. record { ahead = above; within = within }) ids

pub peer_leading : (core : Core) → IsPeer core → 0 < core.term → IsPeer (leading core)
peer_leading core peer above =
    let e = length-append core.log (no_op core.term ∷ []) in
    let w = peer.within in
    record { within = omega arith; standing = λ s. not_leading s; leading = λ l. above; rows = λ l. fresh_rows (length core.log + 1) (length (leading core).log) (others_of core) (omega arith) (omega arith) }

-- a candidate that may win now
pub behind_ruled : (core : Core) (input : RaftInput) (c : Core) (sends : Sends) (began : Bool) → core.commit ≤ length core.log → c.me ≡ core.me → c.log ≡ core.log → c.commit ≡ core.commit → core.term ≤ c.term
    → IsPeer c → is_leading c.role ≡ false → 0 < c.term → (is_leading core.role ≡ false) ⊎ (core.term < c.term) → ((d : Core) → AreSentBy d sends)
    → Behind core input (ruled c sends began)
behind_ruled core input c sends began within me log commit term peer unled above newly sent = cond_both (has_won c) _ _ (Behind core input)
    (λ won. subst (λ n. Behind core input (record { core = leading c; keep = n; entries = no_op c.term ∷ []; sends = sends; began = began })) (sym (ap length log)) (behind_one_more core input (leading c) (no_op c.term) sends began within me (ap (λ xs. xs ++ no_op c.term ∷ []) log) (omega arith) term
    (peer_leading c peer above) (λ l. inr (record { not_before = newly; above = above; got = ap (λ xs. xs ++ no_op c.term ∷ []) log })) (sent (leading c))))
    (λ lost. behind_same core input c sends began me log commit term peer (λ l. absurd (both_ways (is_leading c.role) unled l)) (sent c))

pub peer_standing : (core : Core) → IsPeer core → IsPeer (standing core)
peer_standing core peer = record { within = peer.within; standing = λ s. omega arith; leading = λ l. not_leading l; rows = λ l. not_leading l }

asks_only : (core d : Core) → AreSentBy d (asking core)
asks_only core d = all_of-map _ _ (λ id. tt) _

pub behind_stood : (core : Core) (input : RaftInput) → IsPeer core → (is_leading core.role ≡ true → IsProposedTo core input core.log) → Behind core input (stood core)
behind_stood core input peer quiet = cond_both (may_stand core) _ _ (Behind core input)
    (λ may. behind_ruled core input (standing core) (asking (standing core)) true peer.within refl refl refl (omega arith) (peer_standing core peer) refl (omega arith) (inr (omega arith)) (asks_only (standing core)))
    (λ not. behind_still core input peer quiet)

-- A vote that came.
pub standing_then : (core : Core) (from : ℕ) (granted : Bool) → counts core from granted ≡ true → is_standing core.role ≡ true
standing_then core from granted e = (and_parts granted (is_standing core.role) (and_parts (granted && is_standing core.role) _ e).0).1

pub standing_leads_not : (core : Core) → is_standing core.role ≡ true → is_leading core.role ≡ false
standing_leads_not core e = go core.role e
  where
    go : (role : Role) → is_standing role ≡ true → is_leading role ≡ false
    go Follower e = refl
    go Candidate e = refl
    go Leader e = absurd (false≢true e)

pub behind_counted : (core : Core) (from : ℕ) (granted : Bool) (message : RaftMsg) → IsPeer core → Behind core (Msg from message) (counted core from granted)
behind_counted core from granted message peer = cond_both (counts core from granted) _ _ (Behind core (Msg from message))
    (λ is. let s = standing_then core from granted is in let n = standing_leads_not core s in
    behind_ruled core (Msg from message) (with_vote core from) [] false peer.within refl refl refl (omega arith)
    (record { within = peer.within; standing = peer.standing; leading = peer.leading; rows = peer.rows }) n (peer.standing s) (inl n) (λ d. tt))
    (λ not. behind_still core (Msg from message) peer (λ l. refl))

-- A Vote that came.
pub behind_voted : (core : Core) (from : ℕ) (last : Mark) (message : RaftMsg) → IsPeer core → Behind core (Msg from message) (voted core from last)
behind_voted core from last message peer = cond_both (grants core from last) _ _ (Behind core (Msg from message))
    (λ is. behind_same core (Msg from message) (record core { vote = from }) ((from, Voted core.term true) ∷ []) false refl refl refl (omega arith)
    (record { within = peer.within; standing = peer.standing; leading = peer.leading; rows = peer.rows })
    (λ l. inl (record { led = l; same_term = refl; got = refl })) (tt, tt))
    (λ not. behind_same core (Msg from message) core ((from, Voted core.term false) ∷ []) false refl refl refl (omega arith) peer
    (λ l. inl (record { led = l; same_term = refl; got = refl })) (tt, tt))

-- A message of an older term.
pub behind_turned_down : (core : Core) (from : ℕ) (message : RaftMsg) → IsPeer core → Behind core (Msg from message) (turned_down core from message)
behind_turned_down core from (Append term previous commit round entries) peer = behind_same core _ core _ false refl refl refl (omega arith) peer (λ l. inl (record { led = l; same_term = refl; got = refl })) (tt, tt)
behind_turned_down core from (Appended term ok index round) peer = behind_still core _ peer (λ l. refl)
behind_turned_down core from (Vote term last) peer = behind_same core _ core _ false refl refl refl (omega arith) peer (λ l. inl (record { led = l; same_term = refl; got = refl })) (tt, tt)
behind_turned_down core from (Voted term granted) peer = behind_still core _ peer (λ l. refl)
behind_turned_down core from (TimeoutNow term) peer = behind_still core _ peer (λ l. refl)

-- An Append of the own term.
pub within_matching : (log : List Entry) (index term : ℕ) → matches log index term ≡ true → index ≤ length log
within_matching log zero term e = omega arith
within_matching log (suc i) term e = go log i e
  where
    go : (log : List Entry) (i : ℕ) → has_term (slice_get log i) term ≡ true → suc i ≤ length log
    go [] i e = absurd (false≢true e)
    go (x ∷ log) zero e = omega arith
    go (x ∷ log) (suc i) e = let r = go log i e in omega arith

pub behind_taken : (core : Core) (from : ℕ) (term : ℕ) (previous : Mark) (commit round : ℕ) (entries : List Entry) → IsPeer core
    → Behind core (Msg from (Append term previous commit round entries)) (taken core from previous commit round entries)
behind_taken core from term previous commit round entries peer = cond_both (is_out_of_order core previous entries) _ _ (Behind core _)
    (λ out. behind_still core _ peer (λ l. refl))
    (λ order. cond_both (matches core.log previous.index previous.term) _ _ (Behind core _)
    (λ is. took order (within_matching core.log previous.index previous.term is))
    (λ not. behind_same core _ (following core from) _ false refl refl refl (omega arith) (record { within = peer.within; standing = λ e. not_leading e; leading = λ e. not_leading e; rows = λ e. not_leading e }) (λ l. not_leading l) (tt, tt)))
  where
    took : is_out_of_order core previous entries ≡ false → previous.index ≤ length core.log → Behind core (Msg from (Append term previous commit round entries)) (accepted (following core from) from previous commit round entries)
    took order w =
        let s = commit_stays core previous entries w peer.within order in
        let r = with_reaches core.log previous entries w in
        let l = with_no_longer core.log previous entries w in
        record {
          same = refl;
          kept = refl;
          unwritten = with_nothing core.log previous entries w;
          rises = omega arith;
          falls_not = omega arith;
          decided = s.1;
          peer = record { within = (let a = s.0 in omega arith); standing = λ e. not_leading e; leading = λ e. not_leading e; rows = λ e. not_leading e };
          leads = λ l. not_leading l;
          no_longer = omega arith;
          sends = (tt, tt);
        }

-- An Appended that came.
told_row : (last from : ℕ) (ok : Bool) (index round : ℕ) → index ≤ last → (row : Row) → IsRow last row → IsRow last (row_told from ok index round row)
told_row last from ok index round h row is = cond_both (row.peer == from) _ _ (IsRow last) (λ e. heard ok) (λ e. is)
  where
    heard : (ok : Bool) → IsRow last (record row { progress = on_appended ok index round row.progress })
    heard true = let a = is.ahead in let w = is.within in record { ahead = omega arith; within = omega arith }
    heard false = let a = is.ahead in let w = is.within in record { ahead = omega arith; within = omega arith }

pub behind_told : (core : Core) (from : ℕ) (ok : Bool) (index round : ℕ) (message : RaftMsg) → IsPeer core → Behind core (Msg from message) (still (told core from ok index round))
behind_told core from ok index round message peer = cond_both (is_leading core.role && nat_le index (length core.log)) _ _ (λ c. Behind core (Msg from message) (still c))
    (λ is. let b = and_parts (is_leading core.role) (nat_le index (length core.log)) is in
    behind_same core _ (record core { rows = map (row_told from ok index round) core.rows }) [] false refl refl refl (omega arith)
    (record {
      within = peer.within;
      standing = peer.standing;
      leading = peer.leading;
      rows = λ l. all_through-map (IsRow (length core.log)) (IsRow (length core.log)) (row_told from ok index round) (told_row (length core.log) from ok index round (leb-true index (length core.log) b.1)) core.rows (peer.rows l);
    })
    (λ l. inl (record { led = l; same_term = refl; got = refl })) tt)
    (λ not. behind_still core _ peer (λ l. refl))

pub peer_told : (core : Core) (from : ℕ) (ok : Bool) (index round : ℕ) → index ≤ length core.log → IsPeer core → IsPeer (record core { rows = map (row_told from ok index round) core.rows })
peer_told core from ok index round low peer = record {
  within = peer.within;
  standing = peer.standing;
  leading = peer.leading;
  rows = λ l. all_through-map (IsRow (length core.log)) (IsRow (length core.log)) (row_told from ok index round) (told_row (length core.log) from ok index round low) core.rows (peer.rows l);
}

-- A message of the own term.
pub behind_handled : (core : Core) (from : ℕ) (message : RaftMsg) → IsPeer core → Behind core (Msg from message) (handled core from message)
behind_handled core from (Append term previous commit round entries) peer = behind_taken core from term previous commit round entries peer
behind_handled core from (Appended term ok index round) peer = behind_told core from ok index round (Appended term ok index round) peer
behind_handled core from (Vote term last) peer = behind_voted core from last (Vote term last) peer
behind_handled core from (Voted term granted) peer = behind_counted core from granted (Voted term granted) peer
behind_handled core from (TimeoutNow term) peer = behind_stood core (Msg from (TimeoutNow term)) peer (λ l. refl)

-- what a peer that took a greater term does, it does
behind_raised : (core : Core) (term : ℕ) (input : RaftInput) (made : Made) → core.term < term → Behind (with_term core term) input made → Behind core input made
behind_raised core term input made above b = record {
  same = b.same;
  kept = b.kept;
  unwritten = b.unwritten;
  rises = (let r = b.rises in omega arith);
  falls_not = b.falls_not;
  decided = b.decided;
  peer = b.peer;
  leads = (λ l. elim (b.leads l) [
    | inl on ↦ not_leading on.led
    | inr new ↦ inr (record { not_before = inr (let r = b.rises in omega arith); above = new.above; got = new.got })
  ]);
  no_longer = b.no_longer;
  sends = b.sends;
}

pub behind_message : (core : Core) (from : ℕ) (message : RaftMsg) → IsPeer core → Behind core (Msg from message) (on_message core from message)
behind_message core from message peer = cond_both (term_in message == past_terms) _ _ (Behind core (Msg from message))
    (λ past. behind_still core (Msg from message) peer (λ l. refl))
    (λ fits. cond_both (nat_lt (term_in message) core.term) _ _ (Behind core (Msg from message))
    (λ old. behind_turned_down core from message peer)
    (λ new. cond_both (nat_lt core.term (term_in message)) _ _ (λ c. Behind core (Msg from message) (handled c from message))
    (λ above. behind_raised core (term_in message) (Msg from message) (handled (with_term core (term_in message)) from message) (ltb-true core.term (term_in message) above)
    (behind_handled (with_term core (term_in message)) from message (peer_with_term core (term_in message) peer)))
    (λ own. behind_handled core from message peer)))

-- A pulse, and a proposal.
cleared_row : (last : ℕ) (row : Row) → IsRow last row → IsRow last (row_cleared row)
cleared_row last row is = record { ahead = is.ahead; within = is.within }

pub peer_cleared : (core : Core) → IsPeer core → IsPeer (cleared core)
peer_cleared core peer = record {
  within = peer.within;
  standing = peer.standing;
  leading = peer.leading;
  rows = λ l. all_through-map (IsRow (length core.log)) (IsRow (length core.log)) row_cleared (cleared_row (length core.log)) core.rows (peer.rows l);
}

pub behind_pulsed : (core : Core) → IsPeer core → Behind core Pulse (pulsed core)
behind_pulsed core peer = cond_both (is_leading core.role) _ _ (Behind core Pulse)
    (λ leads. behind_same core Pulse (cleared core) [] false refl refl refl (omega arith)
    (record {
      within = peer.within;
      standing = peer.standing;
      leading = peer.leading;
      rows = λ l. all_through-map (IsRow (length core.log)) (IsRow (length core.log)) row_cleared (cleared_row (length core.log)) core.rows (peer.rows l);
    })
    (λ l. inl (record { led = l; same_term = refl; got = refl })) tt)
    (λ not. cond_both (core.heard && is_voter core) _ _ (Behind core Pulse)
    (λ heard. behind_same core Pulse (record core { heard = false }) [] false refl refl refl (omega arith)
    (record { within = peer.within; standing = peer.standing; leading = peer.leading; rows = peer.rows })
    (λ l. inl (record { led = l; same_term = refl; got = refl })) tt)
    (λ quiet. behind_stood core Pulse peer (λ l. refl)))

longer_row : (last more : ℕ) → last ≤ more → (row : Row) → IsRow last row → IsRow more row
longer_row last more h row is = record { ahead = is.ahead; within = (let w = is.within in omega arith) }

pub behind_proposed : (core : Core) (bytes : List ℕ) → IsPeer core → Behind core (Propose bytes) (proposed core bytes)
behind_proposed core bytes peer = cond_both (is_leading core.role) _ _ (Behind core (Propose bytes))
    (λ leads. let e = length-append core.log (payload core.term bytes ∷ []) in let w = peer.within in
    behind_one_more core (Propose bytes) (record core { log = core.log ++ payload core.term bytes ∷ [] }) (payload core.term bytes) [] false peer.within refl refl (omega arith) (omega arith)
    (record {
      within = omega arith;
      standing = peer.standing;
      leading = peer.leading;
      rows = λ l. all_weaker (IsRow (length core.log)) (IsRow (length (core.log ++ payload core.term bytes ∷ []))) (longer_row (length core.log) (length (core.log ++ payload core.term bytes ∷ [])) (omega arith)) core.rows (peer.rows l);
    })
    (λ l. inl (record { led = l; same_term = refl; got = refl })) tt)
    (λ not. behind_still core (Propose bytes) peer (λ l. absurd (both_ways (is_leading core.role) not l)))

-- Changing members, and rounds.
pub behind_transferred : (core : Core) (peer_id : ℕ) → IsPeer core → Behind core (Transfer peer_id) (transferred core peer_id)
behind_transferred core peer_id peer = cond_both (is_leading core.role && may_follow core peer_id) _ _ (Behind core (Transfer peer_id))
    (λ may. behind_same core (Transfer peer_id) core ((peer_id, TimeoutNow core.term) ∷ []) false refl refl refl (omega arith) peer
    (λ l. inl (record { led = l; same_term = refl; got = refl })) (tt, tt))
    (λ not. behind_still core (Transfer peer_id) peer (λ l. refl))

put_row_in : (last : ℕ) (new : Row) → IsRow last new → (rows : List Row) → AllByRecursion (IsRow last) rows → AllByRecursion (IsRow last) (put_row new rows)
put_row_in last new is [] all = (is, tt)
put_row_in last new is (row ∷ rows) all = cond_both (nat_lt new.peer row.peer) _ _ (AllByRecursion (IsRow last)) (λ low. (is, all)) (λ high. (all.0, put_row_in last new is rows all.1))

rows_in : (last next : ℕ) (change : Change) → 0 < next → next ≤ last + 1 → (rows : List Row) → AllByRecursion (IsRow last) rows → AllByRecursion (IsRow last) (rows_changed next change rows)
rows_in last next (AddLearner peer) above within rows all = put_row_in last (fresh_row next peer) (record { ahead = above; within = within }) rows all
rows_in last next (Promote peer) above within rows all = all
rows_in last next (Remove peer) above within rows all = all_of-filter (IsRow last) (λ (row : Row). not (row.peer == peer)) rows all

pub peer_with_members : (core : Core) (change : Change) (config : Config) → IsPeer core → IsPeer (with_members core change config)
peer_with_members core change config peer =
    let last : ℕ = length (core.log ++ members_entry core.term config ∷ []) in
    let n = length-append core.log (members_entry core.term config ∷ []) in
    let w = peer.within in
    record {
      within = omega arith;
      standing = peer.standing;
      leading = peer.leading;
      rows = λ l. rows_in last (length core.log + 1) change (omega arith) (omega arith) core.rows
          (all_weaker (IsRow (length core.log)) (IsRow last) (longer_row (length core.log) last (omega arith)) core.rows (peer.rows l));
    }

pub behind_changed : (core : Core) (change : Change) → IsPeer core → Behind core (ChangeInput change) (members_changed core change)
behind_changed core change peer = cond_both (is_leading core.role) _ _ (Behind core (ChangeInput change))
    (λ leads. answered (permitted core change) refl)
    (λ not. behind_still core (ChangeInput change) peer (λ l. absurd (both_ways (is_leading core.role) not l)))
  where
    answered : (answer : Answer) → permitted core change ≡ answer → Behind core (ChangeInput change) (changed_by core change answer)
    answered (Ok config) e = behind_one_more core (ChangeInput change) (with_members core change config) (members_entry core.term config) [] false peer.within refl refl (omega arith) (omega arith)
        (peer_with_members core change config peer)
        (λ l. inl (record { led = l; same_term = refl; got = subst (λ a. IsChangedBy core a (core.log ++ members_entry core.term config ∷ [])) (sym e) refl })) tt
    answered (Err refusal) e = behind_still core (ChangeInput change) peer (λ l. subst (λ a. IsChangedBy core a core.log) (sym e) refl)

pub behind_confirming : (core : Core) → IsPeer core → Behind core Confirm (confirming core)
behind_confirming core peer = cond_both (is_leading core.role && nat_lt core.round past_rounds) _ _ (Behind core Confirm)
    (λ may. behind_same core Confirm (record core { round = core.round + 1 }) [] false refl refl refl (omega arith)
    (record { within = peer.within; standing = peer.standing; leading = peer.leading; rows = peer.rows })
    (λ l. inl (record { led = l; same_term = refl; got = refl })) tt)
    (λ not. behind_still core Confirm peer (λ l. refl))

pub behind_rules : (core : Core) (input : RaftInput) → IsPeer core → Behind core input (made_of core input)
behind_rules core (Msg from message) peer = behind_message core from message peer
behind_rules core Elect peer = behind_stood core Elect peer (λ l. refl)
behind_rules core Pulse peer = behind_pulsed core peer
behind_rules core (Propose bytes) peer = behind_proposed core bytes peer
behind_rules core (Transfer peer_id) peer = behind_transferred core peer_id peer
behind_rules core (ChangeInput change) peer = behind_changed core change peer
behind_rules core Confirm peer = behind_confirming core peer

-- What stands behind each step of a leader.
pub committable_within : (core : Core) (n : ℕ) → greatest_committable core n ≤ n
committable_within core zero = omega arith
committable_within core (suc n) = cond_both (is_committable core (suc n)) _ _ (λ k. k ≤ suc n) (λ is. omega arith) (λ not. let r = committable_within core n in omega arith)

sent_row : (core : Core) (last : ℕ) (row : Row) → IsRow last row → IsRow last (row_sent core row)
sent_row core last row is = cond_both (wants core row) _ _ (IsRow last) (λ w. record { ahead = is.ahead; within = is.within }) (λ n. is)

pub peer_appending : (core : Core) → IsPeer core → IsPeer (appending core)
peer_appending core peer = record {
  within = peer.within;
  standing = peer.standing;
  leading = peer.leading;
  rows = λ l. all_through-map (IsRow (length core.log)) (IsRow (length core.log)) (row_sent core) (sent_row core (length core.log)) core.rows (peer.rows l);
}

-- an Append for a member is of the leader's log
pub append_is_of_log : (core : Core) → is_leading core.role ≡ true → (row : Row) → IsRow (length core.log) row
    → IsOfLog (appending core) core.term (mark_at core.log (row.progress.next - 1)) core.commit core.round (take most_entries (drop (row.progress.next - 1) core.log))
append_is_of_log core leads row is =
    let previous : ℕ = row.progress.next - 1 in
    let a = is.ahead in
    let w = is.within in
    let l = length-take 64 (drop previous core.log) in
    let d = length-drop previous core.log in
    record { leads = leads; own = refl; placed = refl; cut = sym (take_of-drop_length previous 64 core.log); within = omega arith; told = refl; asked = refl; few = omega (arith, l) }

one_sent : (core : Core) → is_leading core.role ≡ true → (row : Row) (send : ℕ × RaftMsg) → IsRow (length core.log) row → append_to core row ≡ Some send → IsSentBy (appending core) send.1
one_sent core leads row send is e = go (wants core row) e
  where
    go : (b : Bool) → (if b then Some (row.peer, append_for core row.progress) else None) ≡ Some send → IsSentBy (appending core) send.1
    go true e = subst (λ (s : ℕ × RaftMsg). IsSentBy (appending core) s.1) (same_Some _ _ e) (append_is_of_log core leads row is)
    go false e = absurd (none-some send e)

pub behind_led : (core : Core) (input : RaftInput) (made : Made) → Behind core input made → ((d : Core) → AreSentBy d made.sends) → Behind core input (led made)
behind_led core input made b sent = cond_both (is_leading made.core.role) _ _ (Behind core input)
    (λ leads.
    let c = committing made.core in
    let g = committable_within made.core (length made.core.log) in
    let p = b.peer in
    let w = p.within in
    let f = b.falls_not in
    record {
      same = b.same;
      kept = b.kept;
      unwritten = b.unwritten;
      rises = b.rises;
      falls_not = omega arith;
      decided = b.decided;
      peer = record {
        within = omega arith;
        standing = p.standing;
        leading = p.leading;
        rows = λ l. all_through-map (IsRow (length c.log)) (IsRow (length c.log)) (row_sent c) (sent_row c (length c.log)) c.rows (p.rows l);
      };
      leads = (λ l. elim (b.leads l) [
        | inl on ↦ inl (record { led = on.led; same_term = on.same_term; got = on.got })
        | inr new ↦ inr (record { not_before = new.not_before; above = new.above; got = new.got })
      ]);
      no_longer = b.no_longer;
      sends = all_both _ made.sends (appends c) (sent (appending c))
          (all_of-filter_map (IsRow (length c.log)) (λ (send : ℕ × RaftMsg). IsSentBy (appending c) send.1) (append_to c) (one_sent c leads) c.rows (p.rows leads));
    })
    (λ not. b)

-- Before that no rule sends an Append.
module _ (d : Core) where
  plain_ruled : (c : Core) (sends : Sends) (began : Bool) → AreSentBy d sends → AreSentBy d (ruled c sends began).sends
  plain_ruled c sends began sent = cond_both (has_won c) _ _ (λ (made : Made). AreSentBy d made.sends) (λ won. sent) (λ lost. sent)

  plain_stood : (core : Core) → AreSentBy d (stood core).sends
  plain_stood core = cond_both (may_stand core) _ _ (λ (made : Made). AreSentBy d made.sends) (λ may. plain_ruled (standing core) (asking (standing core)) true (asks_only (standing core) d)) (λ not. tt)

  plain_handled : (core : Core) (from : ℕ) (message : RaftMsg) → AreSentBy d (handled core from message).sends
  plain_handled core from (Append term previous commit round entries) = cond_both (is_out_of_order core previous entries) _ _ (λ (made : Made). AreSentBy d made.sends) (λ out. tt)
      (λ order. cond_both (matches core.log previous.index previous.term) _ _ (λ (made : Made). AreSentBy d made.sends) (λ is. (tt, tt)) (λ not. (tt, tt)))
  plain_handled core from (Appended term ok index round) = tt
  plain_handled core from (Vote term last) = cond_both (grants core from last) _ _ (λ (made : Made). AreSentBy d made.sends) (λ is. (tt, tt)) (λ not. (tt, tt))
  plain_handled core from (Voted term granted) = cond_both (counts core from granted) _ _ (λ (made : Made). AreSentBy d made.sends) (λ is. plain_ruled (with_vote core from) [] false tt) (λ not. tt)
  plain_handled core from (TimeoutNow term) = plain_stood core

  plain_turned_down : (core : Core) (from : ℕ) (message : RaftMsg) → AreSentBy d (turned_down core from message).sends
  plain_turned_down core from (Append term previous commit round entries) = (tt, tt)
  plain_turned_down core from (Appended term ok index round) = tt
  plain_turned_down core from (Vote term last) = (tt, tt)
  plain_turned_down core from (Voted term granted) = tt
  plain_turned_down core from (TimeoutNow term) = tt

  pub plain_rules : (core : Core) (input : RaftInput) → AreSentBy d (made_of core input).sends
  plain_rules core (Msg from message) = cond_both (term_in message == past_terms) _ _ (λ (made : Made). AreSentBy d made.sends) (λ past. tt)
      (λ fits. cond_both (nat_lt (term_in message) core.term) _ _ (λ (made : Made). AreSentBy d made.sends) (λ old. plain_turned_down core from message) (λ new. plain_handled (raised core (term_in message)) from message))
  plain_rules core Elect = plain_stood core
  plain_rules core Pulse = cond_both (is_leading core.role) _ _ (λ (made : Made). AreSentBy d made.sends) (λ leads. tt)
      (λ not. cond_both (core.heard && is_voter core) _ _ (λ (made : Made). AreSentBy d made.sends) (λ heard. tt) (λ quiet. plain_stood core))
  plain_rules core (Propose bytes) = cond_both (is_leading core.role) _ _ (λ (made : Made). AreSentBy d made.sends) (λ leads. tt) (λ not. tt)
  plain_rules core (Transfer peer) = cond_both (is_leading core.role && may_follow core peer) _ _ (λ (made : Made). AreSentBy d made.sends) (λ may. (tt, tt)) (λ not. tt)
  plain_rules core (ChangeInput change) = cond_both (is_leading core.role) _ _ (λ (made : Made). AreSentBy d made.sends) (λ leads. answered (permitted core change)) (λ not. tt)
    where
      answered : (answer : Answer) → AreSentBy d (changed_by core change answer).sends
      answered (Ok config) = tt
      answered (Err refusal) = tt
  plain_rules core Confirm = cond_both (is_leading core.role && nat_lt core.round past_rounds) _ _ (λ (made : Made). AreSentBy d made.sends) (λ may. tt) (λ not. tt)

-- what a whole step leaves
pub behind_step : (core : Core) (input : RaftInput) → IsPeer core → Behind core input (led (made_of core input))
behind_step core input peer = behind_led core input (made_of core input) (behind_rules core input peer) (λ d. plain_rules d core input)
