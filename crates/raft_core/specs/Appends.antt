-- Entries: how a follower takes them, what a leader learns, commits and sends. The rules from the sixth to the ninth.
use Rattle.std.specs.Prelude.{ℕ, zero, suc, ◌+◌, ◌-◌, ◌==◌, min, max, nat_lt, nat_le, List, [], ◌∷◌, ◌++◌, map, length, take, drop, Option, None, Some, Bool, true, false, not, ◌&&◌, ◌||◌, if◌then◌else◌}
use Rattle.std.specs.List.{filter_map}
use Rattle.raft_log.specs.declared.entry.Entry.{Entry}
use Rattle.raft_log.specs.declared.mark.Mark.{Mark}
use Rattle.raft_log.specs.declared.role.Role.TheVariants.{Follower}
use Rattle.raft_log.specs.declared.message.RaftMsg.{RaftMsg}
use Rattle.raft_log.specs.declared.message.RaftMsg.TheVariants.{Append, Appended}
use Rattle.raft_log.specs.Log.{term_at, mark_at, matches}
use Rattle.raft_log.specs.Majority.{is_among, is_majority}
use Rattle.raft_core.specs.declared.progress.Progress.{Progress}
use Rattle.raft_core.specs.Core.{Core, Row, Made, Sends, said, still, voters_of, is_leading}

-- 6. An Append of the own term. An entry that came conflicts with an own one where they stand at the same place with
-- different terms. Below: the own entries from a place on, and those that came for it.
abbrev pub conflicts : List Entry → List Entry → Bool
conflicts [] new = false
conflicts (entry ∷ own) [] = false
conflicts (entry ∷ own) (other ∷ new) = not (entry.term == other.term) || conflicts own new

-- how many own entries stay: all, where none conflicts, else those before the first that does
abbrev pub stays : List Entry → List Entry → ℕ
stays [] new = 0
stays (entry ∷ own) [] = length (entry ∷ own)
stays (entry ∷ own) (other ∷ new) = if entry.term == other.term then suc (stays own new) else 0

-- which of those that came are put behind them: from the first that conflicts or is missing on
abbrev pub missing : List Entry → List Entry → List Entry
missing [] new = new
missing (entry ∷ own) [] = []
missing (entry ∷ own) (other ∷ new) = if entry.term == other.term then missing own new else other ∷ new

-- where one conflicts with an entry at or below commit, nothing more is done
abbrev pub is_out_of_order : Core → Mark → List Entry → Bool
is_out_of_order core previous entries = conflicts (drop previous.index (take core.commit core.log)) entries

-- else the role is follower, the hint is the sender, and heard is set
abbrev pub following : Core → ℕ → Core
following core from = record core { role = Follower; hint = from; heard = true }

-- where the previous entry isn't the own: the answer tells where to go on
abbrev pub rejected : Core → ℕ → Mark → ℕ → Made
rejected core from previous round = said core ((from, Appended core.term false (min (previous.index - 1) (length core.log)) round) ∷ [])

-- else entries that conflict are cut with all behind them, missing ones are appended, and commit becomes the greater
-- of itself and the smaller of the sent commit and previous index plus count
abbrev pub kept_by : List Entry → Mark → List Entry → ℕ
kept_by log previous entries = previous.index + stays (drop previous.index log) entries

abbrev pub log_with : List Entry → Mark → List Entry → List Entry
log_with log previous entries = take (kept_by log previous entries) log ++ missing (drop previous.index log) entries

abbrev pub reach : Mark → List Entry → ℕ
reach previous entries = previous.index + length entries

abbrev pub accepting : Core → Mark → ℕ → List Entry → Core
accepting core previous commit entries = record core {
  log = log_with core.log previous entries;
  commit = max core.commit (min commit (reach previous entries));
}

abbrev pub accepted : Core → ℕ → Mark → ℕ → ℕ → List Entry → Made
accepted core from previous commit round entries = record {
  core = accepting core previous commit entries;
  keep = kept_by core.log previous entries;
  entries = missing (drop previous.index core.log) entries;
  sends = (from, Appended core.term true (reach previous entries) round) ∷ [];
  began = false;
}

abbrev pub taken : Core → ℕ → Mark → ℕ → ℕ → List Entry → Made
taken core from previous commit round entries =
    if is_out_of_order core previous entries then still core
    else if matches core.log previous.index previous.term then accepted (following core from) from previous commit round entries
    else rejected (following core from) from previous round

-- 7. An Appended of the own term from a member, at the leader, with an index of at most the leader's last: the member
-- isn't in flight, and its confirmed round becomes the greater of itself and the sent round. With ok, match is the
-- greater of itself and index, next the greater of itself and index plus 1. Else next becomes index plus 1 where that
-- is smaller, and never below match plus 1.
abbrev pub on_appended : Bool → ℕ → ℕ → Progress → Progress
on_appended true index round progress = record progress {
  matched = max progress.matched index;
  next = max progress.next (index + 1);
  in_flight = false;
  confirmed = max progress.confirmed round;
}
on_appended false index round progress = record progress {
  next = max (progress.matched + 1) (min progress.next (index + 1));
  in_flight = false;
  confirmed = max progress.confirmed round;
}

abbrev pub row_told : ℕ → Bool → ℕ → ℕ → Row → Row
row_told from ok index round row = if row.peer == from then record row { progress = on_appended ok index round row.progress } else row

abbrev pub told : Core → ℕ → Bool → ℕ → ℕ → Core
told core from ok index round =
    if is_leading core.role && nat_le index (length core.log)
    then record core { rows = map (row_told from ok index round) core.rows }
    else core

-- 8. Commit at the leader: the greater of itself and the greatest index of an entry of its own term that a majority
-- of the voters of its last configuration has, counting itself by its last index.
abbrev pub has_matched : List Row → ℕ → ℕ → Bool
has_matched [] peer index = false
has_matched (row ∷ rows) peer index = if row.peer == peer then nat_le index row.progress.matched else has_matched rows peer index

abbrev pub has_up_to : Core → ℕ → ℕ → Bool
has_up_to core index voter = if voter == core.me then nat_le index (length core.log) else has_matched core.rows voter index

abbrev pub is_committable : Core → ℕ → Bool
is_committable core index = (term_at core.log index == core.term) && is_majority (voters_of core) (has_up_to core index)

-- the greatest such index up to a bound, 0 where there is none
abbrev pub greatest_committable : Core → ℕ → ℕ
greatest_committable core zero = 0
greatest_committable core (suc index) = if is_committable core (suc index) then suc index else greatest_committable core index

abbrev pub committing : Core → Core
committing core = record core { commit = max core.commit (greatest_committable core (length core.log)) }

-- how many entries an Append carries at most
abbrev pub most_entries : ℕ
most_entries = 64

-- 9. After each step of a leader, each other member that isn't in flight gets one Append, where its next is at most
-- last, or its told is below commit, or it is a voter whose confirmed round is below the leader's round: of the first
-- 64 entries from next, or of all where there are fewer, with the leader's round. It is then in flight and told is the
-- sent commit.
abbrev pub owes_round : Core → Row → Bool
owes_round core row = is_among row.peer (voters_of core) && nat_lt row.progress.confirmed core.round

abbrev pub wants : Core → Row → Bool
wants core row =
    not row.progress.in_flight
    && (nat_le row.progress.next (length core.log) || nat_lt row.progress.told core.commit || owes_round core row)

abbrev pub append_for : Core → Progress → RaftMsg
append_for core progress = Append core.term (mark_at core.log (progress.next - 1)) core.commit core.round (take most_entries (drop (progress.next - 1) core.log))

abbrev pub append_to : Core → Row → Option (ℕ × RaftMsg)
append_to core row = if wants core row then Some (row.peer, append_for core row.progress) else None

abbrev pub row_sent : Core → Row → Row
row_sent core row = if wants core row then record row { progress = record row.progress { in_flight = true; told = core.commit } } else row

abbrev pub appending : Core → Core
appending core = record core { rows = map (row_sent core) core.rows }

abbrev pub appends : Core → Sends
appends core = filter_map (append_to core) core.rows

-- what stands behind each step of a leader
abbrev pub led : Made → Made
led made =
    if is_leading made.core.role
    then record made { core = appending (committing made.core); sends = made.sends ++ appends (committing made.core) }
    else made

-- A Pulse first clears in flight and told.
abbrev pub row_cleared : Row → Row
row_cleared row = record row { progress = record row.progress { in_flight = false; told = 0 } }

abbrev pub cleared : Core → Core
cleared core = record core { rows = map row_cleared core.rows }
