-- The round that a majority of given voters has confirmed: the same as of a peer's own voters, without its log.
use Rattle.std.specs.Prelude.{ℕ, max, nat_le, List, [], ◌∷◌, Bool, if◌then◌else◌}
use Rattle.raft_log.specs.Majority.{is_majority}
use Rattle.raft_core.specs.declared.state.PeerState.{PeerState}
use Rattle.raft_core.specs.Ahead.{core_with}
use Rattle.raft_core.specs.Rounds.{confirmed_by}

abbrev pub is_confirmed_by : PeerState → ℕ → ℕ → Bool
is_confirmed_by state round voter = nat_le round (confirmed_by (core_with state []) voter)

-- the greatest of the rounds of these that a majority of the voters has confirmed, 0 where there is none
abbrev pub greatest_among : PeerState → List ℕ → List ℕ → ℕ
greatest_among state all [] = 0
greatest_among state all (voter ∷ voters) =
    if is_majority all (is_confirmed_by state (confirmed_by (core_with state []) voter))
    then max (confirmed_by (core_with state []) voter) (greatest_among state all voters)
    else greatest_among state all voters
