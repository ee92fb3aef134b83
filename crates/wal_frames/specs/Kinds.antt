-- The first bytes of items, and how many peers there are at most.
use Rattle.std.specs.Prelude.{ℕ}

-- a no-op
abbrev pub no_op_item : ℕ
no_op_item = 0

-- members
abbrev pub members_item : ℕ
members_item = 1

-- a payload
abbrev pub payload_item : ℕ
payload_item = 2

-- the most peers of a configuration, voters and learners together
abbrev pub most_peers : ℕ
most_peers = 8
