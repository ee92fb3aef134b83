-- What is read of the chains that stand, by number.
use Rattle.std.specs.Prelude.{ℕ, nat_lt, Bool}
use Rattle.graph_model.specs.declared.call_id.CallId.{CallId}
use Rattle.part_keys.specs.declared.chain.PrimeRec.{PrimeRec}

-- the call of a chain
abbrev pub id_of : PrimeRec → CallId
id_of chain = chain.id

-- the chain of a number
abbrev pub rec_of : ℕ × PrimeRec → PrimeRec
rec_of c = c.1

-- whether it is behind a number
abbrev pub is_behind : ℕ → ℕ × PrimeRec → Bool
is_behind after c = nat_lt after c.0
