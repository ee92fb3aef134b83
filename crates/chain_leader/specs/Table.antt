-- What becomes of a row of the table, as the program keeps it.
use Rattle.std.specs.Prelude.{ℕ, true}
use Rattle.part_keys.specs.declared.chain.ChainState.{ChainState}
use Rattle.part_keys.specs.declared.chain.Mode.TheVariants.{Doubled}
use Rattle.chain_leader.specs.declared.table.Route.{Route}
use Rattle.chain_leader.specs.Rules.{next_try}

-- another hint
abbrev pub with_hint : ℕ → ChainState → ChainState
with_hint hint chain = record chain { hint = hint }

-- the entry that ends it is asked for
abbrev pub with_asked : ChainState → ChainState
with_asked chain = record chain { asked = true }

-- it is doubled
abbrev pub with_double : ChainState → ChainState
with_double chain = record chain { mode = Doubled }

-- it is taken up once more
abbrev pub with_try : ChainState → ChainState
with_try chain = record chain { tries = next_try chain.tries }

-- where its next letter goes
abbrev pub route_of : ChainState → Route
route_of chain = record { tries = chain.tries; hint = chain.hint }
