-- The chains that stand, by number.
use Rattle.std.specs.Prelude.{ℕ, nat_lt, List, map, take, Option, None, Some}
use Rattle.std.specs.List.{filter}
use Rattle.std.specs.Ordering.{nat_cmp}
use Rattle.std.specs.FinMap.{FinMap, empty, entries, get}
use Rattle.maps.specs.Maps.{with_at}
use Rattle.maps.specs.Lists.{with_all}
use Rattle.part_keys.specs.declared.chain.PrimeRec.{PrimeRec}
use Rattle.part_rules.specs.View.{at_once}
use Rattle.part_machine.specs.declared.turn.Turn.{Turn}

-- the chains by number
abbrev pub Chains : Type 0
Chains = FinMap nat_cmp PrimeRec

-- the chains in places: a place may have no chain
abbrev pub standing : List (ℕ × Option PrimeRec) → Chains
standing places = with_all empty places

-- the chains behind a turn, if there is one: at its number its chain stands, or none
abbrev pub turned : Chains → Option Turn → Chains
turned chains None = chains
turned chains (Some turn) = with_at chains turn.at turn.chain

-- the turn that gives a turn's number what the chains have there
abbrev pub turn_back : Chains → Option Turn → Option Turn
turn_back chains None = None
turn_back chains (Some turn) = Some (record { at = turn.at; chain = get chains turn.at })

-- the chains behind a number
abbrev pub all_behind : ℕ → Chains → List (ℕ × PrimeRec)
all_behind after chains = filter (λ (c : ℕ × PrimeRec). nat_lt after c.0) (entries chains)

-- the first chains behind a number, as many as are taken up at once
abbrev pub first_behind : ℕ → Chains → List PrimeRec
first_behind after chains = map (λ (c : ℕ × PrimeRec). c.1) (take at_once (all_behind after chains))
