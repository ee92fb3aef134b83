-- When all that a part holds has a spelling.
use Rattle.std.specs.List.{AllByRecursion}
use Rattle.graph_bytes.specs.declared.id_form.IdForm.TheVariants.{Tagged}
use Rattle.graph_bytes.specs.Fits.{IsSmall, HasSpellingRow, HasSpellingHalf, HasSpellingEdge, HasSpellingWhole}
use Rattle.graph_model.specs.Keys.{edge_of}
use Rattle.part_keys.specs.declared.chain.PrimeRec.{PrimeRec}
use Rattle.part_keys.specs.declared.proposal.Proposal.{Proposal}
use Rattle.part_keys.specs.declared.proposal.Proposal.TheVariants.{Made}
use Rattle.part_keys.specs.Fits.{Fits}
use Rattle.part_rules.specs.declared.kept.Outcome.{Outcome}
use Rattle.part_rules.specs.declared.kept.Outcome.TheVariants.{Conflict}
use Rattle.part_rules.specs.Part.{Part}
use Rattle.replica_spelling.specs.Held.{AllHeld}

-- what a log spells: an entry that was read fits its spelling
abbrev pub FitsValue : Proposal → Type 0
FitsValue (Made x) = Fits Tagged x
FitsValue other = Unit {0}

-- an outcome: another call's client is one
abbrev pub HasSpellingOutcome : Outcome → Type 0
HasSpellingOutcome (Conflict id) = IsSmall id.client
HasSpellingOutcome other = Unit {0}

-- a chain that stands: its client, its remote part, and its edges with their halves
pub record IsSpelledChain (chain : PrimeRec) : Type 0 where
  pub call : IsSmall chain.id.client
  pub remote : IsSmall chain.remote
  pub list : AllByRecursion (HasSpellingWhole Tagged) chain.list

-- a part: its rows, its halves, its chains, and what it keeps of clients
pub record IsSpelledPart (p : Part) : Type 0 where
  pub tags : AllHeld (λ key row. HasSpellingRow row) p.tags
  pub out : AllHeld (λ e row. HasSpellingEdge Tagged e × HasSpellingRow row) p.out
  pub inn : AllHeld (λ key kept. HasSpellingEdge Tagged (edge_of key) × HasSpellingHalf kept.half) p.inn
  pub chains : AllHeld (λ v chain. IsSpelledChain chain) p.chains
  pub clients : AllHeld (λ client last. HasSpellingOutcome last.outcome) p.clients
