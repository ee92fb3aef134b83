-- Parts of a Raft step that is made ahead.
use Rattle.std.specs.Prelude.{◌≡◌, ℕ, nat_lt, ◌&&◌, Bool, List, [], ◌∷◌, Option, None, Some, if◌then◌else◌}
use Rattle.std.specs.List.{filter_map}
use Rattle.std.specs.Option.{option_map}
use Rattle.graph_model.specs.declared.answer.Answer.{Answer}
use Rattle.graph_model.specs.declared.call_id.CallId.{CallId}
use Rattle.part_keys.specs.declared.chain.Policy.{Policy}
use Rattle.chain_leader.specs.Leading.{Leading, pulsed}
use Rattle.chain_leader.specs.declared.letter.Letter.{Letter}
use Rattle.chain_leader.specs.declared.letter.Letter.TheVariants.{Cross}
use Rattle.replica_model.specs.declared.input.Input.{Input}
use Rattle.replica_model.specs.declared.packet.Place.{Place}
use Rattle.replica_model.specs.Letters.{chain_of}
use Rattle.replica_model.specs.Replica.{Row}
use Rattle.replica_model.specs.Stepped.{Viewed, policy_in, again_of}
use Rattle.replica_state.specs.declared.told.Told.{Told}

-- the chain that a letter is about, where it is about one
abbrev pub told_of : Letter → Option ℕ
told_of (Cross part tries said) = Some (chain_of said)
told_of other = None

-- the chains that letters are about
abbrev pub told_by : List Letter → List ℕ
told_by letters = filter_map told_of letters

-- a read with its answer
abbrev pub viewed_of : CallId × Answer → Viewed
viewed_of read = record { id = read.0; answer = read.1 }

-- the read that begins a round, where the rounds rise
abbrev pub row_begun : Option Viewed → ℕ → ℕ → List Row
row_begun None before behind = []
row_begun (Some viewed) before behind = if nat_lt before behind then record { id = viewed.id; answer = viewed.answer; round = behind } ∷ [] else []

-- whether what is left of a leader is ready, and its policy
abbrev pub ready_left : Bool → Bool → Bool
ready_left on ready = on && ready

abbrev pub policy_left : Bool → Bool → Policy → Policy → Policy
policy_left on began kept told = if on then kept else (if began then told else kept)

-- the sender of the entry that is appended, at a leader that leads on
abbrev pub appended_at : Bool → ℕ → Option Place → Option (ℕ × Place)
appended_at on last sender = if on then option_map (λ place. (last, place)) sender else None

-- what an input tells beside what it asks: by which policy a replica leads where it is elected, and whether it is a pulse
pub record IsTold (i : Input) (told : Told) : Type 0 where
  pub policy : told.policy ≡ policy_in i
  pub again : (lead : Leading) (on : Bool) → again_of on lead i ≡ (if on && told.pulses then pulsed lead else [])
