-- Packets that were sent, by number, and which of them were delivered or lost.
use Rattle.std.specs.Prelude.{ℕ, zero, suc, Bool, true, false, List, [], ◌∷◌, map, Option, None, Some}
use Rattle.world_mail.specs.declared.packets.Sent.{Sent}

-- their bytes
abbrev pub bytes_of : List Sent → List (List ℕ)
bytes_of sent = map (λ (s : Sent). s.bytes) sent

-- packets of these bytes, none of them delivered or lost
abbrev pub fresh_of : List ℕ → Sent
fresh_of bytes = record { bytes = bytes; done = false }

abbrev pub fresh : List (List ℕ) → List Sent
fresh packets = map fresh_of packets

-- the one of this number is delivered or lost, if it is there
abbrev pub ended : Sent → Sent
ended s = record s { done = true }

abbrev pub marked : List Sent → ℕ → List Sent
marked [] k = []
marked (s ∷ sent) zero = ended s ∷ sent
marked (s ∷ sent) (suc k) = s ∷ marked sent k

-- how many at the front are
abbrev pub front_by : Bool → ℕ → ℕ
front_by true n = suc n
front_by false n = 0

abbrev pub front_of : List Sent → ℕ
front_of [] = 0
front_of (s ∷ sent) = front_by s.done (front_of sent)

-- The lowest number, counted from here, of one that isn't; none where each is.
abbrev pub lowest_by : Bool → ℕ → Option ℕ → Option ℕ
lowest_by true k later = later
lowest_by false k later = Some k

abbrev pub lowest_from : ℕ → List Sent → Option ℕ
lowest_from k [] = None
lowest_from k (s ∷ sent) = lowest_by s.done k (lowest_from (suc k) sent)

abbrev pub lowest : List Sent → Option ℕ
lowest sent = lowest_from 0 sent
