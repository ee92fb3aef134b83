-- What a leader makes of an entry that it may propose.
use Rattle.std.proofs.Common.{◌≡◌, ℕ, List, [], ◌∷◌, Bool, true, false, cond, refl, ap, ◌∙◌}
use Rattle.part_keys.specs.declared.entry.PartEntry.{PartEntry}
use Rattle.part_keys.specs.declared.vid_kind.VidKind.{VidKind}
use Rattle.part_keys.specs.Routing.{is_payload}
use Rattle.chain_leader.specs.Calls.{is_write}
use Rattle.chain_leader.specs.Leading.{Leading, Taken, still, proposing}

-- the leader as it was, and what it proposes
abbrev pub proposes : Leading → List PartEntry → Taken
proposes l entries = record { leading = l; proposals = entries; letters = [] }

one_or_none : (b : Bool) (l : Leading) (x : PartEntry) → cond b (proposes l (x ∷ [])) (still l) ≡ proposes l (cond b (x ∷ []) [])
one_or_none true l x = refl
one_or_none false l x = refl

if_write : (b : Bool) (l : Leading) (entries : List PartEntry) → cond b (proposes l entries) (still l) ≡ proposes l (cond b entries [])
if_write true l entries = refl
if_write false l entries = refl

-- an entry that may stand in the log
pub proposing_is : (ids : VidKind) (parts part : ℕ) (l : Leading) (x : PartEntry) → proposing ids parts part l x ≡ proposes l (cond (is_payload ids parts part x) (x ∷ []) [])
proposing_is ids parts part l x = one_or_none (is_payload ids parts part x) l x

-- the entry of a client's call
pub requested_is : (ids : VidKind) (parts part : ℕ) (l : Leading) (x : PartEntry) → cond (is_write x) (proposing ids parts part l x) (still l) ≡ proposes l (cond (is_write x) (cond (is_payload ids parts part x) (x ∷ []) []) [])
requested_is ids parts part l x = ap (λ made. cond (is_write x) made (still l)) (proposing_is ids parts part l x) ∙ if_write (is_write x) l (cond (is_payload ids parts part x) (x ∷ []) [])
