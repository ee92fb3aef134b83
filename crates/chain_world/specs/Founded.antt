-- What became of each chain is what the decided lists say: the entry that began it, the one that showed or ended it, and
-- the one that wrote its in-halves.
use Rattle.std.specs.Prelude.{◌≡◌, ℕ, suc, List, take, Some, Bool, true}
use Rattle.graph_model.specs.declared.call_id.CallId.{CallId}
use Rattle.graph_model.specs.declared.edge_id.EdgeId.{EdgeId}
use Rattle.graph_model.specs.declared.half.Half.{Half}
use Rattle.part_keys.specs.declared.proposal.Proposal.{Proposal}
use Rattle.part_keys.specs.declared.entry.PartEntry.{PartEntry}
use Rattle.part_keys.specs.declared.entry.PartEntry.TheVariants as entry
use Rattle.part_keys.specs.Routing.{remote_of}
use Rattle.part_rules.specs.declared.applied.Applied.{Applied}
use Rattle.part_rules.specs.declared.applied.Applied.TheVariants as told
use Rattle.part_rules.specs.Machine.{taken_of}
use Rattle.part_rules.specs.Folded.{folded}
use Rattle.chain_world.specs.Course.{Fate, Primed, Doubled, Settled, Closed, Aborted, Course, Courses}
use Rattle.chain_world.specs.Answers.{WasAnswered}

-- the entry at the chain's number is its Prime, which took these edges
pub record IsBegunBy (parts : ℕ) (decided : List (ℕ × Proposal)) (v : ℕ) (c : Course) : Type 0 where
  pub place : ℕ
  pub term : ℕ
  pub whole : List (EdgeId × Half)
  pub absent : Bool
  pub number : v ≡ suc place
  pub answered : WasAnswered parts decided place term (entry.Prime c.id whole absent) (told.Begun v)
  pub takes : c.list ≡ taken_of (folded parts (take place decided)) whole absent
  pub remote : c.remote ≡ remote_of parts c.list

-- some entry of the list was answered so
pub record WasSaid (parts : ℕ) (decided : List (ℕ × Proposal)) (of : PartEntry) (answer : Applied) : Type 0 where
  pub place : ℕ
  pub term : ℕ
  pub answered : WasAnswered parts decided place term of answer

-- the entry that showed a chain, or ended it
abbrev pub HasFate : ℕ → List (ℕ × Proposal) → ℕ → CallId → Fate → Type 0
HasFate parts decided v id Primed = Unit {0}
HasFate parts decided v id Doubled = WasSaid parts decided (entry.Double v) (told.Doubled id)
HasFate parts decided v id Settled = WasSaid parts decided (entry.Local v) (told.Settled id)
HasFate parts decided v id Closed = WasSaid parts decided (entry.Close v) (told.Closed id)
HasFate parts decided v id (Aborted t) = (place : ℕ) × WasAnswered parts decided place t (entry.Abort v) (told.Aborted id)

-- a Remote of the chain that was Done
pub record WasPut (parts : ℕ) (decided : List (ℕ × Proposal)) (p v : ℕ) : Type 0 where
  pub term : ℕ
  pub list : List (EdgeId × Half)
  pub said : WasSaid parts decided (entry.Remote p term v list) told.Done

-- a chain is what the lists say
pub record IsFounded (parts : ℕ) (decided : ℕ → List (ℕ × Proposal)) (p v : ℕ) (c : Course) : Type 0 where
  pub begun : IsBegunBy parts (decided p) v c
  pub fate : HasFate parts (decided p) v c.id c.fate
  pub wrote : c.wrote ≡ true → WasPut parts (decided c.remote) p v

-- each chain is
abbrev pub AreFounded : ℕ → (ℕ → List (ℕ × Proposal)) → Courses → Type 0
AreFounded parts decided k = (p v : ℕ) (c : Course) → k p v ≡ Some c → IsFounded parts decided p v c

-- a chain is known, and is of that call
pub record IsKnown (k : Courses) (p v : ℕ) (id : CallId) : Type 0 where
  pub course : Course
  pub is : k p v ≡ Some course
  pub its : course.id ≡ id

-- each chain that a Prime began is
abbrev pub AreKnown : ℕ → (ℕ → List (ℕ × Proposal)) → Courses → Type 0
AreKnown parts decided k = (p place term : ℕ) (id : CallId) (list : List (EdgeId × Half)) (absent : Bool) (v : ℕ) → WasAnswered parts (decided p) place term (entry.Prime id list absent) (told.Begun v) → IsKnown k p v id
