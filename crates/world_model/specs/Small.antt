-- A spelling of a few kinds of entries, for runs that are worked by hand: a Prime of one edge with a row of one number, not
-- with IF NOT EXISTS; the Remote of such a chain; a Local; and a read of a tag. All ids are numbers.
use Rattle.std.specs.Prelude.{ℕ, zero, suc, ℤ, pos, negsuc, false, List, [], ◌∷◌, Option, None, Some}
use Rattle.graph_model.specs.declared.call_id.CallId.{CallId}
use Rattle.graph_model.specs.declared.edge_id.EdgeId.{EdgeId}
use Rattle.graph_model.specs.declared.half.Half.{Half}
use Rattle.graph_model.specs.declared.half.Half.TheVariants.{Absent, Here}
use Rattle.graph_model.specs.declared.query.Query.{Query}
use Rattle.graph_model.specs.declared.query.Query.TheVariants.{Tag}
use Rattle.graph_model.specs.declared.val.Val.{Val}
use Rattle.graph_model.specs.declared.val.Val.TheVariants.{Int}
use Rattle.graph_model.specs.declared.vid.Vid.{Vid}
use Rattle.graph_model.specs.declared.vid.Vid.TheVariants.{Num, Name}
use Rattle.part_keys.specs.declared.entry.PartEntry.{PartEntry}
use Rattle.part_keys.specs.declared.entry.PartEntry.TheVariants as entry

-- an edge of two numbered vertices, with a row of one number
pub record One : Type 0 where
  pub src : ℤ
  pub etype : ℤ
  pub rank : ℤ
  pub dst : ℤ
  pub value : ℤ

abbrev pub edge_of : One → EdgeId
edge_of o = record { src = Num o.src; etype = o.etype; rank = o.rank; dst = Num o.dst }

abbrev pub halves_of : One → List (EdgeId × Half)
halves_of o = (edge_of o, Here (Int o.value ∷ [])) ∷ []

-- what a list of halves is, if it is such a one
abbrev pub value_in : List Val → Option ℤ
value_in (Int n ∷ []) = Some n
value_in row = None

abbrev pub number_in : Vid → Option ℤ
number_in (Num n) = Some n
number_in (Name name) = None

abbrev pub half_in : Half → Option ℤ
half_in (Here row) = value_in row
half_in Absent = None

abbrev pub one_by : EdgeId → Option ℤ → Option ℤ → Option ℤ → Option One
one_by e (Some a) (Some b) (Some n) = Some (record { src = a; etype = e.etype; rank = e.rank; dst = b; value = n })
one_by e a b n = None

abbrev pub one_in : List (EdgeId × Half) → Option One
one_in (x ∷ []) = one_by x.0 (number_in x.0.src) (number_in x.0.dst) (half_in x.1)
one_in list = None

-- an integer as its sign and size
abbrev pub sign : ℤ → ℕ
sign (pos n) = 0
sign (negsuc n) = 1

abbrev pub size : ℤ → ℕ
size (pos n) = n
size (negsuc n) = n

abbrev pub integer : ℕ → ℕ → ℤ
integer zero n = pos n
integer (suc k) n = negsuc n

abbrev pub one_spelled : One → List ℕ
one_spelled o = sign o.src ∷ size o.src ∷ sign o.etype ∷ size o.etype ∷ sign o.rank ∷ size o.rank ∷ sign o.dst ∷ size o.dst ∷ sign o.value ∷ size o.value ∷ []

abbrev pub one_read : List ℕ → Option One
one_read (a ∷ b ∷ c ∷ d ∷ e ∷ f ∷ g ∷ h ∷ i ∷ j ∷ []) = Some (record { src = integer a b; etype = integer c d; rank = integer e f; dst = integer g h; value = integer i j })
one_read bytes = None

-- the four kinds of entries
abbrev pub prime_spelled : CallId → Option One → Option (List ℕ)
prime_spelled id None = None
prime_spelled id (Some o) = Some (1 ∷ id.client ∷ id.number ∷ one_spelled o)

abbrev pub remote_spelled : ℕ → ℕ → ℕ → Option One → Option (List ℕ)
remote_spelled from term v None = None
remote_spelled from term v (Some o) = Some (2 ∷ from ∷ term ∷ v ∷ one_spelled o)

abbrev pub read_spelled : CallId → Query → Option (List ℕ)
read_spelled id (Tag (Num z) tag) = Some (4 ∷ id.client ∷ id.number ∷ sign z ∷ size z ∷ tag ∷ [])
read_spelled id query = None

abbrev pub small_spelled : PartEntry → Option (List ℕ)
small_spelled (entry.Prime id list false) = prime_spelled id (one_in list)
small_spelled (entry.Remote from term v list) = remote_spelled from term v (one_in list)
small_spelled (entry.Local v) = Some (3 ∷ v ∷ [])
small_spelled (entry.Read id query) = read_spelled id query
small_spelled x = None

abbrev pub as_prime : ℕ → ℕ → Option One → Option PartEntry
as_prime client number None = None
as_prime client number (Some o) = Some (entry.Prime (record { client = client; number = number }) (halves_of o) false)

abbrev pub as_remote : ℕ → ℕ → ℕ → Option One → Option PartEntry
as_remote from term v None = None
as_remote from term v (Some o) = Some (entry.Remote from term v (halves_of o))

abbrev pub small_read : List ℕ → Option PartEntry
small_read (suc zero ∷ client ∷ number ∷ bytes) = as_prime client number (one_read bytes)
small_read (suc (suc zero) ∷ from ∷ term ∷ v ∷ bytes) = as_remote from term v (one_read bytes)
small_read (suc (suc (suc zero)) ∷ v ∷ []) = Some (entry.Local v)
small_read (suc (suc (suc (suc zero))) ∷ client ∷ number ∷ a ∷ b ∷ tag ∷ []) = Some (entry.Read (record { client = client; number = number }) (Tag (Num (integer a b)) tag))
small_read bytes = None
