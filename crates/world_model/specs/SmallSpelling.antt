-- What the small spelling spells is read back; so it is a spelling.
use Rattle.std.proofs.Common.{◌≡◌, ℕ, List, [], ◌∷◌, Option, None, Some, true, false, refl, ap, sym, ◌∙◌}
use Rattle.std.specs.Prelude.{ℤ, pos, negsuc}
use Rattle.std.proofs.lemmas.Option.{same_Some, none-some}
use Rattle.graph_model.specs.declared.call_id.CallId.{CallId}
use Rattle.graph_model.specs.declared.edge_id.EdgeId.{EdgeId}
use Rattle.graph_model.specs.declared.half.Half.{Half}
use Rattle.graph_model.specs.declared.half.Half.TheVariants.{Absent, Here}
use Rattle.graph_model.specs.declared.query.Query.{Query}
use Rattle.graph_model.specs.declared.query.Query.TheVariants.{Tag, Edge, Out, In, Both}
use Rattle.graph_model.specs.declared.val.Val.{Val}
use Rattle.graph_model.specs.declared.val.Val.TheVariants.{Null, Int, Flag, Words}
use Rattle.graph_model.specs.declared.vid.Vid.{Vid}
use Rattle.graph_model.specs.declared.vid.Vid.TheVariants.{Num, Name}
use Rattle.part_keys.specs.declared.entry.PartEntry.{PartEntry}
use Rattle.part_keys.specs.declared.entry.PartEntry.TheVariants as entry
use Rattle.part_keys.specs.Spelled.{Spelling}
use Rattle.world_model.specs.Small.{One, halves_of, value_in, number_in, half_in, one_by, one_in, sign, size, integer, one_spelled, one_read, prime_spelled, remote_spelled, read_spelled, small_spelled, as_prime, as_remote, small_read}

integer_back : (z : ℤ) → integer (sign z) (size z) ≡ z
integer_back (pos n) = refl
integer_back (negsuc n) = refl

one_back : (o : One) → one_read (one_spelled o) ≡ Some o
one_back o =
    ap (λ z. Some (record { src = z; etype = integer (sign o.etype) (size o.etype); rank = integer (sign o.rank) (size o.rank); dst = integer (sign o.dst) (size o.dst); value = integer (sign o.value) (size o.value) })) (integer_back o.src)
    ∙ ap (λ z. Some (record { src = o.src; etype = z; rank = integer (sign o.rank) (size o.rank); dst = integer (sign o.dst) (size o.dst); value = integer (sign o.value) (size o.value) })) (integer_back o.etype)
    ∙ ap (λ z. Some (record { src = o.src; etype = o.etype; rank = z; dst = integer (sign o.dst) (size o.dst); value = integer (sign o.value) (size o.value) })) (integer_back o.rank)
    ∙ ap (λ z. Some (record { src = o.src; etype = o.etype; rank = o.rank; dst = z; value = integer (sign o.value) (size o.value) })) (integer_back o.dst)
    ∙ ap (λ z. Some (record { src = o.src; etype = o.etype; rank = o.rank; dst = o.dst; value = z })) (integer_back o.value)

number_is : (v : Vid) (z : ℤ) → number_in v ≡ Some z → v ≡ Num z
number_is (Num n) z e = ap Num (same_Some n z e)
number_is (Name name) z e = absurd (none-some z e)

value_is : (row : List Val) (z : ℤ) → value_in row ≡ Some z → row ≡ Int z ∷ []
value_is [] z e = absurd (none-some z e)
value_is (Int n ∷ []) z e = ap (λ k. Int k ∷ []) (same_Some n z e)
value_is (Null ∷ []) z e = absurd (none-some z e)
value_is (Flag b ∷ []) z e = absurd (none-some z e)
value_is (Words t ∷ []) z e = absurd (none-some z e)
value_is (Int n ∷ w ∷ row) z e = absurd (none-some z e)
value_is (Null ∷ w ∷ row) z e = absurd (none-some z e)
value_is (Flag b ∷ w ∷ row) z e = absurd (none-some z e)
value_is (Words t ∷ w ∷ row) z e = absurd (none-some z e)

half_is : (h : Half) (z : ℤ) → half_in h ≡ Some z → h ≡ Here (Int z ∷ [])
half_is (Here row) z e = ap Here (value_is row z e)
half_is Absent z e = absurd (none-some z e)

by_is : (x : EdgeId) (h : Half) (a b n : Option ℤ) → number_in x.src ≡ a → number_in x.dst ≡ b → half_in h ≡ n → (o : One) → one_by x a b n ≡ Some o → ((x, h) ∷ []) ≡ halves_of o
by_is x h (Some a) (Some b) (Some n) p q r o e =
    ap (λ v. (record { src = v; etype = x.etype; rank = x.rank; dst = x.dst }, h) ∷ []) (number_is x.src a p)
    ∙ ap (λ v. (record { src = Num a; etype = x.etype; rank = x.rank; dst = v }, h) ∷ []) (number_is x.dst b q)
    ∙ ap (λ k. (record { src = Num a; etype = x.etype; rank = x.rank; dst = Num b }, k) ∷ []) (half_is h n r)
    ∙ ap halves_of (same_Some (record { src = a; etype = x.etype; rank = x.rank; dst = b; value = n }) o e)
by_is x h None b n p q r o e = absurd (none-some o e)
by_is x h (Some a) None n p q r o e = absurd (none-some o e)
by_is x h (Some a) (Some b) None p q r o e = absurd (none-some o e)

one_is : (list : List (EdgeId × Half)) (o : One) → one_in list ≡ Some o → list ≡ halves_of o
one_is [] o e = absurd (none-some o e)
one_is (x ∷ []) o e = by_is x.0 x.1 (number_in x.0.src) (number_in x.0.dst) (half_in x.1) refl refl refl o e
one_is (x ∷ y ∷ list) o e = absurd (none-some o e)

prime_back : (id : CallId) (list : List (EdgeId × Half)) (x : Option One) → one_in list ≡ x → (bytes : List ℕ) → prime_spelled id x ≡ Some bytes → small_read bytes ≡ Some (entry.Prime id list false)
prime_back id list None is bytes e = absurd (none-some bytes e)
prime_back id list (Some o) is bytes e =
    ap small_read (sym (same_Some (1 ∷ id.client ∷ id.number ∷ one_spelled o) bytes e))
    ∙ ap (as_prime id.client id.number) (one_back o)
    ∙ ap (λ xs. Some (entry.Prime id xs false)) (sym (one_is list o is))

remote_back : (from term v : ℕ) (list : List (EdgeId × Half)) (x : Option One) → one_in list ≡ x → (bytes : List ℕ) → remote_spelled from term v x ≡ Some bytes → small_read bytes ≡ Some (entry.Remote from term v list)
remote_back from term v list None is bytes e = absurd (none-some bytes e)
remote_back from term v list (Some o) is bytes e =
    ap small_read (sym (same_Some (2 ∷ from ∷ term ∷ v ∷ one_spelled o) bytes e))
    ∙ ap (as_remote from term v) (one_back o)
    ∙ ap (λ xs. Some (entry.Remote from term v xs)) (sym (one_is list o is))

read_back : (id : CallId) (query : Query) (bytes : List ℕ) → read_spelled id query ≡ Some bytes → small_read bytes ≡ Some (entry.Read id query)
read_back id (Tag (Num z) tag) bytes e =
    ap small_read (sym (same_Some (4 ∷ id.client ∷ id.number ∷ sign z ∷ size z ∷ tag ∷ []) bytes e)) ∙ ap (λ n. Some (entry.Read id (Tag (Num n) tag))) (integer_back z)
read_back id (Tag (Name name) tag) bytes e = absurd (none-some bytes e)
read_back id (Edge x) bytes e = absurd (none-some bytes e)
read_back id (Out v types) bytes e = absurd (none-some bytes e)
read_back id (In v types) bytes e = absurd (none-some bytes e)
read_back id (Both v types) bytes e = absurd (none-some bytes e)

pub small_back : (x : PartEntry) (bytes : List ℕ) → small_spelled x ≡ Some bytes → small_read bytes ≡ Some x
small_back (entry.Prime id list false) bytes e = prime_back id list (one_in list) refl bytes e
small_back (entry.Prime id list true) bytes e = absurd (none-some bytes e)
small_back (entry.Remote from term v list) bytes e = remote_back from term v list (one_in list) refl bytes e
small_back (entry.Local v) bytes e = ap small_read (sym (same_Some (3 ∷ v ∷ []) bytes e))
small_back (entry.Read id query) bytes e = read_back id query bytes e
small_back (entry.Double v) bytes e = absurd (none-some bytes e)
small_back (entry.Close v) bytes e = absurd (none-some bytes e)
small_back (entry.Abort v) bytes e = absurd (none-some bytes e)
small_back (entry.Fence from term v edges) bytes e = absurd (none-some bytes e)
small_back (entry.Vertex id op) bytes e = absurd (none-some bytes e)

abbrev pub small : Spelling
small = record { spell = small_spelled; read = small_read; back = small_back }
