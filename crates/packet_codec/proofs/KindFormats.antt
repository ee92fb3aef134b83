-- A packet's kind is read from its number alone.
use Rattle.std.proofs.Common.{◌≡◌, ℕ, Bool, true, false, cond, List, [], ◌∷◌, length, Option, None, Some, Ok, refl, ap, subst, ◌==◌, arith}
use Rattle.std.specs.List.{find}
use Rattle.std.proofs.lemmas.Bool.{eqb-true}
use Rattle.std.proofs.lemmas.Option.{same_Some, none-some}
use Rattle.byte_fields.specs.Reading.{byte_at}
use Rattle.byte_fields.proofs.Steps.{IsBytes, IsBytes-rest, Takes, ok_is}
use Rattle.byte_fields.proofs.Within.{IsWithin}
use Rattle.byte_fields.proofs.Formats.{IsFormat}
use Rattle.packet_codec.specs.declared.kind.Kind.{Kind}
use Rattle.packet_codec.specs.declared.kind.Kind.TheVariants.{Request, Answer, NotLeader, Append, Appended, Vote, Voted, TimeoutNow, Remote, Done, Stale, Fence, Fenced, Resume}
use Rattle.packet_codec.specs.Kinds.{number_of, all_kinds, kind_of}
use Rattle.packet_codec.specs.Reading.{known_kind, kind_at}

passes_by : {X : Type 0} (test : X → Bool) (x : X) (b : Bool) (rest : Option X) (y : X) → test x ≡ b → cond b (Some x) rest ≡ Some y → (rest ≡ Some y → test y ≡ true) → test y ≡ true
passes_by test x true rest y is e later = subst (λ (z : _). test z ≡ true) (same_Some x y e) is
passes_by test x false rest y is e later = later e

-- what was found passes the test
passes : {X : Type 0} (test : X → Bool) (xs : List X) (y : X) → find test xs ≡ Some y → test y ≡ true
passes test [] y e = absurd (none-some y e)
passes test (x ∷ xs) y e = passes_by test x (test x) (find test xs) y refl e (passes test xs y)

numbered : (n : ℕ) (k : Kind) → kind_of n ≡ Some k → n ≡ number_of k
numbered n k e = eqb-true n (number_of k) (passes (λ (x : Kind). n == number_of x) all_kinds k e)

known_takes : (b : ℕ) (bytes : List ℕ) (found : Option Kind) → kind_of b ≡ found → (k : Kind) (rest : List ℕ) → IsBytes (b ∷ bytes) → known_kind found bytes (b ∷ bytes) ≡ Ok (k, rest) → Takes (b ∷ bytes) (number_of k ∷ []) rest × Unit {0}
known_takes b bytes (Some x) is k rest fits e =
    let took : Takes (b ∷ bytes) (number_of x ∷ []) bytes = record { parts = ap (λ (n : ℕ). n ∷ bytes) (numbered b x is); rest_fits = IsBytes-rest b bytes fits } in
    subst (λ (p : Kind × List ℕ). Takes (b ∷ bytes) (number_of p.0 ∷ []) p.1 × Unit {0}) (ok_is (x, bytes) (k, rest) e) (took, tt)
known_takes b bytes None is k rest fits e = absurd cc

kind_takes : (bytes : List ℕ) (k : Kind) (rest : List ℕ) → IsBytes bytes → kind_at bytes ≡ Ok (k, rest) → Takes bytes (number_of k ∷ []) rest × Unit {0}
unfolding kind_at byte_at
kind_takes [] k rest fits e = absurd cc
kind_takes (b ∷ bytes) k rest fits e = known_takes b bytes (kind_of b) refl k rest fits e

kind_again : (k : Kind) (rest : List ℕ) → kind_at (number_of k ∷ rest) ≡ Ok (k, rest)
unfolding kind_at byte_at
kind_again Request rest = refl
kind_again Answer rest = refl
kind_again NotLeader rest = refl
kind_again Append rest = refl
kind_again Appended rest = refl
kind_again Vote rest = refl
kind_again Voted rest = refl
kind_again TimeoutNow rest = refl
kind_again Remote rest = refl
kind_again Done rest = refl
kind_again Stale rest = refl
kind_again Fence rest = refl
kind_again Fenced rest = refl
kind_again Resume rest = refl

known_within : (found : Option Kind) (b : ℕ) (bytes : List ℕ) → IsWithin (length (b ∷ bytes)) (known_kind found bytes (b ∷ bytes))
known_within (Some k) b bytes = omega arith
known_within None b bytes = omega arith

kind_within : (bytes : List ℕ) → IsWithin (length bytes) (kind_at bytes)
unfolding kind_at byte_at
kind_within [] = omega arith
kind_within (b ∷ bytes) = known_within (kind_of b) b bytes

-- a kind
pub kind_format : IsFormat kind_at (λ k. number_of k ∷ []) (λ k. Unit {0})
kind_format = record { takes = kind_takes; again = λ k rest fits. kind_again k rest; within = kind_within }
