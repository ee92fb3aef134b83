-- What is said of a result, variant by variant.
use Rattle.std.proofs.Common.{◌≡◌, refl, subst, Ok, Err, Result}
use Rattle.std.specs.Prelude.{IfOk, OnErr}

pub if_ok : {A E : Type 0} (r : Result A E) (P : A → Type 0) → ((a : A) → r ≡ Ok a → P a) → IfOk r P
if_ok (Ok a) P h = h a refl
if_ok (Err e) P h = tt

pub at_ok : {A E : Type 0} (r : Result A E) (P : A → Type 0) (a : A) → r ≡ Ok a → IfOk r P → P a
at_ok (Ok b) P a is h = let same : b ≡ a = cc in subst P same h
at_ok (Err e) P a is h = absurd (cc)

pub on_err : {A E : Type 0} (r : Result A E) (P : Type 0) → ((e : E) → r ≡ Err e → P) → OnErr r P
on_err (Ok a) P h = tt
on_err (Err e) P h = h e refl

pub at_err : {A E : Type 0} (r : Result A E) (P : Type 0) (e : E) → r ≡ Err e → OnErr r P → P
at_err (Ok a) P e is h = absurd (cc)
at_err (Err x) P e is h = h
