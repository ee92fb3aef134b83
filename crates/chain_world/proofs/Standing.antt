-- A chain that a part's machine keeps is one that stands.
use Rattle.std.proofs.Common.{◌≡◌, ℕ, Option, None, Some, Bool, true, false, cond, refl, ap, sym}
use Rattle.part_keys.specs.declared.chain.PrimeRec.{PrimeRec}
use Rattle.chain_world.specs.Course.{Fate, Primed, Doubled, Settled, Closed, Aborted, Course, stands, is_doubled, prime_of}

-- a chain that a machine keeps is one that stands
pub record IsCourse (o : Option Course) (v : ℕ) (chain : PrimeRec) : Type 0 where
  pub its : Course
  pub is : o ≡ Some its
  pub stands : stands its.fate ≡ true
  pub same : chain ≡ record { v = v; id = its.id; remote = its.remote; list = its.list; double = is_doubled its.fate }
  pub id : chain.id ≡ its.id
  pub list : chain.list ≡ its.list
  pub double : chain.double ≡ is_doubled its.fate

-- it is found there
pub course_found : (v : ℕ) (o : Option Course) (chain : PrimeRec) → prime_of v o ≡ Some chain → IsCourse o v chain
course_found v None chain e = cc
course_found v (Some c) chain e = go (stands c.fate) refl e
  where
    go : (b : Bool) → stands c.fate ≡ b → cond b (Some (record { v = v; id = c.id; remote = c.remote; list = c.list; double = is_doubled c.fate })) None ≡ Some chain → IsCourse (Some c) v chain
    go true s f = (let same : record { v = v; id = c.id; remote = c.remote; list = c.list; double = is_doubled c.fate } ≡ chain = cc in
        record { its = c; is = refl; stands = s; same = sym same; id = ap (λ (r : PrimeRec). r.id) (sym same); list = ap (λ (r : PrimeRec). r.list) (sym same); double = ap (λ (r : PrimeRec). r.double) (sym same) })
    go false s f = cc

-- one that isn't doubled is primed, and one that is is doubled
pub primed_of : (fate : Fate) → stands fate ≡ true → is_doubled fate ≡ false → fate ≡ Primed
primed_of Primed s d = refl
primed_of Doubled s d = cc
primed_of Settled s d = cc
primed_of Closed s d = cc
primed_of (Aborted t) s d = cc

-- one that is doubled
pub doubled_of : (fate : Fate) → is_doubled fate ≡ true → fate ≡ Doubled
doubled_of Primed d = cc
doubled_of Doubled d = refl
doubled_of Settled d = cc
doubled_of Closed d = cc
doubled_of (Aborted t) d = cc

-- a chain at its end isn't kept
pub none_of_end : (v : ℕ) (c : Course) (fate : Fate) → stands fate ≡ false → None ≡ prime_of v (Some (record c { fate = fate }))
none_of_end v c fate over = sym (ap (λ b. cond b (Some (record { v = v; id = c.id; remote = c.remote; list = c.list; double = is_doubled fate })) None) over)
