-- A world in which one replica changed: what it has at each key, and what the other has.
use Rattle.std.proofs.Common.{◌≡◌, ◌⊎◌, inl, inr, ℕ, Option, Bool, true, false, refl, ap, sym, subst, ◌∙◌}
use Rattle.std.specs.Prelude.{if◌then◌else◌, ◌==◌}
use Rattle.std.specs.FinMap.{FinMap, get}
use Rattle.std.specs.Cmp.{IsTotalOrder}
use Rattle.std.specs.Ordering.{eq_by_cmp}
use Rattle.std.specs.declared.cmp.Ordering.{Ordering}
use Rattle.first_graph.specs.Maps.{with_at}
use Rattle.first_graph.proofs.Updates.{with_at_here, with_at_apart}
use Rattle.nebstore_app.specs.declared.packet.Packet.{Packet}
use Rattle.nebstore_app.specs.Replica.{Replica}
use Rattle.nebstore_app.specs.World.{World, replica_of, with_replica}

-- the two tests lead to the same replica, or to different ones
set_seen : (first second r : Replica) (a b : Bool)
    → (((if b then (if a then r else first) else (if a then second else r)) ≡ r) × ((if b then first else second) ≡ (if a then first else second)))
    ⊎ ((if b then (if a then r else first) else (if a then second else r)) ≡ (if b then first else second))
set_seen first second r true true = inl (refl, refl)
set_seen first second r true false = inr refl
set_seen first second r false true = inr refl
set_seen first second r false false = inl (refl, refl)

set_at : (first second r : Replica) (a : Bool) → (if a then (if a then r else first) else (if a then second else r)) ≡ r
set_at first second r true = refl
set_at first second r false = refl

-- each replica is the new one and was the one that changed, or is as it was
pub replica_either : (w : World) (j : ℕ) (r : Replica) (q : Option Packet) (i : ℕ)
    → ((replica_of (with_replica w j r q) i ≡ r) × (replica_of w i ≡ replica_of w j)) ⊎ (replica_of (with_replica w j r q) i ≡ replica_of w i)
replica_either w j r q i = set_seen w.first w.second r (j == 1) (i == 1)

pub replica_at : (w : World) (j : ℕ) (r : Replica) (q : Option Packet) → replica_of (with_replica w j r q) j ≡ r
replica_at w j r q = set_at w.first w.second r (j == 1)

set_alike : {X : Type 0} (f : Replica → X) (first second r : Replica) (a b : Bool) → f r ≡ f (if a then first else second) → f (if b then (if a then r else first) else (if a then second else r)) ≡ f (if b then first else second)
set_alike f first second r true true same = same
set_alike f first second r true false same = refl
set_alike f first second r false true same = refl
set_alike f first second r false false same = same

-- what the new replica has as before, each has as before
pub replica_alike : {X : Type 0} (f : Replica → X) (w : World) (j : ℕ) (r : Replica) (q : Option Packet) → f r ≡ f (replica_of w j) → (i : ℕ) → f (replica_of (with_replica w j r q) i) ≡ f (replica_of w i)
replica_alike f w j r q same i = set_alike f w.first w.second r (j == 1) (i == 1) same

-- what holds of the new replica, and of each before, holds of each
pub replica_each : (P : Replica → Type 0) (w : World) (j : ℕ) (r : Replica) (q : Option Packet) → P r → ((i : ℕ) → P (replica_of w i)) → (i : ℕ) → P (replica_of (with_replica w j r q) i)
replica_each P w j r q new old i = elim (replica_either w j r q i) [ inl e ↦ subst P (sym e.0) new | inr e ↦ subst P (sym e) (old i) ]

set_map : {K X : Type 0} {R : K → K → Ordering} (o : IsTotalOrder R) (f : Replica → FinMap R X) (first second r : Replica) (a b : Bool) (k x : K) (value : Option X) → f r ≡ with_at (f (if a then first else second)) k value → eq_by_cmp R x k ≡ false
    → get (f (if b then (if a then r else first) else (if a then second else r))) x ≡ get (f (if b then first else second)) x
set_map o f first second r true true k x value is apart = ap (λ m. get m x) is ∙ with_at_apart o (f first) k value x apart
set_map o f first second r true false k x value is apart = refl
set_map o f first second r false true k x value is apart = refl
set_map o f first second r false false k x value is apart = ap (λ m. get m x) is ∙ with_at_apart o (f second) k value x apart

-- a map of the new replica that changed at one key: each map is as it was at each other key
pub map_apart : {K X : Type 0} {R : K → K → Ordering} (o : IsTotalOrder R) (f : Replica → FinMap R X) (w : World) (j : ℕ) (r : Replica) (q : Option Packet) (k x : K) (value : Option X) → f r ≡ with_at (f (replica_of w j)) k value → eq_by_cmp R x k ≡ false
    → (i : ℕ) → get (f (replica_of (with_replica w j r q) i)) x ≡ get (f (replica_of w i)) x
map_apart o f w j r q k x value is apart i = set_map o f w.first w.second r (j == 1) (i == 1) k x value is apart

-- and at this key it has the new value
pub map_here : {K X : Type 0} {R : K → K → Ordering} (o : IsTotalOrder R) (f : Replica → FinMap R X) (w : World) (j : ℕ) (r : Replica) (q : Option Packet) (k : K) (value : Option X) → f r ≡ with_at (f (replica_of w j)) k value
    → get (f (replica_of (with_replica w j r q) j)) k ≡ value
map_here o f w j r q k value is = ap (λ s. get (f s) k) (replica_at w j r q) ∙ ap (λ m. get m k) is ∙ with_at_here o (f (replica_of w j)) k value
