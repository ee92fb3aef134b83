-- A range between an end before a vertex' keys and one after them holds all of them.
use Rattle.std.proofs.Common.{◌≡◌, ℤ, ◌<ℤ◌, arith, Bool, true, false, refl, ap, sym, subst}
use Rattle.std.proofs.lemmas.Int.{ints}
use Rattle.std.specs.Prelude.{not, ◌&&◌}
use Rattle.std.specs.declared.cmp.Ordering.{Ordering}
use Rattle.std.specs.declared.cmp.Ordering.TheVariants.{Less, Greater}
use Rattle.std.specs.declared.ops.Bound.{Bound}
use Rattle.std.specs.declared.ops.Bound.TheVariants.{Included, Excluded, Unbounded}
use Rattle.std.specs.Ordering.{int_cmp, is_gt, is_lt, is_le, ordering_then}
use Rattle.std.specs.Cmp.{int_cmp_is}
use Rattle.std.specs.BTreeMap.Range.{is_from_start, is_past_end}
use Rattle.first_graph.specs.Ranges.{StartsBefore, EndsAfter, RunsForward, HoldsAllOf}
use Rattle.first_graph.specs.Keys.{edge_cmp, in_cmp}

-- keys are ordered by their vertices first
abbrev pub IsByVertex : {K : Type 0} → (K → K → Ordering) → (K → ℤ) → Type 0
IsByVertex {K} R vertex = (a b : K) → (int_cmp (vertex a) (vertex b) ≡ Less → R a b ≡ Less) × (int_cmp (vertex a) (vertex b) ≡ Greater → R a b ≡ Greater)

less : (a b : ℤ) → a <ℤ b → int_cmp a b ≡ Less
less a b l = sym (int_cmp_is a b Less l)

greater : (a b : ℤ) → b <ℤ a → int_cmp a b ≡ Greater
greater a b l = sym (int_cmp_is a b Greater l)

both : (a b : Bool) → a ≡ true → b ≡ false → (a && not b) ≡ true
both true true e f = cc
both true false e f = refl
both false b e f = cc

module _ {K : Type 0} (R : K → K → Ordering) (vertex : K → ℤ) (by_vertex : IsByVertex R vertex) where
  before : (a b : K) (v : ℤ) → vertex a <ℤ v → vertex b ≡ v → R a b ≡ Less
  before a b v l e = (by_vertex a b).0 (less _ _ (subst (λ x. vertex a <ℤ x) (sym e) l))

  after : (a b : K) (v : ℤ) → v <ℤ vertex a → vertex b ≡ v → R a b ≡ Greater
  after a b v l e = (by_vertex a b).1 (greater _ _ (subst (λ x. x <ℤ vertex a) (sym e) l))

  across : (a b : K) (v : ℤ) → vertex a <ℤ v → v <ℤ vertex b → R a b ≡ Less
  across a b v l m = (by_vertex a b).0 (less (vertex a) (vertex b) (omega (arith, ints)))

  start_inside : (low : Bound K) (v : ℤ) (k : K) → StartsBefore vertex v low → vertex k ≡ v → is_from_start R low k ≡ true
  start_inside (Included a) v k l e = ap is_le (before a k v l e)
  start_inside (Excluded a) v k l e = ap is_lt (before a k v l e)
  start_inside Unbounded v k l e = refl

  end_inside : (high : Bound K) (v : ℤ) (k : K) → EndsAfter vertex v high → vertex k ≡ v → is_past_end R high k ≡ false
  end_inside (Included b) v k l e = ap is_lt (after b k v l e)
  end_inside (Excluded b) v k l e = ap is_le (after b k v l e)
  end_inside Unbounded v k l e = refl

  pub holds_all : (low high : Bound K) (v : ℤ) → StartsBefore vertex v low → EndsAfter vertex v high → HoldsAllOf R vertex v (low, high)
  holds_all low high v l m k e = both _ _ (start_inside low v k l e) (end_inside high v k m e)

  pub runs_forward : (low high : Bound K) (v : ℤ) → StartsBefore vertex v low → EndsAfter vertex v high → RunsForward R (low, high)
  runs_forward (Included a) (Included b) v l m = ap is_gt (across a b v l m)
  runs_forward (Included a) (Excluded b) v l m = ap is_gt (across a b v l m)
  runs_forward (Included a) Unbounded v l m = tt
  runs_forward (Excluded a) (Included b) v l m = ap is_gt (across a b v l m)
  runs_forward (Excluded a) (Excluded b) v l m = across a b v l m
  runs_forward (Excluded a) Unbounded v l m = tt
  runs_forward Unbounded high v l m = tt

pub edges_by_vertex : IsByVertex edge_cmp (λ e. e.src)
edges_by_vertex a b =
    let rest = ordering_then (int_cmp a.etype b.etype) (ordering_then (int_cmp a.rank b.rank) (int_cmp a.dst b.dst)) in
    (λ e. ap (λ o. ordering_then o rest) e, λ e. ap (λ o. ordering_then o rest) e)

pub ins_by_vertex : IsByVertex in_cmp (λ k. k.dst)
ins_by_vertex a b =
    let rest = ordering_then (int_cmp a.back b.back) (ordering_then (int_cmp a.rank b.rank) (ordering_then (int_cmp a.src b.src) (int_cmp a.etype b.etype))) in
    (λ e. ap (λ o. ordering_then o rest) e, λ e. ap (λ o. ordering_then o rest) e)
