-- How a run of calls of a disk goes on.
use Rattle.std.proofs.Common.{inl, inr, ⊎_elim, ℕ, List, arith}
use Rattle.disk_model.specs.Disk.{Elapses, LeavesOnly}

module _ {D : Type 0} (clock : D → ℕ) (left_since : D → ℕ → List ℕ → Type 0) where
  -- before the first call
  pub started : (old : D) (P : List ℕ → Type 0) → ((c : List ℕ) → left_since old (clock old) c → P c) → LeavesOnly clock left_since old old P
  started old P here = record { later = omega arith; each = here; earlier = λ t c le left. inl left }

  -- one call more, after which a crash leaves what has P
  pub goes_on : (old mid new : D) (P may_leave : List ℕ → Type 0) → LeavesOnly clock left_since old mid P → Elapses (clock mid) (clock new) (left_since mid) (left_since new) may_leave
      → ((c : List ℕ) → may_leave c → P c) → LeavesOnly clock left_since old new P
  goes_on old mid new P may_leave so_far time here = record {
    later = omega (arith, so_far.later, time.later);
    each = λ c left. ⊎_elim (so_far.each c) (here c) (time.nothing_else (clock old) c so_far.later left);
    earlier = λ t c le left. ⊎_elim (so_far.earlier t c le) (λ now. inr (here c now)) (time.nothing_else t c (omega (arith, le, so_far.later)) left);
  }

  -- what holds of each of these files
  pub weaker : (old new : D) (P Q : List ℕ → Type 0) → LeavesOnly clock left_since old new P → ((c : List ℕ) → P c → Q c) → LeavesOnly clock left_since old new Q
  weaker old new P Q run so = record {
    later = run.later;
    each = λ c left. so c (run.each c left);
    earlier = λ t c le left. ⊎_elim (λ past. inl past) (λ here. inr (so c here)) (run.earlier t c le left);
  }

  -- one run behind another
  pub joined : (old mid new : D) (P : List ℕ → Type 0) → LeavesOnly clock left_since old mid P → LeavesOnly clock left_since mid new P → LeavesOnly clock left_since old new P
  joined old mid new P first second = record {
    later = omega (arith, first.later, second.later);
    each = λ c left. ⊎_elim (first.each c) (λ here. here) (second.earlier (clock old) c first.later left);
    earlier = λ t c le left. ⊎_elim (first.earlier t c le) (λ here. inr here) (second.earlier t c (omega (arith, le, first.later)) left);
  }
