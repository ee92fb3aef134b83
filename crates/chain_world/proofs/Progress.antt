-- Calls and chains go on: what was answered, written and ended stays.
use Rattle.std.proofs.Common.{◌≡◌, ◌≢◌, inl, inr, ℕ, Option, None, Some, Bool, true, false, ◌||◌, ◌&&◌, refl, ap, sym, subst, ◌∙◌}
use Rattle.std.specs.Option.{option_map, unwrap_or}
use Rattle.graph_model.specs.declared.answer.Answer.{Answer}
use Rattle.graph_model.specs.declared.answer.Answer.TheVariants.{Fine, Skipped, Pending, Conflict, Cancelled}
use Rattle.graph_model.specs.declared.call.Call.{Call}
use Rattle.graph_model.specs.declared.call.CallState.{CallState}
use Rattle.graph_model.specs.declared.call.CallState.TheVariants.{Open, Begun, Done}
use Rattle.graph_model.specs.declared.call_id.CallId.{CallId}
use Rattle.graph_model.specs.Lookups.{holds_of, is_right, is_done_with}
use Rattle.graph_model.specs.Same.{is_pending, is_unknown}
use Rattle.graph_model.specs.Ops.{query_of}
use Rattle.graph_model.proofs.SameLemmas.{right}
use Rattle.part_keys.specs.declared.entry.PartEntry.{PartEntry}
use Rattle.part_rules.specs.declared.kept.Outcome.{Outcome}
use Rattle.part_rules.specs.declared.kept.Outcome.TheVariants as kept
use Rattle.chain_leader.specs.Calls.{call_in, kept_answer}
use Rattle.chain_world.specs.Course.{Fate, Primed, Doubled, Settled, Closed, Aborted, Course, Courses, is_doubled, is_aborted, with_course}
use Rattle.chain_world.specs.Invariant.ChainFacts.{IsFurther, GoOn}
use Rattle.chain_world.specs.Invariant.Sound.{IsOutcome}
use Rattle.chain_world.proofs.Setting.{Moves}
use Rattle.chain_world.proofs.Pends.{found_same, place_split, course_here, course_apart}

-- a call and the same call later: what it was answered stays
pub record IsProgress (call now : Call) : Type 0 where
  pub op : now.op ≡ call.op
  pub said : now.said ≡ call.said
  pub done : (a : Answer) → call.state ≡ Done a → now.state ≡ Done a
  pub shown : call.shown ≡ true → now.shown ≡ true
  pub moment : now.moment ≡ call.moment
  pub unread : query_of call.op ≢ None → now.state ≡ call.state

-- a look-up of a call, and the same look-up later
abbrev pub IsLater : Option Call → Option Call → Type 0
IsLater None None = Unit {0}
IsLater None (Some now) = ⊥
IsLater (Some call) None = ⊥
IsLater (Some call) (Some now) = IsProgress call now

-- the same calls, each as far or farther
abbrev pub Progress : (CallId → Option Call) → (CallId → Option Call) → Type 0
Progress old new = (i : CallId) → IsLater (old i) (new i)

-- a call that stays
pub same_progress : (call : Call) → IsProgress call call
same_progress call = record { op = refl; said = refl; done = λ a e. e; shown = λ e. e; moment = refl; unread = λ r. refl }

-- a look-up that stays
later_itself : (o : Option Call) → IsLater o o
later_itself None = tt
later_itself (Some call) = same_progress call

-- no call changes
pub no_progress : (old new : CallId → Option Call) → ((i : CallId) → new i ≡ old i) → Progress old new
no_progress old new same i = subst (IsLater (old i)) (sym (same i)) (later_itself (old i))

-- a look-up later and later again
later_twice : (a b c : Option Call) → IsLater a b → IsLater b c → IsLater a c
later_twice None None c l m = m
later_twice None (Some b) c l m = absurd l
later_twice (Some a) None c l m = absurd l
later_twice (Some a) (Some b) None l m = absurd m
later_twice (Some a) (Some b) (Some c) l m = record {
  op = m.op ∙ l.op;
  said = m.said ∙ l.said;
  done = λ x e. m.done x (l.done x e);
  shown = λ e. m.shown (l.shown e);
  moment = m.moment ∙ l.moment;
  unread = λ r. m.unread (λ e. r (ap query_of (sym l.op) ∙ e)) ∙ l.unread r;
}

-- calls that go on twice
pub progress_on : (a b c : CallId → Option Call) → Progress a b → Progress b c → Progress a c
progress_on a b c l m i = later_twice (a i) (b i) (c i) (l i) (m i)

-- one call goes on
pub moved_progress : (old new : CallId → Option Call) (id : CallId) (call now : Call) → old id ≡ Some call → Moves old new id (Some now) → IsProgress call now → Progress old new
moved_progress old new id call now known moved goes i = elim (moved.each i) [
  | inl same ↦ subst (λ o. IsLater o (new i)) (sym (ap old same ∙ known)) (subst (IsLater (Some call)) (sym (ap new same ∙ moved.here)) goes)
  | inr other ↦ subst (IsLater (old i)) (sym other.1) (later_itself (old i))
]

-- the call later, and before
pub record Found (P : Call → Type 0) (o : Option Call) : Type 0 where
  pub its : Call
  pub is : o ≡ Some its
  pub holds : P its

-- a call that was found is found later
pub found_later : (a b : Option Call) (call : Call) → IsLater a b → a ≡ Some call → Found (IsProgress call) b
found_later None b call l e = cc
found_later (Some x) None call l e = absurd l
found_later (Some x) (Some y) call l e = record { its = y; is = refl; holds = subst (λ z. IsProgress z y) (let f : x ≡ call = cc in f) l }

-- a call that is found later was found
pub found_before : (a b : Option Call) (now : Call) → IsLater a b → b ≡ Some now → Found (λ call. IsProgress call now) a
found_before None None now l e = cc
found_before None (Some y) now l e = absurd l
found_before (Some x) None now l e = absurd l
found_before (Some x) (Some y) now l e = record { its = x; is = refl; holds = subst (IsProgress x) (let f : y ≡ now = cc in f) l }

-- a right answer stays right
pub or_more : (a b c x y : Bool) → (a ≡ true → x ≡ true) → (b ≡ true → y ≡ true) → (a || (b || c)) ≡ true → (x || (y || c)) ≡ true
or_more true b c true y f g e = refl
or_more true b c false y f g e = let h : false ≡ true = f refl in cc
or_more false b c true y f g e = refl
or_more false true c false true f g e = refl
or_more false true c false false f g e = let h : false ≡ true = g refl in cc
or_more false false c false true f g e = refl
or_more false false c false false f g e = e

-- a call that was done with an answer is done with it later
done_stays : (a : Answer) (call now : Call) → IsProgress call now → (s : CallState) → call.state ≡ s → is_done_with a s ≡ true → is_done_with a now.state ≡ true
done_stays a call now goes Open is e = cc
done_stays a call now goes Begun is e = cc
done_stays a call now goes (Done b) is e = ap (is_done_with a) (goes.done b is) ∙ e

-- shown stays, under a test
both_shown : (p s t : Bool) → (s ≡ true → t ≡ true) → (p && s) ≡ true → (p && t) ≡ true
both_shown true s t f e = f e
both_shown false s t f e = e

-- an answer that was right is right later
pub right_stays : (a : Answer) (o n : Option Call) → IsLater o n → holds_of (is_right a) o ≡ true → holds_of (is_right a) n ≡ true
right_stays a None n l e = cc
right_stays a (Some call) None l e = absurd l
right_stays a (Some call) (Some now) l e =
    or_more (is_done_with a call.state) (is_pending a && call.shown) (is_unknown a) (is_done_with a now.state) (is_pending a && now.shown)
    (done_stays a call now l call.state refl) (both_shown (is_pending a) call.shown now.shown l.shown) e

-- chains that go on: none changes, one changes, one begins
doubled_lives : (fate : Fate) → is_doubled fate ≡ true → is_aborted fate ≡ false
doubled_lives Primed d = refl
doubled_lives Doubled d = refl
doubled_lives Settled d = refl
doubled_lives Closed d = refl
doubled_lives (Aborted t) d = sym d

-- a chain that stays
pub same_further : (c : Course) → IsFurther c c
same_further c = record { id = refl; remote = refl; list = refl; wrote = λ w. w; ended = λ e. refl; shown = doubled_lives c.fate }

-- none changes
pub go_still : (k : Courses) → GoOn k k
go_still k p v old is = (old, is, same_further old)

-- one changes
pub go_set : (k : Courses) (p v : ℕ) (c d : Course) → k p v ≡ Some c → IsFurther c d → GoOn k (with_course k p v (Some d))
go_set k p v c d is goes q w old was = elim (place_split p v q w) [
  | inl same ↦ (
    d,
    ap (λ i. with_course k p v (Some d) i w) same.0 ∙ ap (with_course k p v (Some d) p) same.1 ∙ course_here k p v (Some d),
    subst (λ c. IsFurther c d) (found_same (k p v) c old is (ap (k p) (sym same.1) ∙ ap (λ i. k i w) (sym same.0) ∙ was)) goes,
  )
  | inr apart ↦ (old, course_apart k p v (Some d) q w apart ∙ was, same_further old)
]

-- one begins
pub go_new : (k : Courses) (p v : ℕ) (o : Option Course) → k p v ≡ None → GoOn k (with_course k p v o)
go_new k p v o none q w old was = elim (place_split p v q w) [
  | inl same ↦ (let f : None ≡ Some old = sym none ∙ ap (k p) (sym same.1) ∙ ap (λ i. k i w) (sym same.0) ∙ was in cc)
  | inr apart ↦ (old, course_apart k p v o q w apart ∙ was, same_further old)
]

-- what one client is told
pub told_one : (calls : CallId → Option Call) (i : CallId) (b : Answer) (now : Call) → calls i ≡ Some now → is_right b now ≡ true
    → (j : CallId) (a : Answer) → ◌≡◌ {A = Option (CallId × Answer)} (Some (i, b)) (Some (j, a)) → holds_of (is_right a) (calls j) ≡ true
told_one calls i b now is rightly j a e = subst (λ (t : CallId × Answer). holds_of (is_right t.1) (calls t.0) ≡ true) (ap (λ (o : Option (CallId × Answer)). unwrap_or o (i, b)) e) (ap (holds_of (is_right b)) is ∙ rightly)

-- a kept outcome that is told again
pub told_again : (entry : PartEntry) (id : CallId) → call_in entry ≡ Some id → (o : Outcome) (call : Call) → IsOutcome o call → (calls : CallId → Option Call) → calls id ≡ Some call
    → (j : CallId) (a : Answer) → kept_answer entry o ≡ Some (j, a) → holds_of (is_right a) (calls j) ≡ true
told_again entry id its kept.Open call reached calls is j a e = cc
told_again entry id its kept.Fine call reached calls is j a e = told_one calls id Fine call is (right Fine call (inl reached)) j a (ap (option_map (λ i. (i, Fine))) (sym its) ∙ e)
told_again entry id its kept.Skipped call reached calls is j a e = told_one calls id Skipped call is (right Skipped call (inl reached)) j a (ap (option_map (λ i. (i, Skipped))) (sym its) ∙ e)
told_again entry id its kept.Pending call reached calls is j a e = told_one calls id Pending call is (right Pending call (inr (inl (refl, reached.1)))) j a (ap (option_map (λ i. (i, Pending))) (sym its) ∙ e)
told_again entry id its kept.Cancelled call reached calls is j a e = told_one calls id Cancelled call is (right Cancelled call (inl reached)) j a (ap (option_map (λ i. (i, Cancelled))) (sym its) ∙ e)
told_again entry id its (kept.Conflict other) call reached calls is j a e = told_one calls id (Conflict other) call is (right (Conflict other) call (inl reached)) j a (ap (option_map (λ i. (i, Conflict other))) (sym its) ∙ e)
