-- One answer more.
use Rattle.std.proofs.Common.{◌≡◌, ℕ, suc, List, [], ◌∷◌, ◌++◌, length, ◌+◌, Option, Some, None, Bool, true, false, ◌||◌, ◌&&◌, refl, ap, sym, ◌∙◌, arith, length-append}
use Rattle.std.specs.Option.{option_or}
use Rattle.std.specs.List.{list_any, list_all}
use Rattle.std.proofs.lemmas.Option.{none-some}
use Rattle.graph_model.specs.declared.answer.Answer.{Answer}
use Rattle.graph_model.specs.declared.answer.Answer.TheVariants.{Conflict, Cancelled, Unknown}
use Rattle.statement_run.specs.Ending.{is_pending, is_skipped, stop_of, stopped_at}
use Rattle.statement_run.specs.Statement.{is_last}
use Rattle.statement_run.specs.Tally.{IsTally}
use Rattle.statement_run.specs.declared.tally.Tally.{Tally}

any_more : (p : Answer → Bool) (xs : List Answer) (x : Answer) → list_any p (xs ++ x ∷ []) ≡ (list_any p xs || p x)
any_more p [] x = go (p x)
  where
    go : (b : Bool) → (b || false) ≡ (false || b)
    go true = refl
    go false = refl
any_more p (y ∷ xs) x = go (p y) (any_more p xs x)
  where
    go : (b : Bool) → list_any p (xs ++ x ∷ []) ≡ (list_any p xs || p x) → (b || list_any p (xs ++ x ∷ [])) ≡ ((b || list_any p xs) || p x)
    go true later = refl
    go false later = later

all_more : (p : Answer → Bool) (xs : List Answer) (x : Answer) → list_all p (xs ++ x ∷ []) ≡ (list_all p xs && p x)
all_more p [] x = go (p x)
  where
    go : (b : Bool) → (b && true) ≡ (true && b)
    go true = refl
    go false = refl
all_more p (y ∷ xs) x = go (p y) (all_more p xs x)
  where
    go : (b : Bool) → list_all p (xs ++ x ∷ []) ≡ (list_all p xs && p x) → (b && list_all p (xs ++ x ∷ [])) ≡ ((b && list_all p xs) && p x)
    go true later = later
    go false later = refl

none_left : {A : Type 0} (a b : Option A) → option_or a b ≡ None → a ≡ None
none_left None b h = refl
none_left (Some x) b h = h

none_right : {A : Type 0} (a b : Option A) → option_or a b ≡ None → b ≡ None
none_right None b h = h
none_right (Some x) b h = absurd (none-some x (sym h))

or_none : {A : Type 0} (a : Option A) → option_or a None ≡ a
or_none None = refl
or_none (Some x) = refl

-- where none ended the statement before, the last answer counts, at its place
stop_more : (place : ℕ) (xs : List Answer) (x : Answer) → stopped_at place xs ≡ None → stopped_at place (xs ++ x ∷ []) ≡ stop_of (place + length xs) x
stop_more place [] x none = or_none (stop_of place x) ∙ ap (λ k. stop_of k x) (let e : place ≡ place + 0 = omega arith in e)
stop_more place (y ∷ xs) x none =
    ap (λ o. option_or o (stopped_at (suc place) (xs ++ x ∷ []))) (none_left (stop_of place y) (stopped_at (suc place) xs) none)
    ∙ stop_more (suc place) xs x (none_right (stop_of place y) (stopped_at (suc place) xs) none)
    ∙ ap (λ k. stop_of k x) (let e : suc place + length xs ≡ place + length (y ∷ xs) = omega arith in e)

pub noted : (t u : Tally) (answers : List Answer) (answer : Answer) → IsTally t answers → t.stop ≡ None → u.calls ≡ t.calls + 1
    → u.pending ≡ (t.pending || is_pending answer) → u.skipped ≡ (t.skipped && is_skipped answer) → u.stop ≡ stop_of u.calls answer → IsTally u (answers ++ answer ∷ [])
noted t u answers answer h none calls pending skipped stop = record {
  calls = calls ∙ ap (λ n. n + 1) h.calls ∙ sym (length-append answers (answer ∷ []));
  pending = pending ∙ ap (λ b. b || is_pending answer) h.pending ∙ sym (any_more is_pending answers answer);
  skipped = skipped ∙ ap (λ b. b && is_skipped answer) h.skipped ∙ sym (all_more is_skipped answers answer);
  stop = stop ∙ ap (λ k. stop_of k answer) (calls ∙ ap (λ n. n + 1) h.calls ∙ (let e : length answers + 1 ≡ 1 + length answers = omega arith in e)) ∙ sym (stop_more 1 answers answer (sym h.stop ∙ none));
}

-- a statement that no answer ended is stopped at none
stops_alike : (place : ℕ) (answer : Answer) → is_last answer ≡ false → stop_of place answer ≡ None
stops_alike place (Conflict other) is = absurd (let d : true ≡ false = is in cc)
stops_alike place Cancelled is = absurd (let d : true ≡ false = is in cc)
stops_alike place Unknown is = absurd (let d : true ≡ false = is in cc)
stops_alike place other is = refl

pub stopped_none : (place : ℕ) (answers : List Answer) → list_any is_last answers ≡ false → stopped_at place answers ≡ None
stopped_none place [] none = refl
stopped_none place (x ∷ answers) none = go (is_last x) refl none (stopped_none (suc place) answers)
  where
    go : (b : Bool) → is_last x ≡ b → (b || list_any is_last answers) ≡ false → (list_any is_last answers ≡ false → stopped_at (suc place) answers ≡ None)
        → option_or (stop_of place x) (stopped_at (suc place) answers) ≡ None
    go true is none later = absurd (let d : true ≡ false = none in cc)
    go false is none later = ap (λ o. option_or o (stopped_at (suc place) answers)) (stops_alike place x is) ∙ later none
