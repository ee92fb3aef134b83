-- The calls of a client's story are those of its statements, in order.
use Rattle.std.proofs.Common.{◌≡◌, List, [], ◌∷◌, ◌++◌, map, take, length, Some, None, Bool, true, false, cond, refl, ap, sym, subst, ◌∙◌, append_assoc}
use Rattle.std.specs.Option.{is_some}
use Rattle.std.proofs.lemmas.Option.{none-some}
use Rattle.graph_model.specs.declared.answer.Answer.{Answer}
use Rattle.graph_model.specs.declared.op.Op.{Op}
use Rattle.statement_run.specs.Statement.{Running, starting, call_next, unended, Asked, first_asked, next_in, told}
use Rattle.statement_run.specs.Caller.{Open, Caller, next_from, queued, call_of, invoked, replied, nobody}
use Rattle.statement_run.specs.Story.{Move, Queues, Invokes, Replies, IsStory, statements_in, calls_in, answers_in, and_rest, calls_of, IsFront, CallsInOrder}

-- statements that are queued behind change nothing of what comes next
module _ (more : List Running) (asked : Asked) where
  first_more : (queue : List Running) → first_asked queue ≡ Some asked → first_asked (queue ++ more) ≡ Some asked
  first_more [] e = absurd (none-some asked e)
  first_more (r ∷ rest) e = e

  told_more : (answer : Answer) (queue : List Running) → first_asked queue ≡ Some asked → told answer (queue ++ more) ≡ told answer queue ++ more
  told_more answer [] e = absurd (none-some asked e)
  told_more answer (r ∷ rest) e = refl

  unended_more : (queue : List Running) → next_in queue ≡ Some asked → unended (queue ++ more) ≡ unended queue ++ more
  unended_more [] e = absurd (none-some asked e)
  unended_more (r ∷ rest) e = go (is_some (call_next r)) (unended_more rest) e
    where
      go : (b : Bool) → (first_asked (unended rest) ≡ Some asked → unended (rest ++ more) ≡ unended rest ++ more) → first_asked (cond b (r ∷ rest) (unended rest)) ≡ Some asked
          → cond b (r ∷ (rest ++ more)) (unended (rest ++ more)) ≡ cond b (r ∷ rest) (unended rest) ++ more
      go true later e = refl
      go false later e = later e

  next_more : (queue : List Running) → next_in queue ≡ Some asked → next_in (queue ++ more) ≡ Some asked
  next_more queue e = ap first_asked (unended_more queue e) ∙ first_more (unended queue) e

  -- the calls behind one that is open
  abbrev rest_of : List Running → List Answer → List Op
  rest_of queue [] = []
  rest_of queue (answer ∷ answers) = calls_of (told answer queue) answers

  calls_more : (queue : List Running) → next_in queue ≡ Some asked → (answers : List Answer) → calls_of (queue ++ more) answers ≡ asked.op ∷ rest_of (unended queue ++ more) answers
  calls_more queue e [] = ap (λ o. and_rest o []) (next_more queue e)
  calls_more queue e (answer ∷ answers) =
      ap (λ o. and_rest o (calls_of (told answer (unended (queue ++ more))) answers)) (next_more queue e)
      ∙ ap (λ q. asked.op ∷ calls_of (told answer q) answers) (unended_more queue e)

-- while no call is open, and while one is
abbrev behind : List Move → List Running
behind moves = map starting (statements_in moves)

abbrev Free : List Move → Type 0
Free moves = (c : Caller) → c.call ≡ None → IsStory c moves → IsFront (calls_in moves) (calls_of (c.queue ++ behind moves) (answers_in moves))

abbrev Busy : List Move → Type 0
Busy moves = (c : Caller) (asked : Asked) (call : Open) → c.call ≡ Some call → first_asked c.queue ≡ Some asked → IsStory c moves
    → IsFront (calls_in moves) (rest_of (behind moves) asked (c.queue ++ behind moves) (answers_in moves))

in_order : (moves : List Move) → Free moves × Busy moves
in_order [] = (λ c none story. refl, λ c asked call is first story. refl)
in_order (Queues statement ∷ moves) =
    (let later = in_order moves in (
      λ c none story. subst (λ q. IsFront (calls_in moves) (calls_of q (answers_in moves))) (append_assoc c.queue (starting statement ∷ []) (behind moves)) (later.0 (queued c statement) none story),
      λ c asked call is first story. subst (λ q. IsFront (calls_in moves) (rest_of (behind moves) asked q (answers_in moves))) (append_assoc c.queue (starting statement ∷ []) (behind moves))
          (later.1 (queued c statement) asked call is (first_more (starting statement ∷ []) asked c.queue first) story),
    ))
in_order (Invokes id op ∷ moves) =
    (let later = in_order moves in (
      λ c none story. (let n : next_in c.queue ≡ Some story.0 = sym (ap (next_from c.queue) none) ∙ story.1 in
          subst (λ all. IsFront (op ∷ calls_in moves) all) (sym (calls_more (behind moves) story.0 c.queue n (answers_in moves)))
          (subst (λ x. op ∷ calls_in moves ≡ x ∷ take (length (calls_in moves)) (rest_of (behind moves) story.0 (unended c.queue ++ behind moves) (answers_in moves))) (sym story.2)
          (ap (λ xs. op ∷ xs) (later.1 (invoked c id story.0) story.0 (call_of id story.0) refl n story.3)))),
      λ c asked call is first story. absurd (none-some story.0 (sym (ap (next_from c.queue) is) ∙ story.1)),
    ))
in_order (Replies answer ∷ moves) =
    (let later = in_order moves in (
      λ c none story. absurd (none-some story.0 (sym none ∙ story.1)),
      λ c asked call is first story. subst (λ q. IsFront (calls_in moves) (calls_of q (answers_in moves))) (sym (told_more (behind moves) asked answer c.queue first)) (later.0 (replied c answer) refl story.2),
    ))

pub calls_in_order : (moves : List Move) → CallsInOrder moves
calls_in_order moves story = (in_order moves).0 nobody refl story
