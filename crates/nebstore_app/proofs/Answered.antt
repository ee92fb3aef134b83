-- What a call means for its line.
use Rattle.std.proofs.Common.{◌≡◌, ℕ, ◌+◌, List, [], ◌∷◌, ◌++◌, take, zero, suc, refl, ap, sym, ◌∙◌, arith}
use Rattle.first_graph.specs.declared.answer.Answer.{Answer}
use Rattle.first_graph.specs.declared.op.Op.{Op}
use Rattle.first_script.specs.Works.{op_of}
use Rattle.first_script.specs.Answers.{statement_answer}
use Rattle.first_script.specs.declared.statement.Statement.{Statement}
use Rattle.first_script.specs.declared.work.Work.TheVariants.{Call}
use Rattle.nebstore_app.specs.Packets.{the_client}
use Rattle.nebstore_app.specs.World.{World, next_call}
use Rattle.nebstore_app.specs.Calls.{calls_of, numbered, HasCalled, HasStopped}
use Rattle.nebstore_app.specs.Answering.{AnswersLine, LeavesLine}

pub take-numbered : {A : Type 0} (k n : ℕ) (xs : List A) → take k (numbered n xs) ≡ numbered n (take k xs)
take-numbered zero n xs = refl
take-numbered (suc k) n [] = refl
take-numbered (suc k) n (x ∷ xs) = ap (λ ys. (record { client = the_client; number = n }, x) ∷ ys) (take-numbered k (n + 1) xs)

pub answered_call : (w v : World) (s : Statement) (op : Op) (a : Answer) → op ≡ op_of s → HasCalled w v op a → AnswersLine w v (Call s) (statement_answer s (a ∷ []))
answered_call w v s op a is h = record {
  quiet = h.quiet;
  last = h.last;
  answers = a ∷ [];
  each = refl;
  calls = h.calls ∙ ap (λ o. calls_of w.events ++ (next_call w, o) ∷ []) is;
  replies = h.replies;
  is = refl;
}

pub left_called : (w v : World) (s : Statement) (op : Op) (a : Answer) → op ≡ op_of s → HasCalled w v op a → LeavesLine w v (Call s) (a ∷ [])
left_called w v s op a is h = record {
  reached = h.quiet.reached;
  made = 1;
  few = omega arith;
  calls = h.calls ∙ ap (λ o. calls_of w.events ++ (next_call w, o) ∷ []) is;
  replies = h.replies;
}

pub left_stopped : (w v : World) (s : Statement) (op : Op) → op ≡ op_of s → HasStopped w v op → LeavesLine w v (Call s) []
left_stopped w v s op is h = record {
  reached = h.reached;
  made = h.made;
  few = omega arith;
  calls = h.calls ∙ ap (λ o. calls_of w.events ++ take h.made ((next_call w, o) ∷ [])) is ∙ ap (λ cs. calls_of w.events ++ cs) (take-numbered h.made (w.last + 1) (op_of s ∷ []));
  replies = h.replies ∙ sym (none_more _);
}
  where
    none_more : {A : Type 0} (xs : List A) → xs ++ [] ≡ xs
    none_more [] = refl
    none_more (x ∷ xs) = ap (λ ys. x ∷ ys) (none_more xs)
