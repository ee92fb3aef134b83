-- What holds of each statement of a queue goes on holding.
use Rattle.std.proofs.Common.{◌≡◌, ℕ, List, [], ◌∷◌, ◌++◌, Option, Some, None, Bool, true, false, cond, ap, sym, ◌∙◌}
use Rattle.std.specs.Option.{is_some}
use Rattle.std.specs.List.{AllByRecursion}
use Rattle.std.proofs.lemmas.Option.{same_Some, none-some}
use Rattle.graph_model.specs.declared.answer.Answer.{Answer}
use Rattle.graph_model.specs.declared.op.Op.{Op}
use Rattle.statement_run.specs.Statement.{Statement, Running, starting, call_next, unended, Asked, asked_by, first_asked, next_in, told}

module _ (P : Statement → Type 0) where
  abbrev pub All : List Running → Type 0
  All queue = AllByRecursion (λ (r : Running). P r.statement) queue

  pub all_unended : (queue : List Running) → All queue → All (unended queue)
  all_unended [] all = tt
  all_unended (r ∷ rest) all = go (is_some (call_next r)) (all_unended rest all.1)
    where
      go : (b : Bool) → All (unended rest) → All (cond b (r ∷ rest) (unended rest))
      go true later = all
      go false later = later

  pub all_told : (answer : Answer) (queue : List Running) → All queue → All (told answer queue)
  all_told answer [] all = tt
  all_told answer (r ∷ rest) all = (all.0, all.1)

  pub all_queued : (queue : List Running) (statement : Statement) → All queue → P statement → All (queue ++ starting statement ∷ [])
  all_queued [] statement all is = (is, tt)
  all_queued (r ∷ rest) statement all is = (all.0, all_queued rest statement all.1 is)

-- the call that comes next is one of a statement of the queue
parts_of_call : (parts : ℕ) (o : Option Op) (asked : Asked) → asked_by parts o ≡ Some asked → asked.parts ≡ parts
parts_of_call parts None asked e = absurd (none-some asked e)
parts_of_call parts (Some op) asked e = ap (λ (a : Asked). a.parts) (sym (same_Some (record { parts = parts; op = op }) asked e))

parts_of_first : (parts : ℕ) (queue : List Running) → All (λ s. s.parts ≡ parts) queue → (asked : Asked) → first_asked queue ≡ Some asked → asked.parts ≡ parts
parts_of_first parts [] all asked e = absurd (none-some asked e)
parts_of_first parts (r ∷ rest) all asked e = parts_of_call r.statement.parts (call_next r) asked e ∙ all.0

pub parts_next : (parts : ℕ) (queue : List Running) → All (λ s. s.parts ≡ parts) queue → (asked : Asked) → next_in queue ≡ Some asked → asked.parts ≡ parts
parts_next parts queue all asked e = parts_of_first parts (unended queue) (all_unended (λ s. s.parts ≡ parts) queue all) asked e
