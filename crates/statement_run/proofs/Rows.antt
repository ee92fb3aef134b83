-- Statements in a row, and the first that has a call.
use Rattle.std.proofs.Common.{◌≡◌, List, [], ◌∷◌, ◌++◌, Option, Some, None, Bool, true, false, cond, refl, ap, sym, subst, ◌∙◌}
use Rattle.std.specs.Option.{is_some}
use Rattle.std.specs.List.{AllByRecursion}
use Rattle.graph_model.specs.declared.call_id.CallId.{CallId}
use Rattle.graph_model.specs.declared.op.Op.{Op}
use Rattle.statement_run.specs.Statement.{Running, call_next, unended}
use Rattle.statement_run.specs.Caller.{Open}
use Rattle.statement_run.specs.Call.{IsReady, unnamed, Begins}
use Rattle.statement_run.specs.Task.{Tells, fresh}
use Rattle.statement_run.specs.Waiting.{Waits, IsFirst, fresh_all}
use Rattle.statement_run.specs.declared.call.Begun.{Begun}
use Rattle.statement_run.specs.declared.task.Task.{Task}
use Rattle.statement_run.specs.declared.waiting.Waiting.{Waiting}

pub over : (r : Running) (rest : List Running) → call_next r ≡ None → unended (r ∷ rest) ≡ unended rest
over r rest none = ap (λ (o : Option Op). cond (is_some o) (r ∷ rest) (unended rest)) none

pub runs : (r : Running) (rest : List Running) (op : Op) → call_next r ≡ Some op → unended (r ∷ rest) ≡ r ∷ rest
runs r rest op some = ap (λ (o : Option Op). cond (is_some o) (r ∷ rest) (unended rest)) some

-- behind statements that are over come those that were queued last
pub over_all : (queue more : List Running) → unended queue ≡ [] → unended (queue ++ more) ≡ unended more
over_all [] more e = refl
over_all (r ∷ rest) more e = go (is_some (call_next r)) (over_all rest more) e
  where
    go : (b : Bool) → (unended rest ≡ [] → unended (rest ++ more) ≡ unended more) → cond b (r ∷ rest) (unended rest) ≡ []
        → cond b (r ∷ (rest ++ more)) (unended (rest ++ more)) ≡ unended more
    go true later e = absurd (let d : r ∷ rest ≡ [] = e in cc)
    go false later e = later e

-- a statement that waits without a call is over
pub passed : (t : Task) (waiting : List Waiting) → IsReady unnamed t.parts (call_next (fresh t)) None → unended (fresh t ∷ fresh_all waiting) ≡ unended (fresh_all waiting)
passed t waiting none = over (fresh t) (fresh_all waiting) none

-- the first that has one begins
pub found : (id : CallId) (before : List Waiting) (t : Task) (b named : Begun) (waiting : List Waiting)
    → unended (fresh t ∷ fresh_all waiting) ≡ unended (fresh_all before) → Tells t (fresh t) → IsReady unnamed t.parts (call_next (fresh t)) (Some b)
    → Begins id (record { parts = t.parts; op = b.call.op }) named → AllByRecursion Waits waiting
    → IsFirst id before t named waiting
found id before t b named waiting same tells ready begins waits = record {
  queue = sym same ∙ runs (fresh t) (fresh_all waiting) b.call.op ready.0;
  tells = tells;
  asks = ready.0 ∙ ap (λ (o : Open). Some o.op) (sym begins.call);
  begins = subst (λ op. Begins id (record { parts = t.parts; op = op }) named) (ap (λ (o : Open). o.op) (sym begins.call)) begins;
  waits = waits;
}
