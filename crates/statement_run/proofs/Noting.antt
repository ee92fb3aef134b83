-- How statements that end are noted.
use Rattle.std.proofs.Common.{◌≡◌, ℕ, List, [], ◌∷◌, ◌++◌, Option, Some, None, cond, refl, ap, sym, ◌∙◌}
use Rattle.std.specs.FinMap.{insert}
use Rattle.std.specs.Option.{is_some}
use Rattle.graph_model.specs.declared.answer.Answer.{Answer}
use Rattle.graph_model.specs.declared.op.Op.{Op}
use Rattle.maps.specs.Maps.{altered}
use Rattle.schema_book.specs.declared.bound.Bound.{Bound}
use Rattle.statement_run.specs.Statement.{Statement, Running, starting, call_next, unended, told}
use Rattle.statement_run.specs.Caller.{Caller}
use Rattle.statement_run.specs.Ending.{ending_of}
use Rattle.statement_run.specs.Kept.{Line, Ends, Kept, held, filled, noted_in, noted, line_of, lines_in, lines_waiting, kept_by}
use Rattle.statement_run.specs.Task.{fresh, behind}
use Rattle.statement_run.specs.Waiting.{fresh_all}
use Rattle.statement_run.specs.Client.{Shows}
use Rattle.statement_run.specs.declared.client.Busy.{Busy}
use Rattle.statement_run.specs.declared.client.Client.{Client}
use Rattle.statement_run.specs.declared.ending.Ending.{Ending}
use Rattle.statement_run.specs.declared.task.Task.{Task}
use Rattle.statement_run.specs.declared.waiting.Waiting.{Waiting}
use Rattle.statement_run.proofs.Rows.{runs}
use Rattle.statement_run.proofs.Showing.{busy_of}

abbrev kept : List Line → Ends → Kept
kept lines ends = record { lines = lines; ends = ends }

same_kept : (a b : List Line) (d e : Ends) → a ≡ b → d ≡ e → kept a d ≡ kept b e
same_kept a b d e lines ends = ap (λ ls. kept ls d) lines ∙ ap (kept b) ends

module _ (line : Line) (lines : List Line) (r : Running) (queue : List Running) (ends : Ends) where
  -- the first has ended
  pub noted_over : call_next r ≡ None → noted_in (line ∷ lines) (r ∷ queue) ends ≡ noted_in lines queue (filled line r.answers ends)
  noted_over none = ap (λ (o : Option Op). cond (is_some o) (kept (line ∷ lines) ends) (noted_in lines queue (filled line r.answers ends))) none

  -- the first makes a call
  pub noted_runs : (op : Op) → call_next r ≡ Some op → noted_in (line ∷ lines) (r ∷ queue) ends ≡ kept (line ∷ lines) ends
  noted_runs op some = ap (λ (o : Option Op). cond (is_some o) (kept (line ∷ lines) ends) (noted_in lines queue (filled line r.answers ends))) some

-- one that waits without a call
pub noted_passed : (t : Task) (waiting : List Waiting) (said : Ending) (ends : Ends) → call_next (fresh t) ≡ None → said ≡ ending_of t.bound []
    → noted_in (lines_waiting waiting) (fresh_all waiting) (altered ends t.line (λ _. Some said)) ≡ noted_in (line_of t ∷ lines_waiting waiting) (fresh t ∷ fresh_all waiting) ends
noted_passed t waiting said ends none is =
    ap (λ a. noted_in (lines_waiting waiting) (fresh_all waiting) (altered ends t.line (λ _. Some a))) is
    ∙ sym (noted_over (line_of t) (lines_waiting waiting) (fresh t) (fresh_all waiting) ends none)

same_line : (t u : Task) → t.line ≡ u.line → t.bound ≡ u.bound → line_of t ≡ line_of u
same_line t u line bound = ap (λ n. record { number = n; bound = t.bound }) line ∙ ap (λ b. record { number = u.line; bound = b }) bound

lines_more : (ws : List Waiting) (w : Waiting) → lines_waiting (ws ++ w ∷ []) ≡ lines_waiting ws ++ line_of w.task ∷ []
lines_more [] w = refl
lines_more (x ∷ ws) w = ap (λ rest. line_of x.task ∷ rest) (lines_more ws w)

module _ (client : Client) (b : Busy) (some : client.busy ≡ Some b) where
  kept_busy : kept_by client ≡ kept (line_of b.task ∷ lines_waiting b.waiting.items) client.lines
  kept_busy = ap (λ x. kept (lines_in x) client.lines) some

  -- the statements in its row are the same
  pub kept_still : (then : Client) (more : Busy) → then.busy ≡ Some more → line_of more.task ≡ line_of b.task → more.waiting.items ≡ b.waiting.items → then.lines ≡ client.lines
      → kept_by then ≡ kept_by client
  kept_still then more its task items lines =
      ap (λ x. kept (lines_in x) then.lines) its
      ∙ same_kept (line_of more.task ∷ lines_waiting more.waiting.items) (line_of b.task ∷ lines_waiting b.waiting.items) then.lines client.lines
      (ap (λ l. l ∷ lines_waiting more.waiting.items) task ∙ ap (λ ws. line_of b.task ∷ lines_waiting ws) items) lines
      ∙ sym kept_busy

  -- one more stands behind them
  kept_more : (w : Waiting) (then : Client) (more : Busy) → then.busy ≡ Some more → more.task ≡ b.task → more.waiting.items ≡ b.waiting.items ++ w ∷ []
      → then.lines ≡ insert client.lines w.task.line None → kept_by then ≡ held (line_of w.task) (kept_by client)
  kept_more w then more its task items lines =
      ap (λ x. kept (lines_in x) then.lines) its
      ∙ same_kept (line_of more.task ∷ lines_waiting more.waiting.items) (line_of b.task ∷ (lines_waiting b.waiting.items ++ line_of w.task ∷ [])) then.lines (insert client.lines w.task.line None)
      (ap (λ t. line_of t ∷ lines_waiting more.waiting.items) task ∙ ap (λ ls. line_of b.task ∷ ls) (ap lines_waiting items ∙ lines_more b.waiting.items w)) lines
      ∙ sym (ap (held (line_of w.task)) kept_busy)

  module _ (c : Caller) (s : Shows client c) where
    -- a statement that is queued behind an open call: none ends
    pub noted_behind : (line : Line) (statement : Statement) → noted (unended c.queue ++ starting statement ∷ []) (held line (kept_by client)) ≡ held line (kept_by client)
    noted_behind line statement =
        let here = busy_of client c s b some in
        let lines = lines_waiting b.waiting.items ++ line ∷ [] in
        let ends = insert client.lines line.number None in
        ap (λ k. noted (unended c.queue ++ starting statement ∷ []) (held line k)) kept_busy
        ∙ ap (λ q. noted_in (line_of b.task ∷ lines) (unended q ++ starting statement ∷ []) ends) here.queue
        ∙ ap (λ q. noted_in (line_of b.task ∷ lines) (q ++ starting statement ∷ []) ends) (runs here.running (fresh_all b.waiting.items) b.call.op here.asks)
        ∙ noted_runs (line_of b.task) lines here.running (fresh_all b.waiting.items ++ starting statement ∷ []) ends b.call.op here.asks
        ∙ sym (ap (held line) kept_busy)

    pub kept_behind : (line : Line) (statement : Statement) (w : Waiting) → line_of w.task ≡ line → (then : Client) (more : Busy) → then.busy ≡ Some more → more.task ≡ b.task
        → more.waiting.items ≡ b.waiting.items ++ w ∷ [] → then.lines ≡ insert client.lines w.task.line None
        → kept_by then ≡ noted (unended c.queue ++ starting statement ∷ []) (held line (kept_by client))
    kept_behind line statement w is then more its task items lines =
        kept_more w then more its task items lines ∙ ap (λ l. held l (kept_by client)) is ∙ sym (noted_behind line statement)

    module _ (answer : Answer) where
      row : noted (told answer c.queue) (kept_by client)
          ≡ noted_in (line_of b.task ∷ lines_waiting b.waiting.items) (behind (busy_of client c s b some).running answer ∷ fresh_all b.waiting.items) client.lines
      row =
          ap (noted (told answer c.queue)) kept_busy
          ∙ ap (λ q. noted_in (line_of b.task ∷ lines_waiting b.waiting.items) (told answer q) client.lines) (busy_of client c s b some).queue

      -- the statement that runs ends by this answer
      pub noted_ended : call_next (behind (busy_of client c s b some).running answer) ≡ None → (line : ℕ) (bound : Bound) (said : Ending) → line ≡ b.task.line → bound ≡ b.task.bound
          → said ≡ ending_of bound ((busy_of client c s b some).running.answers ++ answer ∷ [])
          → noted_in (lines_waiting b.waiting.items) (fresh_all b.waiting.items) (altered client.lines line (λ _. Some said)) ≡ noted (told answer c.queue) (kept_by client)
      noted_ended none line bound said at of is =
          let here = busy_of client c s b some in
          let ends = client.lines in
          ap (λ k. noted_in (lines_waiting b.waiting.items) (fresh_all b.waiting.items) (altered ends k (λ _. Some said))) at
          ∙ ap (λ a. noted_in (lines_waiting b.waiting.items) (fresh_all b.waiting.items) (altered ends b.task.line (λ _. Some a))) (is ∙ ap (λ x. ending_of x (here.running.answers ++ answer ∷ [])) of)
          ∙ sym (noted_over (line_of b.task) (lines_waiting b.waiting.items) (behind here.running answer) (fresh_all b.waiting.items) ends none)
          ∙ sym row

      -- or makes its next call
      pub kept_on : (op : Op) → call_next (behind (busy_of client c s b some).running answer) ≡ Some op → (t : Task) → t.line ≡ b.task.line → t.bound ≡ b.task.bound
          → kept (line_of t ∷ lines_waiting b.waiting.items) client.lines ≡ noted (told answer c.queue) (kept_by client)
      kept_on op next t line bound =
          ap (λ l. kept (l ∷ lines_waiting b.waiting.items) client.lines) (same_line t b.task line bound)
          ∙ sym (noted_runs (line_of b.task) (lines_waiting b.waiting.items) (behind (busy_of client c s b some).running answer) (fresh_all b.waiting.items) client.lines op next)
          ∙ sym row
