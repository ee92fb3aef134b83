-- What a client shows behind each of its calls.
use Rattle.std.proofs.Common.{◌≡◌, ℕ, suc, min, List, [], ◌∷◌, ◌++◌, Option, Some, None, false, ◌==◌, refl, ap, sym, subst, ◌∙◌}
use Rattle.std.proofs.lemmas.Bool.{cond-true, cond-false, eq-eqb}
use Rattle.std.specs.Option.{option_map, is_some}
use Rattle.std.specs.List.{AllByRecursion}
use Rattle.graph_model.specs.declared.answer.Answer.{Answer}
use Rattle.graph_model.specs.declared.answer.Answer.TheVariants.{Unknown}
use Rattle.graph_model.specs.declared.call_id.CallId.{CallId}
use Rattle.graph_model.specs.declared.op.Op.{Op}
use Rattle.replica_model.specs.declared.packet.Packet.{Packet}
use Rattle.statement_run.specs.Statement.{Statement, starting, call_next, unended, first_asked, Asked, asked_by, told}
use Rattle.statement_run.specs.Caller.{Open, Caller, next_from, next, queued, call_of, request_of, counted, rounded_from, rounded, most_rounds, replied}
use Rattle.statement_run.specs.Settled.{next_id, settled_by, settled, invokes, requests, ended, hinted_by, reply_to, repeats}
use Rattle.statement_run.specs.Made.{IsMade, said_of, invoked_of}
use Rattle.statement_run.specs.Call.{open_of, Begins}
use Rattle.statement_run.specs.Task.{Tells, fresh, behind}
use Rattle.statement_run.specs.Waiting.{Waits, fresh_all}
use Rattle.statement_run.specs.Client.{IsBusy, IsShown, IsFree, Shows}
use Rattle.statement_run.specs.declared.call.Begun.{Begun}
use Rattle.statement_run.specs.declared.call.OpenCall.{OpenCall}
use Rattle.statement_run.specs.declared.client.Busy.{Busy}
use Rattle.statement_run.specs.declared.client.Client.{Client}
use Rattle.statement_run.specs.declared.effects.ClientEffects.{ClientEffects}
use Rattle.statement_run.specs.declared.task.Task.{Task}
use Rattle.statement_run.specs.declared.waiting.Waiting.{Waiting}
use Rattle.statement_run.proofs.ClientLaws.{behind_unknown}
use Rattle.statement_run.proofs.Rows.{over, runs, over_all}

module _ (client : Client) (c : Caller) (s : Shows client c) where
  idle : client.busy ≡ None → IsShown None c.call c.queue
  idle none = subst (λ b. IsShown b c.call c.queue) none s.shown

  pub busy_of : (b : Busy) → client.busy ≡ Some b → IsBusy b c.call c.queue
  busy_of b some = subst (λ x. IsShown x c.call c.queue) some s.shown

  -- a statement that is queued where no call is open
  pub queued_free : client.busy ≡ None → (statement : Statement) (w : Waiting) → fresh w.task ≡ starting statement → IsFree (w ∷ []) client.last (queued c statement)
  queued_free none statement w is = record {
    call = (idle none).0;
    due = s.due;
    last = s.last;
    queue = over_all c.queue (starting statement ∷ []) (idle none).1 ∙ ap (λ r. unended (r ∷ [])) (sym is);
    left = λ e. s.left;
  }

  module _ (b : Busy) (some : client.busy ≡ Some b) where
    abbrev pub here : IsBusy b c.call c.queue
    here = busy_of b some

    -- one that is queued behind an open call
    quiet : (statement : Statement) → next (queued c statement) ≡ None
    quiet statement = ap (next_from (c.queue ++ starting statement ∷ [])) here.its

    fresh_more : (ws : List Waiting) (w : Waiting) → fresh_all (ws ++ w ∷ []) ≡ fresh_all ws ++ fresh w.task ∷ []
    fresh_more [] w = refl
    fresh_more (x ∷ ws) w = ap (λ rest. fresh x.task ∷ rest) (fresh_more ws w)

    wait_more : (ws : List Waiting) (w : Waiting) → AllByRecursion Waits ws → Waits w → AllByRecursion Waits (ws ++ w ∷ [])
    wait_more [] w all is = (is, tt)
    wait_more (x ∷ ws) w all is = (all.0, wait_more ws w all.1 is)

    pub queued_behind : (statement : Statement) (w : Waiting) → Waits w → fresh w.task ≡ starting statement
        → (then : Client) (more : Busy) → then.last ≡ client.last → then.busy ≡ Some more → more.call ≡ b.call → more.task ≡ b.task → more.waiting.items ≡ b.waiting.items ++ w ∷ []
        → Shows then (settled client.number (queued c statement))
    queued_behind statement w waits is then more last its call task items = subst (λ o. Shows then (settled_by client.number (queued c statement) o)) (sym (quiet statement)) (record {
      last = s.last ∙ sym last;
      due = s.due;
      left = s.left;
      shown = subst (λ x. IsShown x c.call (c.queue ++ starting statement ∷ [])) (sym its) (record {
        its = here.its ∙ ap (λ (x : OpenCall). Some (open_of x)) (sym call);
        running = here.running;
        tells = subst (λ (x : Task). Tells x here.running) (sym task) here.tells;
        asks = here.asks ∙ ap (λ (x : OpenCall). Some x.op) (sym call);
        routed = subst (λ (x : Task). more.call.parts ≡ x.parts) (sym task) (ap (λ (x : OpenCall). x.parts) call ∙ here.routed);
        queue = ap (λ q. q ++ starting statement ∷ []) here.queue
            ∙ ap (λ r. here.running ∷ (fresh_all b.waiting.items ++ r ∷ [])) (sym is)
            ∙ ap (λ q. here.running ∷ q) (sym (fresh_more b.waiting.items w) ∙ ap fresh_all (sym items));
        waits = subst (AllByRecursion Waits) (sym items) (wait_more b.waiting.items w here.waits waits);
      });
    })

    pub queued_quietly : (statement : Statement) (e : ClientEffects) → IsMade None None None e
        → IsMade None (invokes client.number (queued c statement)) (requests client.number (queued c statement)) e
    queued_quietly statement e m = record {
      reply = m.reply;
      next = m.next ∙ sym (ap (option_map (λ (asked : Asked). (next_id client.number (queued c statement), asked.op))) (quiet statement));
      packet = m.packet ∙ sym (ap (option_map (λ asked. request_of (call_of (next_id client.number (queued c statement)) asked))) (quiet statement));
    }

    -- nothing that it shows has changed
    pub kept : (then : Client) (more : Busy) → then.last ≡ client.last → then.busy ≡ Some more → more.call ≡ b.call → more.task ≡ b.task → more.waiting.items ≡ b.waiting.items → Shows then c
    kept then more last its call task items = record {
      last = s.last ∙ sym last;
      due = s.due;
      left = s.left;
      shown = subst (λ x. IsShown x c.call c.queue) (sym its) (record {
        its = here.its ∙ ap (λ (x : OpenCall). Some (open_of x)) (sym call);
        running = here.running;
        tells = subst (λ (x : Task). Tells x here.running) (sym task) here.tells;
        asks = here.asks ∙ ap (λ (x : OpenCall). Some x.op) (sym call);
        routed = subst (λ (x : Task). more.call.parts ≡ x.parts) (sym task) (ap (λ (x : OpenCall). x.parts) call ∙ here.routed);
        queue = here.queue ∙ ap (λ ws. here.running ∷ fresh_all ws) (sym items);
        waits = subst (AllByRecursion Waits) (sym items) here.waits;
      });
    }

    -- the open call is another, of the same statement
    pub call_set : (call : OpenCall) → call.op ≡ b.call.op → call.parts ≡ b.call.parts → (then : Client) → then.last ≡ client.last
        → then.busy ≡ Some (record b { call = call }) → (d : Caller) → d ≡ record c { call = Some (open_of call) } → Shows then d
    call_set call op parts then last its d same = subst (Shows then) (sym same) (record {
      last = s.last ∙ sym last;
      due = s.due;
      left = s.left;
      shown = subst (λ x. IsShown x (Some (open_of call)) c.queue) (sym its) (record {
        its = refl;
        running = here.running;
        tells = here.tells;
        asks = here.asks ∙ ap (λ o. Some o) (sym op);
        routed = parts ∙ here.routed;
        queue = here.queue;
        waits = here.waits;
      });
    })

    pub rounded_busy : (then : Client) → then.last ≡ client.last
        → then.busy ≡ Some (record b { call = record b.call { count = min (suc b.call.count) most_rounds; hint = 0 } }) → Shows then (rounded c)
    rounded_busy then last its = call_set (record b.call { count = min (suc b.call.count) most_rounds; hint = 0 }) refl refl then last its (rounded c) (ap (rounded_from c) here.its)

    pub repeated : (e : ClientEffects) → e.reply ≡ None → e.next ≡ None → e.packet ≡ Some (request_of (counted (open_of b.call))) → IsMade None None (repeats c.call) e
    repeated e reply next packet = record {
      reply = ap (option_map said_of) reply;
      next = ap (option_map invoked_of) next;
      packet = packet ∙ sym (ap repeats here.its);
    }

    pub hinted_here : (number hint : ℕ) → number ≡ b.call.id.number → (then : Client) → then.last ≡ client.last
        → then.busy ≡ Some (record b { call = record b.call { hint = hint } }) → Shows then (hinted_by c c.call number hint)
    hinted_here number hint same then last its = call_set (record b.call { hint = hint }) refl refl then last its (hinted_by c c.call number hint)
        (ap (λ o. hinted_by c o number hint) here.its
        ∙ cond-true (number == b.call.id.number) (record c { call = Some (record (open_of b.call) { hint = hint }) }) c (eq-eqb number b.call.id.number same))

    pub hinted_apart : (number hint : ℕ) → (number == b.call.id.number) ≡ false → Shows client (hinted_by c c.call number hint)
    hinted_apart number hint apart = subst (Shows client) (sym (ap (λ o. hinted_by c o number hint) here.its
        ∙ cond-false (number == b.call.id.number) (record c { call = Some (record (open_of b.call) { hint = hint }) }) c apart)) s

    -- the statement whose call is open makes no other one behind its answer
    pub ended_free : (answer : Answer) → call_next (behind here.running answer) ≡ None → IsFree b.waiting.items client.last (replied c answer)
    ended_free answer none = record {
      call = refl;
      due = refl;
      last = s.last;
      queue = ap (λ q. unended (told answer q)) here.queue ∙ over (behind here.running answer) (fresh_all b.waiting.items) none;
      left = λ e. ap is_some e;
    }

    pub stopped_free : IsFree b.waiting.items client.last (replied c Unknown)
    stopped_free = ended_free Unknown (behind_unknown here.running.statement here.running.answers)

    -- it makes the next one
    module _ (answer : Answer) (op : Op) (some_call : call_next (behind here.running answer) ≡ Some op) where
      next_behind : next (replied c answer) ≡ Some (record { parts = here.running.statement.parts; op = op })
      next_behind = ap (λ q. first_asked (unended (told answer q))) here.queue
          ∙ ap first_asked (runs (behind here.running answer) (fresh_all b.waiting.items) op some_call)
          ∙ ap (asked_by here.running.statement.parts) some_call

      pub goes_on : (n : ℕ) (begun : Begun) → Begins (record { client = n; number = suc client.last }) (record { parts = b.task.parts; op = op }) begun
          → (then : Client) (more : Busy) → then.last ≡ suc client.last → then.busy ≡ Some more → more.call ≡ begun.call → Tells more.task (behind here.running answer)
          → more.task.parts ≡ b.task.parts → more.waiting.items ≡ b.waiting.items → Shows then (ended n c answer)
      goes_on n begun begins then more last its call tells parts items =
          let routed : here.running.statement.parts ≡ b.task.parts = ap (λ (x : Statement). x.parts) here.tells.statement in
          let asked : Asked = record { parts = here.running.statement.parts; op = op } in
          let ready : Begins (next_id n c) asked begun = subst (λ p. Begins (next_id n c) (record { parts = p; op = op }) begun) (sym routed)
          (subst (λ id. Begins id (record { parts = b.task.parts; op = op }) begun) (ap (λ m. record { client = n; number = suc m }) (sym s.last)) begins) in
          subst (λ o. Shows then (settled_by n (replied c answer) o)) (sym next_behind) (record {
            last = ap suc s.last ∙ sym last;
            due = refl;
            left = refl;
            shown = subst (λ x. IsShown x (Some (call_of (next_id n c) asked)) (unended (told answer c.queue))) (sym its) (record {
              its = ap (λ o. Some o) (sym ready.call ∙ ap open_of (sym call));
              running = behind here.running answer;
              tells = tells;
              asks = some_call ∙ ap (λ (o : Open). Some o.op) (sym ready.call) ∙ ap (λ (x : OpenCall). Some x.op) (sym call);
              routed = ap (λ (x : OpenCall). x.parts) call ∙ ap (λ (o : Open). o.parts) ready.call ∙ routed ∙ sym parts;
              queue = ap (λ q. unended (told answer q)) here.queue
                  ∙ runs (behind here.running answer) (fresh_all b.waiting.items) op some_call
                  ∙ ap (λ ws. behind here.running answer ∷ fresh_all ws) (sym items);
              waits = subst (AllByRecursion Waits) (sym items) here.waits;
            });
          })

    pub replies : (answer : Answer) → reply_to c.call answer ≡ Some (b.call.id, answer)
    replies answer = ap (λ o. reply_to o answer) here.its

    pub said_made : (answer : Answer) (next : Option (CallId × Op)) (packet : Option Packet) (e : ClientEffects) → IsMade (Some (b.call.id, answer)) next packet e
        → IsMade (reply_to c.call answer) next packet e
    said_made answer next packet e m = subst (λ said. IsMade said next packet e) (sym (replies answer)) m

  pub rounded_idle : client.busy ≡ None → Shows client (rounded c)
  rounded_idle none = subst (Shows client) (sym (ap (rounded_from c) (idle none).0)) s

  pub repeated_idle : client.busy ≡ None → (e : ClientEffects) → IsMade None None None e → IsMade None None (repeats c.call) e
  repeated_idle none e m = record { reply = m.reply; next = m.next; packet = m.packet ∙ sym (ap repeats (idle none).0) }

  pub hinted_idle : client.busy ≡ None → (number hint : ℕ) → Shows client (hinted_by c c.call number hint)
  hinted_idle none number hint = subst (Shows client) (sym (ap (λ o. hinted_by c o number hint) (idle none).0)) s
