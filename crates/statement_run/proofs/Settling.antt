-- A client that has made what comes next.
use Rattle.std.proofs.Common.{◌≡◌, ℕ, suc, List, [], ◌∷◌, Option, Some, None, refl, ap, sym, subst, ◌∙◌}
use Rattle.std.specs.Option.{option_map}
use Rattle.std.specs.List.{AllByRecursion}
use Rattle.statement_run.specs.Statement.{unended, first_asked, Asked, asked_by}
use Rattle.statement_run.specs.Caller.{Open, Caller, next_from, next, call_of, request_of}
use Rattle.statement_run.specs.Settled.{next_id, settled_by, settled, invokes, requests}
use Rattle.statement_run.specs.Made.{IsMade, said_of}
use Rattle.statement_run.specs.Call.{open_of, Begins}
use Rattle.statement_run.specs.Task.{Tells, fresh}
use Rattle.statement_run.specs.Waiting.{Waits, IsFirst, fresh_all}
use Rattle.statement_run.specs.Client.{IsFree, IsShown, Shows}
use Rattle.statement_run.specs.declared.call.Begun.{Begun}
use Rattle.statement_run.specs.declared.call.OpenCall.{OpenCall}
use Rattle.statement_run.specs.declared.client.Busy.{Busy}
use Rattle.statement_run.specs.declared.client.Client.{Client}
use Rattle.statement_run.specs.declared.effects.Said.{Said}
use Rattle.statement_run.specs.declared.task.Task.{Task}
use Rattle.statement_run.specs.declared.waiting.Waiting.{Waiting}

module _ (waiting : List Waiting) (number : ℕ) (c : Caller) (f : IsFree waiting number c) where
  next_free : next c ≡ first_asked (unended (fresh_all waiting))
  next_free = ap (next_from c.queue) f.call ∙ ap first_asked f.queue

  -- no statement has a call any more
  module _ (over : unended (fresh_all waiting) ≡ []) where
    none_next : next c ≡ None
    none_next = next_free ∙ ap first_asked over

    pub shows_none : (client : Client) → client.last ≡ number → client.busy ≡ None → Shows client (settled client.number c)
    shows_none client last idle = subst (λ o. Shows client (settled_by client.number c o)) (sym none_next) (record {
      last = f.last ∙ sym last;
      due = f.due;
      left = f.left none_next;
      shown = subst (λ b. IsShown b c.call c.queue) (sym idle) (f.call, f.queue ∙ over);
    })

    pub made_none : (n : ℕ) (said : Option Said) → IsMade (option_map said_of said) (invokes n c) (requests n c) (record { reply = said; next = None; packet = None })
    made_none n said = record {
      reply = refl;
      next = sym (ap (option_map (λ (asked : Asked). (next_id n c, asked.op))) none_next);
      packet = sym (ap (option_map (λ asked. request_of (call_of (next_id n c) asked))) none_next);
    }

  -- the first that has one makes it
  module _ (n : ℕ) (t : Task) (b : Begun) (left : List Waiting) (first : IsFirst (record { client = n; number = suc number }) waiting t b left) where
    some_next : next c ≡ Some (record { parts = t.parts; op = b.call.op })
    some_next = next_free ∙ ap first_asked first.queue ∙ ap (asked_by t.parts) first.asks

    named_next : record { client = n; number = suc number } ≡ next_id n c
    named_next = ap (λ k. record { client = n; number = suc k }) (sym f.last)

    begins_next : Begins (next_id n c) (record { parts = t.parts; op = b.call.op }) b
    begins_next = subst (λ id. Begins id (record { parts = t.parts; op = b.call.op }) b) named_next first.begins

    pub shows_first : (client : Client) (busy : Busy) → client.number ≡ n → client.last ≡ suc number → client.busy ≡ Some busy
        → busy.call ≡ b.call → busy.task ≡ t → busy.waiting.items ≡ left → Shows client (settled n c)
    shows_first client busy num last its call task items = subst (λ o. Shows client (settled_by n c o)) (sym some_next) (record {
      last = ap suc f.last ∙ sym last;
      due = f.due;
      left = refl;
      shown = subst (λ o. IsShown o (Some (call_of (next_id n c) (record { parts = t.parts; op = b.call.op }))) (unended c.queue)) (sym its) (record {
        its = ap (λ o. Some o) (sym begins_next.call ∙ ap open_of (sym call));
        running = fresh t;
        tells = subst (λ x. Tells x (fresh t)) (sym task) first.tells;
        asks = first.asks ∙ ap (λ (x : OpenCall). Some x.op) (sym call);
        routed = ap (λ (x : OpenCall). x.parts) call ∙ ap (λ (o : Open). o.parts) begins_next.call ∙ ap (λ (x : Task). x.parts) (sym task);
        queue = f.queue ∙ first.queue ∙ ap (λ ws. fresh t ∷ fresh_all ws) (sym items);
        waits = subst (AllByRecursion Waits) (sym items) first.waits;
      });
    })

    pub made_first : (said : Option Said) → IsMade (option_map said_of said) (invokes n c) (requests n c) (record { reply = said; next = Some b.invoke; packet = Some b.packet })
    made_first said = record {
      reply = refl;
      next = ap (λ x. Some x) begins_next.invoke ∙ sym (ap (option_map (λ (asked : Asked). (next_id n c, asked.op))) some_next);
      packet = ap (λ x. Some x) begins_next.packet ∙ sym (ap (option_map (λ asked. request_of (call_of (next_id n c) asked))) some_next);
    }
