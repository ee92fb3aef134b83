-- What clients do is what is due.
use Rattle.std.proofs.Common.{◌≡◌, inl, inr, ℕ, suc, ◌<◌, Option, Some, None, Bool, true, false, refl, ap, sym, ◌∙◌, arith}
use Rattle.std.specs.Prelude.{◌||◌, not, nat_lt, nat_le}
use Rattle.std.specs.Option.{is_some}
use Rattle.std.proofs.lemmas.Bool.{and_parts, leb-true, false≢true}
use Rattle.std.proofs.lemmas.Option.{same_Some, none-some}
use Rattle.statement_run.specs.Statement.{Asked}
use Rattle.statement_run.specs.Caller.{Open, Due, next, owes}
use Rattle.world_model.specs.declared.event.Event.{Event}
use Rattle.world_model.specs.declared.event.Event.TheVariants as event
use Rattle.world_model.specs.State.{State}
use Rattle.world_model.specs.Lawful.{first_call, due_of}
use Rattle.world_model.specs.Dues.{InvokesAreDue, RepliesAreDue, IsFirst, QuietIsDone}
use Rattle.world_model.proofs.Calling.{no_call}
use Rattle.world_model.proofs.Clients.{below_at}

pub invokes_are_due : InvokesAreDue
invokes_are_due sp s id op may =
    let caller = s.callers id.client in
    let asked : Asked = record { parts = may.core.parts; op = op } in
    ap (λ o. due_of id.client caller o caller.due) (no_call caller asked may.core.its)
    ∙ ap (first_call id.client caller.last) may.core.its
    ∙ ap (λ n. Some (event.Invoke (record { client = id.client; number = n }) op)) (sym may.core.number)

pub replies_are_due : RepliesAreDue
replies_are_due sp s id a may =
    let caller = s.callers id.client in
    elim may.core.ends [
      | inr up ↦ inr up.unknown
      | inl is ↦ inl (ap (λ o. due_of id.client caller o caller.due) may.core.its
          ∙ ap (due_of id.client caller (Some may.core.call)) is.1
          ∙ ap (λ i. Some (event.Reply i is.0.answer)) may.core.same
          ∙ ap (λ b. Some (event.Reply id b)) is.2)
    ]

module _ (s : State) (n : ℕ) (e : Event) (left : (s.callers n).left ≡ false) where
  by_asked : (asked : Option Asked) → first_call n (s.callers n).last asked ≡ Some e → IsFirst s n e
  by_asked None is = absurd (none-some e is)
  by_asked (Some asked) is = record {
    id = record { client = n; number = suc (s.callers n).last };
    op = asked.op;
    is = sym (same_Some (event.Invoke (record { client = n; number = suc (s.callers n).last }) asked.op) e is);
    left = left;
  }

  by_call : (o : Option Open) (d : Option Due) → d ≡ None → due_of n (s.callers n) o d ≡ Some e → IsFirst s n e
  by_call None d none is = by_asked (next (s.callers n)) is
  by_call (Some call) None none is = absurd (none-some e is)
  by_call (Some call) (Some d) none is = absurd (none-some d (sym none))

-- nothing is owed
owes_nothing : (d : Option Due) (left : Bool) → not (is_some d || left) ≡ true → (d ≡ None) × (left ≡ false)
owes_nothing None false is = (refl, refl)
owes_nothing None true is = absurd (false≢true is)
owes_nothing (Some d) left is = absurd (false≢true is)

pub quiet_is_done : QuietIsDone
quiet_is_done s n client quiet e is =
    let low : n < 65 = (let l = leb-true n 64 (and_parts (nat_lt 0 n) (nat_le n 64) client).1 in omega arith) in
    let free = owes_nothing (s.callers n).due (s.callers n).left (below_at 65 (λ c. not (owes (s.callers c))) quiet.1 n low) in
    by_call s n e free.1 (s.callers n).call (s.callers n).due free.0 is
