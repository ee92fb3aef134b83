-- The answer comes to the client, and the client replies.
use Rattle.std.proofs.Common.{◌≡◌, ℕ, ◌-◌, length, List, [], ◌∷◌, ◌++◌, replicate, Some, None, true, false, refl, ap, sym, ◌∙◌, arith, rules, length-append}
use Rattle.std.specs.Prelude.{◌==◌, slice_index}
use Rattle.std.specs.Option.{option_map}
use Rattle.first_graph.specs.Marks.{with_state, with_said}
use Rattle.first_graph.specs.Views.{view_of}
use Rattle.first_graph.specs.Machine.{Machine, contents_at}
use Rattle.first_graph.specs.declared.call_id.CallId.{CallId}
use Rattle.first_graph.specs.declared.change.Change.TheVariants.{Nothing}
use Rattle.first_graph.specs.declared.answer.Answer.{Answer}
use Rattle.first_graph.specs.declared.answer.Answer.TheVariants.{Fine, Shown}
use Rattle.first_graph.specs.declared.call.CallState.TheVariants.{Done}
use Rattle.first_graph.specs.declared.graph_step.GStep.TheVariants as step
use Rattle.first_graph.proofs.KeyLemmas.{calls_total}
use Rattle.first_graph.proofs.Updates.{altered_here, altered_apart}
use Rattle.nebstore_app.specs.declared.due.Due.{Due}
use Rattle.nebstore_app.specs.declared.event.Event.TheVariants.{Deliver, Reply}
use Rattle.nebstore_app.specs.Packets.{the_client, answer_packet}
use Rattle.nebstore_app.specs.World.{World, last_call, noted, due_after}
use Rattle.nebstore_app.specs.Steps.{Tally, sent_so_far, moment_of}
use Rattle.nebstore_app.proofs.Goes.{then_done, read_goes, then_said, reply_goes}
use Rattle.nebstore_app.proofs.Delivery.{came, told_delivery, told_steps, sent_before}
use Rattle.nebstore_app.proofs.Begins.{calls_apart}
use Rattle.nebstore_app.proofs.Tied.{Tied, NoChain, Answered, over, at_rest, Next, next, moments_counted, now_taken, past_longer, contents_now, Right, settled, read}

none_more : (xs : List ℕ) → xs ++ [] ≡ xs
none_more [] = refl
none_more (x ∷ xs) = ap (λ ys. x ∷ ys) (none_more xs)

-- a right answer stays right where no packet is sent
right_stays : (t : Tally) (g : Machine) (id : CallId) (k : ℕ) (a : Answer) (ms : List ℕ) (given : ℕ) → ms ≡ t.moments → Right t g id k a → Right (record { moments = ms; given = given }) g id k a
right_stays t g id k _ ms given same (settled op call) = settled op call
right_stays t g id k _ ms given same (read q view call shows at) = read q view call shows (ap (λ m. slice_index m k) same ∙ at)

eq_true : (a : ℕ) → (a == a) ≡ true
eq_true a = search rules

pub answer_next : (w : World) (t : Tally) (g : Machine) (k : ℕ) → Tied w t g → Answered w t g → Next w t g (Deliver k)
answer_next w t g k tied x =
    let id = last_call w in
    let p = answer_packet x.part id x.answer in
    let d : Due = record { packet = length w.passed; answer = x.answer } in
    let v : World = noted (record (came w p) { due = Some d }) (Deliver k) in
    let takes : due_after w.calling w.last w.due (length w.passed) (Some (w.last, x.answer)) ≡ Some d = rw (x.way.calling, x.way.nothing_due, eq_true w.last) refl in
    let before = sent_before w p x.way.alone in
    let behind = length-append w.passed (p ∷ []) in
    let none : sent_so_far v - sent_so_far w ≡ 0 = omega (arith, before, behind) in
    let same = ap (λ n. t.moments ++ replicate n t.given) none ∙ none_more t.moments in
    next w t g (Deliver k) v [] g
    (told_delivery w p w.last x.answer k x.way.alone refl refl ∙ ap (λ o. noted (record (came w p) { due = o }) (Deliver k)) takes)
    (told_steps w t p k x.way.alone refl)
    refl
    (record {
      out = tied.out;
      inn = tied.inn;
      numbers = tied.numbers;
      kept = tied.kept;
      fresh = tied.fresh;
      counted = moments_counted t.moments (sent_so_far w) (sent_so_far v) t.given tied.counted (omega (arith, before, behind));
      given = let is = tied.given in omega (arith, is);
      now = tied.now;
    })
    (over (record {
      due = d;
      is_due = refl;
      nobody = refl;
      calling = x.way.calling;
      right = right_stays t g id (length w.passed) x.answer _ _ same x.right;
      no_chain = record { pend = x.no_chain.pend; primes = x.no_chain.primes };
    }))

-- the client replies with the answer that is due
pub reply_next : (w : World) (t : Tally) (g : Machine) (k : ℕ) (a : Answer) → Tied w t g → w.due ≡ Some (record { packet = k; answer = a }) → w.waiting ≡ [] → Right t g (last_call w) k a → NoChain w g → Next w t g (Reply (last_call w) a)
reply_next w t g k _ tied is_due nobody (settled op call) none =
    let id = last_call w in
    let h = then_said g id in
    let v : World = noted (record w { calling = false; due = None }) (Reply id Fine) in
    next w t g (Reply id Fine) v (step.Reply id Fine ∷ []) h refl refl
    (h, reply_goes g id call.call Fine call.known call.is call.unsaid, refl)
    (record {
      out = tied.out;
      inn = tied.inn;
      numbers = tied.numbers;
      kept = tied.kept;
      fresh = λ n more. altered_apart calls_total g.calls id with_said (record { client = the_client; number = n }) (calls_apart w.last n more) ∙ tied.fresh n more;
      counted = moments_counted t.moments (sent_so_far w) (sent_so_far w) t.given tied.counted (omega arith);
      given = past_longer g.past Nothing t.given tied.given;
      now = now_taken g Nothing tied.now;
    })
    (at_rest (record { resting = refl; nothing_due = refl; nobody = nobody; no_chain = record { pend = none.pend; primes = none.primes } }))
reply_next w t g k _ tied is_due nobody (read q view call shows at) none =
    let id = last_call w in
    let seen_then = view_of q (contents_at g (length g.past)) in
    let same_view : view ≡ seen_then = shows ∙ ap (view_of q) (sym (contents_now g tied.now)) in
    let h = then_done g id (Shown seen_then) in
    let hh = then_said h id in
    let v : World = noted (record w { calling = false; due = None }) (Reply id (Shown view)) in
    let longer = past_longer g.past Nothing t.given tied.given in
    let longer_then = past_longer h.past Nothing (length h.past) refl in
    next w t g (Reply id (Shown view)) v (step.Read id (length g.past) ∷ step.Reply id (Shown seen_then) ∷ []) hh refl
    (ap (λ m. step.Read id m ∷ step.Reply id (Shown view) ∷ []) (ap (moment_of t) is_due ∙ at) ∙ ap (λ x. step.Read id (length g.past) ∷ step.Reply id (Shown x) ∷ []) same_view) (
      h,
      read_goes g id call.call q call.known call.is call.does call.since,
      (hh, reply_goes h id (with_state (Done (Shown seen_then)) call.call) (Shown seen_then) (altered_here calls_total g.calls id (with_state (Done (Shown seen_then))) ∙ ap (option_map (with_state (Done (Shown seen_then)))) call.known) refl call.unsaid, refl),
    )
    (record {
      out = tied.out;
      inn = tied.inn;
      numbers = tied.numbers;
      kept = tied.kept;
      fresh = λ n more.
          altered_apart calls_total h.calls id with_said (record { client = the_client; number = n }) (calls_apart w.last n more)
          ∙ altered_apart calls_total g.calls id (with_state (Done (Shown seen_then))) (record { client = the_client; number = n }) (calls_apart w.last n more) ∙ tied.fresh n more;
      counted = moments_counted t.moments (sent_so_far w) (sent_so_far w) t.given tied.counted (omega arith);
      given = omega (arith, longer, longer_then);
      now = now_taken h Nothing (now_taken g Nothing tied.now);
    })
    (at_rest (record { resting = refl; nothing_due = refl; nobody = nobody; no_chain = record { pend = none.pend; primes = none.primes } }))
