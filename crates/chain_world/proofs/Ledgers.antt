-- Ledgers: the blank one is sound, so each is that the discipline leads to.
use Rattle.std.proofs.Common.{◌≡◌, ℕ, List, [], ◌∷◌, ◌++◌, append_assoc, length, take, take_all, None, Some, Bool, true, false, cond, refl, ap, sym, subst, ◌∙◌, arith}
use Rattle.std.specs.FinMap.{get, empty, get-empty}
use Rattle.std.specs.Ordering.{nat_cmp}
use Rattle.graph_model.specs.Keys.{in_cmp, call_cmp, in_key}
use Rattle.graph_model.specs.declared.answer.Answer.{Answer}
use Rattle.graph_model.specs.declared.answer.Answer.TheVariants as said
use Rattle.graph_model.specs.declared.call_id.CallId.{CallId}
use Rattle.graph_model.specs.declared.op.Op.TheVariants.{Read}
use Rattle.graph_model.specs.declared.query.Query.{Query}
use Rattle.graph_model.specs.declared.graph_step.GStep.{GStep}
use Rattle.graph_model.specs.declared.graph_step.GStep.TheVariants.{Invoke, Reply}
use Rattle.graph_model.specs.State.{start}
use Rattle.graph_model.specs.Run.{Run, is_outward, trace}
use Rattle.part_keys.specs.Routing.{part_of_query}
use Rattle.part_rules.specs.Part.{number_in}
use Rattle.part_rules.specs.View.{view}
use Rattle.chain_world.specs.Ledger.{Ledger, blank_ledger, machine_of, reply_steps}
use Rattle.chain_world.specs.Course.{Courses, no_courses}
use Rattle.chain_world.specs.Invariant.ChainFacts.{GoOn}
use Rattle.chain_world.specs.Invariant.Discipline.{IsInvoked, WasSeen}
use Rattle.chain_world.specs.Invariant.Sound.{row_at, IsSound}
use Rattle.chain_world.specs.Invariant.Moves.{Move, Calls, Decides, Answers, ledger_after, courses_after, Meets, ledger_behind, AllMeet, outward, all_outward}
use Rattle.chain_world.specs.Outside.{IsGraphRun}
use Rattle.chain_world.proofs.Progress.{go_still}
use Rattle.chain_world.proofs.Deciding.{decides_sound, decides_goes, decides_trace}
use Rattle.chain_world.proofs.Calling.{invokes_sound}
use Rattle.chain_world.proofs.Answering.{replies_sound}
use Rattle.chain_world.proofs.EdgesViews.{same_view}

-- nothing is in an empty map
none_in : {X : Type 0} (id : CallId) (x : X) → get (empty {X = X} {R = call_cmp}) id ≡ Some x → ⊥
none_in id x e = let f : None ≡ Some x = sym (get-empty call_cmp id) ∙ e in cc

-- the blank ledger is sound
pub blank_sound : (parts : ℕ) → IsSound parts blank_ledger no_courses
blank_sound parts = record {
  graph = start;
  sound = record {
    run = refl;
    holds = record {
      halves = record { tags = λ t. refl; out = λ e. refl; inn = λ q. get-empty in_cmp q ∙ ap row_at (sym (get-empty in_cmp q)) };
      chains = record {
        fresh = λ p v high. refl;
        routed = λ p v c is. cc;
        some = λ p v c is. cc;
        one_an_edge = λ p v w c d is. cc;
        written = λ p v c is. cc;
        unwritten = λ p v c is. cc;
        settled = λ p v c is. cc;
        aborted = λ p v c is. cc;
        below = λ e. (let n = ap number_in (get-empty in_cmp (in_key e)) in omega arith);
      };
      kept = λ p v. get-empty nat_cmp v;
      pends = record {
        pending = λ p v c is. cc;
        standing = λ id chain is. absurd (none_in id chain is);
        apart = λ p v q w c d is. cc;
        served = λ p v c is. cc;
      };
      calls = record {
        known = λ p c last is. (let f : None ≡ Some last = sym (get-empty nat_cmp c) ∙ is in cc);
        untouched = λ id call is. absurd (none_in id call is);
      };
    };
    named = λ p v c is. cc;
    noted = record {
      invoked = λ id call is. absurd (none_in id call is);
      known = λ id op is. absurd is;
      sized = λ id call is. absurd (none_in id call is);
      said = λ id call is. absurd (none_in id call is);
      unread = λ id call is. absurd (none_in id call is);
      moments = λ id call is. absurd (none_in id call is);
    };
    meant = λ p i term entry answer was. (let f = was.there in cc);
  };
}

-- a move keeps a ledger sound
pub stays_sound : (parts : ℕ) (l : Ledger) (k : Courses) → IsSound parts l k → (move : Move) → Meets parts l k move → IsSound parts (ledger_after parts l move) (courses_after parts l k move)
stays_sound parts l k sound (Calls id op) meets = invokes_sound parts l k sound id op meets
stays_sound parts l k sound (Decides p d) meets = decides_sound parts l k sound p d meets
stays_sound parts l k sound (Answers id a m) meets = replies_sound parts l k sound id a m meets

-- and its chains go on
pub chains_go_on : (parts : ℕ) (l : Ledger) (k : Courses) → IsSound parts l k → (move : Move) → Meets parts l k move → GoOn k (courses_after parts l k move)
chains_go_on parts l k sound (Calls id op) meets = go_still k
chains_go_on parts l k sound (Decides p d) meets = decides_goes parts l k sound p d meets
chains_go_on parts l k sound (Answers id a m) meets = go_still k

-- the trace of two lists
pub trace_both : (xs ys : List GStep) → trace (xs ++ ys) ≡ trace xs ++ trace ys
trace_both [] ys = refl
trace_both (x ∷ xs) ys = go (is_outward x) (trace_both xs ys)
  where
    go : (b : Bool) → trace (xs ++ ys) ≡ trace xs ++ trace ys → cond b (x ∷ trace (xs ++ ys)) (trace (xs ++ ys)) ≡ cond b (x ∷ trace xs) (trace xs) ++ trace ys
    go true e = ap (λ t. x ∷ t) e
    go false e = e

-- of an answer's steps only the Reply is outward
pub reply_trace : (id : CallId) (m : ℕ) (a : Answer) → trace (reply_steps id m a) ≡ Reply id a ∷ []
reply_trace id m said.Fine = refl
reply_trace id m said.Skipped = refl
reply_trace id m said.Pending = refl
reply_trace id m (said.Conflict other) = refl
reply_trace id m said.Cancelled = refl
reply_trace id m said.Unknown = refl
reply_trace id m (said.Shown view) = refl

-- a list with nothing behind it
append_none : (xs : List GStep) → xs ≡ xs ++ []
append_none [] = refl
append_none (x ∷ xs) = ap (λ l. x ∷ l) (append_none xs)

-- a move adds to the trace what it is there
move_trace : (parts : ℕ) (l : Ledger) (move : Move) → trace (ledger_after parts l move).steps ≡ trace l.steps ++ outward move
move_trace parts l (Calls id op) = trace_both l.steps (Invoke id op ∷ [])
move_trace parts l (Decides p d) = decides_trace parts l p d ∙ append_none (trace l.steps)
move_trace parts l (Answers id a m) = trace_both l.steps (reply_steps id m a) ∙ ap (λ t. trace l.steps ++ t) (reply_trace id m a)

-- and so does a list of moves
moves_trace : (parts : ℕ) (moves : List Move) (l : Ledger) → trace (ledger_behind parts l moves).steps ≡ trace l.steps ++ all_outward moves
moves_trace parts [] l = append_none (trace l.steps)
moves_trace parts (move ∷ moves) l = moves_trace parts moves (ledger_after parts l move) ∙ ap (λ t. t ++ all_outward moves) (move_trace parts l move) ∙ append_assoc (trace l.steps) (outward move) (all_outward moves)

-- a list of moves keeps a ledger sound
all_sound : (parts : ℕ) (moves : List Move) (l : Ledger) (k : Courses) → IsSound parts l k → AllMeet parts l k moves → (j : Courses) × IsSound parts (ledger_behind parts l moves) j
all_sound parts [] l k sound meet = (k, sound)
all_sound parts (move ∷ moves) l k sound meet = all_sound parts moves (ledger_after parts l move) (courses_after parts l k move) (stays_sound parts l k sound move meet.0) meet.1

-- the steps of a disciplined ledger are a graph run
pub refines : (parts : ℕ) (moves : List Move) → AllMeet parts blank_ledger no_courses moves → IsGraphRun (ledger_behind parts blank_ledger moves).steps (all_outward moves)
refines parts moves meet =
    let s = all_sound parts moves blank_ledger no_courses (blank_sound parts) meet in
    record { graph = s.1.graph; run = s.1.sound.run; same_trace = moves_trace parts moves blank_ledger }

-- what a query finds in its part is seen in the graph now
pub sees_now : (parts : ℕ) (l : Ledger) (k : Courses) → IsSound parts l k → (id : CallId) (q : Query) → IsInvoked l.steps id (Read q) → (p : ℕ) → part_of_query parts q ≡ p
    → WasSeen l id (view q (machine_of parts l p)) (length l.steps)
sees_now parts l k sound id q invoked p home =
    let whole : take (length l.steps) l.steps ≡ l.steps = take_all (length l.steps) l.steps (omega arith) in
    record {
      query = q;
      invoked = subst (λ s. IsInvoked s id (Read q)) (sym whole) invoked;
      within = omega arith;
      graph = sound.graph;
      run = subst (λ s. Run start s sound.graph) (sym whole) sound.sound.run;
      is = same_view parts (machine_of parts l) sound.graph.contents sound.sound.holds.halves p q home;
    }
