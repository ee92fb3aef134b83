-- Decided lists, machines and right replies where one part's list has one entry more.
use Rattle.std.proofs.Common.{◌≡◌, ℕ, zero, suc, ◌≤◌, List, [], ◌∷◌, ◌++◌, length, take, Bool, true, false, refl, ap, sym, subst, ◌∙◌, arith}
use Rattle.std.specs.List.{list_all}
use Rattle.std.specs.FinMap.{get}
use Rattle.std.proofs.lemmas.Bool.{and_parts}
use Rattle.std.proofs.lemmas.Option.{same_Some, none-some, slice_get_within}
use Rattle.std.proofs.lemmas.List.{take-append-le}
use Rattle.graph_model.specs.declared.answer.Answer.{Answer}
use Rattle.graph_model.specs.declared.answer.Answer.TheVariants as said
use Rattle.graph_model.specs.declared.call_id.CallId.{CallId}
use Rattle.graph_model.specs.declared.found.Found.{Found}
use Rattle.graph_model.specs.declared.graph_step.GStep.{GStep}
use Rattle.graph_model.specs.Run.{Run}
use Rattle.graph_model.specs.State.{start}
use Rattle.graph_model.specs.declared.op.Op.TheVariants as op
use Rattle.part_keys.specs.declared.chain.PrimeRec.{PrimeRec}
use Rattle.part_keys.specs.declared.proposal.Proposal.{Proposal}
use Rattle.part_keys.specs.declared.proposal.Proposal.TheVariants.{Made}
use Rattle.part_keys.specs.declared.entry.PartEntry.{PartEntry}
use Rattle.part_rules.specs.declared.applied.Applied.{Applied}
use Rattle.part_rules.specs.Folded.{item_applied, folded}
use Rattle.chain_leader.specs.Rules.{Table}
use Rattle.chain_world.specs.Places.{At}
use Rattle.chain_world.specs.Ledger.{Ledger}
use Rattle.chain_world.specs.Invariant.Discipline.{IsInvoked, IsRightReply, WasAnswered, WasTold, WasSeen}
use Rattle.chain_world.specs.Invariant.Protocol.{StandsAt, IsReadyIf}
use Rattle.chain_world.proofs.Members.{at_front}
use Rattle.chain_world.proofs.Fronts.{take_front, length_more}

-- what a test of all says of one
pub all_at : {A : Type 0} (test : A → Bool) (xs : List A) (i : ℕ) (x : A) → list_all test xs ≡ true → At xs i x → test x ≡ true
all_at test [] i x all at = absurd (none-some x at)
all_at test (y ∷ xs) zero x all at = ap test (sym (same_Some y x at)) ∙ (and_parts (test y) (list_all test xs) all).0
all_at test (y ∷ xs) (suc i) x all at = all_at test xs i x (and_parts (test y) (list_all test xs) all).1 at

-- One list goes on from another: each place and each front is the same.
pub record Longer (old new : List (ℕ × Proposal)) : Type 0 where
  pub length_grows : length old ≤ length new
  pub place : (i : ℕ) (e : ℕ × Proposal) → At old i e → At new i e
  pub front : (n : ℕ) → n ≤ length old → take n new ≡ take n old

pub longer_itself : (xs : List (ℕ × Proposal)) → Longer xs xs
longer_itself xs = record { length_grows = omega arith; place = λ i e at. at; front = λ n h. refl }

pub longer_by_one : (xs : List (ℕ × Proposal)) (d : ℕ × Proposal) → Longer xs (xs ++ d ∷ [])
longer_by_one xs d = record {
  length_grows = let e = length_more xs d in omega arith;
  place = λ i e at. at_front e xs (d ∷ []) i at;
  front = λ n h. take_front xs d n h;
}

module _ (parts : ℕ) (old new : List (ℕ × Proposal)) (longer : Longer old new) where
  -- what stood behind a front stands there
  pub stands_on : (n v : ℕ) (rec : PrimeRec) → n ≤ length old → StandsAt parts old n v rec → StandsAt parts new n v rec
  stands_on n v rec h at = ap (λ (ds : List (ℕ × Proposal)). get (folded parts ds).chains v) (longer.front n h) ∙ at

  pub stood_then : (n v : ℕ) (rec : PrimeRec) → n ≤ length old → StandsAt parts new n v rec → StandsAt parts old n v rec
  stood_then n v rec h at = ap (λ (ds : List (ℕ × Proposal)). get (folded parts ds).chains v) (sym (longer.front n h)) ∙ at

  -- an answer that was given was given
  pub answered_on : (i u : ℕ) (x : PartEntry) (answer : Applied) → WasAnswered parts old i u x answer → WasAnswered parts new i u x answer
  answered_on i u x answer was = record {
    there = longer.place i (u, Made x) was.there;
    is = ap (λ (ds : List (ℕ × Proposal)). (item_applied parts (suc i) (Made x) (folded parts ds)).1) (longer.front i (let w = slice_get_within old i (u, Made x) was.there in omega arith)) ∙ was.is;
  }

  -- a leader is as ready
  pub ready_on : (puts fences : ℕ → Type 0) (t n : ℕ) (table : Table) (b : Bool) → n ≤ length old → IsReadyIf parts old puts fences t n table b → IsReadyIf parts new puts fences t n table b
  ready_on puts fences t n table true h r = record {
    noop = r.noop;
    started = longer.place r.noop _ r.started;
    applied = r.applied;
    rows = λ v row has. (let i = r.rows v row has in record { rec = i.rec; standing = stands_on n v i.rec h i.standing; list = i.list; remote = i.remote; before = i.before });
    own = λ v rec at. r.own v rec (stood_then n v rec h at);
    put = λ v p. (let f = r.put v p in (f.0, λ rec at. f.1 rec (stood_then n v rec h at)));
    fenced = λ v p. (let f = r.fenced v p in (f.0, λ rec at. f.1 rec (stood_then n v rec h at)));
  }
  ready_on puts fences t n table false h r = record { empty = r.empty; unput = r.unput; unfenced = r.unfenced }

-- Right replies stay right where lists and steps go on.
module _ (parts : ℕ) (l z : Ledger) (more : List GStep) (steps : z.steps ≡ l.steps ++ more) (lists : (q : ℕ) → Longer (l.decided q) (z.decided q)) where
  told_on : (id : CallId) (a : Answer) → WasTold parts l id a → WasTold parts z id a
  told_on id a w = record {
    part = w.part;
    place = w.place;
    term = w.term;
    entry = w.entry;
    answer = w.answer;
    answered = answered_on parts (l.decided w.part) (z.decided w.part) (lists w.part) w.place w.term w.entry w.answer w.answered;
    tells = w.tells;
  }

  first_steps : (m : ℕ) → m ≤ length l.steps → take m z.steps ≡ take m l.steps
  first_steps m h = ap (take m) steps ∙ take-append-le m l.steps more h

  seen_on : (id : CallId) (view : List Found) (m : ℕ) → WasSeen l id view m → WasSeen z id view m
  seen_on id view m w =
      let front = first_steps m w.within in
      record {
        query = w.query;
        invoked = subst (λ (s : List GStep). IsInvoked s id (op.Read w.query)) (sym front) w.invoked;
        within = let a = ap length steps in let b = longer_steps l.steps more in let c = w.within in omega arith;
        graph = w.graph;
        run = subst (λ (s : List GStep). Run start s w.graph) (sym front) w.run;
        is = w.is;
      }
    where
      longer_steps : (xs ys : List GStep) → length xs ≤ length (xs ++ ys)
      longer_steps [] ys = omega arith
      longer_steps (x ∷ xs) ys = let r = longer_steps xs ys in omega arith

  pub rights_on : (id : CallId) (a : Answer) (m : ℕ) → IsRightReply parts l id a m → IsRightReply parts z id a m
  rights_on id said.Unknown m r = tt
  rights_on id (said.Shown view) m r = seen_on id view m r
  rights_on id said.Fine m r = told_on id said.Fine r
  rights_on id said.Skipped m r = told_on id said.Skipped r
  rights_on id said.Pending m r = told_on id said.Pending r
  rights_on id (said.Conflict other) m r = told_on id (said.Conflict other) r
  rights_on id said.Cancelled m r = told_on id said.Cancelled r
