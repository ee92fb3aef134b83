-- What an acknowledged call wrote is there at the moment of each read that was invoked after the answer, in every run.
use Rattle.std.proofs.Common.{◌≡◌, inl, inr, ℕ, ℤ, ◌<◌, ◌≤◌, arith, length, take, drop, List, ◌∷◌, ◌++◌, Some, Ok, refl, ap, sym, subst, ◌∙◌, append_assoc}
use Rattle.std.specs.Prelude.{slice_get}
use Rattle.std.proofs.lemmas.List.{take-append-drop, length-take-le}
use Rattle.std.specs.FinMap.{get}
use Rattle.first_graph.specs.declared.call_id.CallId.{CallId}
use Rattle.first_graph.specs.declared.edge_id.EdgeId.{EdgeId}
use Rattle.first_graph.specs.declared.half.Half.{Half}
use Rattle.first_graph.specs.declared.half.Half.TheVariants.{Absent, Here}
use Rattle.first_graph.specs.declared.op.Op.{Op}
use Rattle.first_graph.specs.declared.op.Op.TheVariants.{PutEdge, DelEdge, PutVertex, DelVertex, Read as ReadOp}
use Rattle.first_graph.specs.declared.answer.Answer.TheVariants.{Fine}
use Rattle.first_graph.specs.declared.call.Call.{Call}
use Rattle.first_graph.specs.declared.chain.Chain.{Chain}
use Rattle.first_graph.specs.declared.graph_step.GStep.{GStep}
use Rattle.first_graph.specs.declared.graph_step.GStep.TheVariants.{Invoke, Begin, Settle, Vertex, Reply}
use Rattle.first_graph.specs.Contents.{Contents}
use Rattle.first_graph.specs.Machine.{Machine, Step, start, contents_at, vertex_put}
use Rattle.first_graph.specs.Run.{Run, edge_of_op, half_of_op}
use Rattle.first_graph.specs.Laws.{IsInvokedBefore, IsOthersBetween, WritesEdge, WritesVertex, Settles, EdgeStays, VertexStays, HasHalves, HasTag, HasNoTag, Stays, StaysVisible}
use Rattle.first_graph.proofs.EqualHalves as halves
use Rattle.first_graph.proofs.Never.{At, step_sound, run_stays}
use Rattle.first_graph.proofs.Moments.{moments}
use Rattle.first_graph.proofs.Places.{get_taken, get_whole, get_part, get_after, part_shorter, some_same}
use Rattle.first_graph.proofs.Runs.{Met, Any, run_append, run_cut, each_since}
use Rattle.first_graph.proofs.Told.{OpIs, IsFine, EndsFine, Begins, NoSettle, known_came, fine_came, chain_came, answered_fine}
use Rattle.first_graph.proofs.Settled.{Writes, halves_stay, settled_at}
use Rattle.first_graph.proofs.TagsStay.{tags_stay, row_put, tags_gone}
use Rattle.first_graph.proofs.Held.{vertex_held}
use Rattle.first_graph.proofs.Asked.{Placed, not_fine, fine_stays, sound_at, known_at, op_is, placed, asked_at, within}

-- the step that ended a call with Fine, in a run up to a moment
record Ended (steps : List GStep) (id : CallId) (m : ℕ) (g : Machine) : Type 0 where
  first : List GStep
  step : GStep
  after : List GStep
  back : List GStep
  was : Machine
  now : Machine
  is : steps ≡ (first ++ step ∷ after) ++ back
  long : length (first ++ step ∷ after) ≡ m
  begun : Run start first was
  taken : Step was step (Ok now)
  rest : Run now after g
  ends : EndsFine id was step now

whole_is : (first : List GStep) (s : GStep) (after before : List GStep) (x : GStep) (rest : List GStep) → after ≡ before ++ x ∷ rest → first ++ s ∷ after ≡ (first ++ s ∷ before) ++ x ∷ rest
whole_is first s after before x rest is = ap (λ l. first ++ s ∷ l) is ∙ sym (append_assoc first (s ∷ before) (x ∷ rest))

-- the call with this op was invoked before a place of the run
invoked_before : (steps front ys back : List GStep) (g : Machine) (id : CallId) (call : Call) → steps ≡ (front ++ ys) ++ back → Run start front g → get g.calls id ≡ Some call → IsInvokedBefore steps (length front) id call.op
invoked_before steps front ys back g id call is r known =
    let k = known_came front g id call.op r (subst (At (OpIs call.op)) (sym known) refl) in
    let there : slice_get front (length k.before) ≡ Some (Invoke id call.op) =
    subst (λ l. slice_get l (length k.before) ≡ Some (Invoke id call.op)) (sym k.is) (get_after k.before k.step k.after ∙ ap Some k.met) in
    (length k.before, part_shorter front k.before k.step k.after k.is, get_part steps front ys back (length k.before) (Invoke id call.op) is there)

-- a call that began to write since is another one, and stands between
others_between : (steps : List GStep) (id : CallId) (m : ℕ) (g : Machine) (p : Ended steps id m g) (does : CallId → GStep) (IsKind : Op → Type 0)
    → Met (Writes does IsKind) Any p.now p.after g → IsOthersBetween steps id does IsKind (length p.first) m
others_between steps id m g p does IsKind met =
    let w = met.met in
    let front = p.first ++ p.step ∷ met.before in
    let cut : p.first ++ p.step ∷ p.after ≡ front ++ met.step ∷ met.after = whole_is p.first p.step p.after met.before met.step met.after met.is in
    let is : steps ≡ (front ++ met.step ∷ met.after) ++ p.back = p.is ∙ ap (λ l. l ++ p.back) cut in
    let run : Run start front met.was = run_append start p.first (p.step ∷ met.before) p.was met.was p.begun (p.now, p.taken, met.first) in
    let fine = run_stays IsFine fine_stays p.now met.before met.was id met.first (step_sound p.was p.step p.now p.taken (sound_at p.first p.was p.begun)) p.ends.0 in
    let shorter = part_shorter _ front met.step met.after cut in
    let long = p.long in (
      length front,
      part_shorter front p.first p.step met.before refl,
      omega arith,
      record {
        other = w.other;
        differs = λ same. not_fine w.call.state (inl w.open_then) (subst (At IsFine) (ap (get met.was.calls) (sym same) ∙ w.known) fine);
        taken = get_whole steps front met.step met.after p.back is ∙ ap Some w.is;
        op = w.call.op;
        invoked = invoked_before steps front (met.step ∷ met.after) p.back met.was w.other w.call is run w.known;
        kind = w.kind;
      },
    )

-- the Settle of a call is the first on its edge since the call's Begin
settles : (steps : List GStep) (id : CallId) (m : ℕ) (g : Machine) (p : Ended steps id m g) (e : EdgeId) (chain : Chain) → p.step ≡ Settle e
    → Met (Begins id chain.half) (NoSettle e) start p.first p.was → Settles steps id e (length p.first)
settles steps id m g p e chain is b = record {
  begin = length b.before;
  begins = get_part steps p.first (p.step ∷ p.after) p.back (length b.before) (Begin id) p.is
      (subst (λ l. slice_get l (length b.before) ≡ Some (Begin id)) (sym b.is) (get_after b.before b.step b.after ∙ ap Some b.met.is));
  later = part_shorter p.first b.before b.step b.after b.is;
  settles = get_whole steps p.first p.step p.after p.back p.is ∙ ap Some is;
  first = λ k more less there. each_since (NoSettle e) b.before b.step b.after ((p.step ∷ p.after) ++ p.back) k (Settle e) b.since more (subst (λ l. k < length l) b.is less)
      (subst (λ l. slice_get l k ≡ Some (Settle e)) (p.is ∙ append_assoc p.first (p.step ∷ p.after) p.back ∙ ap (λ l. l ++ ((p.step ∷ p.after) ++ p.back)) b.is) there) refl;
}

-- the call that was ended with Fine has this op
op_at : (steps : List GStep) (id : CallId) (m : ℕ) (g : Machine) (p : Ended steps id m g) (op : Op) (call : Call) → At (OpIs op) (get g.calls id) → get p.was.calls id ≡ Some call → call.op ≡ op
op_at steps id m g p op call known there = op_is p.was (p.step ∷ p.after) g id call op (p.now, p.taken, p.rest) (sound_at p.first p.was p.begun) there known

-- a call that settled on an edge stays
edge_stays : (steps : List GStep) (id : CallId) (reply m : ℕ) (g : Machine) (p : Ended steps id m g) (op : Op) (e : EdgeId) (half : Half) → length p.first < reply → At (OpIs op) (get g.calls id)
    → (x : EdgeId) (chain : Chain) → p.step ≡ Settle x → get p.was.pend x ≡ Some chain → chain.id ≡ id
    → edge_of_op op ≡ Some e → half_of_op op ≡ Some half → EdgeStays steps id reply m e (HasHalves g.contents e half)
edge_stays steps id reply m g p op e half before known x chain is found owner aims writes =
    let t = (sound_at p.first p.was p.begun).tied x chain found in
    let b = chain_came p.first p.was x id chain.half p.begun (record { chain = chain; found = found; owner = owner; writes = refl }) in
    let op_t = op_at steps id m g p op t.call known (ap (get p.was.calls) (sym owner) ∙ t.known) in
    let edge : x ≡ e = some_same x e (sym t.aims ∙ ap edge_of_op op_t ∙ aims) in
    let sound_b = sound_at b.before b.was b.first in
    let run_b = run_append b.was (b.step ∷ b.after) (p.step ∷ p.after) p.was g (b.now, b.taken, b.rest) (p.now, p.taken, p.rest) in
    let op_b = op_is b.was ((b.step ∷ b.after) ++ (p.step ∷ p.after)) g id b.met.call op run_b sound_b b.met.known known in
    let new : chain.half ≡ half = some_same chain.half half (sym b.met.writes ∙ ap half_of_op op_b ∙ writes) in
    let at_settle = settled_at p.was x chain p.now (halves.run_sound start p.first p.was p.begun halves.start_sound) found (subst (λ s. Step p.was s (Ok p.now)) is p.taken) in
    subst (λ d. EdgeStays steps id reply m d (HasHalves g.contents d half)) edge (record {
      settle = length p.first;
      settled = settles steps id m g p x chain is b;
      before = before;
      holds = elim (halves_stay x chain.half p.now p.after g p.rest at_settle) [
        | inl v ↦ inr (v.out ∙ new, v.inn ∙ new)
        | inr met ↦ inl (others_between steps id m g p Begin (WritesEdge x) met)
      ];
    })

-- a call that wrote a vertex stays, where what it left is told by the vertex' tags
vertex_stays : (steps : List GStep) (id : CallId) (reply m : ℕ) (g : Machine) (p : Ended steps id m g) (v : ℤ) (Holds : Contents → Type 0) → length p.first < reply → p.step ≡ Vertex id
    → Holds p.now.contents → (((t : ℕ) → get g.contents.verts (record { vid = v; tag = t }) ≡ get p.now.contents.verts (record { vid = v; tag = t })) → Holds p.now.contents → Holds g.contents)
    → VertexStays steps id reply m v (Holds g.contents)
vertex_stays steps id reply m g p v Holds before is there carried = record {
  write = length p.first;
  written = get_whole steps p.first p.step p.after p.back p.is ∙ ap Some is;
  before = before;
  holds = elim (tags_stay v p.now p.after g p.rest) [
    | inl same ↦ inr (carried same there)
    | inr met ↦ inl (others_between steps id m g p Vertex (WritesVertex v) met)
  ];
}

-- the vertex' write that ended a call
put_at : (steps : List GStep) (id : CallId) (m : ℕ) (g : Machine) (p : Ended steps id m g) (op : Op) → At (OpIs op) (get g.calls id) → p.step ≡ Vertex id → vertex_put p.was id op ≡ Ok p.now
put_at steps id m g p op known is =
    let t = vertex_held p.was id p.now (subst (λ s. Step p.was s (Ok p.now)) is p.taken) in
    subst (λ o. vertex_put p.was id o ≡ Ok p.now) (op_at steps id m g p op t.call known t.known) t.put

-- a call whose chain settled writes an edge
edge_op : (steps : List GStep) (id : CallId) (m : ℕ) (g : Machine) (p : Ended steps id m g) (op : Op) → At (OpIs op) (get g.calls id) → (x : EdgeId) (chain : Chain) → get p.was.pend x ≡ Some chain → chain.id ≡ id → edge_of_op op ≡ Some x
edge_op steps id m g p op known x chain found owner =
    let t = (sound_at p.first p.was p.begun).tied x chain found in
    sym (ap edge_of_op (op_at steps id m g p op t.call known (ap (get p.was.calls) (sym owner) ∙ t.known))) ∙ t.aims

ended_by : (steps : List GStep) (id : CallId) (reply m : ℕ) (g : Machine) (p : Ended steps id m g) (op : Op) → length p.first < reply → At (OpIs op) (get g.calls id) → Stays steps id reply m g.contents op
ended_by steps id reply m g p (PutEdge e row absent) before known =
    elim p.ends.1 [
      | inl s ↦ edge_stays steps id reply m g p (PutEdge e row absent) e (Here row) before known s.0 s.1 s.2 s.3 s.4 refl refl
      | inr is ↦ (let put = put_at steps id m g p (PutEdge e row absent) known is in cc)
    ]
ended_by steps id reply m g p (DelEdge e) before known =
    elim p.ends.1 [
      | inl s ↦ edge_stays steps id reply m g p (DelEdge e) e Absent before known s.0 s.1 s.2 s.3 s.4 refl refl
      | inr is ↦ (let put = put_at steps id m g p (DelEdge e) known is in cc)
    ]
ended_by steps id reply m g p (PutVertex v t row absent) before known =
    elim p.ends.1 [
      | inl s ↦ (let aims = edge_op steps id m g p (PutVertex v t row absent) known s.0 s.1 s.3 s.4 in cc)
      | inr is ↦ vertex_stays steps id reply m g p v (λ c. HasTag c v t row) before is
          (row_put p.was id v t row absent p.now (put_at steps id m g p (PutVertex v t row absent) known is) p.ends.0)
          (λ same there. same t ∙ there)
    ]
ended_by steps id reply m g p (DelVertex v) before known =
    elim p.ends.1 [
      | inl s ↦ (let aims = edge_op steps id m g p (DelVertex v) known s.0 s.1 s.3 s.4 in cc)
      | inr is ↦ vertex_stays steps id reply m g p v (λ c. HasNoTag c v) before is
          (tags_gone p.was id v p.now (put_at steps id m g p (DelVertex v) known is))
          (λ same there t. same t ∙ there t)
    ]
ended_by steps id reply m g p (ReadOp q) before known = tt

-- a run up to a moment after the reply, with the step that ended the replied call
record Up (steps : List GStep) (id : CallId) (reply m : ℕ) (h : Machine) : Type 0 where
  at : Machine
  back : List GStep
  rest : Run at back h
  front : Run start (take m steps) at
  ended : Ended steps id m at
  early : length ended.first < reply
  fine : At IsFine (get at.calls id)

ended_up_to : (steps : List GStep) (id : CallId) (m : ℕ) (g : Machine) (first : List GStep) (step : GStep) (after : List GStep) (was now : Machine) → take m steps ≡ first ++ step ∷ after → m ≤ length steps
    → Run start first was → Step was step (Ok now) → Run now after g → EndsFine id was step now → Ended steps id m g
ended_up_to steps id m g first step after was now front fits begun taken rest ends = record {
  first = first;
  step = step;
  after = after;
  back = drop m steps;
  was = was;
  now = now;
  is = sym (take-append-drop m steps) ∙ ap (λ l. l ++ drop m steps) front;
  long = ap length (sym front) ∙ length-take-le m steps fits;
  begun = begun;
  taken = taken;
  rest = rest;
  ends = ends;
}

front_is : (whole before : List GStep) (x : GStep) (rest first : List GStep) (s : GStep) (after : List GStep) → whole ≡ before ++ x ∷ rest → before ≡ first ++ s ∷ after → whole ≡ first ++ s ∷ (after ++ x ∷ rest)
front_is whole before x rest first s after is cut = is ∙ ap (λ l. l ++ x ∷ rest) cut ∙ append_assoc first (s ∷ after) (x ∷ rest)

up_by : (steps : List GStep) (h : Machine) (id : CallId) (reply m : ℕ) (g : Machine) (back : List GStep) → Run start (take m steps) g → Run g back h → m ≤ length steps
    → (p : Placed (take m steps) reply (Reply id Fine) g) → Met (EndsFine id) Any start p.before p.was → Up steps id reply m h
unfolding ended_up_to
up_by steps h id reply m g back r q fits p f =
    let rest : Run f.now (f.after ++ Reply id Fine ∷ p.after) g = run_append f.now f.after (Reply id Fine ∷ p.after) p.was g f.rest (p.now, p.taken, p.rest) in
    let sound = step_sound f.was f.step f.now f.taken (sound_at f.before f.was f.first) in
    record {
      at = g;
      back = back;
      rest = q;
      front = r;
      ended = ended_up_to steps id m g f.before f.step (f.after ++ Reply id Fine ∷ p.after) f.was f.now (front_is (take m steps) p.before (Reply id Fine) p.after f.before f.step f.after p.is f.is) fits f.first f.taken rest f.met;
      early = subst (λ n. length f.before < n) p.place (part_shorter p.before f.before f.step f.after f.is);
      fine = run_stays IsFine fine_stays f.now (f.after ++ Reply id Fine ∷ p.after) g id rest sound f.met.0;
    }

up_to : (steps : List GStep) (h : Machine) (id : CallId) (reply m : ℕ) → Run start steps h → slice_get steps reply ≡ Some (Reply id Fine) → reply < m → m ≤ length steps → Up steps id reply m h
up_to steps h id reply m r e less fits =
    let cut = run_cut start (take m steps) (drop m steps) h (subst (λ l. Run start l h) (sym (take-append-drop m steps)) r) in
    let p = placed (take m steps) cut.0 reply (Reply id Fine) cut.1 (get_taken steps reply m (Reply id Fine) less e) in
    up_by steps h id reply m cut.0 (drop m steps) cut.1 cut.2 fits p (fine_came p.before p.was id p.first (answered_fine p.was id p.now p.taken))

pub stays_visible : (steps : List GStep) (h : Machine) → Run start steps h → StaysVisible steps h
stays_visible steps h r id reader op q call reply asked answered m invoked replied later asks reads =
    let w = within steps h asked answered m reader q r asks reads in
    let u = up_to steps h id reply m r replied (let a = w.0 in omega arith) w.1 in
    let k = known_at IsFine (get u.at.calls id) u.fine in
    let is_op : k.0.op ≡ op = op_is u.at u.back h id k.0 op u.rest (sound_at (take m steps) u.at u.front) k.1 (asked_at steps h call id op r invoked).op_then in
    let stays = ended_by steps id reply m u.at u.ended op u.early (subst (At (OpIs op)) (sym k.1) is_op) in
    let then_is : contents_at h m ≡ u.at.contents = ap (contents_at h) (sym (length-take-le m steps w.1)) ∙ moments (take m steps) u.back u.at h u.front u.rest in
    subst (λ c. Stays steps id reply m c op) (sym then_is) stays
