-- The contents at a moment are those of the machine then.
use Rattle.std.proofs.Common.{◌≡◌, ℕ, suc, length, take, List, [], ◌∷◌, ◌++◌, append_assoc, Ok, Bool, true, false, refl, ap, sym, subst, ◌∙◌}
use Rattle.std.specs.Prelude.{if◌then◌else◌, ◌&&◌}
use Rattle.std.specs.FinMap.{contains_key}
use Rattle.first_graph.specs.declared.call_id.CallId.{CallId}
use Rattle.first_graph.specs.declared.change.Change.{Change}
use Rattle.first_graph.specs.declared.change.Change.TheVariants.{Nothing, Tag, Gone, Out, In}
use Rattle.first_graph.specs.declared.op.Op.{Op}
use Rattle.first_graph.specs.declared.op.Op.TheVariants.{PutEdge, DelEdge, PutVertex, DelVertex, Read as ReadOp}
use Rattle.first_graph.specs.declared.graph_step.GStep.{GStep}
use Rattle.first_graph.specs.declared.graph_step.GStep.TheVariants.{Invoke, Begin, Skip, Refuse, InHalf, OutHalf, Settle, Cancel, Vertex, Read, Reply}
use Rattle.first_graph.specs.Contents.{Contents, changed, after_all, contents_after}
use Rattle.first_graph.specs.Machine.{Machine, Step, start, contents_at, vertex_put}
use Rattle.first_graph.specs.Run.{Run}
use Rattle.first_graph.proofs.Inversion.{same_ok}
use Rattle.first_graph.proofs.Held.{invoke_held, begin_held, skip_held, refuse_held, in_held, out_held, settle_held, cancel_held, vertex_held, read_step_held, reply_held}

after_all-append : (c : Contents) (xs ys : List Change) → after_all c (xs ++ ys) ≡ after_all (after_all c xs) ys
after_all-append c [] ys = refl
after_all-append c (x ∷ xs) ys = after_all-append (changed c x) xs ys

-- a step changes the contents once, and notes the change
record Grew (g h : Machine) : Type 0 where
  change : Change
  contents : h.contents ≡ changed g.contents change
  past : h.past ≡ g.past ++ change ∷ []

either_grew : (b : Bool) (g x y h : Machine) → Grew g x → Grew g y → (if b then x else y) ≡ h → Grew g h
either_grew true g x y h v w e = subst (Grew g) e v
either_grew false g x y h v w e = subst (Grew g) e w

grew : (g h m : Machine) (x : Change) → h ≡ m → m.contents ≡ changed g.contents x → m.past ≡ g.past ++ x ∷ [] → Grew g h
grew g h m x e c p = record { change = x; contents = ap (λ n. n.contents) e ∙ c; past = ap (λ n. n.past) e ∙ p }

vertex_grew : (g : Machine) (id : CallId) (op : Op) (h : Machine) → vertex_put g id op ≡ Ok h → Grew g h
vertex_grew g id (PutVertex x t row absent) h e = either_grew (absent && contains_key g.contents.verts (record { vid = x; tag = t })) g _ _ h (grew g _ _ Nothing refl refl refl) (grew g _ _ (Tag (record { vid = x; tag = t }) row) refl refl refl) (same_ok _ h e)
vertex_grew g id (DelVertex x) h e = grew g h _ (Gone x) (sym (same_ok _ h e)) refl refl
vertex_grew g id (PutEdge x row absent) h e = cc
vertex_grew g id (DelEdge x) h e = cc
vertex_grew g id (ReadOp q) h e = cc

step_grew : (g : Machine) (s : GStep) (h : Machine) → Step g s (Ok h) → Grew g h
step_grew g (Invoke id op) h e = grew g h _ Nothing (invoke_held g id op h e).is refl refl
step_grew g (Begin id) h e = grew g h _ Nothing (begin_held g id h e).is refl refl
step_grew g (Skip id) h e = grew g h _ Nothing (skip_held g id h e).is refl refl
step_grew g (Refuse id) h e = grew g h _ Nothing (refuse_held g id h e).is refl refl
step_grew g (InHalf x) h e = let t = in_held g x h e in grew g h _ (In x t.chain.half) t.is refl refl
step_grew g (OutHalf x) h e = let t = out_held g x h e in grew g h _ (Out x t.chain.half) t.is refl refl
step_grew g (Settle x) h e = grew g h _ Nothing (settle_held g x h e).is refl refl
step_grew g (Cancel x) h e = grew g h _ Nothing (cancel_held g x h e).is refl refl
step_grew g (Vertex id) h e = let t = vertex_held g id h e in vertex_grew g id t.call.op h t.put
step_grew g (Read id m) h e = grew g h _ Nothing (read_step_held g id m h e).is refl refl
step_grew g (Reply id a) h e = grew g h _ Nothing (reply_held g id a h e).is refl refl

-- what a run adds to the past, and does to the contents
record Went (g : Machine) (steps : List GStep) (h : Machine) : Type 0 where
  changes : List Change
  many : length changes ≡ length steps
  past : h.past ≡ g.past ++ changes
  contents : h.contents ≡ after_all g.contents changes

append_none : (xs : List Change) → xs ≡ xs ++ []
append_none [] = refl
append_none (x ∷ xs) = ap (λ ys. x ∷ ys) (append_none xs)

one_more : (a b : ℕ) → a ≡ b → suc a ≡ suc b
one_more a b e = ap suc e

run_went : (g : Machine) (steps : List GStep) (h : Machine) → Run g steps h → Went g steps h
run_went g [] h r = record { changes = []; many = refl; past = ap (λ n. n.past) r ∙ append_none g.past; contents = ap (λ n. n.contents) r }
run_went g (s ∷ steps) h r =
    let t = step_grew g s r.0 r.1 in
    let w = run_went r.0 steps h r.2 in
    record {
      changes = t.change ∷ w.changes;
      many = one_more _ _ w.many;
      past = w.past ∙ ap (λ xs. xs ++ w.changes) t.past ∙ append_assoc g.past (t.change ∷ []) w.changes;
      contents = w.contents ∙ ap (λ c. after_all c w.changes) t.contents;
    }

take_front : (xs ys : List Change) → take (length xs) (xs ++ ys) ≡ xs
take_front [] ys = refl
take_front (x ∷ xs) ys = ap (λ zs. x ∷ zs) (take_front xs ys)

pub moments : (before after : List GStep) (g h : Machine) → Run start before g → Run g after h → contents_at h (length before) ≡ g.contents
moments before after g h r q =
    let u = run_went start before g r in
    let w = run_went g after h q in
    let front : take (length before) h.past ≡ u.changes =
    ap (λ n. take n h.past) (sym u.many) ∙ ap (take (length u.changes)) (w.past ∙ ap (λ p. p ++ w.changes) u.past) ∙ take_front u.changes w.changes in
    ap contents_after front ∙ sym u.contents

-- the past is as long as the run
pub past_long : (steps : List GStep) (g : Machine) → Run start steps g → length g.past ≡ length steps
past_long steps g r = let w = run_went start steps g r in ap length w.past ∙ w.many
