-- The tags of a vertex stay until a call writes the vertex.
use Rattle.std.proofs.Common.{◌≡◌, ◌⊎◌, inl, inr, ℕ, ℤ, List, cond, Option, Some, None, Ok, Bool, true, false, not, refl, ap, sym, subst, ◌∙◌}
use Rattle.std.specs.Prelude.{if◌then◌else◌, ◌&&◌}
use Rattle.std.specs.Ordering.{int_eq, int_cmp, eq_by_cmp, is_eq}
use Rattle.std.specs.Cmp.{int_cmp_total}
use Rattle.std.specs.FinMap.{FinMap, get, retain_keys, get-retain_keys, contains_key}
use Rattle.std.proofs.lemmas.Map.Lookups.{exact_signed}
use Rattle.first_graph.specs.declared.val.Val.{Val}
use Rattle.first_graph.specs.declared.call_id.CallId.{CallId}
use Rattle.first_graph.specs.declared.tag_key.TagKey.{TagKey}
use Rattle.first_graph.specs.declared.op.Op.{Op}
use Rattle.first_graph.specs.declared.op.Op.TheVariants.{PutEdge, DelEdge, PutVertex, DelVertex, Read as ReadOp}
use Rattle.first_graph.specs.declared.answer.Answer.TheVariants.{Fine, Skipped}
use Rattle.first_graph.specs.declared.call.CallState.TheVariants.{Done}
use Rattle.first_graph.specs.declared.call.Call.{Call}
use Rattle.first_graph.specs.declared.graph_step.GStep.{GStep}
use Rattle.first_graph.specs.declared.graph_step.GStep.TheVariants.{Invoke, Begin, Skip, Refuse, InHalf, OutHalf, Settle, Cancel, Vertex, Read, Reply}
use Rattle.first_graph.specs.Keys.{tag_cmp}
use Rattle.first_graph.specs.Machine.{Machine, Step, vertex_put, done}
use Rattle.first_graph.specs.Run.{Run}
use Rattle.first_graph.specs.Laws.{WritesVertex, HasTag, HasNoTag}
use Rattle.first_graph.proofs.KeyLemmas.{tags_total, tags_exact, calls_total}
use Rattle.first_graph.specs.Maps.{altered}
use Rattle.first_graph.specs.Marks.{with_state}
use Rattle.first_graph.specs.declared.change.Change.TheVariants.{Nothing, Tag}
use Rattle.std.specs.Option.{option_map}
use Rattle.std.proofs.lemmas.Cmp.{tied_itself}
use Rattle.first_graph.proofs.Never.{At}
use Rattle.first_graph.proofs.Told.{IsFine}
use Rattle.first_graph.proofs.Updates.{same_or_apart, not_apart, with_at_here, with_at_apart, altered_here}
use Rattle.first_graph.proofs.Inversion.{same_ok}
use Rattle.first_graph.proofs.Settled.{Writes}
use Rattle.first_graph.proofs.Runs.{Met, Any, kept}
use Rattle.first_graph.proofs.Held.{invoke_held, begin_held, skip_held, refuse_held, in_held, out_held, settle_held, cancel_held, vertex_held, read_step_held, reply_held}

abbrev pub Rows : Type 0
Rows = FinMap tag_cmp (List Val)

abbrev pub key : ℤ → ℕ → TagKey
key v t = record { vid = v; tag = t }

-- the tags of the vertex have the rows that they had
abbrev pub SameTags : ℤ → Rows → Rows → Type 0
SameTags v old now = (t : ℕ) → get now (key v t) ≡ get old (key v t)

-- the ids of two vertices are the same, or are told apart
vids_apart : (v x : ℤ) → (v ≡ x) ⊎ (eq_by_cmp int_cmp v x ≡ false)
vids_apart v x = same_or_apart int_cmp_total exact_signed v x

keys_apart : (v x : ℤ) (t u : ℕ) → eq_by_cmp int_cmp v x ≡ false → eq_by_cmp tag_cmp (key v t) (key x u) ≡ false
keys_apart v x t u a =
    elim (same_or_apart tags_total tags_exact (key v t) (key x u)) [
      | inl same ↦ absurd (not_apart int_cmp_total v x (ap (λ k. k.vid) same) a)
      | inr b ↦ b
    ]

-- what DelVertex leaves of the tags
abbrev without : Rows → ℤ → Rows
without rows x = retain_keys rows (λ k. not (int_eq k.vid x))

get_without : (rows : Rows) (x v : ℤ) (t : ℕ) → get (without rows x) (key v t) ≡ cond (not (int_eq v x)) (get rows (key v t)) None
get_without rows x v t = get-retain_keys rows (λ k. not (int_eq k.vid x)) (key v t) (λ k e. ap (λ q. not (int_eq q.vid x)) (sym (tags_exact (key v t) k e)))

without_others : (rows : Rows) (x v : ℤ) → eq_by_cmp int_cmp v x ≡ false → SameTags v rows (without rows x)
without_others rows x v a t = get_without rows x v t ∙ ap (λ b. cond (not b) (get rows (key v t)) None) a

without_itself : (rows : Rows) (v : ℤ) (t : ℕ) → get (without rows v) (key v t) ≡ None
without_itself rows v t = get_without rows v v t ∙ ap (λ r. cond (not (is_eq r)) (get rows (key v t)) None) (tied_itself int_cmp_total v)

abbrev SameAfter : ℤ → Rows → Machine → Type 0
SameAfter v rows h = SameTags v rows h.contents.verts

either_same : (v : ℤ) (rows : Rows) (b : Bool) (x y : Machine) → SameAfter v rows x → SameAfter v rows y → SameAfter v rows (if b then x else y)
either_same v rows true x y p q = p
either_same v rows false x y p q = q

vertex_same : (v : ℤ) (g : Machine) (id : CallId) (op : Op) (h : Machine) → vertex_put g id op ≡ Ok h → SameAfter v g.contents.verts h ⊎ WritesVertex v op
vertex_same v g id (PutVertex x t row absent) h is =
    elim (vids_apart v x) [
      | inl same ↦ inr (ap Some (sym same))
      | inr a ↦ inl (subst (SameAfter v g.contents.verts) (same_ok _ h is)
          (either_same v g.contents.verts (absent && contains_key g.contents.verts (key x t)) (done g id Skipped Nothing) (done g id Fine (Tag (key x t) row))
          (λ u. refl) (λ u. with_at_apart tags_total g.contents.verts (key x t) (Some row) (key v u) (keys_apart v x u t a))))
    ]
vertex_same v g id (DelVertex x) h is =
    elim (vids_apart v x) [
      | inl same ↦ inr (ap Some (sym same))
      | inr a ↦ inl (subst (SameAfter v g.contents.verts) (same_ok _ h is) (without_others g.contents.verts x v a))
    ]
vertex_same v g id (PutEdge x row absent) h is = cc
vertex_same v g id (DelEdge x) h is = cc
vertex_same v g id (ReadOp q) h is = cc

same_contents : (v : ℤ) (g h m : Machine) → h ≡ m → m.contents.verts ≡ g.contents.verts → SameAfter v g.contents.verts h
same_contents v g h m is same t = ap (λ n. get n.contents.verts (key v t)) is ∙ ap (λ rows. get rows (key v t)) same

step_same : (v : ℤ) (g : Machine) (s : GStep) (h : Machine) → Step g s (Ok h) → SameAfter v g.contents.verts h ⊎ Writes Vertex (WritesVertex v) g s h
step_same v g (Invoke id op) h is = inl (same_contents v g h _ (invoke_held g id op h is).is refl)
step_same v g (Begin id) h is = inl (same_contents v g h _ (begin_held g id h is).is refl)
step_same v g (Skip id) h is = inl (same_contents v g h _ (skip_held g id h is).is refl)
step_same v g (Refuse id) h is = inl (same_contents v g h _ (refuse_held g id h is).is refl)
step_same v g (InHalf x) h is = inl (same_contents v g h _ (in_held g x h is).is refl)
step_same v g (OutHalf x) h is = inl (same_contents v g h _ (out_held g x h is).is refl)
step_same v g (Settle x) h is = inl (same_contents v g h _ (settle_held g x h is).is refl)
step_same v g (Cancel x) h is = inl (same_contents v g h _ (cancel_held g x h is).is refl)
step_same v g (Vertex id) h is =
    let t = vertex_held g id h is in
    elim (vertex_same v g id t.call.op h t.put) [
      | inl same ↦ inl same
      | inr kind ↦ inr (record { other = id; is = refl; call = t.call; known = t.known; open_then = t.open_then; kind = kind })
    ]
step_same v g (Read id m) h is = inl (same_contents v g h _ (read_step_held g id m h is).is refl)
step_same v g (Reply id a) h is = inl (same_contents v g h _ (reply_held g id a h is).is refl)

keep_same : (v : ℤ) (rows : Rows) (g : Machine) (s : GStep) (h : Machine) → Step g s (Ok h) → SameAfter v rows g → SameAfter v rows h ⊎ Writes Vertex (WritesVertex v) g s h
keep_same v rows g s h is was =
    elim (step_same v g s h is) [
      | inl same ↦ inl (λ t. same t ∙ was t)
      | inr w ↦ inr w
    ]

-- the tags of a vertex stay, or a call writes the vertex
pub tags_stay : (v : ℤ) (g : Machine) (steps : List GStep) (h : Machine) → Run g steps h → SameAfter v g.contents.verts h ⊎ Met (Writes Vertex (WritesVertex v)) Any g steps h
tags_stay v g steps h r = kept (SameAfter v g.contents.verts) (Writes Vertex (WritesVertex v)) (keep_same v g.contents.verts) g steps h r (λ t. refl)

skipped_unfine : (o : Option Call) → At IsFine (option_map (with_state (Done Skipped)) o) → ⊥
skipped_unfine None p = p
skipped_unfine (Some call) p = cc

either_put : (g : Machine) (id : CallId) (v : ℤ) (t : ℕ) (row : List Val) (b : Bool) (h : Machine) → (if b then done g id Skipped Nothing else done g id Fine (Tag (key v t) row)) ≡ h → At IsFine (get h.calls id) → HasTag h.contents v t row
either_put g id v t row true h is fine =
    let p : At IsFine (get (altered g.calls id (with_state (Done Skipped))) id) = subst (λ m. At IsFine (get m.calls id)) (sym is) fine in
    absurd (skipped_unfine (get g.calls id) (subst (At IsFine) (altered_here calls_total g.calls id (with_state (Done Skipped))) p))
either_put g id v t row false h is fine = subst (λ m. HasTag m.contents v t row) is (with_at_here tags_total g.contents.verts (key v t) (Some row))

-- a PutVertex that ends with Fine leaves its row
pub row_put : (g : Machine) (id : CallId) (v : ℤ) (t : ℕ) (row : List Val) (absent : Bool) (h : Machine) → vertex_put g id (PutVertex v t row absent) ≡ Ok h → At IsFine (get h.calls id) → HasTag h.contents v t row
row_put g id v t row absent h is fine = either_put g id v t row (absent && contains_key g.contents.verts (key v t)) h (same_ok _ h is) fine

-- a DelVertex leaves no tag
pub tags_gone : (g : Machine) (id : CallId) (v : ℤ) (h : Machine) → vertex_put g id (DelVertex v) ≡ Ok h → HasNoTag h.contents v
tags_gone g id v h is = subst (λ m. HasNoTag m.contents v) (same_ok _ h is) (without_itself g.contents.verts v)
