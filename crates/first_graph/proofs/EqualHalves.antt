-- An edge without a chain has equal halves, in every run.
use Rattle.std.proofs.Common.{◌≡◌, inl, inr, List, [], ◌∷◌, Option, Some, None, Ok, Bool, true, false, refl, ap, sym, subst, ◌∙◌}
use Rattle.std.specs.Prelude.{if◌then◌else◌, ◌&&◌}
use Rattle.std.specs.FinMap.{FinMap, contains_key, get, insert, remove, get-empty}
use Rattle.std.specs.Ordering.{eq_by_cmp}
use Rattle.first_graph.specs.declared.val.Val.{Val}
use Rattle.first_graph.specs.declared.half.Half.{Half}
use Rattle.first_graph.specs.declared.half.Half.TheVariants.{Absent, Here}
use Rattle.first_graph.specs.declared.edge_id.EdgeId.{EdgeId}
use Rattle.first_graph.specs.declared.call_id.CallId.{CallId}
use Rattle.first_graph.specs.declared.op.Op.{Op}
use Rattle.first_graph.specs.declared.op.Op.TheVariants.{PutEdge, DelEdge, PutVertex, DelVertex, Read as ReadOp}
use Rattle.first_graph.specs.declared.chain.Chain.{Chain}
use Rattle.first_graph.specs.declared.graph_step.GStep.{GStep}
use Rattle.first_graph.specs.declared.graph_step.GStep.TheVariants.{Invoke, Begin, Skip, Refuse, InHalf, OutHalf, Settle, Cancel, Vertex, Read, Reply}
use Rattle.first_graph.specs.Keys.{edge_cmp, in_cmp, in_key, edge_of}
use Rattle.first_graph.specs.Maps.{with_at, altered}
use Rattle.first_graph.specs.Marks.{with_in_done, with_out_done}
use Rattle.first_graph.specs.Contents.{row_of, half_of}
use Rattle.first_graph.specs.Machine.{Machine, Step, start, vertex_put}
use Rattle.first_graph.specs.Run.{Run}
use Rattle.first_graph.specs.Laws.{HasEqualHalves}
use Rattle.first_graph.proofs.KeyLemmas.{edges_total, edges_exact, ins_total, ins_exact}
use Rattle.first_graph.proofs.Updates.{same_or_apart, not_apart, with_at_here, with_at_apart, altered_here, altered_apart}
use Rattle.first_graph.proofs.Inversion.{same_ok}
use Rattle.first_graph.proofs.Held.{invoke_held, begin_held, skip_held, refuse_held, in_held, out_held, settle_held, cancel_held, vertex_held, read_step_held, reply_held}

-- the halves o and i of an edge whose chain writes n
abbrev pub Sound : Bool → Bool → Half → Half → Half → Type 0
Sound false false n o i = o ≡ i
Sound true false n o i = i ≡ n
Sound false true n o i = o ≡ n
Sound true true n o i = (o ≡ n) × (i ≡ n)

abbrev pub SoundAt : Option Chain → Half → Half → Type 0
SoundAt None o i = o ≡ i
SoundAt (Some p) o i = Sound p.in_done p.out_done p.half o i

abbrev pub SoundAll : FinMap edge_cmp Chain → FinMap edge_cmp (List Val) → FinMap in_cmp (List Val) → Type 0
SoundAll pend out inn = (e : EdgeId) → SoundAt (get pend e) (half_of (get out e)) (half_of (get inn (in_key e)))

abbrev pub IsSound : Machine → Type 0
IsSound g = SoundAll g.pend g.contents.out g.contents.inn

half_back : (h : Half) → half_of (row_of h) ≡ h
half_back Absent = refl
half_back (Here row) = refl

pub in_keys_apart : (q e : EdgeId) → eq_by_cmp edge_cmp q e ≡ false → eq_by_cmp in_cmp (in_key q) (in_key e) ≡ false
in_keys_apart q e apart =
    elim (same_or_apart ins_total ins_exact (in_key q) (in_key e)) [
      | inl same ↦ absurd (not_apart edges_total q e (ap edge_of same) apart)
      | inr a ↦ a
    ]

by_edge : (pend : FinMap edge_cmp Chain) (out : FinMap edge_cmp (List Val)) (inn : FinMap in_cmp (List Val)) (e : EdgeId)
    → SoundAt (get pend e) (half_of (get out e)) (half_of (get inn (in_key e)))
    → ((q : EdgeId) → eq_by_cmp edge_cmp q e ≡ false → SoundAt (get pend q) (half_of (get out q)) (half_of (get inn (in_key q))))
    → SoundAll pend out inn
by_edge pend out inn e here others q =
    elim (same_or_apart edges_total edges_exact q e) [
      | inl same ↦ subst (λ x. SoundAt (get pend x) (half_of (get out x)) (half_of (get inn (in_key x)))) (sym same) here
      | inr apart ↦ others q apart
    ]

begun_sound : (pend : FinMap edge_cmp Chain) (out : FinMap edge_cmp (List Val)) (inn : FinMap in_cmp (List Val)) (e : EdgeId) (id : CallId) (n : Half)
    → get pend e ≡ None → SoundAll pend out inn → SoundAll (insert pend e (record { id = id; half = n; in_done = false; out_done = false })) out inn
begun_sound pend out inn e id n none v =
    let p : Chain = record { id = id; half = n; in_done = false; out_done = false } in
    by_edge _ out inn e
    (subst (λ x. SoundAt x (half_of (get out e)) (half_of (get inn (in_key e)))) (sym (with_at_here edges_total pend e (Some p))) (subst (λ x. SoundAt x (half_of (get out e)) (half_of (get inn (in_key e)))) none (v e)))
    (λ q apart. subst (λ x. SoundAt x (half_of (get out q)) (half_of (get inn (in_key q)))) (sym (with_at_apart edges_total pend e (Some p) q apart)) (v q))

in_now : (b : Bool) (n o i : Half) → Sound false b n o i → Sound true b n o n
in_now false n o i v = refl
in_now true n o i v = (v, refl)

out_now : (b : Bool) (n o i : Half) → Sound b false n o i → Sound b true n n i
out_now false n o i v = refl
out_now true n o i v = (refl, v)

in_sound : (pend : FinMap edge_cmp Chain) (out : FinMap edge_cmp (List Val)) (inn : FinMap in_cmp (List Val)) (e : EdgeId) (p : Chain)
    → get pend e ≡ Some p → p.in_done ≡ false → SoundAll pend out inn → SoundAll (altered pend e with_in_done) out (with_at inn (in_key e) (row_of p.half))
in_sound pend out inn e p found undone v =
    let was : SoundAt (Some p) (half_of (get out e)) (half_of (get inn (in_key e))) = subst (λ x. SoundAt x (half_of (get out e)) (half_of (get inn (in_key e)))) found (v e) in
    let was' : Sound false p.out_done p.half (half_of (get out e)) (half_of (get inn (in_key e))) = subst (λ b. Sound b p.out_done p.half (half_of (get out e)) (half_of (get inn (in_key e)))) undone was in
    by_edge _ out _ e
    (rw (altered_here edges_total pend e with_in_done, found, with_at_here ins_total inn (in_key e) (row_of p.half), half_back p.half) (in_now p.out_done p.half _ _ was'))
    (λ q apart. rw (altered_apart edges_total pend e with_in_done q apart, with_at_apart ins_total inn (in_key e) (row_of p.half) (in_key q) (in_keys_apart q e apart)) (v q))

out_sound : (pend : FinMap edge_cmp Chain) (out : FinMap edge_cmp (List Val)) (inn : FinMap in_cmp (List Val)) (e : EdgeId) (p : Chain)
    → get pend e ≡ Some p → p.out_done ≡ false → SoundAll pend out inn → SoundAll (altered pend e with_out_done) (with_at out e (row_of p.half)) inn
out_sound pend out inn e p found undone v =
    let was : SoundAt (Some p) (half_of (get out e)) (half_of (get inn (in_key e))) = subst (λ x. SoundAt x (half_of (get out e)) (half_of (get inn (in_key e)))) found (v e) in
    let was' : Sound p.in_done false p.half (half_of (get out e)) (half_of (get inn (in_key e))) = subst (λ b. Sound p.in_done b p.half (half_of (get out e)) (half_of (get inn (in_key e)))) undone was in
    by_edge _ _ inn e
    (rw (altered_here edges_total pend e with_out_done, found, with_at_here edges_total out e (row_of p.half), half_back p.half) (out_now p.in_done p.half _ _ was'))
    (λ q apart. rw (altered_apart edges_total pend e with_out_done q apart, with_at_apart edges_total out e (row_of p.half) q apart) (v q))

ended : (a b : Bool) (n o i : Half) → a ≡ b → Sound a b n o i → o ≡ i
ended false false n o i e v = v
ended true true n o i e v = v.0 ∙ sym v.1
ended true false n o i e v = cc
ended false true n o i e v = cc

removed_sound : (pend : FinMap edge_cmp Chain) (out : FinMap edge_cmp (List Val)) (inn : FinMap in_cmp (List Val)) (e : EdgeId) (p : Chain)
    → get pend e ≡ Some p → p.in_done ≡ p.out_done → SoundAll pend out inn → SoundAll (remove pend e) out inn
removed_sound pend out inn e p found even v =
    let was : SoundAt (Some p) (half_of (get out e)) (half_of (get inn (in_key e))) = subst (λ x. SoundAt x (half_of (get out e)) (half_of (get inn (in_key e)))) found (v e) in
    by_edge _ out inn e
    (subst (λ x. SoundAt x (half_of (get out e)) (half_of (get inn (in_key e)))) (sym (with_at_here edges_total pend e None)) (ended p.in_done p.out_done p.half _ _ even was))
    (λ q apart. subst (λ x. SoundAt x (half_of (get out q)) (half_of (get inn (in_key q)))) (sym (with_at_apart edges_total pend e None q apart)) (v q))

either_sound : (b : Bool) (x y : Machine) → IsSound x → IsSound y → IsSound (if b then x else y)
either_sound true x y v w = v
either_sound false x y v w = w

vertex_sound : (g : Machine) (id : CallId) (op : Op) (h : Machine) → vertex_put g id op ≡ Ok h → IsSound g → IsSound h
vertex_sound g id (PutVertex x t row absent) h e v = subst IsSound (same_ok _ h e) (either_sound (absent && contains_key g.contents.verts (record { vid = x; tag = t })) _ _ v v)
vertex_sound g id (DelVertex x) h e v = subst IsSound (same_ok _ h e) v
vertex_sound g id (PutEdge x row absent) h e v = cc
vertex_sound g id (DelEdge x) h e v = cc
vertex_sound g id (ReadOp q) h e v = cc

-- each step keeps it
step_sound : (g : Machine) (s : GStep) (h : Machine) → Step g s (Ok h) → IsSound g → IsSound h
step_sound g (Invoke id op) h e v = let t = invoke_held g id op h e in subst IsSound (sym t.is) v
step_sound g (Begin id) h e v = let t = begin_held g id h e in subst IsSound (sym t.is) (begun_sound g.pend g.contents.out g.contents.inn t.edge id t.half t.fresh v)
step_sound g (Skip id) h e v = let t = skip_held g id h e in subst IsSound (sym t.is) v
step_sound g (Refuse id) h e v = let t = refuse_held g id h e in subst IsSound (sym t.is) v
step_sound g (InHalf x) h e v = let t = in_held g x h e in subst IsSound (sym t.is) (in_sound g.pend g.contents.out g.contents.inn x t.chain t.found t.undone v)
step_sound g (OutHalf x) h e v = let t = out_held g x h e in subst IsSound (sym t.is) (out_sound g.pend g.contents.out g.contents.inn x t.chain t.found t.undone v)
step_sound g (Settle x) h e v = let t = settle_held g x h e in subst IsSound (sym t.is) (removed_sound g.pend g.contents.out g.contents.inn x t.chain t.found (t.in_done ∙ sym t.out_done) v)
step_sound g (Cancel x) h e v = let t = cancel_held g x h e in subst IsSound (sym t.is) (removed_sound g.pend g.contents.out g.contents.inn x t.chain t.found (t.in_undone ∙ sym t.out_undone) v)
step_sound g (Vertex id) h e v = let t = vertex_held g id h e in vertex_sound g id t.call.op h t.put v
step_sound g (Read id m) h e v = let t = read_step_held g id m h e in subst IsSound (sym t.is) v
step_sound g (Reply id a) h e v = let t = reply_held g id a h e in subst IsSound (sym t.is) v

pub run_sound : (g : Machine) (steps : List GStep) (h : Machine) → Run g steps h → IsSound g → IsSound h
run_sound g [] h e v = subst IsSound (sym e) v
run_sound g (s ∷ steps) h e v = run_sound e.0 steps h e.2 (step_sound g s e.0 e.1 v)

pub start_sound : IsSound start
start_sound e = rw (get-empty edge_cmp, get-empty edge_cmp, get-empty in_cmp) refl

pub equal_halves : (steps : List GStep) (h : Machine) → Run start steps h → HasEqualHalves h
equal_halves steps h r e none = subst (λ x. SoundAt x (half_of (get h.contents.out e)) (half_of (get h.contents.inn (in_key e)))) none (run_sound start steps h r start_sound e)
