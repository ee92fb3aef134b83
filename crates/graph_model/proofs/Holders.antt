-- The index by edge of the chains under way: what it tells, and how it is kept.
use Rattle.std.proofs.Common.{◌≡◌, ℕ, zero, suc, List, [], ◌∷◌, drop, Option, Some, None, Bool, true, false, cond, inl, inr, Result, Ok, Err, refl, ap, sym, ◌∙◌}
use Rattle.std.specs.Prelude.{◌||◌, is_some, OnErr}
use Rattle.std.specs.Option.{option_map}
use Rattle.std.specs.Map.{lookup}
use Rattle.std.specs.BTreeMap.{is_at}
use Rattle.std.specs.FinMap.{FinMap, get, insert, remove, entries, from_entries}
use Rattle.std.specs.Ordering.{eq_by_cmp}
use Rattle.std.proofs.lemmas.Bool.{or_parts}
use Rattle.graph_model.specs.declared.edge_id.EdgeId.{EdgeId}
use Rattle.graph_model.specs.declared.call_id.CallId.{CallId}
use Rattle.graph_model.specs.declared.half.Half.{Half}
use Rattle.graph_model.specs.declared.chain.Chain.{Chain}
use Rattle.graph_model.specs.declared.op.Op.{Op}
use Rattle.graph_model.specs.Keys.{edge_cmp, call_cmp}
use Rattle.graph_model.specs.Ops.{edges_in, edges_of, halves_of}
use Rattle.graph_model.specs.State.{GraphState, start, is_on, first_on, first_pending}
use Rattle.graph_model.specs.Lookups.{takes_of}
use Rattle.graph_model.specs.Holders.{AreHeld, AreFree, AreNow, AreElsewhere, holder}
use Rattle.graph_model.specs.contracts.edge_id.EdgeIdOrd.TheImpl as edges
use Rattle.maps.specs.Keys.{has_key}
use Rattle.maps.specs.Maps.{altered}
use Rattle.maps.proofs.Keys.{same_or_apart, not_apart}
use Rattle.maps.proofs.Made.{get_made, made_by_order, nothing_there}
use Rattle.maps.proofs.Pairs.{at_key_in, has_key_of}
use Rattle.maps.proofs.Updates.{get-with_at, get-altered, insert_here, insert_apart, remove_here, remove_apart}
use Rattle.graph_model.proofs.KeyLemmas.{call_keys, edge_keys}
use Rattle.graph_model.proofs.Orders.{edge_order}
use Rattle.graph_model.proofs.Even.{takes_has}
use Rattle.graph_model.proofs.Pending.{none_on, none_pending, one_pending, free_each}

same_id : (a b : CallId) → ◌≡◌ {A = Option CallId} (Some a) (Some b) → a ≡ b
same_id a b e = cc

same_chain : (a b : Chain) → ◌≡◌ {A = Option Chain} (Some a) (Some b) → a ≡ b
same_chain a b e = cc

pub on_err : {T E P : Type 0} (r : Result T E) → P → OnErr r P
on_err (Ok x) p = tt
on_err (Err e) p = p

-- a graph with these chains
abbrev with_chains : FinMap call_cmp Chain → GraphState
with_chains pend = record start { pend = pend }

-- What it tells.
module _ (pend : FinMap call_cmp Chain) (holders : FinMap edge_cmp CallId) (h : AreHeld pend holders) (e : EdgeId) where
  -- no chain is on an edge, where the call that the index has there has none on it
  pub held_none : ((id : CallId) (c : Chain) → get holders e ≡ Some id → get pend id ≡ Some c → is_on e c ≡ false) → first_on e (entries pend) ≡ None
  held_none off = none_pending (with_chains pend) e (λ id c found. elim (is_on e c) as (λ b. is_on e c ≡ b → is_on e c ≡ false) [
    | true ↦ λ on. off id c (h.held e id c found on) found
    | false ↦ λ o. o
  ] refl)

  -- the one that is on the edge is found
  pub held_one : (id : CallId) (c : Chain) → get holders e ≡ Some id → get pend id ≡ Some c → is_on e c ≡ true → first_on e (entries pend) ≡ Some id
  held_one id c at found on = one_pending (with_chains pend) e id c found on (λ other d f o. same_id other id (sym (h.held e other d f o) ∙ at))

-- How it is kept.

-- with no chain there is nothing to keep
pub held_empty : (es : List (CallId × Chain)) (holders : FinMap edge_cmp CallId) → es ≡ [] → AreHeld (from_entries es) holders
held_empty es holders empty = record {
  held = λ e id c found on. (let none : get (from_entries {R = call_cmp} es) id ≡ None = get_made call_keys es id ∙ ap (lookup (is_at (call_cmp id))) empty in cc);
}

module _ (pend : FinMap call_cmp Chain) (old new : FinMap edge_cmp CallId) (h : AreHeld pend old) (key : CallId) where
  -- by a chain more, on edges that no chain was on
  pub held_put : (c : Chain) → AreFree pend (edges_in c.list) → ((e : EdgeId) → get new e ≡ cond (is_on e c) (Some key) (get old e)) → AreHeld (insert pend key c) new
  held_put c f now = record {
    held = λ e id d found on. elim (same_or_apart call_keys id key) as (λ _. get new e ≡ Some id) [
      | inl same ↦
          (let is : c ≡ d = same_chain c d (sym (insert_here call_keys pend key c) ∙ ap (get (insert pend key c)) (sym same) ∙ found) in
          now e ∙ ap (λ b. cond b (Some key) (get old e)) (ap (is_on e) is ∙ on) ∙ ap Some (sym same))
      | inr apart ↦
          (let was : get pend id ≡ Some d = sym (insert_apart call_keys pend key c id apart) ∙ found in
          elim (is_on e c) as (λ b. is_on e c ≡ b → get new e ≡ Some id) [
            | true ↦ λ t. (let off = none_on (with_chains pend) e id d (f.free e t) was in cc)
            | false ↦ λ t. now e ∙ ap (λ b. cond b (Some key) (get old e)) t ∙ h.held e id d was on
          ] refl)
    ];
  }

  -- without one
  pub held_removed : (c : Chain) → get pend key ≡ Some c → ((e : EdgeId) → get new e ≡ cond (is_on e c) None (get old e)) → AreHeld (remove pend key) new
  held_removed c there now = record {
    held = λ e id d found on. elim (same_or_apart call_keys id key) as (λ _. get new e ≡ Some id) [
      | inl same ↦ (let none : get (remove pend key) id ≡ None = ap (get (remove pend key)) same ∙ remove_here call_keys pend key in cc)
      | inr apart ↦
          (let was : get pend id ≡ Some d = sym (remove_apart call_keys pend key id apart) ∙ found in
          let at = h.held e id d was on in
          elim (is_on e c) as (λ b. is_on e c ≡ b → get new e ≡ Some id) [
            | true ↦ λ t. absurd (not_apart call_keys id key (same_id id key (sym at ∙ h.held e key c there t)) apart)
            | false ↦ λ t. now e ∙ ap (λ b. cond b None (get old e)) t ∙ at
          ] refl)
    ];
  }

-- with entries that are others only at edges that no chain is on
pub held_still : (pend : FinMap call_cmp Chain) (old new : FinMap edge_cmp CallId) (edges : List EdgeId) → AreHeld pend old → AreFree pend edges
    → ((e : EdgeId) → has_key edge_cmp e edges ≡ false → get new e ≡ get old e) → AreHeld pend new
held_still pend old new edges h f same = record {
  held = λ e id d found on. elim (has_key edge_cmp e edges) as (λ b. has_key edge_cmp e edges ≡ b → get new e ≡ Some id) [
    | true ↦ λ t. (let off = none_on (with_chains pend) e id d (f.free e t) found in cc)
    | false ↦ λ t. same e t ∙ h.held e id d found on
  ] refl;
}

-- without a chain that isn't there
pub held_fewer : (pend : FinMap call_cmp Chain) (holders : FinMap edge_cmp CallId) (key : CallId) → AreHeld pend holders → AreHeld (remove pend key) holders
held_fewer pend holders key h = record {
  held = λ e id d found on. elim (same_or_apart call_keys id key) as (λ _. get holders e ≡ Some id) [
    | inl same ↦ (let none : get (remove pend key) id ≡ None = ap (get (remove pend key)) same ∙ remove_here call_keys pend key in cc)
    | inr apart ↦ h.held e id d (sym (remove_apart call_keys pend key id apart) ∙ found) on
  ];
}

-- what a marked chain was
was_on : (f : Chain → Chain) → ((c : Chain) → (f c).list ≡ c.list) → (e : EdgeId) (o : Option Chain) (d : Chain) → option_map f o ≡ Some d → is_on e d ≡ true → (c : Chain) × (o ≡ Some c) × (is_on e c ≡ true)
was_on f keeps e None d is on = absurd (cc)
was_on f keeps e (Some c) d is on = (c, refl, ap (λ l. has_key edge_cmp e (edges_in l)) (sym (keeps c)) ∙ ap (is_on e) (same_chain (f c) d is) ∙ on)

-- with a mark on a chain
pub held_marked : (pend : FinMap call_cmp Chain) (holders : FinMap edge_cmp CallId) (key : CallId) (f : Chain → Chain) → ((c : Chain) → (f c).list ≡ c.list) → AreHeld pend holders → AreHeld (altered pend key f) holders
held_marked pend holders key f keeps h = record {
  held = λ e id d found on. elim (eq_by_cmp call_cmp id key) as (λ b. cond b (option_map f (get pend id)) (get pend id) ≡ Some d → get holders e ≡ Some id) [
    | true ↦ λ m. (let was = was_on f keeps e (get pend id) d m on in h.held e id was.0 was.1 was.2)
    | false ↦ λ m. h.held e id d m on
  ] (sym (get-altered call_keys pend key f id) ∙ found);
}

-- How its entries change.

-- at one edge
pub holder_at : (es fs : List (EdgeId × CallId)) (k : EdgeId) (w : Option CallId)
    → ((q : EdgeId) → lookup (is_at (edges.cmp-value.it q)) fs ≡ cond (is_at (edges.cmp-value.it k) q) w (lookup (is_at (edges.cmp-value.it q)) es))
    → (q : EdgeId) → holder fs q ≡ cond (eq_by_cmp edge_cmp q k) w (holder es q)
holder_at es fs k w h q = ap (λ m. get m q) (made_by_order edge_keys edges.cmp-value.it edge_order es fs k w h) ∙ get-with_at edge_keys (from_entries es) k w q

move : (a b : Bool) (w v : Option CallId) → cond b w (cond a w v) ≡ cond (a || b) w v
move true true w v = refl
move true false w v = refl
move false b w v = refl

-- one edge more has it, and one less is left
pub now_more : (left rest : List (EdgeId × Half)) (x : EdgeId × Half) (q : EdgeId) (w b n t : Option CallId) → left ≡ x ∷ rest
    → cond (has_key edge_cmp q (edges_in left)) w b ≡ t → n ≡ cond (eq_by_cmp edge_cmp q x.0) w b → cond (has_key edge_cmp q (edges_in rest)) w n ≡ t
now_more left rest x q w b n t e before h =
    ap (cond (has_key edge_cmp q (edges_in rest)) w) h ∙ move (eq_by_cmp edge_cmp q x.0) (has_key edge_cmp q (edges_in rest)) w b
    ∙ ap (λ l. cond (has_key edge_cmp q (edges_in l)) w b) (sym e) ∙ before

-- what isn't in a list isn't in what is left of it
key_dropped : (n : ℕ) (list : List (EdgeId × Half)) (q : EdgeId) → has_key edge_cmp q (edges_in list) ≡ false → has_key edge_cmp q (edges_in (drop n list)) ≡ false
key_dropped zero list q out = out
key_dropped (suc n) [] q out = out
key_dropped (suc n) (x ∷ list) q out = key_dropped n list q (or_parts _ _ out).1

-- where only some of the edges have it, all others are as before
pub elsewhere_so_far : (n : ℕ) (list : List (EdgeId × Half)) (q : EdgeId) (w b t : Option CallId)
    → cond (has_key edge_cmp q (edges_in (drop n list))) w b ≡ cond (has_key edge_cmp q (edges_in list)) w t → has_key edge_cmp q (edges_in list) ≡ false → b ≡ t
elsewhere_so_far n list q w b t h out = sym (ap (λ (s : Bool). cond s w b) (key_dropped n list q out)) ∙ h ∙ ap (λ (s : Bool). cond s w t) out

pub elsewhere : (w : Option CallId) (edges : List EdgeId) (es fs : List (EdgeId × CallId)) → AreNow w edges es fs → AreElsewhere edges es fs
elsewhere w edges es fs now e out = now e ∙ ap (λ (s : Bool). cond s w (holder es e)) out

-- When edges are free.

-- the edges that a chain of a call takes, where none of the call's is in a chain
pub free_taken : (g : GraphState) (op : Op) → is_some (first_pending g (edges_of op)) ≡ false → AreFree g.pend (edges_in (takes_of g.contents op))
free_taken g op none = record {
  free = λ e within.
      let half = at_key_in edge_cmp e (takes_of g.contents op) within in
      free_each g (edges_of op) (nothing_there _ none) e (has_key_of edge_cmp e (halves_of op) half.0 (takes_has g.contents op e half.0 half.1));
}
