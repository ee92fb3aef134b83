-- Contents that have the same of one vertex: what is found of it, what a change does, and which changes leave it.
use Rattle.std.proofs.Common.{◌≡◌, ◌≤◌, ◌<◌, ◌+◌, inl, inr, ℤ, ℕ, zero, suc, arith, List, [], ◌∷◌, ◌++◌, take, map, Some, None, cond, Bool, true, false, not, refl, ap, sym, ◌∙◌}
use Rattle.std.specs.Prelude.{◌&&◌, ◌||◌, if◌then◌else◌, ⊤}
use Rattle.std.specs.List.{slice_get, list_any}
use Rattle.std.specs.Option.{unwrap_or}
use Rattle.std.specs.Map.{keys_of}
use Rattle.std.specs.Ordering.{eq_by_cmp, int_eq}
use Rattle.std.specs.FinMap.{get}
use Rattle.maps.specs.Keys.{has_key}
use Rattle.maps.specs.Lists.{at_key}
use Rattle.maps.proofs.Keys.{same_itself, same_or_apart}
use Rattle.maps.proofs.Entries.{read_same}
use Rattle.maps.proofs.Updates.{get-with_at, insert_apart}
use Rattle.maps.proofs.Writing.{get-with_all, with_all_apart}
use Rattle.graph_model.specs.declared.half.Half.{Half}
use Rattle.graph_model.specs.declared.vid.Vid.{Vid}
use Rattle.graph_model.specs.declared.edge_id.EdgeId.{EdgeId}
use Rattle.graph_model.specs.declared.in_key.InKey.{InKey}
use Rattle.graph_model.specs.declared.tag_key.TagKey.{TagKey}
use Rattle.graph_model.specs.declared.query.Query.{Query}
use Rattle.graph_model.specs.declared.query.Query.TheVariants.{Tag as TagOf, Edge, Out as OutOf, In as InOf, Both}
use Rattle.graph_model.specs.declared.change.Change.{Change}
use Rattle.graph_model.specs.declared.change.Change.TheVariants.{Nothing, Tag, Gone, Out, In}
use Rattle.graph_model.specs.Keys.{vid_cmp, tag_cmp, edge_cmp, in_cmp, in_key, edge_of}
use Rattle.graph_model.specs.Contents.{Contents, row_of}
use Rattle.graph_model.specs.Views.{view_of, found_out, found_in}
use Rattle.graph_model.specs.Changes.{changed, after_all}
use Rattle.graph_model.specs.declared.mark.Mark.{Mark}
use Rattle.graph_model.specs.Marks.{far_end, touched, AreMarked, AreNone}
use Rattle.graph_model.specs.Alike.{AlikeAt, vertex_of}
use Rattle.graph_model.specs.Views.{row_alone}
use Rattle.graph_model.proofs.KeyLemmas.{vid_keys, tag_keys, edge_keys, in_keys}
use Rattle.graph_model.proofs.TagLemmas.{stays, get_staying}
use Rattle.graph_model.proofs.Marking.{same_change}

pub alike : (v : Vid) (c : Contents) → AlikeAt v c c
alike v c = record { verts = λ q h. refl; out = λ e h. refl; inn = λ k h. refl }

pub alike_through : (v : Vid) (c d e : Contents) → AlikeAt v c d → AlikeAt v d e → AlikeAt v c e
alike_through v c d e a b = record { verts = λ q h. a.verts q h ∙ b.verts q h; out = λ q h. a.out q h ∙ b.out q h; inn = λ k h. a.inn k h ∙ b.inn k h }

pub alike_back : (v : Vid) (c d : Contents) → AlikeAt v c d → AlikeAt v d c
alike_back v c d a = record { verts = λ q h. sym (a.verts q h); out = λ q h. sym (a.out q h); inn = λ k h. sym (a.inn k h) }

-- What is found of the vertex is the same.
module _ (v : Vid) (types : List ℤ) (c d : Contents) (a : AlikeAt v c d) where
  outs_alike : view_of (OutOf v types) c ≡ view_of (OutOf v types) d
  outs_alike = read_same edge_keys (found_out v types) (λ e. eq_by_cmp vid_cmp v e.src) c.out d.out
      (λ e other. ap (λ b. if b && list_any (λ t. int_eq t e.0.etype) types then Some (record { edge = Some e.0; inward = false; row = e.1 }) else None) other) a.out

  ins_alike : view_of (InOf v types) c ≡ view_of (InOf v types) d
  ins_alike = read_same in_keys (found_in v types) (λ k. eq_by_cmp vid_cmp v k.dst) c.inn d.inn
      (λ e other. ap (λ b. if b && list_any (λ t. int_eq t e.0.etype) types then Some (record { edge = Some (edge_of e.0); inward = true; row = e.1 }) else None) other) a.inn

pub view_alike : (q : Query) (c d : Contents) → AlikeAt (vertex_of q) c d → view_of q c ≡ view_of q d
view_alike (TagOf v t) c d a = ap (row_alone None) (a.verts (record { vid = v; tag = t }) (same_itself vid_keys v))
view_alike (Edge e) c d a = ap (row_alone (Some e)) (a.out e (same_itself vid_keys e.src))
view_alike (OutOf v types) c d a = outs_alike v types c d a
view_alike (InOf v types) c d a = ins_alike v types c d a
view_alike (Both v types) c d a = ap (λ l. l ++ view_of (OutOf v types) c) (ins_alike v types c d a) ∙ ap (λ l. view_of (InOf v types) d ++ l) (outs_alike v types c d a)

-- A change does the same to both.
pub changed_alike : (v : Vid) (c d : Contents) (x : Change) → AlikeAt v c d → AlikeAt v (changed c x) (changed d x)
changed_alike v c d Nothing a = a
changed_alike v c d (Tag key row) a = record {
  verts = λ q h. get-with_at tag_keys c.verts key (Some row) q ∙ ap (cond (eq_by_cmp tag_cmp q key) (Some row)) (a.verts q h) ∙ sym (get-with_at tag_keys d.verts key (Some row) q);
  out = a.out;
  inn = a.inn;
}
changed_alike v c d (Gone w) a = record {
  verts = λ q h. get_staying c.verts w q ∙ ap (λ o. cond (stays w q) o None) (a.verts q h) ∙ sym (get_staying d.verts w q);
  out = a.out;
  inn = a.inn;
}
changed_alike v c d (Out list) a =
    let es = map (λ x. (x.0, row_of x.1)) list in
    record {
      verts = a.verts;
      out = λ e h. get-with_all edge_keys c.out es e ∙ ap (unwrap_or (at_key edge_cmp e es)) (a.out e h) ∙ sym (get-with_all edge_keys d.out es e);
      inn = a.inn;
    }
changed_alike v c d (In list) a =
    let es = map (λ x. (in_key x.0, row_of x.1)) list in
    record {
      verts = a.verts;
      out = a.out;
      inn = λ k h. get-with_all in_keys c.inn es k ∙ ap (unwrap_or (at_key in_cmp k es)) (a.inn k h) ∙ sym (get-with_all in_keys d.inn es k);
    }

-- A change leaves a vertex that it doesn't touch.
either : (a b c d : Bool) → (a || b) ≡ false → (a ≡ false → c ≡ false) → (b ≡ false → d ≡ false) → (c || d) ≡ false
either true b c d e f g = absurd cc
either false b true d e f g = (let none = f refl in cc)
either false b false d e f g = g e

other_edge : (v : Vid) (e k : EdgeId) → eq_by_cmp vid_cmp v e.src ≡ true → eq_by_cmp vid_cmp v k.src ≡ false → eq_by_cmp edge_cmp e k ≡ false
other_edge v e k h other = elim (same_or_apart edge_keys e k) [
  | inl same ↦ (let here = ap (λ x. eq_by_cmp vid_cmp v x.src) (sym same) ∙ h in cc)
  | inr apart ↦ apart
]

other_in : (v : Vid) (q k : InKey) → eq_by_cmp vid_cmp v q.dst ≡ true → eq_by_cmp vid_cmp v k.dst ≡ false → eq_by_cmp in_cmp q k ≡ false
other_in v q k h other = elim (same_or_apart in_keys q k) [
  | inl same ↦ (let here = ap (λ x. eq_by_cmp vid_cmp v x.dst) (sym same) ∙ h in cc)
  | inr apart ↦ apart
]

other_tag : (v : Vid) (q k : TagKey) → eq_by_cmp vid_cmp v q.vid ≡ true → eq_by_cmp vid_cmp v k.vid ≡ false → eq_by_cmp tag_cmp q k ≡ false
other_tag v q k h other = elim (same_or_apart tag_keys q k) [
  | inl same ↦ (let here = ap (λ x. eq_by_cmp vid_cmp v x.vid) (sym same) ∙ h in cc)
  | inr apart ↦ apart
]

no_out : (v : Vid) (e : EdgeId) → eq_by_cmp vid_cmp v e.src ≡ true → (list : List (EdgeId × Half)) → has_key vid_cmp v (map (λ x. far_end false x.0) list) ≡ false → has_key edge_cmp e (keys_of (map (λ x. (x.0, row_of x.1)) list)) ≡ false
no_out v e h [] none = refl
no_out v e h (x ∷ list) none = either _ _ _ _ none (other_edge v e x.0 h) (no_out v e h list)

no_in : (v : Vid) (k : InKey) → eq_by_cmp vid_cmp v k.dst ≡ true → (list : List (EdgeId × Half)) → has_key vid_cmp v (map (λ x. far_end true x.0) list) ≡ false → has_key in_cmp k (keys_of (map (λ x. (in_key x.0, row_of x.1)) list)) ≡ false
no_in v k h [] none = refl
no_in v k h (x ∷ list) none = either _ _ _ _ none (other_in v k (in_key x.0) h) (no_in v k h list)

alone : (b : Bool) → (b || false) ≡ false → b ≡ false
alone true e = absurd cc
alone false e = refl

stays_there : (v w : Vid) (q : TagKey) → eq_by_cmp vid_cmp v q.vid ≡ true → eq_by_cmp vid_cmp v w ≡ false → stays w q ≡ true
stays_there v w q h other = elim (same_or_apart vid_keys w q.vid) [
  | inl same ↦ (let here = ap (eq_by_cmp vid_cmp v) same ∙ h in cc)
  | inr apart ↦ ap not apart
]

pub untouched_alike : (v : Vid) (c : Contents) (x : Change) → has_key vid_cmp v (touched x) ≡ false → AlikeAt v (changed c x) c
untouched_alike v c Nothing none = alike v c
untouched_alike v c (Tag key row) none = record {
  verts = λ q h. insert_apart tag_keys c.verts key row q (other_tag v q key h (alone _ none));
  out = λ e h. refl;
  inn = λ k h. refl;
}
untouched_alike v c (Gone w) none = record {
  verts = λ q h. get_staying c.verts w q ∙ ap (λ b. cond b (get c.verts q) None) (stays_there v w q h (alone _ none));
  out = λ e h. refl;
  inn = λ k h. refl;
}
untouched_alike v c (Out list) none = record {
  verts = λ q h. refl;
  out = λ e h. with_all_apart edge_keys c.out (map (λ x. (x.0, row_of x.1)) list) e (no_out v e h list none);
  inn = λ k h. refl;
}
untouched_alike v c (In list) none = record {
  verts = λ q h. refl;
  out = λ e h. refl;
  inn = λ k h. with_all_apart in_keys c.inn (map (λ x. (in_key x.0, row_of x.1)) list) k (no_in v k h list none);
}

-- Changes one after another.

-- those from one on and below another don't touch the vertex
abbrev pub AreAside : Vid → List Change → ℕ → ℕ → Type 0
AreAside v xs from to = (i : ℕ) (x : Change) → from ≤ i → i < to → slice_get xs i ≡ Some x → has_key vid_cmp v (touched x) ≡ false

-- where none of them is marked at it
pub aside : (v : Vid) (xs : List Change) (es : List (Mark × ⊤)) (from to : ℕ) → AreMarked xs es → AreNone es v from to → AreAside v xs from to
aside v xs es from to marked none i x g l e = elim (has_key vid_cmp v (touched x)) as (λ b. has_key vid_cmp v (touched x) ≡ b → has_key vid_cmp v (touched x) ≡ false) [
  | true ↦ λ t. (let there = marked i x e v t in let out = none i g l in absurd cc)
  | false ↦ λ t. t
] refl

none_taken : (v : Vid) (c : Contents) (from to : ℕ) → AlikeAt v (after_all c (take to [])) (after_all c (take from []))
none_taken v c zero zero = alike v c
none_taken v c zero (suc to) = alike v c
none_taken v c (suc from) zero = alike v c
none_taken v c (suc from) (suc to) = alike v c

pub skipped : (v : Vid) (c : Contents) (xs : List Change) (from to : ℕ) → from ≤ to → AreAside v xs from to → AlikeAt v (after_all c (take to xs)) (after_all c (take from xs))
skipped v c [] from to h aside = none_taken v c from to
skipped v c (x ∷ xs) zero zero h aside = alike v c
skipped v c (x ∷ xs) zero (suc to) h aside =
    alike_through v (after_all (changed c x) (take to xs)) (changed c x) c
    (skipped v (changed c x) xs zero to (omega arith) (λ i y g l e. aside (suc i) y (omega arith) (omega arith) e))
    (untouched_alike v c x (aside zero x (omega arith) (omega arith) refl))
skipped v c (x ∷ xs) (suc from) zero h aside = absurd (omega arith)
skipped v c (x ∷ xs) (suc from) (suc to) h aside = skipped v (changed c x) xs from to (omega arith) (λ i y g l e. aside (suc i) y (omega arith) (omega arith) e)

-- one change more is taken
pub taken_one : (c : Contents) (xs : List Change) (j : ℕ) (x : Change) → slice_get xs j ≡ Some x → after_all c (take (suc j) xs) ≡ changed (after_all c (take j xs)) x
taken_one c [] j x e = absurd cc
taken_one c (y ∷ xs) zero x e = ap (changed c) (same_change y x e)
taken_one c (y ∷ xs) (suc j) x e = taken_one (changed c y) xs j x e
