-- Sets of vertices as rising lists.
use Rattle.std.proofs.Common.{◌≡◌, List, [], ◌∷◌, ◌++◌, Bool, true, false, cond, ◌||◌, option_to_list, Option, Some, None, refl, ap, sym, ◌∙◌}
use Rattle.std.specs.Bool.{OnFalse}
use Rattle.std.specs.declared.cmp.Ordering.{Ordering}
use Rattle.std.specs.declared.cmp.Ordering.TheVariants.{Less, Equal, Greater}
use Rattle.std.specs.Cmp.{tied_itself}
use Rattle.std.specs.BTreeSet.{insert_key}
use Rattle.std.specs.BTreeMap.{is_at}
use Rattle.std.specs.List.{cons_option}
use Rattle.std.specs.Ordering.{is_eq}
use Rattle.graph_model.specs.Keys.{vid_cmp}
use Rattle.graph_model.specs.declared.vid.Vid.{Vid}
use Rattle.graph_model.proofs.KeyLemmas.{vids_total}
use Rattle.traversal.specs.Sets.{has_vertex, without, without_all, with_all, ends_in, other_end}
use Rattle.graph_model.specs.declared.found.Found.{Found}

pub on_false : (b : Bool) (P : Type 0) → OnFalse b P → b ≡ false → P
on_false false P p e = p
on_false true P p e = absurd cc

itself : (v : Vid) → is_at (vid_cmp v) v ≡ true
itself v = ap is_eq (tied_itself vids_total v)

module _ (v : Vid) where
  -- a vertex that was put in and is taken out again
  insert_step : (x : Vid) (xs : List Vid) (o : Ordering) → vid_cmp v x ≡ o → (is_eq o || has_vertex xs v) ≡ false → (has_vertex xs v ≡ false → without (insert_key vid_cmp xs v) v ≡ xs) → without (insert_key vid_cmp (x ∷ xs) v) v ≡ x ∷ xs
  insert_step x xs Less e absent hence = rw (e, itself v) refl
  insert_step x xs Equal e absent hence = absurd cc
  insert_step x xs Greater e absent hence = rw (e, e) (ap (λ l. x ∷ l) (hence absent))

  pub without_inserted : (set : List Vid) → has_vertex set v ≡ false → without (insert_key vid_cmp set v) v ≡ set
  without_inserted [] absent = rw (itself v) refl
  without_inserted (x ∷ xs) absent = insert_step x xs (vid_cmp v x) refl absent (without_inserted xs)

  absent_step : (x : Vid) (xs : List Vid) (b : Bool) → (b || has_vertex xs v) ≡ false → (has_vertex xs v ≡ false → without xs v ≡ xs) → cond b xs (x ∷ without xs v) ≡ x ∷ xs
  absent_step x xs true absent hence = absurd cc
  absent_step x xs false absent hence = ap (λ l. x ∷ l) (hence absent)

  pub without_absent : (set : List Vid) → has_vertex set v ≡ false → without set v ≡ set
  without_absent [] absent = refl
  without_absent (x ∷ xs) absent = absent_step x xs (is_at (vid_cmp v) x) absent (without_absent xs)

  pub last_goes_first : (fresh set : List Vid) → without_all (fresh ++ v ∷ []) set ≡ without_all fresh (without set v)
  unfolding without_all
  last_goes_first [] set = refl
  last_goes_first (f ∷ fresh) set = ap (λ s. without s f) (last_goes_first fresh set)

  pub noted_kept : (fresh old new items : List Vid) → items ≡ fresh ++ v ∷ [] → new ≡ old → has_vertex old v ≡ false → without_all items new ≡ without_all fresh old
  noted_kept fresh old new items is same absent = ap (λ l. without_all l new) is ∙ last_goes_first fresh new ∙ ap (without_all fresh) (ap (λ s. without s v) same ∙ without_absent old absent)

  pub noted_put : (fresh old new items : List Vid) → items ≡ fresh ++ v ∷ [] → new ≡ insert_key vid_cmp old v → has_vertex old v ≡ false → without_all items new ≡ without_all fresh old
  noted_put fresh old new items is put absent = ap (λ l. without_all l new) is ∙ last_goes_first fresh new ∙ ap (without_all fresh) (ap (λ s. without s v) put ∙ without_inserted old absent)

maybe_more : (old more : List Vid) (o : Option Vid) → with_all (with_all old (option_to_list o)) more ≡ with_all old (cons_option o more)
maybe_more old more None = refl
maybe_more old more (Some v) = refl

-- one view's item more
pub one_more : (old new all : List Vid) (item : Found) (left rest : List Found) → left ≡ item ∷ rest → new ≡ with_all old (option_to_list (other_end item)) → with_all old (ends_in left) ≡ all → with_all new (ends_in rest) ≡ all
one_more old new all item left rest e is before =
    ap (λ s. with_all s (ends_in rest)) is ∙ maybe_more old (ends_in rest) (other_end item) ∙ ap (λ l. with_all old (ends_in l)) (sym e) ∙ before

pub none_out : (set : List Vid) → without_all [] set ≡ set
unfolding without_all
none_out set = refl
