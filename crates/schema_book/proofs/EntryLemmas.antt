-- Entries whose keys are seen as their bytes: where a name stands, and one more behind all.
use Rattle.std.proofs.Common.{◌≡◌, ℕ, ◌+◌, ◌<◌, ◌&&◌, suc, Bool, true, not, cond, List, [], ◌∷◌, ◌++◌, length, length-append, map, slice_get, Option, None, Some, refl, ap, ◌∙◌, nat_lt, position, arith}
use Rattle.std.proofs.lemmas.List.{map-append}
use Rattle.std.proofs.lemmas.List.Folds.{list_all-append}
use Rattle.std.specs.List.{prefix_len}
use Rattle.std.specs.Map.{keys_of}
use Rattle.std.specs.Option.{option_and_then, option_map}
use Rattle.indexmap.specs.IndexMap.{insert_entry}
use Rattle.indexmap.proofs.MapLemmas.{Missing-position, insert_entry-absent}
use Rattle.ngql_syntax.specs.declared.define.Column.{Column}
use Rattle.schema_book.specs.Columns.{are_sound}
use Rattle.schema_book.specs.Entries.{place_of, entry_of, most_entries, AreSound}

module _ {K B X : Type 0} (see : K → B) where
  -- entries with what is seen of their keys
  abbrev pub seen : List (K × X) → List (B × X)
  seen es = map (λ e. (see e.0, e.1)) es

  prefix_read : (p : B → Bool) (es : List (K × X)) → prefix_len (λ k. not (p (see k))) (keys_of es) ≡ prefix_len (λ b. not (p b)) (keys_of (seen es))
  prefix_read p [] = refl
  prefix_read p (e ∷ es) = ap (λ n. cond (not (p (see e.0))) (1 + n) 0) (prefix_read p es)

  length_read : (es : List (K × X)) → length (keys_of es) ≡ length (keys_of (seen es))
  length_read [] = refl
  length_read (e ∷ es) = ap suc (length_read es)

  -- a key stands where what is seen of it stands
  pub place_read : (p : B → Bool) (es : List (K × X)) → position (λ k. p (see k)) (keys_of es) ≡ position p (keys_of (seen es))
  place_read p es = λ i. cond (nat_lt (prefix_read p es i) (length_read es i)) (Some (prefix_read p es i)) None

  -- a key that isn't there goes behind all others
  pub put_behind : (test : B → B → Bool) (es : List (K × X)) (k : K) (v : X) → position (test (see k)) (keys_of (seen es)) ≡ None
      → seen (insert_entry (λ a b. test (see a) (see b)) es k v) ≡ seen es ++ (see k, v) ∷ []
  put_behind test es k v none =
      let absent = (Missing-position (λ x. test (see k) (see x)) es (place_read (test (see k)) es ∙ none)).absent in
      ap seen (insert_entry-absent (λ a b. test (see a) (see b)) k v es absent) ∙ map-append (λ (e : K × X). (see e.0, e.1)) es ((k, v) ∷ [])

-- the entry at the place where a name stands
abbrev pub at_place : List (List ℕ × List Column) → Option ℕ → Option (ℕ × List Column)
at_place entries place = option_and_then (λ i. option_map (λ e. (i, e.1)) (slice_get entries i)) place

pub entry_nowhere : (name : List ℕ) (entries : List (List ℕ × List Column)) → place_of name entries ≡ None → entry_of name entries ≡ None
entry_nowhere name entries none = ap (at_place entries) none

pub entry_there : (name : List ℕ) (entries : List (List ℕ × List Column)) (i : ℕ) (e : List ℕ × List Column) → place_of name entries ≡ Some i → slice_get entries i ≡ Some e → entry_of name entries ≡ Some (i, e.1)
entry_there name entries i e place at = ap (at_place entries) place ∙ ap (option_map (λ (x : List ℕ × List Column). (i, x.1))) at

-- one more with sound columns
pub one_more : (entries : List (List ℕ × List Column)) (name : List ℕ) (columns : List Column) → AreSound entries → length entries < most_entries → are_sound columns ≡ true
    → AreSound (entries ++ (name, columns) ∷ [])
one_more entries name columns were room sound = record {
  few = omega (arith, length-append entries ((name, columns) ∷ []));
  sound = list_all-append (λ (e : List ℕ × List Column). are_sound e.1) entries ((name, columns) ∷ []) ∙ (λ i. were.sound i && (sound i && true));
}
