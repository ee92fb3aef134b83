-- The formats of lists of edges, with halves and without.
use Rattle.std.proofs.Common.{◌≡◌, ℕ, ◌≤◌, Bool, true, not, leb, List, [], ◌∷◌, length, Ok, refl, ap, ◌∙◌, arith, pos}
use Rattle.std.specs.Prelude.{◌&&◌}
use Rattle.std.specs.List.{flat_map, list_all, AllByRecursion}
use Rattle.std.proofs.lemmas.Bool.{leb-true, le-leb}
use Rattle.std.proofs.lemmas.List.{length-map}
use Rattle.byte_fields.specs.Reading.{count_at}
use Rattle.byte_fields.proofs.Steps.{IsBytes}
use Rattle.byte_fields.proofs.Formats.{IsFormat, such_format, both_format, each_format, count_format, counted_format, renamed_format}
use Rattle.maps.specs.Keys.{has_key}
use Rattle.graph_model.specs.Keys.{edge_cmp}
use Rattle.graph_model.specs.Edges.{are_edges, edges_in, is_once_each, is_positive}
use Rattle.graph_model.specs.declared.edge_id.EdgeId.{EdgeId}
use Rattle.graph_model.specs.declared.half.Half.{Half}
use Rattle.graph_bytes.specs.declared.id_form.IdForm.{IdForm}
use Rattle.graph_bytes.specs.Spelling.{edge, edges, edge_half, halves}
use Rattle.graph_bytes.specs.Fits.{HasSpellingEdge, HasSpellingEdges, HasSpellingHalves, HasSpellingWhole, FitsEdge, FitsEdges, FitsEdgeHalf, FitsHalves}
use Rattle.graph_bytes.specs.Reading.{grown, new_edge_at, new_edges_at, edges_at, new_half_at, new_halves_at, halves_at}
use Rattle.graph_bytes.proofs.ValueFormats.{half_format}
use Rattle.graph_bytes.proofs.EdgeFormats.{above_true, true_above, edge_format}
use Rattle.graph_bytes.proofs.Once.{AreKeys, AreOnce, and_true, once_of_new, new_of_once}

-- an edge that isn't among these
pub new_edge_format : (form : IdForm) (known : List EdgeId) → IsFormat (new_edge_at form known) (edge form) (λ e. FitsEdge form e × (not (has_key edge_cmp e known) ≡ true))
unfolding new_edge_at
new_edge_format form known = such_format (λ e. not (has_key edge_cmp e known)) (edge_format form)

-- an edge is its own edge
pub edge_itself : AreKeys (λ (e : EdgeId). e) (λ (es : List EdgeId). es)
edge_itself = record { none = refl; some = λ e es. refl }

-- the edge of an edge with its half
pub edge_first : AreKeys (λ (x : EdgeId × Half). x.0) edges_in
edge_first = record { none = refl; some = λ x xs. refl }

-- a list of 1 to 64 edges, none twice, each of a positive type
are_made : (es : List EdgeId) → 1 ≤ length es → length es ≤ 64 → is_once_each es ≡ true → list_all is_positive es ≡ true → are_edges es ≡ true
are_made es some few once positive =
    ap (λ (t : Bool). t && (leb (length es) 64 && (is_once_each es && list_all is_positive es))) (le-leb 1 (length es) some)
    ∙ ap (λ (t : Bool). t && (is_once_each es && list_all is_positive es)) (le-leb (length es) 64 few)
    ∙ ap (λ (t : Bool). t && list_all is_positive es) once
    ∙ positive

-- what such a list is
pub record AreFew (es : List EdgeId) : Type 0 where
  pub some : 1 ≤ length es
  pub few : length es ≤ 64
  pub once : is_once_each es ≡ true
  pub positive : list_all is_positive es ≡ true

-- what the test takes is such a list
pub are_few : (es : List EdgeId) → are_edges es ≡ true → AreFew es
are_few es are =
    let a = and_true (leb 1 (length es)) (leb (length es) 64 && (is_once_each es && list_all is_positive es)) are in
    let b = and_true (leb (length es) 64) (is_once_each es && list_all is_positive es) a.1 in
    let c = and_true (is_once_each es) (list_all is_positive es) b.1 in
    record { some = leb-true _ _ a.0; few = leb-true _ _ b.0; once = c.0; positive = c.1 }

-- edges that fit have positive types
edges_positive : (form : IdForm) (es : List EdgeId) → AllByRecursion (FitsEdge form) es → list_all is_positive es ≡ true
edges_positive form [] fit = refl
edges_positive form (e ∷ es) fit = ap (λ (t : Bool). t && list_all is_positive es) (true_above (pos 0) e.etype fit.0.is) ∙ edges_positive form es fit.1

halves_positive : (form : IdForm) (list : List (EdgeId × Half)) → AllByRecursion (FitsEdgeHalf form) list → list_all is_positive (edges_in list) ≡ true
halves_positive form [] fit = refl
halves_positive form (x ∷ list) fit = ap (λ (t : Bool). t && list_all is_positive (edges_in list)) (true_above (pos 0) x.0.etype fit.0.0.is) ∙ halves_positive form list fit.1

-- edges of positive types whose ends have a spelling have one
pub edges_have : (form : IdForm) (es : List EdgeId) → list_all is_positive es ≡ true → HasSpellingEdges form es → AllByRecursion (HasSpellingEdge form) es
edges_have form [] positive have = tt
edges_have form (e ∷ es) positive have =
    let a = and_true (is_positive e) (list_all is_positive es) positive in
    ((have.0.0, above_true (pos 0) e.etype a.0, have.0.1), edges_have form es a.1 have.1)

-- edges with their halves, of positive types, whose ends and values have a spelling have one
pub halves_have : (form : IdForm) (list : List (EdgeId × Half)) → list_all is_positive (edges_in list) ≡ true → HasSpellingHalves form list → AllByRecursion (HasSpellingWhole form) list
halves_have form [] positive have = tt
halves_have form (x ∷ list) positive have =
    let a = and_true (is_positive x.0) (list_all is_positive (edges_in list)) positive in
    (((have.0.0.0, above_true (pos 0) x.0.etype a.0, have.0.0.1), have.0.1), halves_have form list a.1 have.1)

-- each edge fits and stands once
abbrev pub OnceEdges : IdForm → List EdgeId → Type 0
OnceEdges form list = AreOnce (λ (e : EdgeId). e) (λ (es : List EdgeId). es) (FitsEdge form) edge_itself [] list

-- each edge with its half fits, and the edge stands once
abbrev pub OnceHalves : IdForm → List (EdgeId × Half) → Type 0
OnceHalves form list = AreOnce (λ (x : EdgeId × Half). x.0) edges_in (FitsEdgeHalf form) edge_first [] list

-- n edges, none twice
pub new_edges_format : (form : IdForm) (n : ℕ) → IsFormat (λ rest. new_edges_at form n [] rest) (flat_map (edge form)) (λ list. OnceEdges form list × (length list ≡ n))
new_edges_format form n =
    renamed_format (λ list. OnceEdges form list × (length list ≡ n))
    (λ list is. (once_of_new (λ (e : EdgeId). e) (λ (es : List EdgeId). es) (FitsEdge form) edge_itself [] list is.0, is.1))
    (λ list is. (new_of_once (λ (e : EdgeId). e) (λ (es : List EdgeId). es) (FitsEdge form) edge_itself [] list is.0, is.1))
    (each_format grown (new_edge_format form) n [])

-- 1 to 64 edges that were read are ones of a list
edges_are : (form : IdForm) (list : List EdgeId) → 1 ≤ length list → length list ≤ 64 → OnceEdges form list → are_edges list ≡ true
edges_are form list some few once = are_made list some few once.once (edges_positive form list once.each)

-- edges that were read behind their count are ones of a list
pub edges_read : (form : IdForm) (bytes : List ℕ) (n : ℕ) (behind : List ℕ) (list : List EdgeId) (rest : List ℕ) → IsBytes bytes → count_at 1 64 bytes ≡ Ok (n, behind) → new_edges_at form n [] behind ≡ Ok (list, rest) → are_edges list ≡ true
edges_read form bytes n behind list rest fits count e =
    let k = (count_format 1 64 (omega arith)).takes bytes n behind fits count in
    let t = (new_edges_format form n).takes behind list rest k.0.rest_fits e in
    edges_are form list (omega (arith, t.1.1, k.1)) (omega (arith, t.1.1, k.1)) t.1.0

-- 1 to 64 edges behind their count, none twice
pub edges_format : (form : IdForm) → IsFormat (edges_at form) (edges form) (FitsEdges form)
unfolding edges_at
edges_format form =
    renamed_format (FitsEdges form)
    (λ list is. record { are = edges_are form list is.0.0 is.0.1 is.1; each = is.1.each })
    (λ list is. let few = are_few list is.are in ((few.some, few.few), record { each = is.each; once = few.once; apart = λ q within. refl }))
    (counted_format length (OnceEdges form) (count_format 1 64 (omega arith)) (new_edges_format form))

-- an edge that isn't among these, and its half
pub new_half_format : (form : IdForm) (known : List (EdgeId × Half)) → IsFormat (new_half_at form known) (edge_half form) (λ x. FitsEdgeHalf form x × (not (has_key edge_cmp x.0 (edges_in known)) ≡ true))
unfolding new_half_at
new_half_format form known =
    renamed_format (λ x. FitsEdgeHalf form x × (not (has_key edge_cmp x.0 (edges_in known)) ≡ true))
    (λ x is. ((is.0.0, is.1), is.0.1))
    (λ x is. ((is.0.0, is.1), is.0.1))
    (both_format (new_edge_format form (edges_in known)) half_format)

-- n edges with their halves, none twice
pub new_halves_format : (form : IdForm) (n : ℕ) → IsFormat (λ rest. new_halves_at form n [] rest) (flat_map (edge_half form)) (λ list. OnceHalves form list × (length list ≡ n))
new_halves_format form n =
    renamed_format (λ list. OnceHalves form list × (length list ≡ n))
    (λ list is. (once_of_new (λ (x : EdgeId × Half). x.0) edges_in (FitsEdgeHalf form) edge_first [] list is.0, is.1))
    (λ list is. (new_of_once (λ (x : EdgeId × Half). x.0) edges_in (FitsEdgeHalf form) edge_first [] list is.0, is.1))
    (each_format grown (new_half_format form) n [])

-- as many edges as elements
pub length-edges_in : (list : List (EdgeId × Half)) → length (edges_in list) ≡ length list
length-edges_in list = omega (arith, length-map list (λ (x : EdgeId × Half). x.0))

-- 1 to 64 edges with their halves that were read are ones of a list
halves_are : (form : IdForm) (list : List (EdgeId × Half)) → 1 ≤ length list → length list ≤ 64 → OnceHalves form list → are_edges (edges_in list) ≡ true
halves_are form list some few once =
    let n = length-edges_in list in
    are_made (edges_in list) (omega (arith, n, some)) (omega (arith, n, few)) once.once (halves_positive form list once.each)

-- edges with their halves that were read behind their count are ones of a list
pub halves_read : (form : IdForm) (bytes : List ℕ) (n : ℕ) (behind : List ℕ) (list : List (EdgeId × Half)) (rest : List ℕ) → IsBytes bytes → count_at 1 64 bytes ≡ Ok (n, behind) → new_halves_at form n [] behind ≡ Ok (list, rest) → are_edges (edges_in list) ≡ true
halves_read form bytes n behind list rest fits count e =
    let k = (count_format 1 64 (omega arith)).takes bytes n behind fits count in
    let t = (new_halves_format form n).takes behind list rest k.0.rest_fits e in
    halves_are form list (omega (arith, t.1.1, k.1)) (omega (arith, t.1.1, k.1)) t.1.0

-- 1 to 64 edges with their halves, behind their count, none twice
pub halves_format : (form : IdForm) → IsFormat (halves_at form) (halves form) (FitsHalves form)
unfolding halves_at
halves_format form =
    renamed_format (FitsHalves form)
    (λ list is. record { are = halves_are form list is.0.0 is.0.1 is.1; each = is.1.each })
    (λ list is. let few = are_few (edges_in list) is.are in let n = length-edges_in list in ((omega (arith, n, few.some), omega (arith, n, few.few)), record { each = is.each; once = few.once; apart = λ q within. refl }))
    (counted_format length (OnceHalves form) (count_format 1 64 (omega arith)) (new_halves_format form))
