-- How the keys of a vertex's edges begin.
use Rattle.std.proofs.Common.{◌≡◌, ℕ, List, [], ◌∷◌, ◌++◌, Bool, true, nat_eq, length, refl, ap, ◌∙◌, append_assoc}
use Rattle.std.specs.Prelude.{◌&&◌}
use Rattle.std.specs.List.{starts_with}
use lib.Pointwise.{pointwise}
use Rattle.std.proofs.lemmas.Bool.{eq-eqb}
use Rattle.std.proofs.lemmas.List.{take_at}
use Rattle.std.specs.Int.{w32, w64}
use Rattle.byte_fields.specs.Fields.{number}
use Rattle.graph_model.specs.declared.edge_id.EdgeId.{EdgeId}
use Rattle.part_keys.specs.declared.vid_kind.VidKind.{VidKind}
use Rattle.part_keys.specs.Keys.{edge_kind, edge_form, vertex, flipped}

-- bytes are themselves, byte by byte
itself : (a : List ℕ) → pointwise nat_eq a a ≡ true
itself [] = refl
itself (x ∷ a) = ap (λ (b : Bool). b && pointwise nat_eq a a) (eq-eqb x x refl) ∙ itself a

-- what has a prefix begins with it
begins : (prefix rest : List ℕ) → starts_with nat_eq (prefix ++ rest) prefix ≡ true
begins prefix rest = ap (pointwise nat_eq prefix) (take_at prefix rest (length prefix) refl) ∙ itself prefix

-- the key of an edge begins with its part and the vertex at which it is seen
pub edge_begins : (ids : VidKind) (part : ℕ) (e : EdgeId) → starts_with nat_eq (edge_kind ∷ edge_form ids part e) (edge_kind ∷ (number 3 part ++ vertex ids e.src)) ≡ true
edge_begins ids part e =
    let front = number 3 part ++ vertex ids e.src in
    let t = flipped w32 e.etype in
    let r = flipped w64 e.rank in
    let f = vertex ids e.dst in
    ap (λ (b : List ℕ). starts_with nat_eq (edge_kind ∷ b) (edge_kind ∷ front))
    (append_assoc (front ++ t ++ r) f (0 ∷ []) ∙ append_assoc (front ++ t) r (f ++ 0 ∷ []) ∙ append_assoc front t (r ++ (f ++ 0 ∷ [])))
    ∙ begins (edge_kind ∷ front) (t ++ (r ++ (f ++ 0 ∷ [])))
