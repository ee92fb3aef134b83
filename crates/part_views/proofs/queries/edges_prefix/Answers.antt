use Rattle.std.proofs.Common.{◌≡◌, ℕ, ◌-◌, List, [], ◌++◌, ◌∷◌, length, take, drop, length-append, ap, ◌∙◌, arith}
use Rattle.std.proofs.lemmas.List.{take_at}
use Rattle.byte_fields.specs.Fields.{number}
use Rattle.byte_fields.proofs.Numbers.{length-number}
use Rattle.part_keys.specs.Keys.{tag_kind, edge_kind, vertex}
use Rattle.part_keys.specs.Routing.{part_of}
use Rattle.part_views.proofs.queries.edges_prefix.Goals as goal

-- bytes without the first and the last four
middle_is : (bytes front last : List ℕ) (kind : ℕ) → bytes ≡ kind ∷ (front ++ last) → length last ≡ 4 → take (length bytes - 4 - 1) (drop 1 bytes) ≡ front
middle_is bytes front last kind is four =
    ap (λ (b : List ℕ). take (length bytes - 4 - 1) (drop 1 b)) is ∙ take_at front last (length bytes - 4 - 1) (omega (arith, ap length is, length-append front last, four))

pub prove-unreachable-requires : goal.prove-unreachable-requires
prove-unreachable-requires c =
    let front = number 3 (part_of c.args.s.parts c.args.v.now) ++ vertex c.args.s.ids c.args.v.now in
    let is : c.as_slice-bytes.result.now ≡ tag_kind ∷ (front ++ number 4 0) = c.as_slice-bytes.ensures ∙ c.tag_key-key.ensures.bytes in
    omega (arith, ap length is, length-append front (number 4 0), length-number 4 0)

pub returns : goal.returns
returns c =
    let front = number 3 (part_of c.args.s.parts c.args.v.now) ++ vertex c.args.s.ids c.args.v.now in
    let bytes = c.as_slice-bytes.result.now in
    let is : bytes ≡ tag_kind ∷ (front ++ number 4 0) = c.as_slice-bytes.ensures ∙ c.tag_key-key.ensures.bytes in
    c.put_run-2.ensures.put
    ∙ ap (λ (a : List ℕ). a ++ take (length bytes - 4 - 1) (drop 1 bytes)) (c.put_run.ensures.put ∙ ap (λ (a : List ℕ). a ++ edge_kind ∷ []) c.new-made.ensures)
    ∙ ap (λ (b : List ℕ). edge_kind ∷ b) (middle_is bytes front (number 4 0) tag_kind is (length-number 4 0))
    ∙ ap (λ (part : ℕ). edge_kind ∷ (number 3 part ++ vertex c.args.s.ids c.args.v.now)) c.requires.vertex.here
