use Rattle.std.proofs.Common.{◌≡◌, ℕ, ◌-◌, List, ◌++◌, ◌∷◌, length, take, length-append, ap, ◌∙◌, arith}
use Rattle.std.proofs.lemmas.List.{take_at}
use Rattle.byte_fields.specs.Fields.{number}
use Rattle.byte_fields.proofs.Numbers.{length-number}
use Rattle.part_keys.specs.Keys.{tag_kind, vertex}
use Rattle.part_keys.specs.Routing.{part_of}
use Rattle.part_store.proofs.tags.tag_prefix.Goals as goal

pub slice_bounds-put_run-count : goal.slice_bounds-put_run-count
slice_bounds-put_run-count c =
    let front = tag_kind ∷ (number 3 (part_of c.args.s.parts c.args.v.now) ++ vertex c.args.s.ids c.args.v.now) in
    let is : c.as_slice-bytes.result.now ≡ front ++ number 4 0 = c.as_slice-bytes.ensures ∙ c.tag_key-key.ensures.bytes in
    omega (arith, ap length is, length-append front (number 4 0), length-number 4 0)

-- bytes without the last four
front_is : (bytes front last : List ℕ) → bytes ≡ front ++ last → length last ≡ 4 → take (length bytes - 4) bytes ≡ front
front_is bytes front last is four = ap (take (length bytes - 4)) is ∙ take_at front last (length bytes - 4) (omega (arith, ap length is, length-append front last, four))

pub returns : goal.returns
returns c =
    let front = tag_kind ∷ (number 3 (part_of c.args.s.parts c.args.v.now) ++ vertex c.args.s.ids c.args.v.now) in
    let is : c.as_slice-bytes.result.now ≡ front ++ number 4 0 = c.as_slice-bytes.ensures ∙ c.tag_key-key.ensures.bytes in
    c.put_run.ensures.put
    ∙ ap (λ (a : List ℕ). a ++ take (length c.as_slice-bytes.result.now - 4) c.as_slice-bytes.result.now) c.new-made.ensures
    ∙ front_is c.as_slice-bytes.result.now front (number 4 0) is (length-number 4 0)
    ∙ ap (λ (part : ℕ). tag_kind ∷ (number 3 part ++ vertex c.args.s.ids c.args.v.now)) c.requires.vertex.here
