use Rattle.std.proofs.Common.{◌≡◌, ◌+◌, ◌-◌, ◌*◌, ◌^◌, ◌∷◌, drop, arith, drop-cons, get_or, add-one, ap, sym, ◌∙◌}
use Rattle.ngql_parser.specs.Numbers as spec
use Rattle.ngql_parser.proofs.NumberLemmas.{too_large}
use Rattle.ngql_parser.proofs.number.magnitude.Goals as goal

pub returns-then-number : goal.returns-then-number
returns-then-number c =
    let digits = c.args.digits.now in
    let at = c.loop-digit.digit-index in
    let later : drop at digits ≡ get_or digits at 0 ∷ drop (at + 1) digits = drop-cons digits at 0 c.loop-digit-test.true ∙ ap (λ k. get_or digits at 0 ∷ drop k digits) (sym (add-one at)) in
    let next = c.loop-digit.number * 10 + (get_or digits at 0 - 48) in
    let same : spec.magnitude 0 digits ≡ spec.magnitude next (drop (at + 1) digits) =
    c.loop-digit.invariant.so_far ∙ ap (spec.magnitude c.loop-digit.number) later in
    sym (ap (spec.up_to (2 ^ 63)) same ∙ too_large (2 ^ 63) next (drop (at + 1) digits) (omega arith))
