use Rattle.std.proofs.Common.{ap, ◌∙◌, take}
use Rattle.std.specs.Str.{all_ascii_digits}
use Rattle.std.specs.Char.{is_ascii_digit}
use Rattle.std.proofs.lemmas.List.Folds.{length-prefix_len}
use Rattle.first_script.proofs.NumberLemmas.{all_digits_at}
use Rattle.first_script.proofs.reading.digits_at.Goals as goal

pub returns-clause-all : goal.returns-clause-all
returns-clause-all c =
    let bytes = c.args.bytes.now in
    ap all_ascii_digits (c.split_at.ensures.front ∙ ap (λ n. take n bytes) (c.digits_len.ensures ∙ length-prefix_len is_ascii_digit bytes)) ∙ all_digits_at bytes
