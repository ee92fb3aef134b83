-- The format of answers.
use Rattle.std.proofs.Common.{◌≡◌, ℕ, zero, suc, ◌<◌, List, [], ◌∷◌, ◌++◌, length, Ok, Err, refl, sym, subst, ◌∙◌, arith}
use Rattle.std.proofs.lemmas.Bool.{ne_eqb}
use Rattle.byte_fields.specs.Reading.{misfit, byte_at}
use Rattle.byte_fields.proofs.Steps.{IsBytes, IsBytes-rest, Takes, ok_is}
use Rattle.byte_fields.proofs.Within.{IsWithin}
use Rattle.byte_fields.proofs.Formats.{IsFormat, made_again, made_within, kind_takes}
use Rattle.graph_bytes.specs.declared.id_form.IdForm.TheVariants.{Tagged}
use Rattle.graph_bytes.proofs.AnswerFormats.{view_format}
use Rattle.graph_bytes.proofs.EdgeFormats.{call_format}
use Rattle.graph_model.specs.declared.answer.Answer.{Answer}
use Rattle.graph_model.specs.declared.answer.Answer.TheVariants as answers
use Rattle.packet_codec.specs.Spelling.{answer}
use Rattle.packet_codec.specs.Fits.{FitsAnswer}
use Rattle.packet_codec.specs.Reading.{answer_at}

-- a byte that is no kind doesn't fit
no_answer : (b : ℕ) (bytes : List ℕ) → 6 < b → answer_at (b ∷ bytes) ≡ Err (misfit (b ∷ bytes))
unfolding answer_at byte_at
no_answer b bytes above = rw (ne_eqb b 1 (omega (arith, above)), ne_eqb b 2 (omega (arith, above)), ne_eqb b 3 (omega (arith, above)), ne_eqb b 4 (omega (arith, above)), ne_eqb b 5 (omega (arith, above)), ne_eqb b 6 (omega (arith, above))) refl

answer_takes : (bytes : List ℕ) (x : Answer) (rest : List ℕ) → IsBytes bytes → answer_at bytes ≡ Ok (x, rest) → Takes bytes (answer x) rest × FitsAnswer x
unfolding answer_at byte_at
answer_takes [] x rest fits e = absurd cc
answer_takes (zero ∷ bytes) x rest fits e = absurd cc
answer_takes (suc zero ∷ bytes) x rest fits e = subst (λ (p : Answer × List ℕ). Takes (1 ∷ bytes) (answer p.0) p.1 × FitsAnswer p.0) (ok_is (answers.Fine, bytes) (x, rest) e) (record { parts = refl; rest_fits = IsBytes-rest 1 bytes fits }, tt)
answer_takes (suc (suc zero) ∷ bytes) x rest fits e = subst (λ (p : Answer × List ℕ). Takes (2 ∷ bytes) (answer p.0) p.1 × FitsAnswer p.0) (ok_is (answers.Skipped, bytes) (x, rest) e) (record { parts = refl; rest_fits = IsBytes-rest 2 bytes fits }, tt)
answer_takes (suc (suc (suc zero)) ∷ bytes) x rest fits e = subst (λ (p : Answer × List ℕ). Takes (3 ∷ bytes) (answer p.0) p.1 × FitsAnswer p.0) (ok_is (answers.Pending, bytes) (x, rest) e) (record { parts = refl; rest_fits = IsBytes-rest 3 bytes fits }, tt)
answer_takes (suc (suc (suc (suc zero))) ∷ bytes) x rest fits e = subst (λ (p : Answer × List ℕ). Takes (4 ∷ bytes) (answer p.0) p.1 × FitsAnswer p.0) (ok_is (answers.Cancelled, bytes) (x, rest) e) (record { parts = refl; rest_fits = IsBytes-rest 4 bytes fits }, tt)
answer_takes (suc (suc (suc (suc (suc zero)))) ∷ bytes) x rest fits e = kind_takes 5 (λ id. answers.Conflict id) answer FitsAnswer call_format (λ a is. (refl, is)) bytes x rest fits e
answer_takes (suc (suc (suc (suc (suc (suc zero))))) ∷ bytes) x rest fits e = kind_takes 6 (λ rows. answers.Shown rows) answer FitsAnswer (view_format Tagged) (λ a is. (refl, is)) bytes x rest fits e
answer_takes (suc (suc (suc (suc (suc (suc (suc kind)))))) ∷ bytes) x rest fits e = let no = sym (no_answer (suc (suc (suc (suc (suc (suc (suc kind))))))) bytes (omega arith)) ∙ e in absurd cc

answer_again : (x : Answer) (rest : List ℕ) → FitsAnswer x → answer_at (answer x ++ rest) ≡ Ok (x, rest)
unfolding answer_at byte_at
answer_again answers.Fine rest fits = refl
answer_again answers.Skipped rest fits = refl
answer_again answers.Pending rest fits = refl
answer_again answers.Cancelled rest fits = refl
answer_again (answers.Conflict id) rest fits = made_again (λ id. answers.Conflict id) call_format id rest fits
answer_again (answers.Shown rows) rest fits = made_again (λ rows. answers.Shown rows) (view_format Tagged) rows rest fits
answer_again answers.Unknown rest fits = absurd fits

answer_within : (bytes : List ℕ) → IsWithin (length bytes) (answer_at bytes)
unfolding answer_at byte_at
answer_within [] = omega arith
answer_within (zero ∷ bytes) = omega arith
answer_within (suc zero ∷ bytes) = omega arith
answer_within (suc (suc zero) ∷ bytes) = omega arith
answer_within (suc (suc (suc zero)) ∷ bytes) = omega arith
answer_within (suc (suc (suc (suc zero))) ∷ bytes) = omega arith
answer_within (suc (suc (suc (suc (suc zero)))) ∷ bytes) = made_within (λ id. answers.Conflict id) call_format (length (5 ∷ bytes)) bytes (omega arith)
answer_within (suc (suc (suc (suc (suc (suc zero))))) ∷ bytes) = made_within (λ rows. answers.Shown rows) (view_format Tagged) (length (6 ∷ bytes)) bytes (omega arith)
answer_within (suc (suc (suc (suc (suc (suc (suc kind)))))) ∷ bytes) = rw (no_answer (suc (suc (suc (suc (suc (suc (suc kind))))))) bytes (omega arith)) (omega arith)

-- an answer
pub answer_format : IsFormat answer_at answer FitsAnswer
answer_format = record { takes = answer_takes; again = answer_again; within = answer_within }
