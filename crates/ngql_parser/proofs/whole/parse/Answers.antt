use Rattle.std.proofs.Common.{◌+◌, Err, sym, subst, inr, ap, ◌∙◌, length}
use Rattle.ngql_parser.specs.Promise.{AreLine, IsThis, Refused, Misfits, tokens_in, refused_at}
use Rattle.ngql_parser.proofs.LineLemmas.{not_answered, unlexed_says}
use Rattle.ngql_parser.proofs.whole.parse.Goals as goal

pub returns-in-Err-clause-only : goal.returns-in-Err-clause-only
returns-in-Err-clause-only c = λ l s. not_answered (tokens_in c.args.version c.args.line.now s.tokens) c.in-Err.e (c.in-Err.ensures.only s.tokens) l

pub returns-in-Err-clause-misfit : goal.returns-in-Err-clause-misfit
returns-in-Err-clause-misfit c = unlexed_says c.args.version c.args.line.now c.in-Err.e c.in-Err.ensures.bad

pub returns-in-Ok-read_tokens-clause-only : goal.returns-in-Ok-read_tokens-clause-only
returns-in-Ok-read_tokens-clause-only c = λ l s. c.in-Ok-read_tokens.ensures.only l (subst (λ ts. AreLine ts l) (sym (c.as_slice.ensures ∙ c.in-Ok.ensures.only s.tokens)) s.line)

pub returns-in-Err-Misfit-clause-only : goal.returns-in-Err-Misfit-clause-only
returns-in-Err-Misfit-clause-only c = λ l s.
    absurd (subst (λ e. IsThis l (Err e)) c.in-Err-Misfit.field-0-is (c.in-Err-Misfit.ensures.only l (subst (λ ts. AreLine ts l) (sym (c.as_slice.ensures ∙ c.in-Ok.ensures.only s.tokens)) s.line)))

pub returns-in-Err-Misfit-clause-misfit : goal.returns-in-Err-Misfit-clause-misfit
returns-in-Err-Misfit-clause-misfit c =
    let t = c.in-Ok.ensures.ok in
    inr (inr (record {
      tokens = t.0;
      of_limits = c.in-Err-Misfit.of_limits;
      rest = c.in-Err-Misfit.rest.now;
      misfit = subst (λ ts. Misfits ts c.in-Err-Misfit.of_limits c.in-Err-Misfit.rest.now) (c.as_slice.ensures ∙ t.1) (subst (Refused c.as_slice.result.now) c.in-Err-Misfit.field-0-is c.in-Err-Misfit.ensures.misfit);
      is = c.refused_at.ensures ∙ ap (λ bytes. refused_at c.in-Err-Misfit.of_limits (length bytes + 1) c.in-Err-Misfit.rest.now) c.without_cr.ensures.is;
    }))
