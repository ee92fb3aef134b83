use Rattle.std.proofs.Common.{◌≡◌, ◌<◌, ◌^◌, ◌++◌, ◌∷◌, [], List, ℕ, refl, ap, subst, ◌∙◌}
use Rattle.byte_fields.specs.Fields.{number}
use Rattle.byte_fields.proofs.Filling.{filled, length-filled}
use Rattle.wal_frames.specs.Spelling.{body}
use Rattle.wal_frames.proofs.writing.encode.Goals as goal

pub fill_length-requires : goal.fill_length-requires
fill_length-requires c =
    let is : c.put_body.new.out ≡ [] ++ number 4 0 ++ body c.args.made.now = c.in_ok-put_body.ensures.ok ∙ ap (λ (front : List ℕ). front ++ body c.args.made.now) (c.in_ok-put_u32.ensures.ok ∙ ap (λ (front : List ℕ). front ++ number 4 0) c.in_ok-out.ensures) in
    (length-filled c.put_body.new.out [] (body c.args.made.now) 0 is refl).0

pub returns-clause-ok : goal.returns-clause-ok
returns-clause-ok c =
    let is : c.put_body.new.out ≡ [] ++ number 4 0 ++ body c.args.made.now = c.in_ok-put_body.ensures.ok ∙ ap (λ (front : List ℕ). front ++ body c.args.made.now) (c.in_ok-put_u32.ensures.ok ∙ ap (λ (front : List ℕ). front ++ number 4 0) c.in_ok-out.ensures) in
    record {
      fits = subst (λ (n : ℕ). n < 2 ^ 32) (length-filled c.put_body.new.out [] (body c.args.made.now) 0 is refl).1 c.in_ok-fill_length.ensures.fits;
      whole = c.into_bytes.ensures ∙ c.in_ok-put_byte.ensures.ok
          ∙ ap (λ (front : List ℕ). front ++ 0 ∷ []) (c.in_ok-fill_length.ensures.ok ∙ filled c.put_body.new.out [] (body c.args.made.now) 0 is refl);
    }
