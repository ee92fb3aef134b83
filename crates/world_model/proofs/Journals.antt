-- A journal's bytes are read back as the packets that were sent.
use Rattle.std.proofs.Common.{◌≡◌, ℕ, List, [], ◌∷◌, length, map, Option, Some, refl, ap, ◌∙◌, arith}
use Rattle.std.specs.Prelude.{slice_get}
use Rattle.std.proofs.lemmas.Option.{same_Some}
use Rattle.world_model.specs.State.{Post}
use Rattle.world_model.specs.Journal.{Codec, spelled_by, JournalsTell}

abbrev behind_first : List (Option (List ℕ)) → List (Option (List ℕ))
behind_first [] = []
behind_first (x ∷ xs) = xs

told_back : (codec : Codec) (posts : List Post) (packets : List (List ℕ)) → map (spelled_by codec) posts ≡ map Some packets → map codec.read packets ≡ map (λ (post : Post). Some post.packet) posts
told_back codec [] [] e = refl
told_back codec [] (bytes ∷ packets) e = absurd (let many = ap length e in omega arith)
told_back codec (post ∷ posts) [] e = absurd (let many = ap length e in omega arith)
told_back codec (post ∷ posts) (bytes ∷ packets) e =
    ap (λ x. x ∷ map codec.read packets) (codec.back post.packet bytes (same_Some (codec.spell post.packet) (Some bytes) (ap (λ xs. slice_get xs 0) e)))
    ∙ ap (λ xs. Some post.packet ∷ xs) (told_back codec posts packets (ap behind_first e))

pub journals_tell : JournalsTell
journals_tell spelling codec n j is = told_back codec is.state.posts j.packets is.packets
