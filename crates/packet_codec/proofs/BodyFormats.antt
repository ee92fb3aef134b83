-- The fields of a packet are a format, by its sender and its kind.
use Rattle.std.proofs.Common.{◌≡◌, ℕ, List, ◌++◌, length, Result, Ok, refl, subst, arith}
use Rattle.byte_fields.specs.declared.misfit.Misfit.{Misfit}
use Rattle.byte_fields.specs.Reading.{made_at}
use Rattle.byte_fields.proofs.Steps.{IsBytes, Takes}
use Rattle.byte_fields.proofs.Within.{IsWithin}
use Rattle.byte_fields.proofs.Numbers.{wide8}
use Rattle.byte_fields.proofs.Formats.{IsFormat, flag_format, number_format, both_format, made_takes, made_again, made_within}
use Rattle.graph_bytes.specs.declared.id_form.IdForm.TheVariants.{Tagged}
use Rattle.graph_bytes.proofs.ListFormats.{edges_format, halves_format}
use Rattle.chain_leader.specs.declared.body.ChainBody.TheVariants as says
use Rattle.raft_log.specs.declared.message.RaftMsg.TheVariants as messages
use Rattle.replica_model.specs.declared.packet.Place.{Place}
use Rattle.replica_model.specs.declared.packet.Body.{Body}
use Rattle.replica_model.specs.declared.packet.Body.TheVariants.{Raft, Chain}
use Rattle.packet_codec.specs.declared.kind.Kind.{Kind}
use Rattle.packet_codec.specs.declared.kind.Kind.TheVariants.{Request, Answer as Answered, NotLeader, Append, Appended, Vote, Voted, TimeoutNow, Remote, Done, Stale, Fence, Fenced, Resume}
use Rattle.packet_codec.specs.Kinds.{body_kind}
use Rattle.packet_codec.specs.Spelling.{body}
use Rattle.packet_codec.specs.Fits.{FitsBody}
use Rattle.packet_codec.specs.Reading.{body_at}
use Rattle.packet_codec.proofs.EndFormats.{part_format}
use Rattle.packet_codec.proofs.AnswerFormats.{answer_format}
use Rattle.packet_codec.proofs.FieldFormats.{about_format, behind_format, mark_format, few_entries_format, request_format, chain_format}

-- what fits its fields, and is of the kind
abbrev pub FitsKind : Place → Kind → Body → Type 0
FitsKind from kind said = FitsBody from said × (body_kind said ≡ kind)

taken : {A : Type 0} {f : List ℕ → Result (A × List ℕ) Misfit} {s : A → List ℕ} {F : A → Type 0} (from : Place) (kind : Kind) (make : A → Body) → IsFormat f s F → ((a : A) → F a → (s a ≡ body (make a)) × FitsKind from kind (make a))
    → (bytes : List ℕ) (x : Body) (rest : List ℕ) → IsBytes bytes → made_at make f bytes ≡ Ok (x, rest) → Takes bytes (body x) rest × FitsKind from kind x
taken {A} {f} {s} {F} from kind make one is bytes x rest fits e = made_takes f s F make body (FitsKind from kind) one is bytes x rest fits e

body_takes : (from : Place) (kind : Kind) (bytes : List ℕ) (x : Body) (rest : List ℕ) → IsBytes bytes → body_at from kind bytes ≡ Ok (x, rest) → Takes bytes (body x) rest × FitsKind from kind x
unfolding body_at
body_takes from Request bytes x rest fits e = taken from Request (λ x. Chain (says.Request x.0 x.1)) (request_format from) (λ a is. (refl, (is, refl))) bytes x rest fits e
body_takes from Answered bytes x rest fits e = taken from Answered (λ x. Chain (says.Answer x.0 x.1)) (both_format (number_format 8 wide8) answer_format) (λ a is. (refl, (is, refl))) bytes x rest fits e
body_takes from NotLeader bytes x rest fits e = taken from NotLeader (λ x. Chain (says.NotLeader x.0 x.1.0 x.1.1)) (both_format about_format part_format) (λ a is. (refl, (is, refl))) bytes x rest fits e
body_takes from Append bytes x rest fits e = taken from Append (λ x. Raft (messages.Append x.0.0.0.0 x.0.0.0.1 x.0.0.1 x.0.1 x.1)) (both_format (both_format (both_format (both_format (number_format 8 wide8) mark_format) (number_format 8 wide8)) (number_format 8 wide8)) few_entries_format) (λ a is. (refl, ((is.0.0.0.0, (is.0.0.0.1, (is.0.0.1, (is.0.1, is.1)))), refl))) bytes x rest fits e
body_takes from Appended bytes x rest fits e = taken from Appended (λ x. Raft (messages.Appended x.0.0.0 x.0.0.1 x.0.1 x.1)) (both_format (both_format (both_format (number_format 8 wide8) flag_format) (number_format 8 wide8)) (number_format 8 wide8)) (λ a is. (refl, ((is.0.0.0, (is.0.1, is.1)), refl))) bytes x rest fits e
body_takes from Vote bytes x rest fits e = taken from Vote (λ x. Raft (messages.Vote x.0 x.1)) (both_format (number_format 8 wide8) mark_format) (λ a is. (refl, (is, refl))) bytes x rest fits e
body_takes from Voted bytes x rest fits e = taken from Voted (λ x. Raft (messages.Voted x.0 x.1)) (both_format (number_format 8 wide8) flag_format) (λ a is. (refl, (is.0, refl))) bytes x rest fits e
body_takes from TimeoutNow bytes x rest fits e = taken from TimeoutNow (λ term. Raft (messages.TimeoutNow term)) (number_format 8 wide8) (λ a is. (refl, (is, refl))) bytes x rest fits e
body_takes from Remote bytes x rest fits e = taken from Remote (λ x. Chain (says.Remote x.0.0 x.0.1 x.1)) (both_format chain_format (halves_format Tagged)) (λ a is. (refl, (is, refl))) bytes x rest fits e
body_takes from Done bytes x rest fits e = taken from Done (λ x. Chain (says.Done x.0 x.1)) chain_format (λ a is. (refl, (is, refl))) bytes x rest fits e
body_takes from Stale bytes x rest fits e = taken from Stale (λ x. Chain (says.Stale x.0.0 x.0.1 x.1)) (both_format chain_format (number_format 8 wide8)) (λ a is. (refl, (is, refl))) bytes x rest fits e
body_takes from Fence bytes x rest fits e = taken from Fence (λ x. Chain (says.Fence x.0.0 x.0.1 x.1)) (both_format chain_format (edges_format Tagged)) (λ a is. (refl, (is, refl))) bytes x rest fits e
body_takes from Fenced bytes x rest fits e = taken from Fenced (λ x. Chain (says.Fenced x.0.0 x.0.1 x.1)) (both_format chain_format flag_format) (λ a is. (refl, (is.0, refl))) bytes x rest fits e
body_takes from Resume bytes x rest fits e = taken from Resume (λ x. Chain (says.Resume x.0 x.1)) (both_format (number_format 8 wide8) behind_format) (λ a is. (refl, (is, refl))) bytes x rest fits e

body_again : (from : Place) (said : Body) (rest : List ℕ) → FitsBody from said → body_at from (body_kind said) (body said ++ rest) ≡ Ok (said, rest)
unfolding body_at
body_again from (Chain (says.Request n made)) rest fits = made_again (λ x. Chain (says.Request x.0 x.1)) (request_format from) (n, made) rest fits
body_again from (Chain (says.Answer n given)) rest fits = made_again (λ x. Chain (says.Answer x.0 x.1)) (both_format (number_format 8 wide8) answer_format) (n, given) rest fits
body_again from (Chain (says.NotLeader of part hint)) rest fits = made_again (λ x. Chain (says.NotLeader x.0 x.1.0 x.1.1)) (both_format about_format part_format) (of, (part, hint)) rest fits
body_again from (Raft (messages.Append term before commit round list)) rest fits = made_again (λ x. Raft (messages.Append x.0.0.0.0 x.0.0.0.1 x.0.0.1 x.0.1 x.1)) (both_format (both_format (both_format (both_format (number_format 8 wide8) mark_format) (number_format 8 wide8)) (number_format 8 wide8)) few_entries_format) ((((term, before), commit), round), list) rest ((((fits.0, fits.1.0), fits.1.1.0), fits.1.1.1.0), fits.1.1.1.1)
body_again from (Raft (messages.Appended term ok index round)) rest fits = made_again (λ x. Raft (messages.Appended x.0.0.0 x.0.0.1 x.0.1 x.1)) (both_format (both_format (both_format (number_format 8 wide8) flag_format) (number_format 8 wide8)) (number_format 8 wide8)) (((term, ok), index), round) rest (((fits.0, tt), fits.1.0), fits.1.1)
body_again from (Raft (messages.Vote term last)) rest fits = made_again (λ x. Raft (messages.Vote x.0 x.1)) (both_format (number_format 8 wide8) mark_format) (term, last) rest fits
body_again from (Raft (messages.Voted term granted)) rest fits = made_again (λ x. Raft (messages.Voted x.0 x.1)) (both_format (number_format 8 wide8) flag_format) (term, granted) rest (fits, tt)
body_again from (Raft (messages.TimeoutNow term)) rest fits = made_again (λ term. Raft (messages.TimeoutNow term)) (number_format 8 wide8) term rest fits
body_again from (Chain (says.Remote term v list)) rest fits = made_again (λ x. Chain (says.Remote x.0.0 x.0.1 x.1)) (both_format chain_format (halves_format Tagged)) ((term, v), list) rest fits
body_again from (Chain (says.Done term v)) rest fits = made_again (λ x. Chain (says.Done x.0 x.1)) chain_format (term, v) rest fits
body_again from (Chain (says.Stale term v kept)) rest fits = made_again (λ x. Chain (says.Stale x.0.0 x.0.1 x.1)) (both_format chain_format (number_format 8 wide8)) ((term, v), kept) rest fits
body_again from (Chain (says.Fence term v list)) rest fits = made_again (λ x. Chain (says.Fence x.0.0 x.0.1 x.1)) (both_format chain_format (edges_format Tagged)) ((term, v), list) rest fits
body_again from (Chain (says.Fenced term v applied)) rest fits = made_again (λ x. Chain (says.Fenced x.0.0 x.0.1 x.1)) (both_format chain_format flag_format) ((term, v), applied) rest (fits, tt)
body_again from (Chain (says.Resume term after)) rest fits = made_again (λ x. Chain (says.Resume x.0 x.1)) (both_format (number_format 8 wide8) behind_format) (term, after) rest fits

body_within : (from : Place) (kind : Kind) (bytes : List ℕ) → IsWithin (length bytes) (body_at from kind bytes)
unfolding body_at
body_within from Request bytes = made_within (λ x. Chain (says.Request x.0 x.1)) (request_format from) (length bytes) bytes (omega arith)
body_within from Answered bytes = made_within (λ x. Chain (says.Answer x.0 x.1)) (both_format (number_format 8 wide8) answer_format) (length bytes) bytes (omega arith)
body_within from NotLeader bytes = made_within (λ x. Chain (says.NotLeader x.0 x.1.0 x.1.1)) (both_format about_format part_format) (length bytes) bytes (omega arith)
body_within from Append bytes = made_within (λ x. Raft (messages.Append x.0.0.0.0 x.0.0.0.1 x.0.0.1 x.0.1 x.1)) (both_format (both_format (both_format (both_format (number_format 8 wide8) mark_format) (number_format 8 wide8)) (number_format 8 wide8)) few_entries_format) (length bytes) bytes (omega arith)
body_within from Appended bytes = made_within (λ x. Raft (messages.Appended x.0.0.0 x.0.0.1 x.0.1 x.1)) (both_format (both_format (both_format (number_format 8 wide8) flag_format) (number_format 8 wide8)) (number_format 8 wide8)) (length bytes) bytes (omega arith)
body_within from Vote bytes = made_within (λ x. Raft (messages.Vote x.0 x.1)) (both_format (number_format 8 wide8) mark_format) (length bytes) bytes (omega arith)
body_within from Voted bytes = made_within (λ x. Raft (messages.Voted x.0 x.1)) (both_format (number_format 8 wide8) flag_format) (length bytes) bytes (omega arith)
body_within from TimeoutNow bytes = made_within (λ term. Raft (messages.TimeoutNow term)) (number_format 8 wide8) (length bytes) bytes (omega arith)
body_within from Remote bytes = made_within (λ x. Chain (says.Remote x.0.0 x.0.1 x.1)) (both_format chain_format (halves_format Tagged)) (length bytes) bytes (omega arith)
body_within from Done bytes = made_within (λ x. Chain (says.Done x.0 x.1)) chain_format (length bytes) bytes (omega arith)
body_within from Stale bytes = made_within (λ x. Chain (says.Stale x.0.0 x.0.1 x.1)) (both_format chain_format (number_format 8 wide8)) (length bytes) bytes (omega arith)
body_within from Fence bytes = made_within (λ x. Chain (says.Fence x.0.0 x.0.1 x.1)) (both_format chain_format (edges_format Tagged)) (length bytes) bytes (omega arith)
body_within from Fenced bytes = made_within (λ x. Chain (says.Fenced x.0.0 x.0.1 x.1)) (both_format chain_format flag_format) (length bytes) bytes (omega arith)
body_within from Resume bytes = made_within (λ x. Chain (says.Resume x.0 x.1)) (both_format (number_format 8 wide8) behind_format) (length bytes) bytes (omega arith)

-- the fields of a packet, by its sender and its kind
pub body_format : (from : Place) (kind : Kind) → IsFormat (body_at from kind) body (FitsKind from kind)
body_format from kind = record {
  takes = body_takes from kind;
  again = λ said rest fits. subst (λ (k : Kind). body_at from k (body said ++ rest) ≡ Ok (said, rest)) fits.1 (body_again from said rest fits.0);
  within = body_within from kind;
}
