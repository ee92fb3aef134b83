-- Reading packets from left to right. The place of a misfit is the first byte of the first field that doesn't fit: a kind that
-- is none; a number or a flag that is cut short; a client or a part that isn't 1 to 64; in the entry of a Request a kind that isn't
-- asked for, a client that isn't the sender, a number that isn't the packet's; a count above 64; a field of an entry or of an item.
use Rattle.std.specs.Prelude.{ℕ, List, Result, Ok, Err, Option, None, Some, nat_le, Bool, ◌==◌, ◌||◌, if◌then◌else◌}
use Rattle.byte_fields.specs.declared.misfit.Misfit.{Misfit}
use Rattle.byte_fields.specs.Reading.{◌>>=◌, misfit, byte_at, number_at, flag_at, many_at, both_at, made_at, such_at, counted_at}
use Rattle.graph_bytes.specs.declared.id_form.IdForm.TheVariants.{Tagged}
use Rattle.graph_bytes.specs.Reading.{small_at, call_at, edges_at, halves_at, view_at}
use Rattle.part_keys.specs.EntryKinds.{prime_entry, vertex_entry, read_entry}
use Rattle.part_keys.specs.Reading as entries
use Rattle.part_keys.specs.declared.entry.PartEntry.{PartEntry}
use Rattle.raft_core.specs.Appends.{most_entries}
use Rattle.wal_frames.specs.Reading.{entry_at}
use Rattle.graph_model.specs.declared.answer.Answer.{Answer}
use Rattle.graph_model.specs.declared.answer.Answer.TheVariants as answers
use Rattle.chain_leader.specs.declared.body.About.{About}
use Rattle.chain_leader.specs.declared.body.About.TheVariants as abouts
use Rattle.chain_leader.specs.declared.body.ChainBody.TheVariants as says
use Rattle.raft_log.specs.declared.entry.Entry.{Entry}
use Rattle.raft_log.specs.declared.mark.Mark.{Mark}
use Rattle.raft_log.specs.declared.message.RaftMsg.TheVariants as messages
use Rattle.replica_model.specs.declared.packet.Place.{Place}
use Rattle.replica_model.specs.declared.packet.Place.TheVariants as places
use Rattle.replica_model.specs.declared.packet.To.{To}
use Rattle.replica_model.specs.declared.packet.To.TheVariants as ends
use Rattle.replica_model.specs.declared.packet.Body.{Body}
use Rattle.replica_model.specs.declared.packet.Body.TheVariants.{Raft, Chain}
use Rattle.replica_model.specs.declared.packet.Packet.{Packet}
use Rattle.packet_codec.specs.declared.kind.Kind.{Kind}
use Rattle.packet_codec.specs.declared.kind.Kind.TheVariants.{Request, Answer as Answered, NotLeader, Append, Appended, Vote, Voted, TimeoutNow, Remote, Done, Stale, Fence, Fenced, Resume}
use Rattle.packet_codec.specs.declared.refused.PacketRefused.{PacketRefused}
use Rattle.packet_codec.specs.declared.refused.PacketRefused.TheVariants as refusals
use Rattle.packet_codec.specs.Kinds.{kind_of, client_end, peer_end, part_end, fine_answer, skipped_answer, pending_answer, cancelled_answer, conflict_answer, shown_answer, about_call, about_chain, from_start, behind_chain}
use Rattle.packet_codec.specs.Fits.{is_sender}

-- this kind, and the bytes after it; where there is none, these bytes don't fit
abbrev pub known_kind : Option Kind → List ℕ → List ℕ → Result (Kind × List ℕ) Misfit
known_kind (Some kind) rest bytes = Ok (kind, rest)
known_kind None rest bytes = Err (misfit bytes)

-- the kind of a packet
unfoldable pub kind_at : List ℕ → Result (Kind × List ℕ) Misfit
kind_at bytes = byte_at bytes >>= λ first. known_kind (kind_of first.0) first.1 bytes

-- a part, and a number of 4 bytes
unfoldable pub part_at : List ℕ → Result ((ℕ × ℕ) × List ℕ) Misfit
part_at bytes = both_at small_at (number_at 4) bytes

-- who sends
unfoldable pub place_at : List ℕ → Result (Place × List ℕ) Misfit
place_at bytes = byte_at bytes >>= λ kind.
    if kind.0 == client_end then made_at (λ n. places.Client n) small_at kind.1
    else if kind.0 == peer_end then made_at (λ x. places.Peer x.0 x.1) part_at kind.1
    else Err (misfit bytes)

-- to whom
unfoldable pub end_at : List ℕ → Result (To × List ℕ) Misfit
end_at bytes = byte_at bytes >>= λ kind.
    if kind.0 == client_end then made_at (λ n. ends.Client n) small_at kind.1
    else if kind.0 == peer_end then made_at (λ x. ends.Peer x.0 x.1) part_at kind.1
    else if kind.0 == part_end then made_at (λ x. ends.Part x.0 x.1) part_at kind.1
    else Err (misfit bytes)

-- the kind of an answer, and what it tells
unfoldable pub answer_at : List ℕ → Result (Answer × List ℕ) Misfit
answer_at bytes = byte_at bytes >>= λ kind.
    if kind.0 == fine_answer then Ok (answers.Fine, kind.1)
    else if kind.0 == skipped_answer then Ok (answers.Skipped, kind.1)
    else if kind.0 == pending_answer then Ok (answers.Pending, kind.1)
    else if kind.0 == cancelled_answer then Ok (answers.Cancelled, kind.1)
    else if kind.0 == conflict_answer then made_at (λ id. answers.Conflict id) call_at kind.1
    else if kind.0 == shown_answer then made_at (λ rows. answers.Shown rows) (view_at Tagged) kind.1
    else Err (misfit bytes)

-- what a NotLeader is about
unfoldable pub about_at : List ℕ → Result (About × List ℕ) Misfit
about_at bytes = byte_at bytes >>= λ kind.
    if kind.0 == about_call then made_at (λ n. abouts.Call n) (number_at 8) kind.1
    else if kind.0 == about_chain then made_at (λ v. abouts.Chain v) (number_at 8) kind.1
    else Err (misfit bytes)

-- where a Resume goes on
unfoldable pub behind_at : List ℕ → Result (Option ℕ × List ℕ) Misfit
behind_at bytes = byte_at bytes >>= λ kind.
    if kind.0 == from_start then Ok (None, kind.1)
    else if kind.0 == behind_chain then made_at (λ v. Some v) (number_at 8) kind.1
    else Err (misfit bytes)

-- a place in a log: index, term
unfoldable pub mark_at : List ℕ → Result (Mark × List ℕ) Misfit
mark_at bytes = made_at (λ x. record { index = x.0; term = x.1 }) (both_at (number_at 8) (number_at 8)) bytes

-- a count of entries, at most 64
unfoldable pub few_at : List ℕ → Result (ℕ × List ℕ) Misfit
few_at bytes = such_at (λ n. nat_le n most_entries) (number_at 4) bytes

-- at most 64 entries behind their count
unfoldable pub few_entries_at : List ℕ → Result (List Entry × List ℕ) Misfit
few_entries_at bytes = counted_at few_at (many_at entry_at) bytes

-- the kind of an entry that is asked for
abbrev pub is_asked_kind : ℕ → Bool
is_asked_kind kind = (kind == prime_entry) || (kind == vertex_entry) || (kind == read_entry)

-- what such an entry begins with: its kind, the client that sends it, the packet's number
unfoldable pub asked_front_at : Place → ℕ → List ℕ → Result (((ℕ × ℕ) × ℕ) × List ℕ) Misfit
asked_front_at from n bytes = both_at (both_at (such_at is_asked_kind byte_at) (such_at (is_sender from) (number_at 4))) (such_at (λ m. m == n) (number_at 8)) bytes

-- The entry that the sender asks for by this number: what it begins with is judged first, and then the entry is read as a whole.
unfoldable pub asked_at : Place → ℕ → List ℕ → Result (PartEntry × List ℕ) Misfit
asked_at from n bytes = asked_front_at from n bytes >>= λ front. entries.entry_at Tagged bytes

-- a number and its entry
unfoldable pub request_at : Place → List ℕ → Result ((ℕ × PartEntry) × List ℕ) Misfit
request_at from bytes = counted_at (number_at 8) (λ n rest. made_at (λ made. (n, made)) (asked_at from n) rest) bytes

-- a term, and a chain
unfoldable pub chain_at : List ℕ → Result ((ℕ × ℕ) × List ℕ) Misfit
chain_at bytes = both_at (number_at 8) (number_at 8) bytes

-- the fields of a packet, by its sender and its kind
unfoldable pub body_at : Place → Kind → List ℕ → Result (Body × List ℕ) Misfit
body_at from Request bytes = made_at (λ x. Chain (says.Request x.0 x.1)) (request_at from) bytes
body_at from Answered bytes = made_at (λ x. Chain (says.Answer x.0 x.1)) (both_at (number_at 8) answer_at) bytes
body_at from NotLeader bytes = made_at (λ x. Chain (says.NotLeader x.0 x.1.0 x.1.1)) (both_at about_at part_at) bytes
body_at from Append bytes = made_at (λ x. Raft (messages.Append x.0.0.0.0 x.0.0.0.1 x.0.0.1 x.0.1 x.1)) (both_at (both_at (both_at (both_at (number_at 8) mark_at) (number_at 8)) (number_at 8)) few_entries_at) bytes
body_at from Appended bytes = made_at (λ x. Raft (messages.Appended x.0.0.0 x.0.0.1 x.0.1 x.1)) (both_at (both_at (both_at (number_at 8) flag_at) (number_at 8)) (number_at 8)) bytes
body_at from Vote bytes = made_at (λ x. Raft (messages.Vote x.0 x.1)) (both_at (number_at 8) mark_at) bytes
body_at from Voted bytes = made_at (λ x. Raft (messages.Voted x.0 x.1)) (both_at (number_at 8) flag_at) bytes
body_at from TimeoutNow bytes = made_at (λ term. Raft (messages.TimeoutNow term)) (number_at 8) bytes
body_at from Remote bytes = made_at (λ x. Chain (says.Remote x.0.0 x.0.1 x.1)) (both_at chain_at (halves_at Tagged)) bytes
body_at from Done bytes = made_at (λ x. Chain (says.Done x.0 x.1)) chain_at bytes
body_at from Stale bytes = made_at (λ x. Chain (says.Stale x.0.0 x.0.1 x.1)) (both_at chain_at (number_at 8)) bytes
body_at from Fence bytes = made_at (λ x. Chain (says.Fence x.0.0 x.0.1 x.1)) (both_at chain_at (edges_at Tagged)) bytes
body_at from Fenced bytes = made_at (λ x. Chain (says.Fenced x.0.0 x.0.1 x.1)) (both_at chain_at flag_at) bytes
body_at from Resume bytes = made_at (λ x. Chain (says.Resume x.0 x.1)) (both_at (number_at 8) behind_at) bytes

-- the kind of a packet, who sends it, and to whom
unfoldable pub head_at : List ℕ → Result (((Kind × Place) × To) × List ℕ) Misfit
head_at bytes = both_at (both_at kind_at place_at) end_at bytes

-- a packet with this head
abbrev pub packet_with : ((Kind × Place) × To) → Body → Packet
packet_with head said = record { from = head.0.1; to = head.1; body = said }

-- a packet
unfoldable pub packet_at : List ℕ → Result (Packet × List ℕ) Misfit
packet_at bytes = counted_at head_at (λ head rest. made_at (packet_with head) (body_at head.0.1 head.0.0) rest) bytes

-- where a packet was refused, if that wasn't for want of memory
abbrev pub place : PacketRefused → Option ℕ
place (refusals.BadPacket at) = Some at
place refusals.NoMemory = None
