-- What was read of bytes has a spelling, and what entries it brings fit.
use Rattle.std.proofs.Common.{ℕ, List, [], ◌∷◌, ◌++◌, length, Option, None, Some, Bool, refl, subst}
use Rattle.std.specs.List.{flat_map}
use Rattle.std.proofs.lemmas.List.{take_at}
use Rattle.std.proofs.lemmas.List.Concat.{flat_map-cons}
use Rattle.byte_fields.specs.Fields.{number}
use Rattle.byte_fields.proofs.Steps.{IsBytes, IsBytes-take, IsBytes-rest}
use Rattle.raft_log.specs.declared.entry.Entry.{Entry}
use Rattle.raft_log.specs.declared.entry.Item.{Item}
use Rattle.raft_log.specs.declared.entry.Item.TheVariants.{NoOp, Members, Payload}
use Rattle.raft_log.specs.declared.message.RaftMsg.{RaftMsg}
use Rattle.raft_log.specs.declared.message.RaftMsg.TheVariants.{Append, Appended, Vote, Voted, TimeoutNow}
use Rattle.raft_log.specs.Config.{IsItem}
use Rattle.raft_core.proofs.Lists.{all_weaker}
use Rattle.wal_frames.specs.Spelling as frames
use Rattle.graph_bytes.specs.declared.id_form.IdForm.TheVariants.{Tagged}
use Rattle.graph_bytes.specs.Fits.{FitsEdge, FitsEdgeHalf, FitsFound, FitsFoundBy, HasSpellingEnds, HasSpellingEdgeHalf, HasSpellingFound, HasSpellingFoundBy}
use Rattle.graph_model.specs.declared.answer.Answer.{Answer}
use Rattle.graph_model.specs.declared.answer.Answer.TheVariants as answers
use Rattle.graph_model.specs.declared.edge_id.EdgeId.{EdgeId}
use Rattle.graph_model.specs.declared.found.Found.{Found}
use Rattle.chain_leader.specs.declared.body.ChainBody.{ChainBody}
use Rattle.chain_leader.specs.declared.body.ChainBody.TheVariants as says
use Rattle.replica_model.specs.declared.packet.Place.{Place}
use Rattle.replica_model.specs.declared.packet.Place.TheVariants as places
use Rattle.replica_model.specs.declared.packet.To.{To}
use Rattle.replica_model.specs.declared.packet.To.TheVariants as ends
use Rattle.replica_model.specs.declared.packet.Body.{Body}
use Rattle.replica_model.specs.declared.packet.Body.TheVariants as bodies
use Rattle.replica_model.specs.declared.packet.Packet.{Packet}
use Rattle.replica_model.specs.declared.input.Input.TheVariants as input
use Rattle.replica_model.specs.Replica.{Home}
use Rattle.packet_codec.specs.Fits.{FitsPlace, FitsEnd, FitsAnswer, FitsMessage, FitsSaid, FitsBody, Fits, HasSpellingPlace, HasSpellingEnd, HasSpellingAnswer, HasSpellingMessage, HasSpellingSaid, HasSpellingBody, HasSpelling}
use Rattle.packet_codec.specs.Kinds.{number_of, body_kind}
use Rattle.packet_codec.specs.Spelling as packets
use Rattle.replica_spelling.specs.Spelled.{IsHome, HasBytes, AreBytes, IsFittingBody, IsSpelledInput}
use Rattle.replica_spelling.proofs.Entries.{bytes_fit}
use Rattle.replica_spelling.proofs.Fitting.{row, edge, whole, ends_fit, edge_half, entry_spelled}

-- ---- what fits has a spelling

place_spelled : (p : Place) → FitsPlace p → HasSpellingPlace p
place_spelled (places.Client c) fits = fits
place_spelled (places.Peer part peer) fits = fits.0

end_spelled : (e : To) → FitsEnd e → HasSpellingEnd e
end_spelled (ends.Client c) fits = fits
end_spelled (ends.Peer part peer) fits = fits.0
end_spelled (ends.Part part try) fits = fits.0

found_by : (e : Option EdgeId) (inward : Bool) → FitsFoundBy Tagged e inward → HasSpellingFoundBy Tagged e inward
found_by None inward fits = fits
found_by (Some e) inward fits = edge e fits

found : (f : Found) → FitsFound Tagged f → HasSpellingFound Tagged f
found f fits = (found_by f.edge f.inward fits.0, row f.row fits.1)

answer_spelled : (a : Answer) → FitsAnswer a → HasSpellingAnswer a
answer_spelled answers.Fine fits = tt
answer_spelled answers.Skipped fits = tt
answer_spelled answers.Pending fits = tt
answer_spelled answers.Cancelled fits = tt
answer_spelled (answers.Conflict id) fits = fits.client
answer_spelled (answers.Shown rows) fits = all_weaker (FitsFound Tagged) (HasSpellingFound Tagged) found rows fits.1
answer_spelled answers.Unknown fits = fits

item_is : (i : Item) → frames.FitsItem i → IsItem i
item_is NoOp fits = tt
item_is (Members config) fits = fits.is
item_is (Payload bytes) fits = tt

message_spelled : (m : RaftMsg) → FitsMessage m → HasSpellingMessage m
message_spelled (Append term before commit round list) fits =
    (fits.1.1.1.1.0, all_weaker frames.FitsEntry (λ (e : Entry). IsItem e.item) (λ e is. item_is e.item is.item_fits) list fits.1.1.1.1.1.each)
message_spelled (Appended term ok index round) fits = tt
message_spelled (Vote term last) fits = tt
message_spelled (Voted term granted) fits = tt
message_spelled (TimeoutNow term) fits = tt

said_spelled : (from : Place) (s : ChainBody) → FitsSaid from s → HasSpellingSaid from s
said_spelled from (says.Request n made) fits = (fits.1.0, entry_spelled made fits.1.1)
said_spelled from (says.Answer n given) fits = answer_spelled given fits.1
said_spelled from (says.NotLeader of part hint) fits = fits.1.0
said_spelled from (says.Remote term v list) fits = all_weaker (FitsEdgeHalf Tagged) (HasSpellingEdgeHalf Tagged) (λ x is. edge_half x (whole x is)) list fits.1.each
said_spelled from (says.Done term v) fits = tt
said_spelled from (says.Stale term v kept) fits = tt
said_spelled from (says.Fence term v list) fits = all_weaker (FitsEdge Tagged) (HasSpellingEnds Tagged) ends_fit list fits.1.each
said_spelled from (says.Fenced term v applied) fits = tt
said_spelled from (says.Resume term after) fits = tt

body_spelled : (from : Place) (b : Body) → FitsBody from b → HasSpellingBody from b
body_spelled from (bodies.Raft m) fits = message_spelled m fits
body_spelled from (bodies.Chain s) fits = said_spelled from s fits

packet_spelled : (p : Packet) → Fits p → HasSpelling p
packet_spelled p fits = record { from = place_spelled p.from fits.from; to = end_spelled p.to fits.to; body = body_spelled p.from p.body fits.body }

-- ---- the payloads in bytes are bytes

front : (xs ys : List ℕ) → IsBytes (xs ++ ys) → IsBytes xs
front xs ys are = subst IsBytes (take_at xs ys (length xs) refl) (IsBytes-take (length xs) (xs ++ ys) are)

behind : (xs ys : List ℕ) → IsBytes (xs ++ ys) → IsBytes ys
behind [] ys are = are
behind (x ∷ xs) ys are = behind xs ys (IsBytes-rest x (xs ++ ys) are)

item_bytes : (i : Item) → IsBytes (frames.item i) → HasBytes i
item_bytes NoOp are = tt
item_bytes (Members config) are = tt
item_bytes (Payload bytes) are = IsBytes-rest 2 bytes are

entry_bytes : (e : Entry) → IsBytes (frames.entry e) → HasBytes e.item
entry_bytes e are = item_bytes e.item (behind (number 8 e.term ++ number 4 (length (frames.item e.item))) (frames.item e.item) are)

each_bytes : (es : List Entry) → IsBytes (flat_map frames.entry es) → AreBytes es
each_bytes [] are = tt
each_bytes (e ∷ es) are =
    let both = subst IsBytes (flat_map-cons frames.entry e es) are in
    (entry_bytes e (front (frames.entry e) (flat_map frames.entry es) both), each_bytes es (behind (frames.entry e) (flat_map frames.entry es) both))

entries_bytes : (es : List Entry) → IsBytes (frames.entries es) → AreBytes es
entries_bytes es are = each_bytes es (behind (number 4 (length es)) (flat_map frames.entry es) are)

module _ (home : Home) (at : IsHome home) where
  body_fits : (b : Body) → IsBytes (packets.body b) → IsFittingBody home b
  body_fits (bodies.Raft (Append term before commit round list)) are =
      bytes_fit home at.spelling list (entries_bytes list (behind (number 8 term ++ packets.mark before ++ number 8 commit ++ number 8 round) (frames.entries list) are))
  body_fits (bodies.Raft (Appended term ok index round)) are = tt
  body_fits (bodies.Raft (Vote term last)) are = tt
  body_fits (bodies.Raft (Voted term granted)) are = tt
  body_fits (bodies.Raft (TimeoutNow term)) are = tt
  body_fits (bodies.Chain s) are = tt

  pub read_spelled : (p : Packet) → Fits p → IsBytes (packets.packet p) → IsSpelledInput home (input.Sent p)
  read_spelled p fits are =
      let rest = packets.place p.from ++ packets.end p.to ++ packets.body p.body in
      (packet_spelled p fits, body_fits p.body (behind (packets.place p.from ++ packets.end p.to) (packets.body p.body) (IsBytes-rest (number_of (body_kind p.body)) rest are)))
