-- A letter whose parts have spellings leaves as a packet that has one.
use Rattle.std.proofs.Common.{◌≡◌, ℕ, List, Option, None, Some, subst}
use Rattle.std.specs.Prelude.{◌==◌}
use Rattle.std.specs.List.{AllByRecursion}
use Rattle.std.specs.Option.{option_map}
use Rattle.std.proofs.lemmas.Bool.{cond_both}
use Rattle.std.proofs.lemmas.Option.{same_Some, none-some}
use Rattle.graph_bytes.specs.declared.id_form.IdForm.TheVariants.{Tagged}
use Rattle.graph_bytes.specs.Fits.{IsSmall}
use Rattle.graph_model.specs.declared.answer.Answer.{Answer}
use Rattle.graph_model.specs.declared.answer.Answer.TheVariants as answer
use Rattle.graph_model.specs.declared.call_id.CallId.{CallId}
use Rattle.part_keys.specs.declared.entry.PartEntry.{PartEntry}
use Rattle.part_keys.specs.declared.entry.PartEntry.TheVariants as entry
use Rattle.part_keys.specs.Fits.{Fits}
use Rattle.part_rules.specs.declared.kept.Outcome.{Outcome}
use Rattle.part_rules.specs.declared.kept.Outcome.TheVariants as kept
use Rattle.part_rules.specs.declared.applied.Applied.{Applied}
use Rattle.part_rules.specs.declared.applied.Applied.TheVariants.{Again, Conflict, Skipped, Settled, Doubled, Closed, Aborted, Stale, Done, Fenced, Finished}
use Rattle.chain_leader.specs.declared.body.ChainBody.{ChainBody}
use Rattle.chain_leader.specs.declared.letter.Letter.{Letter}
use Rattle.chain_leader.specs.declared.letter.Letter.TheVariants.{Tell, Cross, Back, Again as AgainTo}
use Rattle.chain_leader.specs.Calls.{call_in, kept_answer, answer_of}
use Rattle.chain_leader.specs.Leading.{told, reply_to, back_of}
use Rattle.replica_model.specs.declared.packet.Place.{Place}
use Rattle.replica_model.specs.declared.packet.Place.TheVariants as place
use Rattle.replica_model.specs.declared.packet.Packet.{Packet}
use Rattle.replica_model.specs.Letters.{to_place, to_part, chain_of, back_to, addressed, packets_of}
use Rattle.packet_codec.specs.Fits.{HasSpellingPlace, HasSpellingEnd, HasSpellingAnswer, HasSpellingSaid, HasSpelling}
use Rattle.raft_core.proofs.Lists.{all_of-filter_map}
use Rattle.replica_spelling.specs.Parts.{HasSpellingOutcome}
use Rattle.replica_spelling.proofs.Parts.{IsSpelledSaid}

-- a place that a packet came from is one that it may go to
pub back_spelled : (from : Place) → HasSpellingPlace from → HasSpellingEnd (to_place from)
back_spelled (place.Client c) is = is
back_spelled (place.Peer p y) is = is

abbrev pub IsSpelledSender : Option Place → Type 0
IsSpelledSender None = Unit {0}
IsSpelledSender (Some sender) = HasSpellingPlace sender

module _ (part me : ℕ) where
  abbrev pub IsSpelledLetter : Letter → Type 0
  IsSpelledLetter (Tell id a) = IsSmall id.client × HasSpellingAnswer a
  IsSpelledLetter (Cross q tries said) = IsSmall q × HasSpellingSaid (place.Peer part me) said
  IsSpelledLetter (Back said) = HasSpellingSaid (place.Peer part me) said
  IsSpelledLetter (AgainTo after) = Unit {0}

  abbrev pub AreSpelledLetters : List Letter → Type 0
  AreSpelledLetters letters = AllByRecursion IsSpelledLetter letters

  module _ (small : IsSmall part) (term : ℕ) (hints : ℕ → ℕ) where
    part_spelled : (q tries hint : ℕ) → IsSmall q → HasSpellingEnd (to_part q tries hint)
    part_spelled q tries hint is = cond_both (hint == 0) _ _ HasSpellingEnd (λ _. is) (λ _. is)

    back_packet : (sender : Option Place) (said : ChainBody) (packet : Packet) → IsSpelledSender sender → HasSpellingSaid (place.Peer part me) said → back_to part me sender said ≡ Some packet → HasSpelling packet
    back_packet None said packet from is e = absurd (none-some packet e)
    back_packet (Some sender) said packet from is e = subst HasSpelling (same_Some _ packet e) (record { from = small; to = back_spelled sender from; body = is })

    letter_packet : (sender : Option Place) → IsSpelledSender sender → (letter : Letter) (packet : Packet) → IsSpelledLetter letter → addressed part me term hints sender letter ≡ Some packet → HasSpelling packet
    letter_packet sender from (Tell id a) packet is e = subst HasSpelling (same_Some _ packet e) (record { from = small; to = is.0; body = is.1 })
    letter_packet sender from (Cross q tries said) packet is e = subst HasSpelling (same_Some _ packet e) (record { from = small; to = part_spelled q tries (hints (chain_of said)) is.0; body = is.1 })
    letter_packet sender from (Back said) packet is e = back_packet sender said packet from is e
    letter_packet sender from (AgainTo after) packet is e = subst HasSpelling (same_Some _ packet e) (record { from = small; to = small; body = tt })

    pub packets_spelled : (sender : Option Place) → IsSpelledSender sender → (letters : List Letter) → AreSpelledLetters letters → AllByRecursion HasSpelling (packets_of part me term hints sender letters)
    packets_spelled sender from letters are = all_of-filter_map IsSpelledLetter HasSpelling (addressed part me term hints sender) (letter_packet sender from) letters are

  -- ---- what an entry is answered

  abbrev CallIsSmall : Option CallId → Type 0
  CallIsSmall None = Unit {0}
  CallIsSmall (Some id) = IsSmall id.client

  call_small : (x : PartEntry) → Fits Tagged x → CallIsSmall (call_in x)
  call_small (entry.Prime id list absent) fits = fits.0.client
  call_small (entry.Vertex id op) fits = fits.0.client
  call_small (entry.Read id query) fits = fits.0.client
  call_small other fits = tt

  abbrev IsSpelledAnswer : Option (CallId × Answer) → Type 0
  IsSpelledAnswer None = Unit {0}
  IsSpelledAnswer (Some a) = IsSmall a.0.client × HasSpellingAnswer a.1

  to_call : (o : Option CallId) (a : Answer) → CallIsSmall o → HasSpellingAnswer a → IsSpelledAnswer (option_map (λ id. (id, a)) o)
  to_call None a small is = tt
  to_call (Some id) a small is = (small, is)

  kept_spelled : (x : PartEntry) (outcome : Outcome) → CallIsSmall (call_in x) → HasSpellingOutcome outcome → IsSpelledAnswer (kept_answer x outcome)
  kept_spelled x kept.Open small is = tt
  kept_spelled x kept.Fine small is = to_call (call_in x) answer.Fine small tt
  kept_spelled x kept.Skipped small is = to_call (call_in x) answer.Skipped small tt
  kept_spelled x kept.Pending small is = to_call (call_in x) answer.Pending small tt
  kept_spelled x kept.Cancelled small is = to_call (call_in x) answer.Cancelled small tt
  kept_spelled x (kept.Conflict other) small is = to_call (call_in x) (answer.Conflict other) small is

  answer_spelled : (x : PartEntry) (said : Applied) → CallIsSmall (call_in x) → IsSpelledSaid said → IsSpelledAnswer (answer_of x said)
  answer_spelled x (Again outcome) small is = kept_spelled x outcome small is
  answer_spelled x (Conflict chain) small is = to_call (call_in x) (answer.Conflict chain) small is
  answer_spelled x Skipped small is = to_call (call_in x) answer.Skipped small tt
  answer_spelled x (Settled id) small is = (is, tt)
  answer_spelled x (Doubled id) small is = (is, tt)
  answer_spelled x (Closed id) small is = (is, tt)
  answer_spelled x (Aborted id) small is = (is, tt)
  answer_spelled x (Finished id) small is = (is, tt)
  answer_spelled x other small is = tt

  told_answer : (o : Option (CallId × Answer)) → IsSpelledAnswer o → AreSpelledLetters (told o)
  told_answer None is = tt
  told_answer (Some a) is = (is, tt)

  pub told_spelled : (x : PartEntry) (said : Applied) → Fits Tagged x → IsSpelledSaid said → AreSpelledLetters (told (answer_of x said))
  told_spelled x said fits is = told_answer (answer_of x said) (answer_spelled x said (call_small x fits) is)

  reply_spelled : (t v : ℕ) (said : Applied) → AreSpelledLetters (reply_to t v said)
  reply_spelled t v Done = (tt, tt)
  reply_spelled t v (Stale above) = (tt, tt)
  reply_spelled t v (Fenced written) = (tt, tt)
  reply_spelled t v other = tt

  pub back_of_spelled : (x : PartEntry) (said : Applied) → AreSpelledLetters (back_of x said)
  back_of_spelled (entry.Remote from t v list) said = reply_spelled t v said
  back_of_spelled (entry.Fence from t v edges) said = reply_spelled t v said
  back_of_spelled other said = tt
