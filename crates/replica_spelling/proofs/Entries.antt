-- The entries of a replica's log behind a step fit their spellings, its configurations are ones, and its messages have spellings.
use Rattle.std.proofs.Common.{◌≡◌, ℕ, zero, suc, List, [], ◌∷◌, take, drop, Option, None, Some, Result, Ok, Err, Bool, true, false, refl, sym, ap, subst, ◌∙◌}
use Rattle.std.specs.Prelude.{◌==◌, nat_lt, ◌&&◌}
use Rattle.std.specs.List.{AllByRecursion}
use Rattle.std.proofs.lemmas.Bool.{cond_both}
use Rattle.std.proofs.lemmas.Option.{same_Some, none-some}
use Rattle.byte_fields.specs.declared.misfit.Misfit.{Misfit}
use Rattle.byte_fields.specs.Reading.{whole}
use Rattle.byte_fields.proofs.Steps.{IsBytes}
use Rattle.byte_fields.proofs.FieldLaws.{whole_takes}
use Rattle.raft_log.specs.declared.entry.Entry.{Entry}
use Rattle.raft_log.specs.declared.entry.Item.{Item}
use Rattle.raft_log.specs.declared.entry.Item.TheVariants.{NoOp, Members, Payload}
use Rattle.raft_log.specs.declared.mark.Mark.{Mark}
use Rattle.raft_log.specs.declared.message.RaftMsg.{RaftMsg}
use Rattle.raft_log.specs.declared.message.RaftMsg.TheVariants.{Append, Appended, Vote, Voted, TimeoutNow}
use Rattle.raft_log.specs.Config.{IsItem, AreEntries}
use Rattle.raft_log.specs.Log.{matches}
use Rattle.raft_log.proofs.PlaceLemmas.{all_of-take, config_kept}
use Rattle.member_change.specs.declared.change.Change.{Change}
use Rattle.member_change.specs.Permit.{Answer}
use Rattle.raft_core.specs.declared.input.RaftInput.{RaftInput}
use Rattle.raft_core.specs.declared.input.RaftInput.TheVariants.{Msg, Elect, Pulse, Propose, Transfer, Change as ChangeInput, Confirm}
use Rattle.raft_core.specs.Ahead.{IsMessage, IsInput}
use Rattle.raft_core.specs.Core.{Core, Made, Sends, is_leading, is_voter}
use Rattle.raft_core.specs.Votes.{term_in, past_terms, with_term, turned_down, grants, has_won, ruled, standing, asking, may_stand, stood, with_vote, counts}
use Rattle.raft_core.specs.Appends.{missing, is_out_of_order, taken, led}
use Rattle.raft_core.specs.Laws.{IsPeer, IsSentBy}
use Rattle.raft_core.specs.Members.{may_follow, permitted, changed_by, members_changed}
use Rattle.raft_core.specs.Rounds.{past_rounds}
use Rattle.raft_core.specs.Step.{handled, on_message, pulsed, made_of, stepped as raft_stepped}
use Rattle.raft_core.proofs.Behind.{behind_step}
use Rattle.raft_core.proofs.Keeping.{keeps_rules, led_keeps}
use Rattle.raft_core.proofs.Lawful.{are_messages}
use Rattle.raft_core.proofs.Lists.{all_both, all_weaker, all_through-map}
use Rattle.raft_core.proofs.StepLaws.{sends_its_log}
use Rattle.graph_bytes.specs.declared.id_form.IdForm.TheVariants.{Tagged}
use Rattle.part_keys.specs.declared.entry.PartEntry.{PartEntry}
use Rattle.part_keys.specs.declared.proposal.Proposal.{Proposal}
use Rattle.part_keys.specs.Fits.{Fits}
use Rattle.part_keys.specs.Spelled.{Spelling}
use Rattle.part_keys.specs.Spelling.{entry}
use Rattle.part_keys.specs.Reading.{entry_at}
use Rattle.part_keys.proofs.Deciding.{dec_entry}
use Rattle.part_keys.proofs.EntryFormats.{entry_format}
use Rattle.part_keys.specs.declared.vid_kind.VidKind.TheVariants.{Num}
use Rattle.replica_model.specs.Bytes.{bytes_where, what_fits, spelling_of}
use Rattle.replica_model.specs.Replica.{Home}
use Rattle.replica_model.specs.Spelling.{made_of as spelled_of, valued, value_of, values_of}
use Rattle.replica_model.proofs.StepLaws.{all_two}
use Rattle.packet_codec.specs.Fits.{HasSpellingMessage}
use Rattle.replica_spelling.specs.Parts.{FitsValue}
use Rattle.replica_spelling.specs.Spelled.{AreFitting, HasBytes, AreBytes, IsFittingMessage}

-- what is spelled fits
fits_where : (e : PartEntry) (is : Dec (Fits Tagged e)) (own bytes : List ℕ) → bytes_where is own ≡ Some bytes → Fits Tagged e
fits_where e (yes fits) own bytes is = fits
fits_where e (no none) own bytes is = absurd (none-some bytes is)

pub spelled_fits : (s : Spelling) → s ≡ spelling_of 2 → (e : PartEntry) (bytes : List ℕ) → s.spell e ≡ Some bytes → Fits Tagged e
spelled_fits s same e bytes is = fits_where e (dec_entry Tagged e) (entry Tagged e) bytes (sym (ap (λ (t : Spelling). t.spell e) same) ∙ is)

-- what was read of bytes fits
read_fits : (bytes : List ℕ) → IsBytes bytes → (o : Option PartEntry) → (spelling_of 2).read bytes ≡ o → FitsValue (spelled_of o)
read_fits bytes are None e = tt
read_fits bytes are (Some x) e = fits_read (whole (entry_at Tagged) bytes) refl e
  where
    fits_read : (r : Result PartEntry Misfit) → whole (entry_at Tagged) bytes ≡ r → what_fits r ≡ Some x → Fits Tagged x
    fits_read (Ok y) is same = subst (Fits Tagged) (same_Some y x same) (whole_takes (entry_at Tagged) (entry Tagged) (Fits Tagged) (entry_format Tagged).takes bytes y are is).1
    fits_read (Err misfit) is none = absurd (none-some x none)

item_fits : (s : Spelling) → s ≡ spelling_of 2 → (item : Item) → HasBytes item → FitsValue (value_of s item)
item_fits s same NoOp bytes = tt
item_fits s same (Members config) bytes = tt
item_fits s same (Payload payload) bytes = subst (λ (t : Spelling). FitsValue (spelled_of (t.read payload))) (sym same) (read_fits payload bytes ((spelling_of 2).read payload) refl)

pub bytes_fit : (home : Home) → home.spelling ≡ spelling_of 2 → (entries : List Entry) → AreBytes entries → AreFitting home entries
bytes_fit home same entries bytes = all_weaker (λ (e : Entry). HasBytes e.item) (λ (e : Entry). FitsValue (value_of home.spelling e.item)) (λ e are. item_fits home.spelling same e.item are) entries bytes

-- what entries that fit spell
pub values_fit : (home : Home) (entries : List Entry) → AreFitting home entries → AllByRecursion (λ (d : ℕ × Proposal). FitsValue d.1) (values_of home.spelling entries)
values_fit home entries fit = all_through-map (λ (e : Entry). FitsValue (value_of home.spelling e.item)) (λ (d : ℕ × Proposal). FitsValue d.1) (valued home.spelling) (λ e is. is) entries fit

all_of-drop : {A : Type 0} (P : A → Type 0) (n : ℕ) (xs : List A) → AllByRecursion P xs → AllByRecursion P (drop n xs)
all_of-drop P zero xs all = all
all_of-drop P (suc n) [] all = tt
all_of-drop P (suc n) (x ∷ xs) all = all_of-drop P n xs all.1

module _ (home : Home) where
  abbrev Fitting : Entry → Type 0
  Fitting e = FitsValue (value_of home.spelling e.item)

  -- what comes to the Raft step: entries that fit, and a payload that does
  abbrev pub IsFittingInput : RaftInput → Type 0
  IsFittingInput (Msg from message) = IsFittingMessage home message
  IsFittingInput (Propose bytes) = FitsValue (spelled_of (home.spelling.read bytes))
  IsFittingInput other = Unit {0}

  abbrev Puts : Made → Type 0
  Puts made = AreFitting home made.entries

  puts_ruled : (core : Core) (sends : Sends) (began : Bool) → Puts (ruled core sends began)
  puts_ruled core sends began = cond_both (has_won core) _ _ Puts (λ won. (tt, tt)) (λ lost. tt)

  puts_stood : (core : Core) → Puts (stood core)
  puts_stood core = cond_both (may_stand core) _ _ Puts (λ may. puts_ruled (standing core) (asking (standing core)) true) (λ not. tt)

  missing_fit : (own new : List Entry) → AreFitting home new → AreFitting home (missing own new)
  missing_fit [] new fit = fit
  missing_fit (e ∷ own) [] fit = tt
  missing_fit (e ∷ own) (other ∷ new) fit = cond_both (e.term == other.term) _ _ (AreFitting home) (λ same. missing_fit own new fit.1) (λ apart. fit)

  puts_taken : (core : Core) (from : ℕ) (previous : Mark) (commit round : ℕ) (entries : List Entry) → AreFitting home entries → Puts (taken core from previous commit round entries)
  puts_taken core from previous commit round entries fit = cond_both (is_out_of_order core previous entries) _ _ Puts
      (λ out. tt)
      (λ order. cond_both (matches core.log previous.index previous.term) _ _ Puts (λ is. missing_fit (drop previous.index core.log) entries fit) (λ not. tt))

  puts_handled : (core : Core) (from : ℕ) (message : RaftMsg) → IsFittingMessage home message → Puts (handled core from message)
  puts_handled core from (Append term previous commit round entries) fit = puts_taken core from previous commit round entries fit
  puts_handled core from (Appended term ok index round) fit = tt
  puts_handled core from (Vote term last) fit = cond_both (grants core from last) _ _ Puts (λ yes. tt) (λ no. tt)
  puts_handled core from (Voted term granted) fit = cond_both (counts core from granted) _ _ Puts (λ yes. puts_ruled (with_vote core from) [] false) (λ no. tt)
  puts_handled core from (TimeoutNow term) fit = puts_stood core

  puts_turned_down : (core : Core) (from : ℕ) (message : RaftMsg) → Puts (turned_down core from message)
  puts_turned_down core from (Append term previous commit round entries) = tt
  puts_turned_down core from (Appended term ok index round) = tt
  puts_turned_down core from (Vote term last) = tt
  puts_turned_down core from (Voted term granted) = tt
  puts_turned_down core from (TimeoutNow term) = tt

  puts_message : (core : Core) (from : ℕ) (message : RaftMsg) → IsFittingMessage home message → Puts (on_message core from message)
  puts_message core from message fit = cond_both (term_in message == past_terms) _ _ Puts
      (λ past. tt)
      (λ fits. cond_both (nat_lt (term_in message) core.term) _ _ Puts
      (λ old. puts_turned_down core from message)
      (λ new. cond_both (nat_lt core.term (term_in message)) _ _ (λ c. Puts (handled c from message))
      (λ above. puts_handled (with_term core (term_in message)) from message fit)
      (λ own. puts_handled core from message fit)))

  puts_pulsed : (core : Core) → Puts (pulsed core)
  puts_pulsed core = cond_both (is_leading core.role) _ _ Puts (λ leads. tt)
      (λ not. cond_both (core.heard && is_voter core) _ _ Puts (λ heard. tt) (λ quiet. puts_stood core))

  puts_changed : (core : Core) (change : Change) → Puts (members_changed core change)
  puts_changed core change = cond_both (is_leading core.role) _ _ Puts (λ leads. answered (permitted core change)) (λ not. tt)
    where
      answered : (answer : Answer) → Puts (changed_by core change answer)
      answered (Ok config) = (tt, tt)
      answered (Err refusal) = tt

  puts_rules : (core : Core) (i : RaftInput) → IsFittingInput i → Puts (made_of core i)
  puts_rules core (Msg from message) fit = puts_message core from message fit
  puts_rules core Elect fit = puts_stood core
  puts_rules core Pulse fit = puts_pulsed core
  puts_rules core (Propose bytes) fit = cond_both (is_leading core.role) _ _ Puts (λ leads. (fit, tt)) (λ not. tt)
  puts_rules core (Transfer peer) fit = cond_both (is_leading core.role && may_follow core peer) _ _ Puts (λ may. tt) (λ not. tt)
  puts_rules core (ChangeInput change) fit = puts_changed core change
  puts_rules core Confirm fit = cond_both (is_leading core.role && nat_lt core.round past_rounds) _ _ Puts (λ may. tt) (λ not. tt)

  module _ (core : Core) (i : RaftInput) (peer : IsPeer core) where
    -- what holds of each entry of the log, and of each one that is put, holds of the log behind
    behind_all : (P : Entry → Type 0) → AllByRecursion P core.log → AllByRecursion P (made_of core i).entries → AllByRecursion P (raft_stepped core i).core.log
    behind_all P before put =
        let made = led (made_of core i) in
        subst (AllByRecursion P) (sym (behind_step core i peer).kept)
        (all_both P (take made.keep core.log) made.entries (all_of-take P made.keep core.log before) (subst (AllByRecursion P) (sym (led_keeps (made_of core i)).1) put))

    pub items_behind : AreEntries core.log → IsInput i → AreEntries (raft_stepped core i).core.log
    items_behind items is = behind_all (λ (e : Entry). IsItem e.item) items (keeps_rules core i (config_kept core.log items) is).items

    pub entries_behind : AreFitting home core.log → IsFittingInput i → AreFitting home (raft_stepped core i).core.log
    entries_behind fit is = behind_all Fitting fit (puts_rules core i is)

    pub committed_fit : AreFitting home core.log → IsFittingInput i → AreFitting home (raft_stepped core i).committed
    committed_fit fit is =
        let behind = (raft_stepped core i).core in
        all_of-drop Fitting core.commit (take behind.commit behind.log) (all_of-take Fitting behind.commit behind.log (entries_behind fit is))

-- ---- messages

message_spelled : (core : Core) (message : RaftMsg) → IsSentBy core message → IsMessage message → HasSpellingMessage message
message_spelled core (Append term previous commit round entries) by is = (by.few, is)
message_spelled core (Appended term ok index round) by is = tt
message_spelled core (Vote term last) by is = tt
message_spelled core (Voted term granted) by is = tt
message_spelled core (TimeoutNow term) by is = tt

pub sends_spelled : (core : Core) (i : RaftInput) → IsPeer core → AreEntries core.log → IsInput i → AllByRecursion (λ (send : ℕ × RaftMsg). HasSpellingMessage send.1) (raft_stepped core i).sends
sends_spelled core i peer items is =
    let st = raft_stepped core i in
    let By : ℕ × RaftMsg → Type 0 = λ send. IsSentBy st.core send.1 in
    let Message : ℕ × RaftMsg → Type 0 = λ send. IsMessage send.1 in
    let sent = sends_its_log core i peer in
    all_weaker (λ send. By send × Message send) (λ send. HasSpellingMessage send.1) (λ send both. message_spelled st.core send.1 both.0 both.1) st.sends
    (all_two By Message st.sends sent (are_messages st (items_behind (record { part = 0; parts = 0; ids = Num; spelling = spelling_of 2 }) core i peer items is) sent))
