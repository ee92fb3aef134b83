-- What a leader's letters are: those of the rules are of chains or further Resumes, and those that answer entries tell no view.
use Rattle.std.proofs.Common.{◌≡◌, ℕ, suc, List, [], ◌∷◌, take, drop, length, Option, Some, None, Bool, true, false, refl, ap, sym, subst, ◌∙◌}
use Rattle.std.specs.Prelude.{◌==◌, ◌&&◌, nat_lt, not, if◌then◌else◌}
use Rattle.std.specs.Option.{option_map}
use Rattle.std.specs.List.{AllByRecursion}
use Rattle.std.specs.FinMap.{get}
use Rattle.std.proofs.lemmas.Bool.{cond_both, false≢true}
use Rattle.std.proofs.lemmas.Option.{same_Some, none-some}
use Rattle.raft_core.proofs.Lists.{all_both, all_weaker, all_of-map, all_of-filter_map}
use Rattle.graph_model.specs.declared.answer.Answer.{Answer}
use Rattle.graph_model.specs.declared.answer.Answer.TheVariants as answer
use Rattle.graph_model.specs.declared.call_id.CallId.{CallId}
use Rattle.part_keys.specs.declared.chain.PrimeRec.{PrimeRec}
use Rattle.part_keys.specs.declared.chain.ChainState.{ChainState}
use Rattle.part_keys.specs.declared.chain.ChainMsg.{ChainMsg}
use Rattle.part_keys.specs.declared.chain.ChainMsg.TheVariants as send
use Rattle.part_keys.specs.declared.chain.Policy.{Policy}
use Rattle.part_keys.specs.declared.entry.PartEntry.{PartEntry}
use Rattle.part_keys.specs.declared.entry.PartEntry.TheVariants as entry
use Rattle.part_keys.specs.declared.proposal.Proposal.{Proposal}
use Rattle.part_keys.specs.declared.proposal.Proposal.TheVariants.{Start, Members, Made, Blank}
use Rattle.part_keys.specs.declared.vid_kind.VidKind.{VidKind}
use Rattle.part_keys.specs.Routing.{is_payload}
use Rattle.part_rules.specs.declared.kept.Outcome.{Outcome}
use Rattle.part_rules.specs.declared.kept.Outcome.TheVariants as kept
use Rattle.part_rules.specs.declared.applied.Applied.{Applied}
use Rattle.part_rules.specs.declared.applied.Applied.TheVariants.{Again, Conflict, Skipped, Begun, Settled, Doubled, Closed, Aborted, Stale, Done, Fenced, Finished}
use Rattle.part_rules.specs.Part.{Part}
use Rattle.part_rules.specs.View.{at_once}
use Rattle.part_rules.specs.Machine.{applied}
use Rattle.part_rules.specs.Folded.{item_applied}
use Rattle.chain_leader.specs.declared.body.ChainBody.{ChainBody}
use Rattle.chain_leader.specs.declared.body.ChainBody.TheVariants as says
use Rattle.chain_leader.specs.declared.letter.Letter.{Letter}
use Rattle.chain_leader.specs.declared.letter.Letter.TheVariants.{Tell, Cross, Back, Again as AgainTo}
use Rattle.chain_leader.specs.Calls.{is_write, call_in, kept_answer, answer_of}
use Rattle.chain_leader.specs.Rules.{Table, on_primed, resume}
use Rattle.chain_leader.specs.Leading.{Leading, Taken, proposing, number_in, sends_by, sends, standing_behind, resumes_all, onward, taken, told, reply_to, back_of, chain_in, forgetting, begins, ruled_by, started, on_item, on_item_by, given_up}
use Rattle.replica_model.specs.declared.packet.Place.{Place}
use Rattle.replica_model.specs.declared.packet.Packet.{Packet}
use Rattle.replica_model.specs.declared.input.Input.{Input}
use Rattle.replica_model.specs.declared.input.Input.TheVariants as input
use Rattle.replica_model.specs.declared.input.Tick.TheVariants as tick
use Rattle.replica_model.specs.Replica.{Home}
use Rattle.replica_model.specs.Letters.{is_about, addressed, packets_of, Worked, works}
use Rattle.replica_model.specs.Stepped.{again_of}
use Rattle.replica_model.specs.Laws.{is_view, tells, tells_view, writes_of, is_of_chain}

-- a letter of the rules is a chain's, or a further Resume
abbrev pub is_rules : Letter → Bool
is_rules (Cross q tries said) = not (tells said)
is_rules (AgainTo after) = true
is_rules (Tell id a) = false
is_rules (Back said) = false

abbrev pub IsOfRules : Letter → Type 0
IsOfRules letter = is_rules letter ≡ true

abbrev pub OfRules : List Letter → Type 0
OfRules letters = AllByRecursion IsOfRules letters

-- a letter that answers an entry tells its client no view, and a sender of a Remote or Fence nothing else than what became of it
abbrev pub is_back : ChainBody → Bool
is_back (says.Done term v) = true
is_back (says.Stale term v above) = true
is_back (says.Fenced term v written) = true
is_back other = false

abbrev pub is_reply : Letter → Bool
is_reply (Tell id a) = not (is_view a)
is_reply (Back said) = is_back said
is_reply (Cross q tries said) = false
is_reply (AgainTo after) = false

abbrev pub IsReply : Letter → Type 0
IsReply letter = is_reply letter ≡ true

abbrev pub AreReplies : List Letter → Type 0
AreReplies letters = AllByRecursion IsReply letters

-- the rules
by_sends : (term : ℕ) (t : Table) (m : ChainMsg) (o : Option ChainState) → OfRules (sends_by term t m o).letters
by_sends term t m None = tt
by_sends term t (send.Remote v) (Some chain) = (refl, tt)
by_sends term t (send.Fence v) (Some chain) = (refl, tt)

of_sends : (term : ℕ) (made : Table × ChainMsg) → OfRules (sends term made).letters
of_sends term made = by_sends term made.0 made.1 (get made.0 (number_in made.1))

of_resumes : (term : ℕ) (policy : Policy) (chains : List (ℕ × PrimeRec)) (t : Table) → OfRules (resumes_all term policy chains t).letters
of_resumes term policy [] t = tt
of_resumes term policy (c ∷ chains) t =
    let first = sends term (resume t c.1 policy) in
    all_both IsOfRules first.letters (resumes_all term policy chains first.table).letters (of_sends term (resume t c.1 policy)) (of_resumes term policy chains first.table)

of_onward : (chains : List (ℕ × PrimeRec)) → OfRules (onward chains)
of_onward chains =
    cond_both (nat_lt at_once (length chains)) _ _ OfRules
    (λ _. all_of-map IsOfRules (λ c. AgainTo (Some c.0)) (λ c. refl) (take 1 (drop 63 chains)))
    (λ _. tt)

abbrev OfTaken : Taken → Type 0
OfTaken made = OfRules made.letters

of_proposing : (ids : VidKind) (parts part : ℕ) (l : Leading) (x : PartEntry) → OfTaken (proposing ids parts part l x)
of_proposing ids parts part l x = cond_both (is_payload ids parts part x) _ _ OfTaken (λ _. tt) (λ _. tt)

pub of_taken : (ids : VidKind) (parts part term : ℕ) (machine : Part) (l : Leading) (said : ChainBody) (from : ℕ) → OfRules (taken ids parts part term machine l said from).letters
of_taken ids parts part term machine l (says.Request number x) from = cond_both (is_write x) _ _ OfTaken (λ _. of_proposing ids parts part l x) (λ _. tt)
of_taken ids parts part term machine l (says.Answer number a) from = tt
of_taken ids parts part term machine l (says.NotLeader other p hint) from = tt
of_taken ids parts part term machine l (says.Remote t v list) from = of_proposing ids parts part l (entry.Remote from t v list)
of_taken ids parts part term machine l (says.Done t v) from = cond_both (l.ready && (t == term)) _ _ OfTaken (λ _. tt) (λ _. tt)
of_taken ids parts part term machine l (says.Stale t v above) from = tt
of_taken ids parts part term machine l (says.Fence t v edges) from = of_proposing ids parts part l (entry.Fence from t v edges)
of_taken ids parts part term machine l (says.Fenced t v written) from = cond_both (l.ready && (t == term)) _ _ OfTaken (λ _. tt) (λ _. tt)
of_taken ids parts part term machine l (says.Resume t after) from =
    let chains = standing_behind machine after in
    cond_both (l.ready && (t == term)) _ _ OfTaken
    (λ _. all_both IsOfRules (resumes_all term l.policy (take at_once chains) l.table).letters (onward chains) (of_resumes term l.policy (take at_once chains) l.table) (of_onward chains))
    (λ _. tt)

pub of_given_up : (l : Leading) (id : CallId) → OfRules (given_up l id).letters
of_given_up l id = cond_both l.ready _ _ OfTaken (λ _. tt) (λ _. tt)

of_begins : (term : ℕ) (t : Table) (o : Option PrimeRec) → OfRules (begins term t o).letters
of_begins term t None = tt
of_begins term t (Some rec) = of_sends term (on_primed t rec)

of_ruled : (ready : Bool) (term : ℕ) (t : Table) (behind : Part) (said : Applied) → OfRules (ruled_by ready term t behind said).letters
of_ruled true term t behind (Begun v) = of_begins term t (get behind.chains v)
of_ruled false term t behind (Begun v) = tt
of_ruled true term t behind other = tt
of_ruled false term t behind other = tt

-- the answers of an entry
abbrev NoView : Option (CallId × Answer) → Type 0
NoView None = Unit {0}
NoView (Some a) = is_view a.1 ≡ false

of_told : (o : Option (CallId × Answer)) → NoView o → AreReplies (told o)
of_told None q = tt
of_told (Some a) q = (ap not q, tt)

by_call : (o : Option CallId) (a : Answer) → is_view a ≡ false → NoView (option_map (λ id. (id, a)) o)
by_call None a q = tt
by_call (Some id) a q = q

no_kept : (x : PartEntry) (outcome : Outcome) → NoView (kept_answer x outcome)
no_kept x kept.Open = tt
no_kept x kept.Fine = by_call (call_in x) answer.Fine refl
no_kept x kept.Skipped = by_call (call_in x) answer.Skipped refl
no_kept x kept.Pending = by_call (call_in x) answer.Pending refl
no_kept x kept.Cancelled = by_call (call_in x) answer.Cancelled refl
no_kept x (kept.Conflict other) = by_call (call_in x) (answer.Conflict other) refl

no_view : (x : PartEntry) (said : Applied) → NoView (answer_of x said)
no_view x (Again outcome) = no_kept x outcome
no_view x (Conflict chain) = by_call (call_in x) (answer.Conflict chain) refl
no_view x Skipped = by_call (call_in x) answer.Skipped refl
no_view x (Settled id) = refl
no_view x (Doubled id) = refl
no_view x (Closed id) = refl
no_view x (Aborted id) = refl
no_view x (Finished id) = refl
no_view x other = tt

of_reply : (t v : ℕ) (said : Applied) → AreReplies (reply_to t v said)
of_reply t v Done = (refl, tt)
of_reply t v (Stale above) = (refl, tt)
of_reply t v (Fenced written) = (refl, tt)
of_reply t v other = tt

of_back : (x : PartEntry) (said : Applied) → AreReplies (back_of x said)
of_back (entry.Remote from t v list) said = of_reply t v said
of_back (entry.Fence from t v edges) said = of_reply t v said
of_back other said = tt

-- an item that is applied
of_started : (l : Leading) (own : Bool) → AreReplies (started l own).answers × OfRules (started l own).rules
of_started l true = (tt, (refl, tt))
of_started l false = (tt, tt)

by_item : (parts term : ℕ) (machine : Part) (l : Leading) (index : ℕ) (own : Bool) (x : Proposal)
    → AreReplies (on_item_by parts term machine l index own x).answers × OfRules (on_item_by parts term machine l index own x).rules
by_item parts term machine l index own Start = of_started l own
by_item parts term machine l index own (Made x) =
    let behind = applied parts index x machine in (
      all_both IsReply (told (answer_of x behind.1)) (if own then back_of x behind.1 else []) (of_told (answer_of x behind.1) (no_view x behind.1)) (cond_both own _ _ AreReplies (λ _. of_back x behind.1) (λ _. tt)),
      of_ruled l.ready term (forgetting l.table behind.0 (chain_in x)) behind.0 behind.1,
    )
by_item parts term machine l index own (Members config) = (tt, tt)
by_item parts term machine l index own Blank = (tt, tt)

-- a pulse's letters are of no chain
abbrev pub IsOfNone : Letter → Type 0
IsOfNone letter = IsOfRules letter × ((v : ℕ) → is_about v letter ≡ false)

pub of_again : (on : Bool) (l : Leading) (i : Input) → AllByRecursion IsOfNone (again_of on l i)
of_again false l i = tt
of_again true l (input.Sent packet) = tt
of_again true l (input.Tick (tick.Elect policy)) = tt
of_again true l (input.Tick tick.Pulse) = cond_both l.ready _ _ (AllByRecursion IsOfNone) (λ _. ((refl, λ v. refl), tt)) (λ _. tt)
of_again true l (input.Tick (tick.GiveUp id)) = tt
of_again true l (input.Tick (tick.Transfer peer)) = tt
of_again true l (input.Tick (tick.Change change)) = tt

pub again_of_rules : (on : Bool) (l : Leading) (i : Input) → OfRules (again_of on l i)
again_of_rules on l i = all_weaker IsOfNone IsOfRules (λ letter none. none.0) (again_of on l i) (of_again on l i)

-- Letters as packets: those that tell no view, and those that are of no chain either.
abbrev pub TellsNone : Packet → Type 0
TellsNone packet = tells_view packet.body ≡ false

abbrev pub IsPlain : Packet → Type 0
IsPlain packet = TellsNone packet × ((v : ℕ) → is_of_chain v packet.body ≡ false)

is_not : (b : Bool) → not b ≡ true → b ≡ false
is_not true e = sym e
is_not false e = refl

back_plain : (said : ChainBody) → is_back said ≡ true → (tells said ≡ false) × ((v : ℕ) → writes_of v said ≡ false)
back_plain (says.Done term v) e = (refl, λ w. refl)
back_plain (says.Stale term v above) e = (refl, λ w. refl)
back_plain (says.Fenced term v written) e = (refl, λ w. refl)
back_plain other e = absurd (false≢true e)

module _ (part me term : ℕ) (hints : ℕ → ℕ) (packet : Packet) where
  same_told : (made : Packet) → Some made ≡ Some packet → tells_view made.body ≡ false → TellsNone packet
  same_told made e none = ap (λ (x : Packet). tells_view x.body) (sym (same_Some made packet e)) ∙ none

  rules_tell : (letter : Letter) → IsOfRules letter → addressed part me term hints None letter ≡ Some packet → TellsNone packet
  rules_tell (Tell id a) is e = absurd (false≢true is)
  rules_tell (Cross q tries said) is e = same_told _ e (is_not (tells said) is)
  rules_tell (Back said) is e = absurd (false≢true is)
  rules_tell (AgainTo after) is e = same_told _ e refl

  same_plain : (made : Packet) → Some made ≡ Some packet → IsPlain made → IsPlain packet
  same_plain made e plain = subst IsPlain (same_Some made packet e) plain

  back_told : (sender : Option Place) (said : ChainBody) → is_back said ≡ true → addressed part me term hints sender (Back said) ≡ Some packet → IsPlain packet
  back_told None said is e = absurd (none-some packet e)
  back_told (Some whom) said is e = same_plain _ e (back_plain said is)

  replies_tell : (sender : Option Place) (letter : Letter) → IsReply letter → addressed part me term hints sender letter ≡ Some packet → IsPlain packet
  replies_tell sender (Tell id a) is e = same_plain _ e (is_not (is_view a) is, λ v. refl)
  replies_tell sender (Cross q tries said) is e = absurd (false≢true is)
  replies_tell sender (Back said) is e = back_told sender said is e
  replies_tell sender (AgainTo after) is e = absurd (false≢true is)

pub rules_told : (part me term : ℕ) (hints : ℕ → ℕ) (letters : List Letter) → OfRules letters → AllByRecursion TellsNone (packets_of part me term hints None letters)
rules_told part me term hints letters of = all_of-filter_map IsOfRules TellsNone (addressed part me term hints None) (λ letter packet. rules_tell part me term hints packet letter) letters of

replies_told : (part me term : ℕ) (hints : ℕ → ℕ) (sender : Option Place) (letters : List Letter) → AreReplies letters → AllByRecursion IsPlain (packets_of part me term hints sender letters)
replies_told part me term hints sender letters of = all_of-filter_map IsReply IsPlain (addressed part me term hints sender) (λ letter packet. replies_tell part me term hints packet sender letter) letters of

-- what a leader makes of entries that it applies
abbrev pub Works : Worked → Type 0
Works made = AllByRecursion IsPlain made.answers × OfRules made.rules

module _ (home : Home) (me term : ℕ) (senders : ℕ → Option Place) where
  pub of_works : (machine : Part) (l : Leading) (index : ℕ) (entries : List (ℕ × Proposal)) → Works (works home me term senders machine l index entries)
  of_works machine l index [] = (tt, tt)
  of_works machine l index (d ∷ entries) =
      let first = on_item home.parts term machine l index d in
      let of_first = by_item home.parts term machine l index (d.0 == term) d.1 in
      let next = item_applied home.parts index d.1 machine in
      let rest = works home me term senders next.0 first.leading (suc index) entries in
      let of_rest = of_works next.0 first.leading (suc index) entries in (
        all_both IsPlain (packets_of home.part me term (λ v. 0) (senders index) first.answers) rest.answers (replies_told home.part me term (λ v. 0) (senders index) first.answers of_first.0) of_rest.0,
        all_both IsOfRules first.rules rest.rules of_first.1 of_rest.1,
      )
