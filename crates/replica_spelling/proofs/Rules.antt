-- The leader's rules: their letters have spellings, and so have the chains of the table behind them.
use Rattle.std.proofs.Common.{◌≡◌, ℕ, suc, List, [], ◌∷◌, ◌++◌, ◌<◌, ◌≤◌, take, drop, length, Option, None, Some, Bool, true, false, cond, refl, subst}
use Rattle.std.specs.Prelude.{◌==◌, ◌&&◌, nat_lt, if◌then◌else◌}
use Rattle.std.specs.List.{AllByRecursion}
use Rattle.std.specs.Option.{unwrap_or}
use Rattle.std.specs.FinMap.{get, insert, entries, contains_key}
use Rattle.std.proofs.lemmas.Bool.{cond_both}
use Rattle.std.proofs.lemmas.Option.{same_Some, none-some}
use Rattle.graph_bytes.specs.declared.id_form.IdForm.TheVariants.{Tagged}
use Rattle.graph_bytes.specs.Fits.{IsSmall, most_small, HasSpellingEnds, HasSpellingEdgeHalf, HasSpellingWhole}
use Rattle.graph_model.specs.declared.call_id.CallId.{CallId}
use Rattle.graph_model.specs.declared.edge_id.EdgeId.{EdgeId}
use Rattle.graph_model.specs.declared.half.Half.{Half}
use Rattle.maps.proofs.Keys.{nat_keys}
use Rattle.part_keys.specs.declared.chain.PrimeRec.{PrimeRec}
use Rattle.part_keys.specs.declared.chain.ChainState.{ChainState}
use Rattle.part_keys.specs.declared.chain.ChainMsg.{ChainMsg}
use Rattle.part_keys.specs.declared.chain.ChainMsg.TheVariants as send
use Rattle.part_keys.specs.declared.chain.Mode.{Mode}
use Rattle.part_keys.specs.declared.chain.Mode.TheVariants.{Put, Doubled}
use Rattle.part_keys.specs.declared.chain.Policy.{Policy}
use Rattle.part_keys.specs.declared.entry.PartEntry.{PartEntry}
use Rattle.part_keys.specs.declared.entry.PartEntry.TheVariants as entry
use Rattle.part_keys.specs.declared.proposal.Proposal.{Proposal}
use Rattle.part_keys.specs.declared.proposal.Proposal.TheVariants.{Start, Members, Made, Blank}
use Rattle.part_keys.specs.declared.vid_kind.VidKind.{VidKind}
use Rattle.part_keys.specs.Routing.{is_payload}
use Rattle.part_rules.specs.declared.applied.Applied.{Applied}
use Rattle.part_rules.specs.declared.applied.Applied.TheVariants.{Begun}
use Rattle.part_rules.specs.Part.{Part}
use Rattle.part_rules.specs.View.{at_once}
use Rattle.part_rules.specs.Machine.{applied}
use Rattle.part_rules.specs.Folded.{item_applied}
use Rattle.chain_leader.specs.declared.body.ChainBody.{ChainBody}
use Rattle.chain_leader.specs.declared.body.ChainBody.TheVariants as says
use Rattle.chain_leader.specs.declared.letter.Letter.{Letter}
use Rattle.chain_leader.specs.declared.letter.Letter.TheVariants.{Again as AgainTo}
use Rattle.chain_leader.specs.Calls.{is_write, answer_of}
use Rattle.chain_leader.specs.Rules.{Table, added, asks as asked, asks_once, ending_done, ending_fenced, may_double, first_to_double, doubles, mode_for, next_try, on_primed, resumes, resume}
use Rattle.chain_leader.specs.Leading.{Leading, Taken, Ruled, Applies, proposing, number_in, sends_by, sends, standing_behind, resumes_all, onward, taken, told, back_of, chain_in, forgetting, begins, ruled_by, started, on_item, on_item_by, given_up}
use Rattle.raft_log.proofs.PlaceLemmas.{all_of-take}
use Rattle.raft_core.proofs.Lists.{all_both, all_weaker, all_of-map, all_through-map, all_of-filter}
use Rattle.replica_model.specs.declared.packet.Place.{Place}
use Rattle.replica_model.specs.Replica.{Home}
use Rattle.replica_model.specs.Letters.{packets_of, Worked, works}
use Rattle.packet_codec.specs.Fits.{HasSpellingPlace, HasSpelling}
use Rattle.replica_spelling.specs.Parts.{IsSpelledChain, IsSpelledPart, FitsValue}
use Rattle.replica_spelling.specs.Spelled.{IsSpelledState, IsSpelledTable}
use Rattle.replica_spelling.proofs.Fitting.{ends, edge_half}
use Rattle.replica_spelling.proofs.Held.{held_insert, held_remove, each_held}
use Rattle.replica_spelling.proofs.Letters.{IsSpelledSender, IsSpelledLetter, AreSpelledLetters, packets_spelled, told_spelled, back_of_spelled}
use Rattle.replica_spelling.proofs.Parts.{item_spelled, applied_spelled}

-- a chain that is put into the table
put : (t : Table) (v : ℕ) (chain : ChainState) → IsSpelledTable t → IsSpelledState chain → IsSpelledTable (insert t v chain)
put t v chain is on = held_insert nat_keys (λ v chain. IsSpelledState chain) t v chain is on

added_spelled : (rec : PrimeRec) (mode : Mode) → IsSpelledChain rec → IsSpelledState (added rec mode)
added_spelled rec mode is = record { remote = is.remote; list = is.list }

forgotten : (t : Table) (behind : Part) (o : Option ℕ) → IsSpelledTable t → IsSpelledTable (forgetting t behind o)
forgotten t behind None is = is
forgotten t behind (Some v) is = cond_both (contains_key behind.chains v) _ _ IsSpelledTable (λ _. is) (λ _. held_remove nat_keys (λ v chain. IsSpelledState chain) t v is)

module _ (part me : ℕ) where
  abbrev IsLetter : Letter → Type 0
  IsLetter = IsSpelledLetter part me

  abbrev pub IsSpelledRuled : Ruled → Type 0
  IsSpelledRuled made = IsSpelledTable made.table × AreSpelledLetters part me made.letters

  abbrev pub IsSpelledTaken : Taken → Type 0
  IsSpelledTaken made = IsSpelledTable made.leading.table × AreSpelledLetters part me made.letters

  -- ---- letters of the table's chains

  sends_spelled_by : (term : ℕ) (t : Table) (m : ChainMsg) (o : Option ChainState) → IsSpelledTable t → ((chain : ChainState) → o ≡ Some chain → IsSpelledState chain) → IsSpelledRuled (sends_by term t m o)
  sends_spelled_by term t m None is on = (is, tt)
  sends_spelled_by term t (send.Remote v) (Some chain) is on =
      let c = on chain refl in
      (is, ((c.remote, all_weaker (HasSpellingWhole Tagged) (HasSpellingEdgeHalf Tagged) edge_half chain.list c.list), tt))
  sends_spelled_by term t (send.Fence v) (Some chain) is on =
      let c = on chain refl in
      (is, ((c.remote, all_through-map (HasSpellingWhole Tagged) (HasSpellingEnds Tagged) (λ (x : EdgeId × Half). x.0) (λ x w. ends x.0 w.0) chain.list c.list), tt))

  sends_spelled : (term : ℕ) (made : Table × ChainMsg) → IsSpelledTable made.0 → IsSpelledRuled (sends term made)
  sends_spelled term made is = sends_spelled_by term made.0 made.1 (get made.0 (number_in made.1)) is (is (number_in made.1))

  resumed_spelled : (t : Table) (rec : PrimeRec) (policy : Policy) → IsSpelledTable t → IsSpelledChain rec → (o : Option ChainState) → get t rec.v ≡ o → IsSpelledTable (resumes t rec policy o).0
  resumed_spelled t rec policy is on None e = put t rec.v (added rec (mode_for rec policy)) is (added_spelled rec (mode_for rec policy) on)
  resumed_spelled t rec policy is on (Some chain) e =
      let there = is rec.v chain e in
      put t rec.v (record chain { tries = next_try chain.tries }) is (record { remote = there.remote; list = there.list })

  all_resumed : (term : ℕ) (policy : Policy) (chains : List (ℕ × PrimeRec)) (t : Table) → AllByRecursion (λ (c : ℕ × PrimeRec). IsSpelledChain c.1) chains → IsSpelledTable t → IsSpelledRuled (resumes_all term policy chains t)
  all_resumed term policy [] t all is = (is, tt)
  all_resumed term policy (c ∷ chains) t all is =
      let first = sends_spelled term (resume t c.1 policy) (resumed_spelled t c.1 policy is all.0 (get t c.1.v) refl) in
      let made = sends term (resume t c.1 policy) in
      let rest = all_resumed term policy chains made.table all.1 first.0 in
      (rest.0, all_both IsLetter made.letters (resumes_all term policy chains made.table).letters first.1 rest.1)

  onward_spelled : (chains : List (ℕ × PrimeRec)) → AreSpelledLetters part me (onward chains)
  onward_spelled chains = cond_both (nat_lt at_once (length chains)) _ _ (AreSpelledLetters part me)
      (λ _. all_of-map IsLetter (λ c. AgainTo (Some c.0)) (λ c. tt) (take 1 (drop 63 chains)))
      (λ _. tt)

  -- ---- what a leader makes of a packet, and of a call that is given up

  once_spelled : (t : Table) (v : ℕ) (ending : ChainState → Option PartEntry) → IsSpelledTable t → (o : Option ChainState) → get t v ≡ o → IsSpelledTable (asks_once t v ending o).0
  once_spelled t v ending is None e = is
  once_spelled t v ending is (Some chain) e = cond_both chain.asked _ _ (λ (made : Table × Option PartEntry). IsSpelledTable made.0) (λ _. is) (λ _. by_ending (ending chain))
    where
      by_ending : (o : Option PartEntry) → IsSpelledTable (asked t v chain o).0
      by_ending None = is
      by_ending (Some x) = let there = is v chain e in put t v (record chain { asked = true }) is (record { remote = there.remote; list = there.list })

  first_spelled : (id : CallId) (es : List (ℕ × ChainState)) → AllByRecursion (λ (c : ℕ × ChainState). IsSpelledState c.1) es → (c : ℕ × ChainState) → first_to_double id es ≡ Some c → IsSpelledState c.1
  first_spelled id [] all c found = absurd (none-some c found)
  first_spelled id (x ∷ es) all c found = here (may_double id x.1) (first_spelled id es all.1 c) found
    where
      here : (b : Bool) → (first_to_double id es ≡ Some c → IsSpelledState c.1) → cond b (Some x) (first_to_double id es) ≡ Some c → IsSpelledState c.1
      here true rest there = subst (λ (y : ℕ × ChainState). IsSpelledState y.1) (same_Some x c there) all.0
      here false rest there = rest there

  doubles_spelled : (t : Table) → IsSpelledTable t → (o : Option (ℕ × ChainState)) → ((c : ℕ × ChainState) → o ≡ Some c → IsSpelledState c.1) → IsSpelledTable (doubles t o).0
  doubles_spelled t is None on = is
  doubles_spelled t is (Some c) on = let there = on c refl in put t c.0 (record c.1 { mode = Doubled }) is (record { remote = there.remote; list = there.list })

  pub given_up_spelled : (l : Leading) (id : CallId) → IsSpelledTable l.table → IsSpelledTaken (given_up l id)
  given_up_spelled l id is = cond_both l.ready _ _ IsSpelledTaken
      (λ _. (doubles_spelled l.table is (first_to_double id (entries l.table)) (first_spelled id (entries l.table) (each_held nat_keys (λ v chain. IsSpelledState chain) l.table is)), tt))
      (λ _. (is, tt))

  proposing_spelled : (ids : VidKind) (parts own : ℕ) (l : Leading) (x : PartEntry) → IsSpelledTable l.table → IsSpelledTaken (proposing ids parts own l x)
  proposing_spelled ids parts own l x is = cond_both (is_payload ids parts own x) _ _ IsSpelledTaken (λ _. (is, tt)) (λ _. (is, tt))

  resuming_spelled : (term : ℕ) (machine : Part) (l : Leading) (after : Option ℕ) → IsSpelledPart machine → IsSpelledTable l.table
      → IsSpelledTable (resumes_all term l.policy (take at_once (standing_behind machine after)) l.table).table
      × AreSpelledLetters part me ((resumes_all term l.policy (take at_once (standing_behind machine after)) l.table).letters ++ onward (standing_behind machine after))
  resuming_spelled term machine l after held is =
      let chains = standing_behind machine after in
      let Chain : ℕ × PrimeRec → Type 0 = λ c. IsSpelledChain c.1 in
      let all = all_of-filter Chain (λ (c : ℕ × PrimeRec). nat_lt (unwrap_or after 0) c.0) (entries machine.chains) (each_held nat_keys (λ v c. IsSpelledChain c) machine.chains held.chains) in
      let made = all_resumed term l.policy (take at_once chains) l.table (all_of-take Chain at_once chains all) is in
      (made.0, all_both IsLetter (resumes_all term l.policy (take at_once chains) l.table).letters (onward chains) made.1 (onward_spelled chains))

  pub taken_spelled : (ids : VidKind) (parts own term : ℕ) (machine : Part) (l : Leading) (said : ChainBody) (from : ℕ) → IsSpelledPart machine → IsSpelledTable l.table → IsSpelledTaken (taken ids parts own term machine l said from)
  taken_spelled ids parts own term machine l (says.Request number x) from held is = cond_both (is_write x) _ _ IsSpelledTaken (λ _. proposing_spelled ids parts own l x is) (λ _. (is, tt))
  taken_spelled ids parts own term machine l (says.Answer number a) from held is = (is, tt)
  taken_spelled ids parts own term machine l (says.NotLeader other p hint) from held is = (is, tt)
  taken_spelled ids parts own term machine l (says.Remote t v list) from held is = proposing_spelled ids parts own l (entry.Remote from t v list) is
  taken_spelled ids parts own term machine l (says.Done t v) from held is = cond_both (l.ready && (t == term)) _ _ IsSpelledTaken
      (λ _. (once_spelled l.table v (λ chain. ending_done v chain.mode) is (get l.table v) refl, tt)) (λ _. (is, tt))
  taken_spelled ids parts own term machine l (says.Stale t v above) from held is = (is, tt)
  taken_spelled ids parts own term machine l (says.Fence t v edges) from held is = proposing_spelled ids parts own l (entry.Fence from t v edges) is
  taken_spelled ids parts own term machine l (says.Fenced t v written) from held is = cond_both (l.ready && (t == term)) _ _ IsSpelledTaken
      (λ _. (once_spelled l.table v (λ chain. ending_fenced v written chain.mode) is (get l.table v) refl, tt)) (λ _. (is, tt))
  taken_spelled ids parts own term machine l (says.Resume t after) from held is = cond_both (l.ready && (t == term)) _ _ IsSpelledTaken
      (λ _. resuming_spelled term machine l after held is) (λ _. (is, tt))

  -- ---- what a leader makes of an item that it applies

  begins_spelled : (term : ℕ) (t : Table) (o : Option PrimeRec) → IsSpelledTable t → ((rec : PrimeRec) → o ≡ Some rec → IsSpelledChain rec) → IsSpelledRuled (begins term t o)
  begins_spelled term t None is on = (is, tt)
  begins_spelled term t (Some rec) is on = sends_spelled term (on_primed t rec) (put t rec.v (added rec Put) is (added_spelled rec Put (on rec refl)))

  ruled_spelled : (ready : Bool) (term : ℕ) (t : Table) (behind : Part) (said : Applied) → IsSpelledPart behind → IsSpelledTable t → IsSpelledRuled (ruled_by ready term t behind said)
  ruled_spelled true term t behind (Begun v) held is = begins_spelled term t (get behind.chains v) is (held.chains v)
  ruled_spelled false term t behind (Begun v) held is = (is, tt)
  ruled_spelled true term t behind other held is = (is, tt)
  ruled_spelled false term t behind other held is = (is, tt)

  abbrev pub IsSpelledApplies : Applies → Type 0
  IsSpelledApplies made = IsSpelledTable made.leading.table × (AreSpelledLetters part me made.answers × AreSpelledLetters part me made.rules)

  started_spelled : (l : Leading) (own : Bool) → IsSpelledTable l.table → IsSpelledApplies (started l own)
  started_spelled l true is = (is, (tt, (tt, tt)))
  started_spelled l false is = (is, (tt, tt))

  module _ (parts : ℕ) (some : 0 < parts) (few : parts ≤ most_small) where
    item_by_spelled : (term : ℕ) (machine : Part) (l : Leading) (index : ℕ) (own : Bool) (x : Proposal) → FitsValue x → IsSpelledPart machine → IsSpelledTable l.table → IsSpelledApplies (on_item_by parts term machine l index own x)
    item_by_spelled term machine l index own Start fits held is = started_spelled l own is
    item_by_spelled term machine l index own (Made x) fits held is =
        let made = applied parts index x machine in
        let behind = applied_spelled parts some few index x machine fits held in
        let t = forgetting l.table made.0 (chain_in x) in
        let rules = ruled_spelled l.ready term t made.0 made.1 behind.0 (forgotten l.table made.0 (chain_in x) is) in
        let answers = all_both IsLetter (told (answer_of x made.1)) (if own then back_of x made.1 else []) (told_spelled part me x made.1 fits behind.1)
        (cond_both own _ _ (AreSpelledLetters part me) (λ _. back_of_spelled part me x made.1) (λ _. tt)) in
        (rules.0, (answers, rules.1))
    item_by_spelled term machine l index own (Members config) fits held is = (is, (tt, tt))
    item_by_spelled term machine l index own Blank fits held is = (is, (tt, tt))

-- ---- what a leader makes of the items that it applies

abbrev pub IsSpelledWorked : ℕ → ℕ → Worked → Type 0
IsSpelledWorked part me made = IsSpelledTable made.leading.table × (AllByRecursion HasSpelling made.answers × AreSpelledLetters part me made.rules)

abbrev pub AreSpelledSenders : (ℕ → Option Place) → Type 0
AreSpelledSenders senders = (index : ℕ) (sender : Place) → senders index ≡ Some sender → HasSpellingPlace sender

sender_spelled : (o : Option Place) → ((sender : Place) → o ≡ Some sender → HasSpellingPlace sender) → IsSpelledSender o
sender_spelled None is = tt
sender_spelled (Some sender) is = is sender refl

module _ (home : Home) (small : IsSmall home.part) (some : 0 < home.parts) (few : home.parts ≤ most_small) (me term : ℕ) (senders : ℕ → Option Place) (from : AreSpelledSenders senders) where
  pub works_spelled : (machine : Part) (l : Leading) (index : ℕ) (ds : List (ℕ × Proposal)) → AllByRecursion (λ (d : ℕ × Proposal). FitsValue d.1) ds → IsSpelledPart machine → IsSpelledTable l.table
      → IsSpelledWorked home.part me (works home me term senders machine l index ds)
  works_spelled machine l index [] fit held is = (is, (tt, tt))
  works_spelled machine l index (d ∷ ds) fit held is =
      let first = on_item home.parts term machine l index d in
      let behind = (item_applied home.parts index d.1 machine).0 in
      let one = item_by_spelled home.part me home.parts some few term machine l index (d.0 == term) d.1 fit.0 held is in
      let rest = works home me term senders behind first.leading (suc index) ds in
      let all = works_spelled behind first.leading (suc index) ds fit.1 (item_spelled home.parts some few index d.1 machine fit.0 held).0 one.0 in
      let packets = packets_spelled home.part me small term (λ v. 0) (senders index) (sender_spelled (senders index) (from index)) first.answers one.1.0 in (
        all.0,
        (
          all_both HasSpelling (packets_of home.part me term (λ v. 0) (senders index) first.answers) rest.answers packets all.1.0,
          all_both (IsSpelledLetter home.part me) first.rules rest.rules one.1.1 all.1.1,
        ),
      )
