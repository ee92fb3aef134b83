-- A leader's letters: what crosses to another part names the leader's own term; and where they stand in the world of chains.
use Rattle.std.proofs.Common.{◌≡◌, ℕ, List, [], ◌∷◌, length, take, drop, map, Option, Some, None, Bool, true, false, refl}
use Rattle.std.specs.Prelude.{◌==◌, ◌&&◌, nat_lt}
use Rattle.std.specs.List.{AllByRecursion}
use Rattle.std.specs.FinMap.{get}
use Rattle.std.proofs.lemmas.Bool.{cond_both}
use Rattle.raft_core.proofs.Lists.{all_both, all_of-map}
use Rattle.part_keys.specs.declared.chain.PrimeRec.{PrimeRec}
use Rattle.part_keys.specs.declared.chain.ChainState.{ChainState}
use Rattle.part_keys.specs.declared.chain.ChainMsg.{ChainMsg}
use Rattle.part_keys.specs.declared.chain.ChainMsg.TheVariants as send
use Rattle.part_keys.specs.declared.chain.Policy.{Policy}
use Rattle.part_keys.specs.declared.entry.PartEntry.{PartEntry}
use Rattle.part_keys.specs.declared.entry.PartEntry.TheVariants as entry
use Rattle.part_keys.specs.declared.proposal.Proposal.{Proposal}
use Rattle.part_keys.specs.declared.vid_kind.VidKind.{VidKind}
use Rattle.part_keys.specs.declared.proposal.Proposal.TheVariants.{Start, Members, Made, Blank}
use Rattle.part_keys.specs.Routing.{is_payload}
use Rattle.part_rules.specs.declared.applied.Applied.{Applied}
use Rattle.part_rules.specs.declared.applied.Applied.TheVariants as told
use Rattle.part_rules.specs.Machine as machines
use Rattle.part_rules.specs.Part.{Part}
use Rattle.part_rules.specs.View.{at_once}
use Rattle.chain_leader.specs.declared.body.ChainBody.{ChainBody}
use Rattle.chain_leader.specs.declared.body.ChainBody.TheVariants as says
use Rattle.chain_leader.specs.declared.letter.Letter.{Letter}
use Rattle.chain_leader.specs.declared.letter.Letter.TheVariants.{Tell, Cross, Back, Again}
use Rattle.chain_leader.specs.Calls.{is_write}
use Rattle.chain_leader.specs.Rules.{Table, resume, on_primed, on_remote, on_fence}
use Rattle.chain_leader.specs.Leading.{Leading, Taken, proposing, still, asking, sends_by, sends, number_in, standing_behind, resumes_all, onward, resuming, taken, ruled_by, forgetting, chain_in, begins, on_item_by, on_item}

abbrev pub IsOwnBody : ℕ → ChainBody → Type 0
IsOwnBody t (says.Remote u v list) = u ≡ t
IsOwnBody t (says.Fence u v edges) = u ≡ t
IsOwnBody t (says.Request number x) = ⊥
IsOwnBody t (says.Answer number answer) = ⊥
IsOwnBody t (says.NotLeader other part hint) = ⊥
IsOwnBody t (says.Done u v) = ⊥
IsOwnBody t (says.Stale u v above) = ⊥
IsOwnBody t (says.Fenced u v written) = ⊥
IsOwnBody t (says.Resume u after) = ⊥

-- what crosses is a Remote or a Fence of the own term
abbrev pub IsOwn : ℕ → Letter → Type 0
IsOwn t (Cross q tries said) = IsOwnBody t said
IsOwn t (Tell id answer) = Unit {0}
IsOwn t (Back said) = Unit {0}
IsOwn t (Again after) = Unit {0}

abbrev pub AreOwn : ℕ → List Letter → Type 0
AreOwn t letters = AllByRecursion (IsOwn t) letters

own_message : (t : ℕ) (chain : ChainState) (table : Table) (m : ChainMsg) → AreOwn t (sends_by t table m (Some chain)).letters
own_message t chain table (send.Remote v) = (refl, tt)
own_message t chain table (send.Fence v) = (refl, tt)

own_sends_by : (t : ℕ) (table : Table) (m : ChainMsg) (o : Option ChainState) → AreOwn t (sends_by t table m o).letters
own_sends_by t table m None = tt
own_sends_by t table m (Some chain) = own_message t chain table m

own_sends : (t : ℕ) (made : Table × ChainMsg) → AreOwn t (sends t made).letters
own_sends t made = own_sends_by t made.0 made.1 (get made.0 (number_in made.1))

own_resumes : (t : ℕ) (policy : Policy) (chains : List (ℕ × PrimeRec)) (table : Table) → AreOwn t (resumes_all t policy chains table).letters
own_resumes t policy [] table = tt
own_resumes t policy (c ∷ chains) table =
    let first = sends t (resume table c.1 policy) in
    all_both (IsOwn t) first.letters (resumes_all t policy chains first.table).letters (own_sends t (resume table c.1 policy)) (own_resumes t policy chains first.table)

own_onward : (t : ℕ) (chains : List (ℕ × PrimeRec)) → AreOwn t (onward chains)
own_onward t chains = cond_both (nat_lt at_once (length chains)) (map (λ (c : ℕ × PrimeRec). Again (Some c.0)) (take 1 (drop 63 chains))) [] (AreOwn t)
    (λ more. all_of-map (IsOwn t) (λ (c : ℕ × PrimeRec). Again (Some c.0)) (λ c. tt) (take 1 (drop 63 chains))) (λ none. tt)

own_resuming : (t : ℕ) (l : Leading) (chains : List (ℕ × PrimeRec)) → AreOwn t (resuming t l chains).letters
own_resuming t l chains =
    all_both (IsOwn t) (resumes_all t l.policy (take at_once chains) l.table).letters (onward chains) (own_resumes t l.policy (take at_once chains) l.table) (own_onward t chains)

module _ (ids : VidKind) (parts part t : ℕ) (machine : Part) (l : Leading) where
  abbrev OwnTaken : Taken → Type 0
  OwnTaken tk = AreOwn t tk.letters

  own_proposing : (x : PartEntry) → AreOwn t (proposing ids parts part l x).letters
  own_proposing x = cond_both (is_payload ids parts part x) (record { leading = l; proposals = x ∷ []; letters = [] }) (still l) (λ (tk : Taken). AreOwn t tk.letters) (λ is. tt) (λ not. tt)

  -- of what a leader does with a packet
  pub own_taken : (said : ChainBody) (from : ℕ) → AreOwn t (taken ids parts part t machine l said from).letters
  own_taken (says.Request number x) from = cond_both (is_write x) (proposing ids parts part l x) (still l) (λ (tk : Taken). AreOwn t tk.letters) (λ is. own_proposing x) (λ not. tt)
  own_taken (says.Answer number answer) from = tt
  own_taken (says.NotLeader other q hint) from = tt
  own_taken (says.Remote u v list) from = own_proposing (entry.Remote from u v list)
  own_taken (says.Done u v) from = cond_both (l.ready && (u == t)) (asking l (on_remote l.table v)) (still l) (λ (tk : Taken). AreOwn t tk.letters) (λ is. tt) (λ not. tt)
  own_taken (says.Stale u v above) from = tt
  own_taken (says.Fence u v edges) from = own_proposing (entry.Fence from u v edges)
  own_taken (says.Fenced u v written) from = cond_both (l.ready && (u == t)) (asking l (on_fence l.table v written)) (still l) (λ (tk : Taken). AreOwn t tk.letters) (λ is. tt) (λ not. tt)
  own_taken (says.Resume u after) from = cond_both (l.ready && (u == t)) (resuming t l (standing_behind machine after)) (still l) (λ (tk : Taken). AreOwn t tk.letters) (λ is. own_resuming t l (standing_behind machine after)) (λ not. tt)

module _ (parts part t : ℕ) (machine : Part) (l : Leading) where
  own_begins : (table : Table) (o : Option PrimeRec) → AreOwn t (begins t table o).letters
  own_begins table None = tt
  own_begins table (Some rec) = own_sends t (on_primed table rec)

  own_ruled : (ready : Bool) (table : Table) (behind : Part) (a : Applied) → AreOwn t (ruled_by ready t table behind a).letters
  own_ruled true table behind (told.Begun v) = own_begins table (get behind.chains v)
  own_ruled false table behind (told.Begun v) = tt
  own_ruled true table behind told.Old = tt
  own_ruled false table behind told.Old = tt
  own_ruled true table behind (told.Again outcome) = tt
  own_ruled false table behind (told.Again outcome) = tt
  own_ruled true table behind (told.Conflict other) = tt
  own_ruled false table behind (told.Conflict other) = tt
  own_ruled true table behind told.Skipped = tt
  own_ruled false table behind told.Skipped = tt
  own_ruled true table behind (told.Settled id) = tt
  own_ruled false table behind (told.Settled id) = tt
  own_ruled true table behind (told.Doubled id) = tt
  own_ruled false table behind (told.Doubled id) = tt
  own_ruled true table behind (told.Closed id) = tt
  own_ruled false table behind (told.Closed id) = tt
  own_ruled true table behind (told.Aborted id) = tt
  own_ruled false table behind (told.Aborted id) = tt
  own_ruled true table behind (told.Stale above) = tt
  own_ruled false table behind (told.Stale above) = tt
  own_ruled true table behind told.Done = tt
  own_ruled false table behind told.Done = tt
  own_ruled true table behind (told.Fenced written) = tt
  own_ruled false table behind (told.Fenced written) = tt
  own_ruled true table behind (told.Finished id) = tt
  own_ruled false table behind (told.Finished id) = tt
  own_ruled true table behind told.Nothing = tt
  own_ruled false table behind told.Nothing = tt

  own_item : (index : ℕ) (own : Bool) (x : Proposal) → AreOwn t (on_item_by parts t machine l index own x).rules
  own_item index true Start = (tt, tt)
  own_item index false Start = tt
  own_item index own (Members config) = tt
  own_item index own (Made x) =
      (let behind = machines.applied parts index x machine in own_ruled l.ready (forgetting l.table behind.0 (chain_in x)) behind.0 behind.1)
  own_item index own Blank = tt

  -- of an entry that it applies
  pub own_applied : (index : ℕ) (d : ℕ × Proposal) → AreOwn t (on_item parts t machine l index d).rules
  own_applied index d = own_item index (d.0 == t) d.1
