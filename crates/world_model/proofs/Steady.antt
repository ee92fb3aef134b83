-- What a leader takes and applies leaves its policy; and what it takes leaves it ready, or not ready, as it was.
use Rattle.std.proofs.Common.{◌≡◌, ℕ, suc, List, [], ◌∷◌, Option, Bool, true, false, refl, ◌∙◌}
use Rattle.std.specs.Prelude.{◌==◌, ◌&&◌}
use Rattle.std.proofs.lemmas.Bool.{cond_both}
use Rattle.graph_model.specs.declared.call_id.CallId.{CallId}
use Rattle.part_keys.specs.declared.entry.PartEntry.{PartEntry}
use Rattle.part_keys.specs.declared.entry.PartEntry.TheVariants as entry
use Rattle.part_keys.specs.Routing.{is_payload}
use Rattle.part_rules.specs.Part.{Part}
use Rattle.part_rules.specs.Folded.{item_applied as item_folded}
use Rattle.part_keys.specs.declared.vid_kind.VidKind.{VidKind}
use Rattle.part_keys.specs.declared.proposal.Proposal.{Proposal}
use Rattle.part_keys.specs.declared.proposal.Proposal.TheVariants.{Start, Members, Made, Blank}
use Rattle.chain_leader.specs.declared.body.ChainBody.{ChainBody}
use Rattle.chain_leader.specs.declared.body.ChainBody.TheVariants as says
use Rattle.chain_leader.specs.Calls.{is_write}
use Rattle.chain_leader.specs.Rules.{on_remote, on_fence, give_up}
use Rattle.chain_leader.specs.Leading.{Leading, Taken, taken, given_up, proposing, asking, still, resuming, standing_behind, on_item, on_item_by}
use Rattle.replica_model.specs.declared.packet.Place.{Place}
use Rattle.replica_model.specs.Replica.{Home}
use Rattle.replica_model.specs.Letters.{works}

-- No packet and no call that is given up makes a leader ready or unready, or changes its policy.
pub record IsSteady (before behind : Leading) : Type 0 where
  pub ready : behind.ready ≡ before.ready
  pub policy : behind.policy ≡ before.policy

module _ (ids : VidKind) (parts part t : ℕ) (machine : Part) (l : Leading) where
  as_it_was : IsSteady l l
  as_it_was = record { ready = refl; policy = refl }

  abbrev Is : Taken → Type 0
  Is tk = IsSteady l tk.leading

  steady_proposing : (x : PartEntry) → Is (proposing ids parts part l x)
  steady_proposing x = cond_both (is_payload ids parts part x) (record { leading = l; proposals = x ∷ []; letters = [] }) (still l) (λ (tk : Taken). Is tk) (λ is. as_it_was) (λ not_so. as_it_was)

  pub taken_steady : (said : ChainBody) (from : ℕ) → Is (taken ids parts part t machine l said from)
  taken_steady (says.Request number x) from = cond_both (is_write x) (proposing ids parts part l x) (still l) (λ (tk : Taken). Is tk) (λ is. steady_proposing x) (λ not_so. as_it_was)
  taken_steady (says.Answer number answer) from = as_it_was
  taken_steady (says.NotLeader other q hint) from = as_it_was
  taken_steady (says.Remote u v list) from = steady_proposing (entry.Remote from u v list)
  taken_steady (says.Done u v) from = cond_both (l.ready && (u == t)) (asking l (on_remote l.table v)) (still l) (λ (tk : Taken). Is tk) (λ is. record { ready = refl; policy = refl }) (λ not_so. as_it_was)
  taken_steady (says.Stale u v above) from = as_it_was
  taken_steady (says.Fence u v edges) from = steady_proposing (entry.Fence from u v edges)
  taken_steady (says.Fenced u v written) from = cond_both (l.ready && (u == t)) (asking l (on_fence l.table v written)) (still l) (λ (tk : Taken). Is tk) (λ is. record { ready = refl; policy = refl }) (λ not_so. as_it_was)
  taken_steady (says.Resume u after) from = cond_both (l.ready && (u == t)) (resuming t l (standing_behind machine after)) (still l) (λ (tk : Taken). Is tk) (λ is. record { ready = refl; policy = refl }) (λ not_so. as_it_was)

pub given_up_steady : (l : Leading) (id : CallId) → IsSteady l (given_up l id).leading
given_up_steady l id = cond_both l.ready (asking l (give_up l.table id)) (still l) (λ (tk : Taken). IsSteady l tk.leading) (λ is. record { ready = refl; policy = refl }) (λ not_so. record { ready = refl; policy = refl })

-- Nor does an entry that it applies change its policy.
pub item_policy : (parts t : ℕ) (machine : Part) (l : Leading) (index : ℕ) (own : Bool) (x : Proposal) → (on_item_by parts t machine l index own x).leading.policy ≡ l.policy
item_policy parts t machine l index true Start = refl
item_policy parts t machine l index false Start = refl
item_policy parts t machine l index own (Members config) = refl
item_policy parts t machine l index own (Made x) = refl
item_policy parts t machine l index own Blank = refl

pub works_policy : (home : Home) (me t : ℕ) (ours : ℕ → Option Place) (machine : Part) (l : Leading) (index : ℕ) (entries : List (ℕ × Proposal)) → (works home me t ours machine l index entries).leading.policy ≡ l.policy
works_policy home me t ours machine l index [] = refl
works_policy home me t ours machine l index (d ∷ entries) =
    works_policy home me t ours (item_folded home.parts index d.1 machine).0 (on_item home.parts t machine l index d).leading (suc index) entries ∙ item_policy home.parts t machine l index (d.0 == t) d.1
