-- The round that is confirmed, by the code's parts.
use Rattle.std.proofs.Common.{◌≡◌, ℕ, suc, ◌-◌, ◌<◌, max, List, [], ◌∷◌, length, drop, get_or, true, false, refl, ap, ◌∙◌, arith}
use Rattle.std.proofs.Math.Seq.{drop-cons}
use Rattle.raft_log.specs.declared.entry.Entry.{Entry}
use Rattle.raft_log.specs.Majority.{is_majority}
use Rattle.raft_core.specs.declared.state.PeerState.{PeerState}
use Rattle.raft_core.specs.Core.{voters_of}
use Rattle.raft_core.specs.Ahead.{core_with}
use Rattle.raft_core.specs.Rounds.{confirmed_by, greatest_confirmed}
use Rattle.raft_core.specs.Confirming.{is_confirmed_by, greatest_among}

pub greatest_is : (state : PeerState) (log : List Entry) (voters : List ℕ) → greatest_among state (voters_of (core_with state log)) voters ≡ greatest_confirmed (core_with state log) voters
greatest_is state log [] = refl
greatest_is state log (voter ∷ voters) = rw (greatest_is state log voters) refl

module _ (state : PeerState) (all ids : List ℕ) (left : ℕ) (above : 0 < left) (within : left - 1 < length ids) where
  split : drop (left - 1) ids ≡ get_or ids (left - 1) 0 ∷ drop left ids
  split = let e : suc (left - 1) ≡ left = omega arith in drop-cons ids (left - 1) 0 within ∙ ap (λ n. get_or ids (left - 1) 0 ∷ drop n ids) e

  pub greater : is_majority all (is_confirmed_by state (confirmed_by (core_with state []) (get_or ids (left - 1) 0))) ≡ true
      → max (confirmed_by (core_with state []) (get_or ids (left - 1) 0)) (greatest_among state all (drop left ids)) ≡ greatest_among state all (drop (left - 1) ids)
  greater e = rw (split, e) refl

  pub as_great : is_majority all (is_confirmed_by state (confirmed_by (core_with state []) (get_or ids (left - 1) 0))) ≡ false
      → greatest_among state all (drop left ids) ≡ greatest_among state all (drop (left - 1) ids)
  as_great e = rw (split, e) refl
