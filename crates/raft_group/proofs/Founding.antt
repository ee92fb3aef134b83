-- The group with which it begins, as the program places it.
use Rattle.std.proofs.Common.{◌≡◌, ◌≢◌, inl, inr, ℕ, List, [], ◌∷◌, ◌++◌, Bool, true, false, cond, ◌||◌, refl, ap, sym, subst, ◌∙◌, eqb-true}
use Rattle.std.specs.Prelude.{◌==◌, is_some}
use Rattle.std.specs.FinMap.{empty, get-empty, insert}
use Rattle.std.specs.Ordering.{nat_cmp}
use Rattle.std.proofs.lemmas.Bool.{cond-true, eq-eqb, ne_eqb, or_left, or_right, cases_Bool, eqb-false}
use Rattle.std.proofs.lemmas.List.Folds.{list_any-append}
use Rattle.raft_log.specs.declared.config.Config.{Config}
use Rattle.raft_log.specs.Majority.{is_among}
use Rattle.raft_log.specs.Peers.{put_among, joined}
use Rattle.raft_core.specs.Core.{opened}
use Rattle.raft_core.specs.Peer.{core_of}
use Rattle.raft_group.specs.declared.group.Group as program
use Rattle.raft_group.specs.declared.placed.PlacedPeer.{PlacedPeer}
use Rattle.raft_group.specs.Group.{blank, first_entry, first_core, first_members, start}
use Rattle.raft_group.specs.Held.{Peers, is_member_at, core_at, HoldsPeers, Holds, first_among, AreFounded}
use Rattle.raft_group.proofs.Holding.{written, put_in}
use Rattle.raft_group.proofs.Members.{same_put, put_there}

-- ids, with one more behind them
among_apart : (ids : List ℕ) (id x : ℕ) → x ≢ id → is_among x (ids ++ id ∷ []) ≡ is_among x ids
among_apart [] id x ne = ap (λ b. b || false) (ne_eqb id x (λ e. ne (sym e)))
among_apart (o ∷ ids) id x ne = ap (λ b. (o == x) || b) (among_apart ids id x ne)

among_here : (ids : List ℕ) (id : ℕ) → is_among id (ids ++ id ∷ []) ≡ true
among_here [] id = or_left (id == id) false (eq-eqb id id refl)
among_here (o ∷ ids) id = or_right (o == id) (is_among id (ids ++ id ∷ [])) (among_here ids id)

module _ (first : Config) where
  pub found_none : AreFounded first [] empty
  found_none = record {
    belong = λ id. sym (ap is_member_at (get-empty nat_cmp id));
    stand = λ id. sym (ap is_some (get-empty nat_cmp id));
    are = λ id. sym (ap (core_at id) (get-empty nat_cmp id));
  }

  pub found_one : (ids : List ℕ) (m : Peers) (id : ℕ) (now : PlacedPeer)
      → now.is_member ≡ true → core_of now.core ≡ opened id 0 0 (first_entry first ∷ []) → AreFounded first ids m → AreFounded first (ids ++ id ∷ []) (insert m id now)
  found_one ids m id now member state h =
      let more = ids ++ id ∷ [] in
      written m (insert m id now) id now ids more ids more (first_among first ids) (first_among first more) (put_in m id now)
      (record {
        belong = λ x ne. among_apart ids id x ne;
        stand = λ x ne. among_apart ids id x ne;
        are = λ x ne. ap (λ b. cond b (opened x 0 0 (first_entry first ∷ [])) (blank x)) (among_apart ids id x ne);
      })
      (record {
        belongs = among_here ids id ∙ sym member;
        stands = among_here ids id;
        is = cond-true (is_among id more) (opened id 0 0 (first_entry first ∷ [])) (blank id) (among_here ids id) ∙ sym state;
      })
      h

put_is : (id x : ℕ) (ids : List ℕ) → is_among x (put_among id ids) ≡ ((id == x) || is_among x ids)
put_is id x ids = elim (cases_Bool (id == x)) as (λ _. is_among x (put_among id ids) ≡ ((id == x) || is_among x ids)) [
  | inl same ↦ subst (λ (n : ℕ). is_among n (put_among id ids) ≡ ((id == n) || is_among n ids)) (eqb-true id x same) (put_there id ids ∙ sym (or_left (id == id) (is_among id ids) (eq-eqb id id refl)))
  | inr other ↦ same_put id x ids (λ e. eqb-false id x other (sym e)) ∙ ap (λ b. b || is_among x ids) (sym other)
]

turned : (a b c : Bool) → (a || (b || c)) ≡ (b || (a || c))
turned true true c = refl
turned true false c = refl
turned false true c = refl
turned false false c = refl

none_behind : (b : Bool) → b ≡ (b || false)
none_behind true = refl
none_behind false = refl

among_both : (x : ℕ) (voters learners : List ℕ) → is_among x (joined voters learners) ≡ (is_among x voters || is_among x learners)
among_both x voters [] = none_behind (is_among x voters)
among_both x voters (id ∷ learners) =
    put_is id x (joined voters learners) ∙ ap (λ b. (id == x) || b) (among_both x voters learners) ∙ turned (id == x) (is_among x voters) (is_among x learners)

among_joined : (x : ℕ) (voters learners : List ℕ) → is_among x (joined voters learners) ≡ is_among x (voters ++ learners)
among_joined x voters learners = among_both x voters learners ∙ sym (list_any-append (λ other. other == x) voters learners)

pub started : (first : Config) (m : Peers) → AreFounded first (first.voters ++ first.learners) m → (held : program.Group) → held.peers ≡ m → held.sent ≡ [] → held.decided ≡ [] → Holds held (start first)
started first m h held peers sent decided = record {
  peers = subst (λ n. HoldsPeers n (first_members first) (first_members first) (first_core first)) (sym peers) (record {
    belong = λ id. among_joined id first.voters first.learners ∙ h.belong id;
    stand = λ id. among_joined id first.voters first.learners ∙ h.stand id;
    are = λ id. ap (λ b. cond b (opened id 0 0 (first_entry first ∷ [])) (blank id)) (among_joined id first.voters first.learners) ∙ h.are id;
  });
  sent = sent;
  decided = decided;
}
