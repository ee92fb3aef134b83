-- A leader sends the Remote or the Fence of a chain that it takes up.
use Rattle.std.proofs.Common.{◌≡◌, ◌⊎◌, inl, inr, ℕ, suc, ◌<◌, ◌≤◌, [], ◌∷◌, ◌++◌, length, Some, Bool, true, false, refl, ap, sym, subst, ◌∙◌, arith}
use Rattle.std.specs.Prelude.{is_some, ◌==◌}
use Rattle.std.specs.Map.{keys_of}
use Rattle.std.proofs.lemmas.Bool.{false≢true, eqb-true, eqb-false}
use Rattle.std.proofs.lemmas.Option.{same_Some}
use Rattle.part_keys.specs.declared.chain.PrimeRec.{PrimeRec}
use Rattle.part_keys.specs.declared.chain.ChainState.{ChainState}
use Rattle.chain_leader.specs.declared.body.ChainBody.{ChainBody}
use Rattle.chain_leader.specs.declared.body.ChainBody.TheVariants as says
use Rattle.chain_leader.specs.Rules.{Table}
use Rattle.chain_world.specs.declared.packet.ChainEnd.TheVariants as ends
use Rattle.chain_world.specs.Places.{Among}
use Rattle.chain_world.specs.Course.{Course, Courses, Aborted}
use Rattle.chain_world.specs.State.{Post, Leader, Chains, decided_of, packet_of, post_of}
use Rattle.chain_world.specs.Invariant.Protocol.{HasPut, HasFenced, IsMeant, IsKept, IsKeptSender, IsReadyIf, StandsAt, is_fence}
use Rattle.chain_world.proofs.Staying.{put_split, fenced_split}
use Rattle.chain_world.proofs.Moving.{leader_set, set_here, moved, moves_kept}
use Rattle.chain_world.proofs.Tables.{IsSet}
use Rattle.chain_world.proofs.Ready.{IsReadyBut}
use Rattle.chain_world.proofs.TakingUp.{put_set, fence_set}

-- the chain that a Remote or a Fence names, and whether it is a Remote
abbrev chain_named : ChainBody → ℕ
chain_named (says.Request number x) = 0
chain_named (says.Answer number answer) = 0
chain_named (says.NotLeader about q hint) = 0
chain_named (says.Remote t v list) = v
chain_named (says.Done t v) = v
chain_named (says.Stale t v above) = v
chain_named (says.Fence t v edges) = v
chain_named (says.Fenced t v written) = v
chain_named (says.Resume t behind) = 0

abbrev is_remote : ChainBody → Bool
is_remote (says.Request number x) = false
is_remote (says.Answer number answer) = false
is_remote (says.NotLeader about q hint) = false
is_remote (says.Remote t v list) = true
is_remote (says.Done t v) = false
is_remote (says.Stale t v above) = false
is_remote (says.Fence t v edges) = false
is_remote (says.Fenced t v written) = false
is_remote (says.Resume t behind) = false

one_alone : (x y : Post) → Among x (y ∷ []) → x ≡ y
one_alone x y (inl same) = same
one_alone x y (inr none) = absurd none

module _ (parts : ℕ) (s : Chains) (k : Courses) (kept : IsKept parts s k) (p t : ℕ) (l : Leader) (is : s.leaders p t ≡ Some l) (behind : Leader) (made : behind.made ≡ l.made ++ [])
    (v : ℕ) (table : Table) (row : ChainState) (rec : PrimeRec)
    (r : IsReadyBut parts (decided_of s p) (HasPut s p t) (HasFenced s p t) t behind.applied v table) (within : behind.applied ≤ length (decided_of s p)) (below : v ≤ behind.applied)
    (stands : StandsAt parts (decided_of s p) behind.applied v rec) (list : row.list ≡ rec.list) (remote : row.remote ≡ rec.remote) (set : IsSet table v row behind.lead.table) (ready : behind.lead.ready ≡ true)
    (senders : (n : ℕ) (sender : _) → behind.senders n ≡ Some sender → IsKeptSender behind.made n sender) where
  -- A chain that stands behind the leader's no-op was given up by an entry of its term or a later one. It wasn't by its own
  -- term where it has sent no Fence for it.
  later_given_up : (HasFenced s p t v → ⊥) → (u : ℕ) (c : Course) → k p v ≡ Some c → c.fate ≡ Aborted u → t < u
  later_given_up unfenced u c known fate =
      let st = kept.standing p behind.applied v rec within stands in
      let same : st.course ≡ c = same_Some st.course c (sym st.known ∙ known) in
      let a = st.later u (ap (λ (x : Course). x.fate) same ∙ fate) in
      let rises = kept.rising p r.noop a.0 _ a.1 r.started a.3 (let x = r.applied in let y = a.2 in omega arith) in
      let its = a.4 in
      strictly (t == u) refl (omega arith)
    where
      strictly : (b : Bool) → (t == u) ≡ b → t ≤ u → t < u
      strictly true e le = absurd (unfenced (subst (λ (n : ℕ). HasFenced s p n v) (sym (eqb-true t u e)) (kept.aborted p v u c known fate).1))
      strictly false e le = (let apart = eqb-false t u e in omega arith)

  module _ (kind : is_fence row.mode ≡ false) (unfenced : HasFenced s p t v → ⊥) where
    abbrev pub remote_post : Post
    remote_post = post_of (packet_of (ends.Leader p t) (ends.Part row.remote) (says.Remote t v row.list))

    abbrev pub put_world : Chains
    put_world = moved parts s k kept p t l is behind [] made (remote_post ∷ [])

    put_new : (w : ℕ) → HasPut put_world p t w → HasPut s p t w ⊎ (w ≡ v)
    put_new w h = elim (put_split s s.ledger.steps s.founded (leader_set s.leaders p t behind) (remote_post ∷ []) s.clients p t w h) [
      | inl old ↦ inl old
      | inr new ↦ inr (ap (λ (x : Post). chain_named x.packet.body) (one_alone _ remote_post new.3))
    ]

    put_fenced : (w : ℕ) → HasFenced put_world p t w → HasFenced s p t w
    put_fenced w h = elim (fenced_split s s.ledger.steps s.founded (leader_set s.leaders p t behind) (remote_post ∷ []) s.clients p t w h) [
      | inl old ↦ old
      | inr new ↦ absurd (false≢true (ap (λ (x : Post). is_remote x.packet.body) (one_alone _ remote_post new.3)))
    ]

    put_means : (post : Post) → Among post (remote_post ∷ []) → IsMeant parts put_world k post
    put_means post among = subst (IsMeant parts put_world k) (sym (one_alone post remote_post among))
        (let st = kept.standing p behind.applied v rec within stands in record {
          part = p;
          course = st.course;
          sender = refl;
          known = st.known;
          whole = list ∙ st.list;
          receiver = ap ends.Part (remote ∙ st.remote);
          led = ap is_some (set_here s.leaders p t behind);
        })

    pub put_kept : IsKept parts put_world k
    put_kept = moves_kept parts s k kept p t l is behind [] made (remote_post ∷ []) (record {
      mine = λ post among chains. ap (λ (x : Post). x.packet.from) (one_alone post remote_post among);
      proposes = λ x among. absurd among;
      says = put_means;
      one_mode = λ w a b. elim (put_new w a) [ inl old ↦ kept.one_mode p t w old (put_fenced w b) | inr here ↦ unfenced (subst (HasFenced s p t) here (put_fenced w b)) ];
      unput = λ w u c a known fate. elim (put_new w a) [
        | inl old ↦ kept.unput p t w u c old known fate
        | inr here ↦ later_given_up unfenced u c (subst (λ (n : ℕ). k p n ≡ Some c) here known) fate
      ];
      led = record {
        above = (kept.leaders p t l is).above;
        within = within;
        senders = senders;
        rules = subst (IsReadyIf parts (decided_of s p) (HasPut put_world p t) (HasFenced put_world p t) t behind.applied behind.lead.table) (sym ready)
            (put_set parts (decided_of s p) (HasPut s p t) (HasFenced s p t) (HasPut put_world p t) (HasFenced put_world p t) t behind.applied v table behind.lead.table row rec r stands list remote set
            kind below unfenced put_new put_fenced);
      };
    })

  module _ (kind : is_fence row.mode ≡ true) (before : v ≤ suc r.noop) (unput : HasPut s p t v → ⊥) where
    abbrev pub fence_post : Post
    fence_post = post_of (packet_of (ends.Leader p t) (ends.Part row.remote) (says.Fence t v (keys_of row.list)))

    abbrev pub fence_world : Chains
    fence_world = moved parts s k kept p t l is behind [] made (fence_post ∷ [])

    fence_new : (w : ℕ) → HasFenced fence_world p t w → HasFenced s p t w ⊎ (w ≡ v)
    fence_new w h = elim (fenced_split s s.ledger.steps s.founded (leader_set s.leaders p t behind) (fence_post ∷ []) s.clients p t w h) [
      | inl old ↦ inl old
      | inr new ↦ inr (ap (λ (x : Post). chain_named x.packet.body) (one_alone _ fence_post new.3))
    ]

    fence_put : (w : ℕ) → HasPut fence_world p t w → HasPut s p t w
    fence_put w h = elim (put_split s s.ledger.steps s.founded (leader_set s.leaders p t behind) (fence_post ∷ []) s.clients p t w h) [
      | inl old ↦ old
      | inr new ↦ absurd (false≢true (sym (ap (λ (x : Post). is_remote x.packet.body) (one_alone _ fence_post new.3))))
    ]

    fence_means : (post : Post) → Among post (fence_post ∷ []) → IsMeant parts fence_world k post
    fence_means post among = subst (IsMeant parts fence_world k) (sym (one_alone post fence_post among))
        (let st = kept.standing p behind.applied v rec within stands in record {
          part = p;
          course = st.course;
          sender = refl;
          known = st.known;
          whole = ap keys_of (list ∙ st.list);
          receiver = ap ends.Part (remote ∙ st.remote);
          led = ap is_some (set_here s.leaders p t behind);
        })

    pub fence_kept : IsKept parts fence_world k
    fence_kept = moves_kept parts s k kept p t l is behind [] made (fence_post ∷ []) (record {
      mine = λ post among chains. ap (λ (x : Post). x.packet.from) (one_alone post fence_post among);
      proposes = λ x among. absurd among;
      says = fence_means;
      one_mode = λ w a b. elim (fence_new w b) [ inl old ↦ kept.one_mode p t w (fence_put w a) old | inr here ↦ unput (subst (HasPut s p t) here (fence_put w a)) ];
      unput = λ w u c a known fate. kept.unput p t w u c (fence_put w a) known fate;
      led = record {
        above = (kept.leaders p t l is).above;
        within = within;
        senders = senders;
        rules = subst (IsReadyIf parts (decided_of s p) (HasPut fence_world p t) (HasFenced fence_world p t) t behind.applied behind.lead.table) (sym ready)
            (fence_set parts (decided_of s p) (HasPut s p t) (HasFenced s p t) (HasPut fence_world p t) (HasFenced fence_world p t) t behind.applied v table behind.lead.table row rec r stands list remote set
            kind before unput fence_new fence_put);
      };
    })
