-- One peer moves, and all else stands stood it stood.
use Rattle.std.proofs.Common.{◌≡◌, ◌≢◌, ◌⊎◌, inl, inr, ℕ, List, Some, Bool, true, false, cond, refl, sym, subst, ◌∙◌, eqb-true}
use Rattle.std.specs.Prelude.{◌==◌, ◌&&◌, slice_get, if◌then◌else◌}
use Rattle.std.proofs.lemmas.Bool.{eqb-false}
use Rattle.raft_log.specs.declared.message.RaftMsg.{RaftMsg}
use Rattle.raft_group.specs.declared.sent.Sent.{Sent}
use Rattle.raft_group.specs.Group.{Group}
use Rattle.part_keys.specs.declared.proposal.Proposal.{Proposal}
use Rattle.replica_model.specs.declared.packet.Place.{Place}
use Rattle.replica_model.specs.declared.packet.Place.TheVariants as place
use Rattle.replica_model.specs.declared.packet.To.{To}
use Rattle.replica_model.specs.declared.packet.To.TheVariants as to
use Rattle.replica_model.specs.declared.packet.Body.{Body}
use Rattle.replica_model.specs.declared.packet.Body.TheVariants as body
use Rattle.replica_model.specs.declared.input.Input.{Input}
use Rattle.replica_model.specs.declared.input.Input.TheVariants as input
use Rattle.replica_model.specs.Spelling.{values_of}
use Rattle.world_model.specs.State.{Space, Post, Standing, Vacant, Up, Stopped, Down, Gone}
use Rattle.world_model.specs.Grouped.{Has, IsSent, IsCarried, IsComing, IsInput, IsHere, PeerAs, Grouped}
use Rattle.world_model.proofs.Grouping.{IsReached, GoesOn}

-- one part's group is this now; one replica stands so now
abbrev pub groups_set : (ℕ → Group) → ℕ → Group → ℕ → Group
groups_set g p x q = if q == p then x else g q

abbrev pub placed_set : (ℕ → ℕ → Standing) → ℕ → ℕ → Standing → ℕ → ℕ → Standing
placed_set placed p y standing q z = if (q == p) && (z == y) then standing else placed q z

module _ (sp : Space) (g h : Group) (y : ℕ) (goes : GoesOn g h y) where
  coming_on : (p z : ℕ) (from : Place) (b : Body) → IsComing g p z from b → IsComing h p z from b
  coming_on p z from (body.Raft m) c = λ a e. goes.sent _ (c a e)
  coming_on p z from (body.Chain said) c = tt

  pub input_on : (p z : ℕ) (i : Input) → IsInput g p z i → IsInput h p z i
  input_on p z (input.Sent packet) c = coming_on p z packet.from packet.body c
  input_on p z (input.Tick t) c = tt

  here_on : (z : ℕ) → z ≢ y → {core : _} → IsHere g z core → IsHere h z core
  here_on z other is = record { core_is = goes.core z other ∙ is.core_is; member = goes.members z other ∙ is.member }

  pub peer_on : (p z : ℕ) → z ≢ y → (standing : Standing) → PeerAs sp g p z standing → PeerAs sp h p z standing
  peer_on p z other Vacant v = record {
    core_is = goes.core z other ∙ v.core_is;
    member = λ e. goes.members z other ∙ v.member e;
    new = λ e. goes.placed z other ∙ v.new e;
  }
  peer_on p z other (Up r) is = here_on z other is
  peer_on p z other (Stopped r i) is = (here_on z other is.0, input_on p z i is.1)
  peer_on p z other (Down d) is = here_on z other is
  peer_on p z other Gone is = tt

-- a property of each part's group, where one part's is another now
pub at_set : (P : ℕ → Group → Type 0) (g : ℕ → Group) (p : ℕ) (x : Group) → ((q : ℕ) → P q (g q)) → P p x → (q : ℕ) → P q (groups_set g p x q)
at_set P g p x each here q = go (q == p) refl
  where
    go : (b : Bool) → q == p ≡ b → P q (cond b x (g q))
    go true e = subst (λ n. P n x) (sym (eqb-true q p e)) here
    go false e = each q

module _ (sp : Space) (placed : ℕ → ℕ → Standing) (g : ℕ → Group) (peers : (q z : ℕ) → PeerAs sp (g q) q z (placed q z)) (p y : ℕ) (standing : Standing) where
  -- one replica stands anew, its group stood it was
  pub restand : PeerAs sp (g p) p y standing → (q z : ℕ) → PeerAs sp (g q) q z (placed_set placed p y standing q z)
  restand stood q z = go (q == p) refl (z == y) refl
    where
      go : (b : Bool) → q == p ≡ b → (c : Bool) → z == y ≡ c → PeerAs sp (g q) q z (cond (b && c) standing (placed q z))
      go true e true f = subst (λ n. PeerAs sp (g n) n z standing) (sym (eqb-true q p e)) (subst (λ m. PeerAs sp (g p) p m standing) (sym (eqb-true z y f)) stood)
      go true e false f = peers q z
      go false e c f = peers q z

  -- and behind an event of its group
  pub peers_set : (x : Group) → GoesOn (g p) x y → PeerAs sp x p y standing → (q z : ℕ) → PeerAs sp (groups_set g p x q) q z (placed_set placed p y standing q z)
  peers_set x goes stood q z = go (q == p) refl
    where
      here : q ≡ p → (c : Bool) → z == y ≡ c → PeerAs sp x q z (cond c standing (placed q z))
      here e true f = subst (λ n. PeerAs sp x n z standing) (sym e) (subst (λ m. PeerAs sp x p m standing) (sym (eqb-true z y f)) stood)
      here e false f = peer_on sp (g p) x y goes q z (eqb-false z y f) (placed q z) (subst (λ n. PeerAs sp (g n) q z (placed q z)) e (peers q z))

      go : (b : Bool) → q == p ≡ b → PeerAs sp (cond b x (g q)) q z (cond (b && (z == y)) standing (placed q z))
      go true e = here (eqb-true q p e) (z == y) refl
      go false e = peers q z

module _ (g : ℕ → Group) (p : ℕ) (x : Group) (grows : (s : Sent) → Has (g p).sent s → Has x.sent s) where
  sent_on : (q : ℕ) (s : Sent) → Has (g q).sent s → Has (groups_set g p x q).sent s
  sent_on q s has = go (q == p) refl
    where
      go : (b : Bool) → q == p ≡ b → Has (cond b x (g q)).sent s
      go true e = grows s (subst (λ n. Has (g n).sent s) (eqb-true q p e) has)
      go false e = has

  is_sent_on : (from : Place) (whom : To) (m : RaftMsg) → IsSent g from whom m → IsSent (groups_set g p x) from whom m
  is_sent_on (place.Peer q a) (to.Peer r b) m c = (c.0, sent_on q _ c.1)
  is_sent_on (place.Peer q a) (to.Client n) m c = c
  is_sent_on (place.Peer q a) (to.Part n tries) m c = c
  is_sent_on (place.Client n) whom m c = c

  -- what was sent in a group stays sent
  pub carried_on : (from : Place) (whom : To) (b : Body) → IsCarried g from whom b → IsCarried (groups_set g p x) from whom b
  carried_on from whom (body.Raft m) c = is_sent_on from whom m c
  carried_on from whom (body.Chain said) c = tt

-- One peer of one part moved, by an event of its group.
pub regroup : (sp : Space) (placed : ℕ → ℕ → Standing) (posts : List Post) (decided : ℕ → List (ℕ × Proposal)) (g : ℕ → Group) → Grouped sp placed posts decided g
    → (p y : ℕ) (standing : Standing) (x : Group) → IsReached (sp.first p) x → GoesOn (g p) x y → PeerAs sp x p y standing
    → (now_posts : List Post) → ((k : ℕ) (post : Post) → slice_get now_posts k ≡ Some post → (slice_get posts k ≡ Some post) ⊎ IsCarried (groups_set g p x) post.packet.from post.packet.to post.packet.body)
    → (now_decided : ℕ → List (ℕ × Proposal)) → ((q : ℕ) → q ≢ p → now_decided q ≡ decided q) → now_decided p ≡ values_of sp.spelling x.decided
    → Grouped sp (placed_set placed p y standing) now_posts now_decided (groups_set g p x)
regroup sp placed posts decided g G p y standing x reached goes stood now_posts carried now_decided others here = record {
  reached = at_set (λ q h. IsReached (sp.first q) h) g p x G.reached reached;
  peers = peers_set sp placed g G.peers p y standing x goes stood;
  letters = λ k post at. elim (carried k post at) [
    | inl old ↦ carried_on g p x goes.sent post.packet.from post.packet.to post.packet.body (G.letters k post old)
    | inr new ↦ new
  ];
  lists = λ q. lists q (q == p) refl;
}
  where
    lists : (q : ℕ) (b : Bool) → q == p ≡ b → now_decided q ≡ values_of sp.spelling (cond b x (g q)).decided
    lists q true e = subst (λ n. now_decided n ≡ values_of sp.spelling x.decided) (sym (eqb-true q p e)) here
    lists q false e = others q (eqb-false q p e) ∙ G.lists q

-- One replica stands anew.
pub stands_anew : (sp : Space) (placed : ℕ → ℕ → Standing) (posts : List Post) (decided : ℕ → List (ℕ × Proposal)) (g : ℕ → Group) → Grouped sp placed posts decided g
    → (p y : ℕ) (standing : Standing) → PeerAs sp (g p) p y standing → Grouped sp (placed_set placed p y standing) posts decided g
stands_anew sp placed posts decided g G p y standing stood = record { reached = G.reached; peers = restand sp placed g G.peers p y standing stood; letters = G.letters; lists = G.lists }
