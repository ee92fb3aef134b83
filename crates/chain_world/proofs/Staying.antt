-- What an event that decides nothing has to keep itself; all else stays.
use Rattle.std.proofs.Common.{◌≡◌, ◌⊎◌, inl, inr, ℕ, ◌<◌, List, ◌++◌, Option, Some, Bool, true, false, refl, sym, subst, ◌∙◌, arith}
use Rattle.std.specs.Prelude.{is_some}
use Rattle.std.proofs.lemmas.Bool.{false≢true}
use Rattle.std.proofs.lemmas.Option.{same_Some}
use Rattle.graph_model.specs.declared.answer.Answer.{Answer}
use Rattle.graph_model.specs.declared.call_id.CallId.{CallId}
use Rattle.graph_model.specs.declared.edge_id.EdgeId.{EdgeId}
use Rattle.graph_model.specs.declared.graph_step.GStep.{GStep}
use Rattle.graph_model.specs.declared.half.Half.{Half}
use Rattle.graph_model.specs.declared.op.Op.{Op}
use Rattle.part_keys.specs.declared.proposal.Proposal.{Proposal}
use Rattle.chain_leader.specs.declared.body.ChainBody.{ChainBody}
use Rattle.chain_leader.specs.declared.body.ChainBody.TheVariants as says
use Rattle.chain_world.specs.declared.packet.ChainEnd.{ChainEnd}
use Rattle.chain_world.specs.declared.packet.ChainEnd.TheVariants as ends
use Rattle.chain_world.specs.Places.{Among, At}
use Rattle.chain_world.specs.Course.{Course, Courses, Aborted}
use Rattle.chain_world.specs.Invariant.Discipline.{IsInvoked, IsRightReply}
use Rattle.chain_world.specs.State.{Post, Leader, Client, Chains, made_by, packet_of}
use Rattle.chain_world.specs.Invariant.Protocol.{HasPut, HasFenced, IsMeant, IsProposed, IsLed, IsKept}
use Rattle.chain_world.specs.Invariant.Going.{Goes}
use Rattle.chain_world.proofs.Members.{among_front, among_either}
use Rattle.chain_world.proofs.Going.{meant_on, proposed_on, denied_on, has_fenced_on}

-- a packet of a chain: a Remote or a Fence
abbrev pub is_chains : ChainBody → Bool
is_chains (says.Request number x) = false
is_chains (says.Answer number answer) = false
is_chains (says.NotLeader about q hint) = false
is_chains (says.Remote t v list) = true
is_chains (says.Done t v) = false
is_chains (says.Stale t v above) = false
is_chains (says.Fence t v edges) = true
is_chains (says.Fenced t v written) = false
is_chains (says.Resume t behind) = false

-- none of these packets is a Remote or a Fence
abbrev pub AreQuiet : List Post → Type 0
AreQuiet more = (post : Post) → Among post more → is_chains post.packet.body ≡ false

-- the world with the same decided lists
abbrev pub gone_on : Chains → List GStep → (ℕ → List Proposal) → (ℕ → ℕ → Option Leader) → List Post → (ℕ → Client) → Chains
gone_on s steps founded leaders more clients = record {
  ledger = record { steps = steps; decided = s.ledger.decided };
  founded = founded;
  leaders = leaders;
  posts = s.posts ++ more;
  clients = clients;
}

module _ (s : Chains) (steps : List GStep) (founded : ℕ → List Proposal) (leaders : ℕ → ℕ → Option Leader) (more : List Post) (clients : ℕ → Client) where
  abbrev z : Chains
  z = gone_on s steps founded leaders more clients

  -- what was put or fenced before, or just now
  pub put_split : (p t v : ℕ) → HasPut z p t v
      → HasPut s p t v ⊎ ((to : ChainEnd) × (list : List (EdgeId × Half)) × (m : ℕ) × Among (record { packet = packet_of (ends.Leader p t) to (says.Remote t v list); moment = m }) more)
  put_split p t v h = elim (among_either _ s.posts more h.2.1) [ inl old ↦ inl (h.0, h.1, (h.2.0, old)) | inr new ↦ inr (h.0, h.1, h.2.0, new) ]

  pub fenced_split : (p t v : ℕ) → HasFenced z p t v
      → HasFenced s p t v ⊎ ((to : ChainEnd) × (edges : List EdgeId) × (m : ℕ) × Among (record { packet = packet_of (ends.Leader p t) to (says.Fence t v edges); moment = m }) more)
  fenced_split p t v h = elim (among_either _ s.posts more h.2.1) [ inl old ↦ inl (h.0, h.1, (h.2.0, old)) | inr new ↦ inr (h.0, h.1, h.2.0, new) ]

  pub quiet_put : AreQuiet more → (p t v : ℕ) → HasPut z p t v → HasPut s p t v
  quiet_put quiet p t v h = elim (put_split p t v h) [ inl old ↦ old | inr new ↦ absurd (false≢true (sym (quiet _ new.3))) ]

  pub quiet_fenced : AreQuiet more → (p t v : ℕ) → HasFenced z p t v → HasFenced s p t v
  quiet_fenced quiet p t v h = elim (fenced_split p t v h) [ inl old ↦ old | inr new ↦ absurd (false≢true (sym (quiet _ new.3))) ]

  module _ (parts : ℕ) (k : Courses) (kept : IsKept parts s k) where
    -- leaders and calls stay, and right replies stay right
    pub record Onward : Type 0 where
      pub led : (p t : ℕ) → is_some (s.leaders p t) ≡ true → is_some (leaders p t) ≡ true
      pub invoked : (id : CallId) (op : Op) → IsInvoked s.ledger.steps id op → IsInvoked steps id op
      pub rights : (id : CallId) (a : Answer) (m : ℕ) → IsRightReply parts s.ledger id a m → IsRightReply parts z.ledger id a m

    pub going : Onward → Goes parts s k z k
    going onward = record {
      posts = λ post. among_front post s.posts more;
      led = onward.led;
      invoked = onward.invoked;
      courses = λ p v c known. record { new = c; known = known; list = refl; remote = refl; wrote = λ w. w; aborted = λ a. a };
      guards = λ q p. omega arith;
      passed = λ p t h. h;
      unwritten = λ p t v c d fenced known guarded passed known_d wrote. passed (subst (λ (x : Course). x.wrote ≡ true) (same_Some d c (sym known_d ∙ known)) wrote);
      rights = onward.rights;
    }

    -- what is new
    pub record IsNew : Type 0 where
      pub made : (p t i : ℕ) (x : Proposal) → At (made_by s p t) i x → At (made_by z p t) i x
      pub proposed : (p t : ℕ) (x : Proposal) → Among x (made_by z p t) → Among x (made_by s p t) ⊎ IsProposed parts z k p t x
      pub meant : (post : Post) → Among post more → IsMeant parts z k post
      pub one_mode : (p t v : ℕ) → HasPut z p t v → HasFenced z p t v → ⊥
      pub unput : (p t v u : ℕ) (c : Course) → HasPut z p t v → k p v ≡ Some c → c.fate ≡ Aborted u → t < u
      pub leaders_new : (p t : ℕ) (l : Leader) → leaders p t ≡ Some l → IsLed parts z p t l

    pub kept_behind : Onward → IsNew → IsKept parts z k
    kept_behind onward new = let goes = going onward in record {
      rising = kept.rising;
      follows = λ p i e at. new.made p e.0 _ e.1 (kept.follows p i e at);
      standing = kept.standing;
      one_mode = new.one_mode;
      aborted = λ p v u c known fate. (let a = kept.aborted p v u c known fate in (a.0, has_fenced_on parts s k z k goes p u v a.1));
      unput = new.unput;
      meant = λ post among. elim (among_either post s.posts more among) [ inl old ↦ meant_on parts s k z k goes post (kept.meant post old) | inr fresh ↦ new.meant post fresh ];
      proposed = λ p t x among. elim (new.proposed p t x among) [ inl old ↦ proposed_on parts s k z k goes p t x (kept.proposed p t x old) | inr fresh ↦ fresh ];
      denied = λ q i u p t v edges was. denied_on parts s k z k goes p t v (kept.denied q i u p t v edges was);
      leaders = new.leaders_new;
    }
