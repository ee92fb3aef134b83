-- The events once more, each as a function by cases of what it meets, in the form that the proofs take apart.
use Rattle.std.proofs.lemmas.Bool.{and_parts}
use Rattle.std.proofs.Common.{◌≡◌, ℕ, [], ◌∷◌, Option, Some, None, Bool, true, false, cond, ◌&&◌, ◌||◌, refl, ap, ◌∙◌, arith, eqb-true, take_all}
use Rattle.std.specs.Prelude.{◌==◌, nat_le, length, is_some, slice_get, if◌then◌else◌}
use Rattle.graph_model.specs.declared.answer.Answer.{Answer}
use Rattle.graph_model.specs.declared.call_id.CallId.{CallId}
use Rattle.graph_model.specs.declared.query.Query.{Query}
use Rattle.graph_model.specs.Same.{is_unknown}
use Rattle.part_keys.specs.declared.proposal.Proposal.{Proposal}
use Rattle.part_keys.specs.declared.proposal.Proposal.TheVariants.{Members}
use Rattle.part_keys.specs.declared.vid_kind.VidKind.{VidKind}
use Rattle.part_rules.specs.Part.{Part}
use Rattle.part_rules.specs.Folded.{folded}
use Rattle.chain_leader.specs.declared.body.ChainBody.TheVariants as says
use Rattle.chain_leader.specs.Leading.{read, given_up, pulsed}
use Rattle.chain_world.specs.declared.packet.ChainEnd.TheVariants as ends
use Rattle.raft_log.specs.declared.config.Config.{Config}
use Rattle.chain_world.specs.declared.event.ChainEvent.{ChainEvent}
use Rattle.chain_world.specs.declared.event.ChainEvent.TheVariants as event
use Rattle.chain_world.specs.State.{Post, Leader, Chains, decided_of, made_by, with_leader, with_founded, with_posts, posts_of, machine_behind, decided_machine, packet_of}
use Rattle.chain_world.specs.World.{is_part, is_client, holds_of, where_some, may_invoke, with_invoke, is_unfounded, with_made, may_lead, new_leader, is_to, with_taken, taking, may_decide, with_decided, next_entry, applying, first_asked, knows_all, shown_by, is_open_at, brings, moment_of, with_reply, after}

-- Members
abbrev pub member_proposed : Chains → ℕ → ℕ → Config → Option Leader → Chains
member_proposed s p t config None = s
member_proposed s p t config (Some l) = with_leader s p t (with_made l (Members config ∷ []))

abbrev pub founding : Chains → ℕ → Config → Chains
founding s p config = if is_unfounded s p then with_founded s p (Members config ∷ []) else s

-- Take
abbrev pub took : VidKind → ℕ → Chains → ℕ → ℕ → Option Leader → Option Post → Chains
took ids parts s p t None post = s
took ids parts s p t (Some l) None = s
took ids parts s p t (Some l) (Some post) = if is_to p t post.packet.to then taking ids parts s p t l post.packet else s

-- Decide
abbrev pub deciding : ℕ → Chains → ℕ → ℕ → Option Proposal → Chains
deciding parts s p t None = s
deciding parts s p t (Some x) = with_decided parts s p t x

-- Apply
abbrev pub applied_next : ℕ → Chains → ℕ → ℕ → Leader → Option (ℕ × Proposal) → Chains
applied_next parts s p t l None = s
applied_next parts s p t l (Some entry) = if nat_le entry.0 t then applying parts s p t l entry else s

abbrev pub applies : ℕ → Chains → ℕ → ℕ → Option Leader → Chains
applies parts s p t None = s
applies parts s p t (Some l) = applied_next parts s p t l (slice_get (decided_of s p) l.applied)

-- GiveUp and Pulse
abbrev pub told_waits : Chains → ℕ → ℕ → CallId → Option Leader → Chains
told_waits s p t id None = s
told_waits s p t id (Some l) = with_taken s p t l (given_up l.lead id) None

abbrev pub told_again : Chains → ℕ → ℕ → Option Leader → Chains
told_again s p t None = s
told_again s p t (Some l) = with_posts s (posts_of p t None (pulsed l.lead))

-- See, by what the part's machine shows behind all that is decided
abbrev pub shown_to : ℕ → Chains → ℕ → ℕ → CallId → Query → Post
shown_to parts s p t id query = record {
  packet = packet_of (ends.Leader p t) (ends.Client id.client) (says.Answer id.number (read (decided_machine parts s p) query));
  moment = length s.ledger.steps;
}

abbrev pub showing : ℕ → Chains → ℕ → ℕ → CallId → Option Query → Chains
showing parts s p t id None = s
showing parts s p t id (Some query) = with_posts s (shown_to parts s p t id query ∷ [])

abbrev pub sees : ℕ → Chains → ℕ → ℕ → CallId → Option Leader → Chains
sees parts s p t id None = s
sees parts s p t id (Some l) = if knows_all s p l then showing parts s p t id (first_asked p id s.posts) else s

-- Reply
abbrev pub may_end : CallId → Answer → Option Post → Bool
may_end id a post = is_unknown a || holds_of (λ (x : Post). brings id a x) post

abbrev pub ended : Chains → CallId → Answer → Option Post → Chains
ended s id a post = if may_end id a post then with_reply s id a (moment_of post) else s

-- an event's part or client is one
abbrev pub is_in_range : ℕ → ChainEvent → Bool
is_in_range parts (event.Invoke id op) = is_client id.client
is_in_range parts (event.Members p t config) = is_part parts p
is_in_range parts (event.Lead p t policy a) = is_part parts p
is_in_range parts (event.Take p t k) = is_part parts p
is_in_range parts (event.Decide p t n) = is_part parts p
is_in_range parts (event.Apply p t) = is_part parts p
is_in_range parts (event.GiveUp p t id) = is_part parts p
is_in_range parts (event.Pulse p t) = is_part parts p
is_in_range parts (event.See p t id) = is_part parts p
is_in_range parts (event.Reply id a k) = is_client id.client

-- and the event by cases
abbrev pub occurs : VidKind → ℕ → Chains → ChainEvent → Chains
occurs ids parts s (event.Invoke id op) = if may_invoke ids parts (s.clients id.client) id op then with_invoke parts s id op else s
occurs ids parts s (event.Members p t config) = if t == 0 then founding s p config else member_proposed s p t config (s.leaders p t)
occurs ids parts s (event.Lead p t policy a) = if may_lead s p t a then with_leader s p t (new_leader policy a) else s
occurs ids parts s (event.Take p t k) = took ids parts s p t (s.leaders p t) (slice_get s.posts k)
occurs ids parts s (event.Decide p t n) = if may_decide s p t n then deciding parts s p t (slice_get (made_by s p t) n) else s
occurs ids parts s (event.Apply p t) = applies parts s p t (s.leaders p t)
occurs ids parts s (event.GiveUp p t id) = told_waits s p t id (s.leaders p t)
occurs ids parts s (event.Pulse p t) = told_again s p t (s.leaders p t)
occurs ids parts s (event.See p t id) = sees parts s p t id (s.leaders p t)
occurs ids parts s (event.Reply id a k) = if is_open_at s id then ended s id a (slice_get s.posts k) else s

-- one test behind another
nested : (a b : Bool) (x y : Chains) → cond (a && b) x y ≡ cond a (cond b x y) y
nested true b x y = refl
nested false b x y = refl

module _ (ids : VidKind) (parts : ℕ) (s : Chains) where
  -- what is made behind a test, where it is the same
  abbrev within : Bool → Chains → Chains
  within test z = cond test z s

  member_same : (p t : ℕ) (config : Config) (test : Bool) (o : Option Leader) →
      cond (cond test (is_unfounded s p) (is_some o)) (cond test (with_founded s p (Members config ∷ [])) (where_some s o (λ (l : Leader). with_leader s p t (with_made l (Members config ∷ []))))) s
      ≡ cond test (founding s p config) (member_proposed s p t config o)
  member_same p t config true o = refl
  member_same p t config false None = refl
  member_same p t config false (Some l) = refl

  take_same : (p t : ℕ) (o : Option Leader) (post : Option Post) →
      cond (is_some o && holds_of (λ (x : Post). is_to p t x.packet.to) post) (where_some s o (λ (l : Leader). where_some s post (λ (x : Post). taking ids parts s p t l x.packet))) s
      ≡ took ids parts s p t o post
  take_same p t None post = refl
  take_same p t (Some l) None = refl
  take_same p t (Some l) (Some x) = refl

  decide_same : (p t : ℕ) (test : Bool) (o : Option Proposal) →
      cond (test && is_some o) (where_some s o (λ (x : Proposal). with_decided parts s p t x)) s ≡ cond test (deciding parts s p t o) s
  decide_same p t true None = refl
  decide_same p t true (Some x) = refl
  decide_same p t false o = refl

  next_same : (p t : ℕ) (l : Leader) (o : Option (ℕ × Proposal)) →
      cond (holds_of (λ (e : ℕ × Proposal). nat_le e.0 t) o) (where_some s o (λ (e : ℕ × Proposal). applying parts s p t l e)) s ≡ applied_next parts s p t l o
  next_same p t l None = refl
  next_same p t l (Some e) = refl

  apply_same : (p t : ℕ) (o : Option Leader) →
      cond (holds_of (λ (l : Leader). holds_of (λ (e : ℕ × Proposal). nat_le e.0 t) (next_entry s p l)) o) (where_some s o (λ (l : Leader). where_some s (next_entry s p l) (λ (e : ℕ × Proposal). applying parts s p t l e))) s
      ≡ applies parts s p t o
  apply_same p t None = refl
  apply_same p t (Some l) = next_same p t l (next_entry s p l)

  waits_same : (p t : ℕ) (id : CallId) (o : Option Leader) →
      cond (is_some o) (where_some s o (λ (l : Leader). with_taken s p t l (given_up l.lead id) None)) s ≡ told_waits s p t id o
  waits_same p t id None = refl
  waits_same p t id (Some l) = refl

  again_same : (p t : ℕ) (o : Option Leader) →
      cond (is_some o) (where_some s o (λ (l : Leader). with_posts s (posts_of p t None (pulsed l.lead)))) s ≡ told_again s p t o
  again_same p t None = refl
  again_same p t (Some l) = refl

  see_by : (p t : ℕ) (id : CallId) (l : Leader) (test : Bool) → ((query : Query) → test ≡ true → shown_by parts s p t l id query ≡ shown_to parts s p t id query) → (o : Option Query) →
      cond (test && is_some o) (where_some s o (λ (query : Query). with_posts s (shown_by parts s p t l id query ∷ []))) s ≡ cond test (showing parts s p t id o) s
  see_by p t id l true same None = refl
  see_by p t id l true same (Some query) = ap (λ (post : Post). with_posts s (post ∷ [])) (same query refl)
  see_by p t id l false same o = refl

  -- a leader that has applied all that is decided has the part's machine
  has_all : (p : ℕ) (l : Leader) → knows_all s p l ≡ true → machine_behind parts s p l.applied ≡ decided_machine parts s p
  has_all p l knows = (let n = eqb-true l.applied (length (decided_of s p)) (and_parts l.lead.ready (l.applied == length (decided_of s p)) knows).1 in
      ap (folded parts) (take_all l.applied (decided_of s p) (omega arith)))

  see_same : (p t : ℕ) (id : CallId) (o : Option Leader) →
      cond (holds_of (λ (l : Leader). knows_all s p l) o && is_some (first_asked p id s.posts)) (where_some s o (λ (l : Leader). where_some s (first_asked p id s.posts) (λ (query : Query). with_posts s (shown_by parts s p t l id query ∷ [])))) s
      ≡ sees parts s p t id o
  see_same p t id None = refl
  see_same p t id (Some l) = see_by p t id l (knows_all s p l) (λ query knows. ap (λ (m : Part). record {
    packet = packet_of (ends.Leader p t) (ends.Client id.client) (says.Answer id.number (read m query));
    moment = length s.ledger.steps;
  }) (has_all p l knows)) (first_asked p id s.posts)

  -- An event that isn't lawful changes nothing, by cases too.
  pub after_is : (e : ChainEvent) → after ids parts s e ≡ (if is_in_range parts e then occurs ids parts s e else s)
  after_is (event.Invoke id op) = nested (is_client id.client) _ _ s
  after_is (event.Members p t config) = nested (is_part parts p) _ _ s ∙ ap (within (is_part parts p)) (member_same p t config (t == 0) (s.leaders p t))
  after_is (event.Lead p t policy a) = nested (is_part parts p) _ _ s
  after_is (event.Take p t k) = nested (is_part parts p) _ _ s ∙ ap (within (is_part parts p)) (take_same p t (s.leaders p t) (slice_get s.posts k))
  after_is (event.Decide p t n) = nested (is_part parts p) _ _ s ∙ ap (within (is_part parts p)) (decide_same p t (may_decide s p t n) (slice_get (made_by s p t) n))
  after_is (event.Apply p t) = nested (is_part parts p) _ _ s ∙ ap (within (is_part parts p)) (apply_same p t (s.leaders p t))
  after_is (event.GiveUp p t id) = nested (is_part parts p) _ _ s ∙ ap (within (is_part parts p)) (waits_same p t id (s.leaders p t))
  after_is (event.Pulse p t) = nested (is_part parts p) _ _ s ∙ ap (within (is_part parts p)) (again_same p t (s.leaders p t))
  after_is (event.See p t id) = nested (is_part parts p) _ _ s ∙ ap (within (is_part parts p)) (see_same p t id (s.leaders p t))
  after_is (event.Reply id a k) = nested (is_client id.client) _ _ s ∙ ap (within (is_client id.client)) (nested (is_open_at s id) _ _ s)
