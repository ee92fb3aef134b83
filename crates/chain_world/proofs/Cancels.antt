-- Each event keeps that only leaders of policy Cancel fence and give up chains.
use Rattle.std.proofs.Common.{◌≡◌, inl, inr, ℕ, suc, List, [], ◌∷◌, ◌++◌, length, Option, Some, None, Bool, true, false, ◌&&◌, refl, ap, sym, subst, ◌∙◌, append-nil, arith}
use Rattle.std.specs.Prelude.{◌==◌, nat_lt, nat_le, is_some, if◌then◌else◌, slice_get}
use Rattle.std.specs.FinMap.{get, get-empty}
use Rattle.std.specs.Ordering.{nat_cmp}
use Rattle.std.proofs.lemmas.Bool.{false≢true, cond_both, and_parts, cond-false, ne_eqb}
use Rattle.std.proofs.lemmas.Option.{none-some}
use Rattle.std.proofs.lemmas.List.Elements.{filter_map-append}
use Rattle.raft_log.specs.declared.config.Config.{Config}
use Rattle.graph_model.specs.declared.call_id.CallId.{CallId}
use Rattle.part_keys.specs.declared.chain.Policy.{Policy}
use Rattle.part_keys.specs.declared.proposal.Proposal.{Proposal}
use Rattle.part_keys.specs.declared.proposal.Proposal.TheVariants.{Start, Members, Made, Blank}
use Rattle.part_keys.specs.declared.entry.PartEntry.{PartEntry}
use Rattle.part_keys.specs.declared.entry.PartEntry.TheVariants as entry
use Rattle.part_rules.specs.declared.applied.Applied.{Applied}
use Rattle.part_rules.specs.Part.{Part}
use Rattle.part_rules.specs.Machine as machines
use Rattle.chain_leader.specs.declared.body.ChainBody.{ChainBody}
use Rattle.chain_leader.specs.declared.body.ChainBody.TheVariants as says
use Rattle.chain_leader.specs.declared.letter.Letter.{Letter}
use Rattle.chain_leader.specs.Rules.{give_up}
use Rattle.chain_leader.specs.Leading.{Applies, still, asking, answers_of, ruled_by, forgetting, chain_in, on_entry, started, pulsed}
use Rattle.part_keys.specs.declared.vid_kind.VidKind.{VidKind}
use Rattle.chain_world.specs.declared.event.ChainEvent.{ChainEvent}
use Rattle.chain_world.specs.declared.event.ChainEvent.TheVariants as event
use Rattle.chain_world.specs.Places.{Among}
use Rattle.chain_world.specs.State.{Post, Leader, Chains, start, decided_of, machine_behind, made_by, with_leader, addressed, posts_of, made_by_leader}
use Rattle.chain_world.specs.World.{is_to, with_taken, taking, own_sender, with_applied, applying, is_unfounded, with_made, may_lead, new_leader, may_invoke, with_invoke, may_decide, after, run_from, run, first_asked, knows_all, is_open_at, with_reply, moment_of}
use Rattle.chain_world.proofs.Occurring.{took, applied_next, applies, told_waits, told_again, founding, member_proposed, deciding, is_in_range, occurs, showing, sees, ended, may_end, after_is}
use Rattle.chain_world.specs.Invariant.Protocol.{IsMeantBy}
use Rattle.graph_model.specs.declared.answer.Answer.{Answer}
use Rattle.chain_world.specs.Invariant.Safe.{IsSafe}
use Rattle.chain_world.specs.Invariant.Cancelling.{FencesBy, AreCancelling, CancelsByPolicy}
use Rattle.chain_world.proofs.Members.{among_either, among_at}
use Rattle.chain_world.proofs.Moving.{same_leader, set_split}
use Rattle.chain_world.proofs.Ready.{is_there}
use Rattle.chain_world.proofs.Answers.{answers_quiet}
use Rattle.chain_world.proofs.Cautious.{is_fence_body, PostsBy, fences_give_up, fences_forgetting, ruled_careful}
use Rattle.chain_world.proofs.Worlds.{after_safe, start_safe, always_safe}
use Rattle.chain_world.proofs.Cancelling.{quiet_by, letters_mine, told_cancelling, moved_cancelling, no_letters, still_careful, take_careful}
use Rattle.std.specs.Prelude.{is_none}

module _ (ids : VidKind) (parts : ℕ) (s : Chains) (safe : IsSafe parts s) (can : AreCancelling s) where
  -- Apply
  module _ (p t : ℕ) (l : Leader) (is : s.leaders p t ≡ Some l) (u : ℕ) where
    applied_careful : (made : Applies) → made.leading.policy ≡ l.lead.policy → FencesBy l.lead.policy made.leading.table
        → PostsBy l.lead.policy (posts_of p t (own_sender s p t l u) (made.answers ++ made.rules)) → AreCancelling (with_applied s p t l made (own_sender s p t l u))
    applied_careful made policy table posts = moved_cancelling s can (with_applied s p t l made (own_sender s p t l u)) p t l _ (posts_of p t (own_sender s p t l u) (made.answers ++ made.rules)) is refl refl policy table
        (letters_mine p t (own_sender s p t l u) (made.answers ++ made.rules)) posts

    rows : FencesBy l.lead.policy l.lead.table
    rows = can.rows p t l is

    entry_careful : (x : PartEntry) (r : Part × Applied) → AreCancelling (with_applied s p t l (on_entry t l.lead (u == t) x r) (own_sender s p t l u))
    entry_careful x r =
        let f = fences_forgetting l.lead.policy l.lead.table r.0 (chain_in x) rows in
        let c = ruled_careful l.lead.policy p t (own_sender s p t l u) (forgetting l.lead.table r.0 (chain_in x)) l.lead.ready r.0 r.1 f in
        let a : List Letter = answers_of (u == t) x r.1 in
        let b : List Letter = (ruled_by l.lead.ready t (forgetting l.lead.table r.0 (chain_in x)) r.0 r.1).letters in
        applied_careful (on_entry t l.lead (u == t) x r) refl c.0
        (subst (PostsBy l.lead.policy) (sym (filter_map-append (addressed p t (own_sender s p t l u)) a b))
        (λ post among fence. elim (among_either post (posts_of p t (own_sender s p t l u) a) (posts_of p t (own_sender s p t l u) b) among) [
          | inl x ↦ quiet_by l.lead.policy _ (answers_quiet p t (own_sender s p t l u) (u == t) _ r.1) post x fence
          | inr y ↦ c.1 post y fence
        ]))

    item_careful : (x : Proposal) → AreCancelling (applying parts s p t l (u, x))
    item_careful Start = by_own (u == t)
      where
        by_own : (b : Bool) → AreCancelling (with_applied s p t l (started l.lead b) (own_sender s p t l u))
        by_own true = applied_careful (started l.lead true) refl rows (λ post among fence. elim among [ inl same ↦ absurd (false≢true (ap (λ (y : Post). is_fence_body y.packet.body) (sym same) ∙ fence)) | inr none ↦ absurd none ])
        by_own false = applied_careful (started l.lead false) refl rows (λ post none. absurd none)
    item_careful (Members config) = applied_careful (record { leading = l.lead; answers = []; rules = [] }) refl rows (λ post none. absurd none)
    item_careful (Made x) = entry_careful x (machines.applied parts (suc l.applied) x (machine_behind parts s p l.applied))
    item_careful Blank = applied_careful (record { leading = l.lead; answers = []; rules = [] }) refl rows (λ post none. absurd none)

  apply_event : (p t : ℕ) (o : Option Leader) → s.leaders p t ≡ o → AreCancelling (applies parts s p t o)
  apply_event p t None is = can
  apply_event p t (Some l) is = by_entry (slice_get (decided_of s p) l.applied)
    where
      by_entry : (o : Option (ℕ × Proposal)) → AreCancelling (applied_next parts s p t l o)
      by_entry None = can
      by_entry (Some e) = cond_both (nat_le e.0 t) (applying parts s p t l e) s AreCancelling (λ _. item_careful p t l is e.0 e.1) (λ _. can)

  -- Take
  take_event : (p t : ℕ) (o : Option Leader) → s.leaders p t ≡ o → (k : ℕ) (post : Option Post) → slice_get s.posts k ≡ post → AreCancelling (took ids parts s p t o post)
  take_event p t None is k post at = can
  take_event p t (Some l) is k None at = can
  take_event p t (Some l) is k (Some post) at = cond_both (is_to p t post.packet.to) (taking ids parts s p t l post.packet) s AreCancelling
      (λ _. take_careful s can p t l is ids parts post.packet.from post.packet.body (unsent post.packet.body (safe.kept.meant post (among_at post s.posts k at)))) (λ _. can)
    where
      unsent : (b : ChainBody) → IsMeantBy parts s safe.courses post.moment post.packet.from post.packet.to b → (q : _) (o hint : _) → b ≡ says.NotLeader q o hint → ⊥
      unsent b meant q o hint e = subst (IsMeantBy parts s safe.courses post.moment post.packet.from post.packet.to) e meant

  -- Lead: a new leader has no table, and nobody of its name has sent anything
  lead_event : (p t : ℕ) (policy : Policy) (a : ℕ) → AreCancelling (if may_lead s p t a then with_leader s p t (new_leader policy a) else s)
  lead_event p t policy a = cond_both (may_lead s p t a) (with_leader s p t (new_leader policy a)) s AreCancelling
      (λ may. (let one = and_parts (nat_lt 0 t && is_none (s.leaders p t) && nat_le a (length (decided_of s p))) _ may in
      let two = and_parts (nat_lt 0 t && is_none (s.leaders p t)) (nat_le a (length (decided_of s p))) one.0 in
      led (none_is (s.leaders p t) (and_parts (nat_lt 0 t) (is_none (s.leaders p t)) two.0).1)))
      (λ _. can)
    where
      none_is : (o : Option Leader) → is_none o ≡ true → o ≡ None
      none_is None e = refl
      none_is (Some l) e = absurd (false≢true e)

      led : s.leaders p t ≡ None → AreCancelling (with_leader s p t (new_leader policy a))
      led unled = record {
        rows = λ q u x at v row has kind. elim (set_split s.leaders p t (new_leader policy a) q u x at) [
          | inl own ↦ absurd (none-some row (sym (get-empty nat_cmp v) ∙ ap (λ (y : Leader). get y.lead.table v) (sym own.2) ∙ has))
          | inr other ↦ can.rows q u x other.0 v row has kind
        ];
        fenced = λ q u v x at h. elim (set_split s.leaders p t (new_leader policy a) q u x at) [
          | inl own ↦ absurd (let m = safe.kept.meant _ h.2.1 in let e = same_leader q u m.part u m.sender in
              false≢true (ap is_some (sym unled) ∙ ap (λ (n : ℕ). is_some (s.leaders n t)) (sym own.0 ∙ e.0) ∙ ap (λ (n : ℕ). is_some (s.leaders m.part n)) (sym own.1) ∙ m.led))
          | inr other ↦ can.fenced q u v x other.0 h
        ];
      }

  member_event : (p t : ℕ) (config : Config) (o : Option Leader) → s.leaders p t ≡ o → AreCancelling (if t == 0 then founding s p config else member_proposed s p t config o)
  member_event p t config o is = cond_both (t == 0) (founding s p config) (member_proposed s p t config o) AreCancelling
      (λ _. cond_both (is_unfounded s p) _ s AreCancelling (λ _. record { rows = can.rows; fenced = can.fenced }) (λ _. can)) (λ _. by_leader o is)
    where
      by_leader : (o : Option Leader) → s.leaders p t ≡ o → AreCancelling (member_proposed s p t config o)
      by_leader None is = can
      by_leader (Some l) is = moved_cancelling s can (with_leader s p t (with_made l (Members config ∷ []))) p t l (with_made l (Members config ∷ [])) [] is refl (sym (append-nil s.posts)) refl (can.rows p t l is) (λ post none. absurd none) (λ post none. absurd none)

  give_up_event : (p t : ℕ) (id : CallId) (o : Option Leader) → s.leaders p t ≡ o → AreCancelling (told_waits s p t id o)
  give_up_event p t id None is = can
  give_up_event p t id (Some l) is = cond_both l.lead.ready (asking l.lead (give_up l.lead.table id)) (still l.lead) (λ tk. AreCancelling (with_taken s p t l tk None))
      (λ _. no_letters s can p t l is (asking l.lead (give_up l.lead.table id)) None refl (fences_give_up l.lead.policy l.lead.table id (can.rows p t l is)) refl)
      (λ _. still_careful s can p t l is None)

  -- a packet that is no Fence
  not_fence : (other post : Post) → is_fence_body other.packet.body ≡ false → Among post (other ∷ []) → is_fence_body post.packet.body ≡ true → ⊥
  not_fence other post plain (inl same) fence = false≢true (sym plain ∙ ap (λ (y : Post). is_fence_body y.packet.body) (sym same) ∙ fence)
  not_fence other post plain (inr none) fence = none

  pulse_event : (p t : ℕ) (o : Option Leader) → AreCancelling (told_again s p t o)
  pulse_event p t None = can
  pulse_event p t (Some l) = told_cancelling s can (told_again s p t (Some l)) (posts_of p t None (pulsed l.lead)) refl refl
      (cond_both l.lead.ready _ _ (λ (ls : List Letter). (post : Post) → Among post (posts_of p t None ls) → is_fence_body post.packet.body ≡ true → ⊥) (λ _ post. not_fence _ post refl) (λ _ post none fence. none))

  see_event : (p t : ℕ) (id : CallId) (o : Option Leader) → AreCancelling (sees parts s p t id o)
  see_event p t id None = can
  see_event p t id (Some l) = cond_both (knows_all s p l) (showing parts s p t id (first_asked p id s.posts)) s AreCancelling (λ _. by_query (first_asked p id s.posts)) (λ _. can)
    where
      by_query : (o : Option _) → AreCancelling (showing parts s p t id o)
      by_query None = can
      by_query (Some q) = told_cancelling s can (showing parts s p t id (Some q)) _ refl refl (λ post. not_fence _ post refl)

  same : (z : Chains) → z.leaders ≡ s.leaders → z.posts ≡ s.posts → AreCancelling z
  same z leaders posts = told_cancelling s can z [] leaders (posts ∙ sym (append-nil s.posts)) (λ post none fence. none)

  reply_event : (id : CallId) (a : Answer) (o : Option Post) → AreCancelling (ended s id a o)
  reply_event id a o = cond_both (may_end id a o) (with_reply s id a (moment_of o)) s AreCancelling (λ _. same (with_reply s id a (moment_of o)) refl refl) (λ _. can)

  decide_event : (p t : ℕ) (o : Option Proposal) → AreCancelling (deciding parts s p t o)
  decide_event p t None = can
  decide_event p t (Some x) = record { rows = can.rows; fenced = can.fenced }

  pub occurs_cancelling : (e : ChainEvent) → AreCancelling (occurs ids parts s e)
  occurs_cancelling (event.Invoke id op) = cond_both (may_invoke ids parts (s.clients id.client) id op) (with_invoke parts s id op) s AreCancelling
      (λ _. told_cancelling s can (with_invoke parts s id op) _ refl refl (λ post. not_fence _ post refl)) (λ _. can)
  occurs_cancelling (event.Members p t config) = member_event p t config (s.leaders p t) refl
  occurs_cancelling (event.Lead p t policy a) = lead_event p t policy a
  occurs_cancelling (event.Take p t k) = take_event p t (s.leaders p t) refl k (slice_get s.posts k) refl
  occurs_cancelling (event.Decide p t n) = cond_both (may_decide s p t n) (deciding parts s p t (slice_get (made_by s p t) n)) s AreCancelling (λ _. decide_event p t (slice_get (made_by s p t) n)) (λ _. can)
  occurs_cancelling (event.Apply p t) = apply_event p t (s.leaders p t) refl
  occurs_cancelling (event.GiveUp p t id) = give_up_event p t id (s.leaders p t) refl
  occurs_cancelling (event.Pulse p t) = pulse_event p t (s.leaders p t)
  occurs_cancelling (event.See p t id) = see_event p t id (s.leaders p t)
  occurs_cancelling (event.Reply id a k) = cond_both (is_open_at s id) (ended s id a (slice_get s.posts k)) s AreCancelling (λ _. reply_event id a (slice_get s.posts k)) (λ _. can)

  pub after_cancelling : (e : ChainEvent) → AreCancelling (after ids parts s e)
  after_cancelling e = subst AreCancelling (sym (after_is ids parts s e)) (cond_both (is_in_range parts e) (occurs ids parts s e) s AreCancelling (λ _. occurs_cancelling e) (λ _. can))

cancelling_from : (ids : VidKind) (parts : ℕ) (events : List ChainEvent) (s : Chains) → IsSafe parts s → AreCancelling s → AreCancelling (run_from ids parts s events)
cancelling_from ids parts [] s safe can = can
cancelling_from ids parts (e ∷ events) s safe can = cancelling_from ids parts events (after ids parts s e) (after_safe ids parts s safe e) (after_cancelling ids parts s safe can e)

pub always_cancelling : (ids : VidKind) (parts : ℕ) (events : List ChainEvent) → AreCancelling (run ids parts events)
always_cancelling ids parts events = cancelling_from ids parts events start (start_safe ids parts) (record { rows = λ p t l is. absurd (none-some l is); fenced = λ p t v l is. absurd (none-some l is) })

-- an Abort that is decided was proposed by a leader of policy Cancel
pub cancels_by_policy : CancelsByPolicy
cancels_by_policy ids parts events p i t v at =
    let s : Chains = run ids parts events in
    let safe = always_safe ids parts events in
    let made = safe.kept.follows p i (t, Made (entry.Abort v)) at in
    let d = safe.kept.proposed p t (Made (entry.Abort v)) (among_at (Made (entry.Abort v)) (made_by s p t) _ made) in
    let m = safe.kept.meant _ d.fenced.2.1 in
    let e = same_leader p t m.part t m.sender in
    let l = is_there (s.leaders p t) (ap (λ (n : ℕ). is_some (s.leaders n t)) e.0 ∙ m.led) in
    let above = (safe.kept.leaders p t l.0 l.1).above in
    let its : Among (Made (entry.Abort v)) l.0.made =
    subst (λ (o : Option Leader). Among (Made (entry.Abort v)) (made_by_leader o)) l.1
    (subst (λ (xs : List Proposal). Among (Made (entry.Abort v)) xs) (cond-false (t == 0) (s.founded p) (made_by_leader (s.leaders p t)) (ne_eqb t 0 (λ z. (omega arith)))) (among_at (Made (entry.Abort v)) (made_by s p t) _ made)) in
    (l.0, l.1, (always_cancelling ids parts events).fenced p t v l.0 l.1 d.fenced, its)
