-- Each reply of a run is Unknown, or was brought by a packet.
use Rattle.std.proofs.Common.{◌≡◌, ◌⊎◌, inl, inr, ℕ, List, [], ◌∷◌, ◌++◌, Option, Some, None, Bool, true, ◌||◌, refl, ap, sym, subst, ◌∙◌, eqb-true}
use Rattle.std.specs.Prelude.{◌==◌, slice_get}
use Rattle.std.proofs.lemmas.Bool.{false≢true, cases_Bool, cond_both, and_parts}
use Rattle.graph_model.specs.declared.answer.Answer.{Answer}
use Rattle.graph_model.specs.declared.answer.Answer.TheVariants as said
use Rattle.graph_model.specs.declared.call_id.CallId.{CallId}
use Rattle.graph_model.specs.declared.graph_step.GStep.{GStep}
use Rattle.graph_model.specs.declared.graph_step.GStep.TheVariants.{Invoke, Read, Reply}
use Rattle.graph_model.specs.Same.{is_same_answer, is_unknown}
use Rattle.graph_model.proofs.SameLemmas.{answer_is}
use Rattle.part_keys.specs.declared.proposal.Proposal.{Proposal}
use Rattle.part_keys.specs.declared.proposal.Proposal.TheVariants.{Members}
use Rattle.raft_log.specs.declared.config.Config.{Config}
use Rattle.part_keys.specs.declared.vid_kind.VidKind.{VidKind}
use Rattle.chain_leader.specs.declared.body.ChainBody.{ChainBody}
use Rattle.chain_leader.specs.declared.body.ChainBody.TheVariants as says
use Rattle.chain_world.specs.declared.packet.ChainEnd.{ChainEnd}
use Rattle.chain_world.specs.declared.packet.ChainEnd.TheVariants as ends
use Rattle.chain_world.specs.declared.event.ChainEvent.{ChainEvent}
use Rattle.chain_world.specs.declared.event.ChainEvent.TheVariants as event
use Rattle.chain_world.specs.Places.{Among}
use Rattle.chain_world.specs.Answers.{IsOneOf}
use Rattle.chain_world.specs.Ledger.{Ledger, caller_of, machine_of, next_applied, steps_of_item, reply_steps}
use Rattle.chain_world.specs.State.{Post, Chains, start, made_by, with_founded, with_leader, packet_of}
use Rattle.chain_world.specs.World.{is_client, holds_of, where_some, is_open_at, is_for, brings, answers, moment_of, next_entry, first_asked, with_made, with_decided, rule, after, run_from}
use Rattle.chain_world.specs.Causes.{RepliesHaveCauses}
use Rattle.chain_world.proofs.Members.{among_front, among_at}
use Rattle.chain_world.proofs.Steps.{one_of_either, none_outward, item_inward}
use Rattle.chain_world.proofs.Seeing.{unknown_is}
use Rattle.chain_world.proofs.Answered.{sent_answers_have_causes}

-- a packet with this answer for the call was sent
pub record IsBrought (s : Chains) (id : CallId) (a : Answer) : Type 0 where
  pub from : ChainEnd
  pub moment : ℕ
  pub sent : Among (record { packet = packet_of from (ends.Client id.client) (says.Answer id.number a); moment = moment }) s.posts

-- so each reply
abbrev AreBrought : Chains → Type 0
AreBrought s = (id : CallId) (a : Answer) → IsOneOf s.ledger.steps (Reply id a) → (a ≡ said.Unknown) ⊎ IsBrought s id a

-- packets stay
record Keeps (s z : Chains) : Type 0 where
  posts : (post : Post) → Among post s.posts → Among post z.posts

brought_on : (s z : Chains) → Keeps s z → (id : CallId) (a : Answer) → (a ≡ said.Unknown) ⊎ IsBrought s id a → (a ≡ said.Unknown) ⊎ IsBrought z id a
brought_on s z keeps id a (inl unknown) = inl unknown
brought_on s z keeps id a (inr it) = inr (record { from = it.from; moment = it.moment; sent = keeps.posts _ it.sent })

-- of the steps of a reply one is that reply
its_own : (id : CallId) (m : ℕ) (b : Answer) (i : CallId) (a : Answer) → IsOneOf (reply_steps id m b) (Reply i a) → (id ≡ i) × (b ≡ a)
its_own id m (said.Shown view) i a (inl same) = absurd (let f : Read id m ≡ Reply i a = same in cc)
its_own id m (said.Shown view) i a (inr (inl same)) = (let f : Reply id (said.Shown view) ≡ Reply i a = same in ((let g : id ≡ i = cc in g), (let h : said.Shown view ≡ a = cc in h)))
its_own id m (said.Shown view) i a (inr (inr none)) = absurd none
its_own id m said.Fine i a (inl same) = (let f : Reply id said.Fine ≡ Reply i a = same in ((let g : id ≡ i = cc in g), (let h : said.Fine ≡ a = cc in h)))
its_own id m said.Fine i a (inr none) = absurd none
its_own id m said.Skipped i a (inl same) = (let f : Reply id said.Skipped ≡ Reply i a = same in ((let g : id ≡ i = cc in g), (let h : said.Skipped ≡ a = cc in h)))
its_own id m said.Skipped i a (inr none) = absurd none
its_own id m said.Pending i a (inl same) = (let f : Reply id said.Pending ≡ Reply i a = same in ((let g : id ≡ i = cc in g), (let h : said.Pending ≡ a = cc in h)))
its_own id m said.Pending i a (inr none) = absurd none
its_own id m (said.Conflict other) i a (inl same) = (let f : Reply id (said.Conflict other) ≡ Reply i a = same in ((let g : id ≡ i = cc in g), (let h : said.Conflict other ≡ a = cc in h)))
its_own id m (said.Conflict other) i a (inr none) = absurd none
its_own id m said.Cancelled i a (inl same) = (let f : Reply id said.Cancelled ≡ Reply i a = same in ((let g : id ≡ i = cc in g), (let h : said.Cancelled ≡ a = cc in h)))
its_own id m said.Cancelled i a (inr none) = absurd none
its_own id m said.Unknown i a (inl same) = (let f : Reply id said.Unknown ≡ Reply i a = same in ((let g : id ≡ i = cc in g), (let h : said.Unknown ≡ a = cc in h)))
its_own id m said.Unknown i a (inr none) = absurd none

-- what a packet that brings an answer is
brings_it : (id : CallId) (a : Answer) (from to : ChainEnd) (b : ChainBody) (m : ℕ) → answers id a to b ≡ true
    → ◌≡◌ {A = Post} (record { packet = record { from = from; to = to; body = b }; moment = m }) (record { packet = packet_of from (ends.Client id.client) (says.Answer id.number a); moment = m })
brings_it id a from to (says.Answer number answer) m its =
    let both = and_parts (is_for id to number) (is_same_answer a answer) its in
    by_end to both.0 ∙ ap (λ (x : Answer). record { packet = packet_of from (ends.Client id.client) (says.Answer id.number x); moment = m }) (sym (answer_is a answer both.1))
  where
    by_end : (e : ChainEnd) → is_for id e number ≡ true
        → ◌≡◌ {A = Post} (record { packet = record { from = from; to = e; body = says.Answer number answer }; moment = m }) (record { packet = packet_of from (ends.Client id.client) (says.Answer id.number answer); moment = m })
    by_end (ends.Client c) is = (let f = and_parts (c == id.client) (number == id.number) is in
        ap (λ (x : ℕ). record { packet = record { from = from; to = ends.Client x; body = says.Answer number answer }; moment = m }) (eqb-true c id.client f.0)
        ∙ ap (λ (x : ℕ). record { packet = record { from = from; to = ends.Client id.client; body = says.Answer x answer }; moment = m }) (eqb-true number id.number f.1))
    by_end (ends.Part q) is = absurd (false≢true is)
    by_end (ends.Leader q u) is = absurd (false≢true is)
brings_it id a from to (says.Request number x) m its = absurd (false≢true its)
brings_it id a from to (says.NotLeader about q hint) m its = absurd (false≢true its)
brings_it id a from to (says.Remote t v list) m its = absurd (false≢true its)
brings_it id a from to (says.Done t v) m its = absurd (false≢true its)
brings_it id a from to (says.Stale t v above) m its = absurd (false≢true its)
brings_it id a from to (says.Fence t v edges) m its = absurd (false≢true its)
brings_it id a from to (says.Fenced t v written) m its = absurd (false≢true its)
brings_it id a from to (says.Resume t behind) m its = absurd (false≢true its)

module _ (ids : VidKind) (parts : ℕ) (s : Chains) (are : AreBrought s) where
  -- a world with the same ledger, or one with steps more of which none is a reply
  same_ledger : (z : Chains) → z.ledger ≡ s.ledger → Keeps s z → AreBrought z
  same_ledger z same keeps id a it = brought_on s z keeps id a (are id a (subst (λ (l : Ledger). IsOneOf l.steps (Reply id a)) same it))

  more_steps : (z : Chains) (more : List GStep) → z.ledger.steps ≡ s.ledger.steps ++ more → ((id : CallId) (a : Answer) → IsOneOf more (Reply id a) → ⊥) → Keeps s z → AreBrought z
  more_steps z more is none keeps id a it = elim (one_of_either s.ledger.steps more (Reply id a) (subst (λ (xs : List GStep). IsOneOf xs (Reply id a)) is it)) [
    | inl old ↦ brought_on s z keeps id a (are id a old)
    | inr new ↦ absurd (none id a new)
  ]

  -- packets that are there stay where more are sent
  with_more : (z : Chains) (more : List Post) → z.posts ≡ s.posts ++ more → Keeps s z
  with_more z more is = record { posts = λ post h. subst (Among post) (sym is) (among_front post s.posts more h) }

  itself : Keeps s s
  itself = record { posts = λ post h. h }

  -- what is made where something is there
  made : {A : Type 0} (o : Option A) (make : A → Chains) → ((x : A) → AreBrought (make x)) → AreBrought (where_some s o make)
  made None make each = are
  made (Some x) make each = each x

  member_brought : (p t : ℕ) (config : Config) → AreBrought (rule ids parts s (event.Members p t config)).effect
  member_brought p t config = cond_both (t == 0) (with_founded s p (Members config ∷ [])) _ (λ (z : Chains). AreBrought z)
      (λ _. same_ledger (with_founded s p (Members config ∷ [])) refl (record { posts = λ post h. h }))
      (λ _. made (s.leaders p t) _ (λ l. same_ledger (with_leader s p t (with_made l (Members config ∷ []))) refl (record { posts = λ post h. h })))

  decide_brought : (p t : ℕ) (x : Proposal) → AreBrought (with_decided parts s p t x)
  decide_brought p t x = more_steps (with_decided parts s p t x) (steps_of_item (caller_of s.ledger) (machine_of parts s.ledger p) x (next_applied parts s.ledger p x).1) refl
      (λ id a new. none_outward _ (item_inward (caller_of s.ledger) (machine_of parts s.ledger p) x (next_applied parts s.ledger p x).1) (Reply id a) refl new) (record { posts = λ post h. h })

  reply_brought : (id : CallId) (a : Answer) (k : ℕ) → (rule ids parts s (event.Reply id a k)).lawful ≡ true → AreBrought (rule ids parts s (event.Reply id a k)).effect
  reply_brought id a k lawful i b it = elim (one_of_either s.ledger.steps (reply_steps id (moment_of (slice_get s.posts k)) a) (Reply i b) it) [
    | inl old ↦ brought_on s _ (record { posts = λ post h. h }) i b (are i b old)
    | inr new ↦
        (let its = its_own id (moment_of (slice_get s.posts k)) a i b new in
        let ends_it = (and_parts (is_open_at s id) _ (and_parts (is_client id.client) _ lawful).1).1 in
        subst (λ (x : CallId). (b ≡ said.Unknown) ⊎ IsBrought (rule ids parts s (event.Reply id a k)).effect x b) its.0
        (subst (λ (x : Answer). (x ≡ said.Unknown) ⊎ IsBrought (rule ids parts s (event.Reply id a k)).effect id x) its.1 (by_answer ends_it)))
  ]
    where
      by_post : (o : Option Post) → slice_get s.posts k ≡ o → holds_of (λ (post : Post). brings id a post) o ≡ true → IsBrought (rule ids parts s (event.Reply id a k)).effect id a
      by_post None e its = absurd (false≢true its)
      by_post (Some post) e its = record {
        from = post.packet.from;
        moment = post.moment;
        sent = subst (λ (x : Post). Among x s.posts) (brings_it id a post.packet.from post.packet.to post.packet.body post.moment its) (among_at post s.posts k e);
      }

      by_answer : (is_unknown a || holds_of (λ (post : Post). brings id a post) (slice_get s.posts k)) ≡ true → (a ≡ said.Unknown) ⊎ IsBrought (rule ids parts s (event.Reply id a k)).effect id a
      by_answer may = elim (cases_Bool (is_unknown a)) [
        | inl unknown ↦ inl (unknown_is a unknown)
        | inr known ↦ inr (by_post (slice_get s.posts k) refl (sym (ap (λ (b : Bool). b || holds_of (λ (post : Post). brings id a post) (slice_get s.posts k)) known) ∙ may))
      ]

  effect_brought : (e : ChainEvent) → (rule ids parts s e).lawful ≡ true → AreBrought (rule ids parts s e).effect
  effect_brought (event.Invoke id op) lawful = more_steps _ (Invoke id op ∷ []) refl (λ i a new. elim new [ inl same ↦ (let f : Invoke id op ≡ Reply i a = same in cc) | inr none ↦ none ]) (with_more _ _ refl)
  effect_brought (event.Members p t config) lawful = member_brought p t config
  effect_brought (event.Lead p t policy a) lawful = same_ledger _ refl (record { posts = λ post h. h })
  effect_brought (event.Take p t k) lawful = made (s.leaders p t) _ (λ l. made (slice_get s.posts k) _ (λ post. same_ledger _ refl (with_more _ _ refl)))
  effect_brought (event.Decide p t n) lawful = made (slice_get (made_by s p t) n) _ (λ x. decide_brought p t x)
  effect_brought (event.Apply p t) lawful = made (s.leaders p t) _ (λ l. made (next_entry s p l) _ (λ entry. same_ledger _ refl (with_more _ _ refl)))
  effect_brought (event.GiveUp p t id) lawful = made (s.leaders p t) _ (λ l. same_ledger _ refl (with_more _ _ refl))
  effect_brought (event.Pulse p t) lawful = made (s.leaders p t) _ (λ l. same_ledger _ refl (with_more _ _ refl))
  effect_brought (event.See p t id) lawful = made (s.leaders p t) _ (λ l. made (first_asked p id s.posts) _ (λ query. same_ledger _ refl (with_more _ _ refl)))
  effect_brought (event.Reply id a k) lawful = reply_brought id a k lawful

  after_brought : (e : ChainEvent) → AreBrought (after ids parts s e)
  after_brought e = cond_both (rule ids parts s e).lawful (rule ids parts s e).effect s AreBrought (λ lawful. effect_brought e lawful) (λ _. are)

run_brought : (ids : VidKind) (parts : ℕ) (events : List ChainEvent) (s : Chains) → AreBrought s → AreBrought (run_from ids parts s events)
run_brought ids parts [] s are = are
run_brought ids parts (e ∷ events) s are = run_brought ids parts events (after ids parts s e) (after_brought ids parts s are e)

-- each reply of a run is Unknown, or an answer with its cause
pub replies_have_causes : RepliesHaveCauses
replies_have_causes ids parts events id a it = elim (run_brought ids parts events start (λ i b none. absurd none) id a it) [
  | inl unknown ↦ inl unknown
  | inr brought ↦ inr (brought.moment, sent_answers_have_causes ids parts events brought.from id.client id.number brought.moment a brought.sent)
]
