-- A leader of the chains has the policy with which it began to lead: one of policy Cancel was elected so.
use Rattle.std.proofs.Common.{◌≡◌, inl, inr, ℕ, suc, List, [], ◌∷◌, Option, Some, None, refl, ap, sym, subst, ◌∙◌}
use Rattle.std.specs.Prelude.{◌==◌, nat_le, slice_get}
use Rattle.std.specs.List.{AllByRecursion}
use Rattle.std.proofs.lemmas.Bool.{cond_both}
use Rattle.std.proofs.lemmas.Option.{none-some}
use Rattle.raft_log.specs.declared.config.Config.{Config}
use Rattle.graph_model.specs.declared.query.Query.{Query}
use Rattle.graph_model.specs.declared.call_id.CallId.{CallId}
use Rattle.part_keys.specs.declared.chain.Policy.TheVariants.{Cancel}
use Rattle.part_keys.specs.declared.proposal.Proposal.{Proposal}
use Rattle.part_keys.specs.declared.proposal.Proposal.TheVariants.{Members}
use Rattle.part_keys.specs.declared.vid_kind.VidKind.{VidKind}
use Rattle.chain_world.specs.declared.event.ChainEvent.{ChainEvent}
use Rattle.chain_world.specs.declared.event.ChainEvent.TheVariants as event
use Rattle.chain_world.specs.State.{Post, Leader, Chains, start, made_by, machine_behind, with_leader}
use Rattle.chain_world.specs.World.{may_invoke, with_invoke, is_unfounded, with_made, may_lead, new_leader, is_to, part_from, taking, may_decide, applying, knows_all, first_asked, is_open_at, moment_of, with_reply, after, run, run_from}
use Rattle.chain_world.proofs.Moving.{leader_set, set_split}
use Rattle.chain_world.proofs.Occurring.{member_proposed, founding, took, deciding, applied_next, applies, told_waits, told_again, showing, sees, may_end, ended, is_in_range, occurs, after_is}
use Rattle.replica_model.specs.declared.input.Tick.{Tick}
use Rattle.replica_model.specs.declared.input.Tick.TheVariants as tick
use Rattle.world_model.proofs.Backed.{Elects, Backed}
use Rattle.world_model.proofs.Steady.{taken_steady, given_up_steady, item_policy}

module _ (told : ℕ → Tick → Type 0) where
  abbrev pub AreElected : Chains → Type 0
  AreElected s = (p t : ℕ) (l : Leader) → s.leaders p t ≡ Some l → Elects told p l.lead.policy

  module _ (ids : VidKind) (parts : ℕ) (s : Chains) (are : AreElected s) where
    abbrev Are : Chains → Type 0
    Are z = AreElected z

    -- one leader is there now
    set_elected : (p t : ℕ) (behind : Leader) → Elects told p behind.lead.policy → (q u : ℕ) (x : Leader) → leader_set s.leaders p t behind q u ≡ Some x → Elects told q x.lead.policy
    set_elected p t behind its q u x at = elim (set_split s.leaders p t behind q u x at) [
      | inl own ↦ λ e. subst (λ n. told n (tick.Elect Cancel)) (sym own.0) (its (ap (λ (y : Leader). y.lead.policy) (sym own.2) ∙ e))
      | inr other ↦ are q u x other.0
    ]

    moved : (p t : ℕ) (l behind : Leader) → s.leaders p t ≡ Some l → behind.lead.policy ≡ l.lead.policy → (q u : ℕ) (x : Leader) → leader_set s.leaders p t behind q u ≡ Some x → Elects told q x.lead.policy
    moved p t l behind is same = set_elected p t behind (λ e. are p t l is (sym same ∙ e))

    members : (p t : ℕ) (config : Config) (o : Option Leader) → s.leaders p t ≡ o → Are (member_proposed s p t config o)
    members p t config None is = are
    members p t config (Some l) is = moved p t l (with_made l (Members config ∷ [])) is refl

    takes : (p t : ℕ) (o : Option Leader) → s.leaders p t ≡ o → (post : Option Post) → Are (took ids parts s p t o post)
    takes p t None is post = are
    takes p t (Some l) is None = are
    takes p t (Some l) is (Some post) = cond_both (is_to p t post.packet.to) (taking ids parts s p t l post.packet) s Are
        (λ _. moved p t l _ is (taken_steady ids parts p t (machine_behind parts s p l.applied) l.lead post.packet.body (part_from post.packet.from)).policy) (λ _. are)

    decided : (p t : ℕ) (o : Option Proposal) → Are (deciding parts s p t o)
    decided p t None = are
    decided p t (Some x) = are

    applied : (p t : ℕ) (l : Leader) → s.leaders p t ≡ Some l → (o : Option (ℕ × Proposal)) → Are (applied_next parts s p t l o)
    applied p t l is None = are
    applied p t l is (Some e) = cond_both (nat_le e.0 t) (applying parts s p t l e) s Are
        (λ _. moved p t l _ is (item_policy parts t (machine_behind parts s p l.applied) l.lead (suc l.applied) (e.0 == t) e.1)) (λ _. are)

    applies_all : (p t : ℕ) (o : Option Leader) → s.leaders p t ≡ o → Are (applies parts s p t o)
    applies_all p t None is = are
    applies_all p t (Some l) is = applied p t l is (slice_get (s.ledger.decided p) l.applied)

    gives_up : (p t : ℕ) (id : CallId) (o : Option Leader) → s.leaders p t ≡ o → Are (told_waits s p t id o)
    gives_up p t id None is = are
    gives_up p t id (Some l) is = moved p t l _ is (given_up_steady l.lead id).policy

    pulses : (p t : ℕ) (o : Option Leader) → Are (told_again s p t o)
    pulses p t None = are
    pulses p t (Some l) = are

    shows : (p t : ℕ) (id : CallId) (o : Option Query) → Are (showing parts s p t id o)
    shows p t id None = are
    shows p t id (Some query) = are

    seen : (p t : ℕ) (id : CallId) (o : Option Leader) → Are (sees parts s p t id o)
    seen p t id None = are
    seen p t id (Some l) = cond_both (knows_all s p l) (showing parts s p t id (first_asked p id s.posts)) s Are (λ _. shows p t id (first_asked p id s.posts)) (λ _. are)

    occurs_elected : (e : ChainEvent) → Backed told e → Are (occurs ids parts s e)
    occurs_elected (event.Invoke id op) its = cond_both (may_invoke ids parts (s.clients id.client) id op) (with_invoke parts s id op) s Are (λ _. are) (λ _. are)
    occurs_elected (event.Members p t config) its = cond_both (t == 0) (founding s p config) (member_proposed s p t config (s.leaders p t)) Are
        (λ _. cond_both (is_unfounded s p) _ s Are (λ _. are) (λ _. are)) (λ _. members p t config (s.leaders p t) refl)
    occurs_elected (event.Lead p t policy a) its = cond_both (may_lead s p t a) (with_leader s p t (new_leader policy a)) s Are (λ _. set_elected p t (new_leader policy a) its) (λ _. are)
    occurs_elected (event.Take p t k) its = takes p t (s.leaders p t) refl (slice_get s.posts k)
    occurs_elected (event.Decide p t n) its = cond_both (may_decide s p t n) (deciding parts s p t (slice_get (made_by s p t) n)) s Are (λ _. decided p t (slice_get (made_by s p t) n)) (λ _. are)
    occurs_elected (event.Apply p t) its = applies_all p t (s.leaders p t) refl
    occurs_elected (event.GiveUp p t id) its = gives_up p t id (s.leaders p t) refl
    occurs_elected (event.Pulse p t) its = pulses p t (s.leaders p t)
    occurs_elected (event.See p t id) its = seen p t id (s.leaders p t)
    occurs_elected (event.Reply id a k) its = cond_both (is_open_at s id) (ended s id a (slice_get s.posts k)) s Are
        (λ _. cond_both (may_end id a (slice_get s.posts k)) (with_reply s id a (moment_of (slice_get s.posts k))) s Are (λ _. are) (λ _. are)) (λ _. are)

    pub after_elected : (e : ChainEvent) → Backed told e → Are (after ids parts s e)
    after_elected e its = subst Are (sym (after_is ids parts s e)) (cond_both (is_in_range parts e) (occurs ids parts s e) s Are (λ _. occurs_elected e its) (λ _. are))

  elected_from : (ids : VidKind) (parts : ℕ) (events : List ChainEvent) (s : Chains) → AllByRecursion (Backed told) events → AreElected s → AreElected (run_from ids parts s events)
  elected_from ids parts [] s its are = are
  elected_from ids parts (e ∷ events) s its are = elected_from ids parts events (after ids parts s e) its.1 (after_elected ids parts s are e its.0)

  pub always_elected : (ids : VidKind) (parts : ℕ) (events : List ChainEvent) → AllByRecursion (Backed told) events → AreElected (run ids parts events)
  always_elected ids parts events its = elected_from ids parts events start its (λ p t l is. absurd (none-some l is))
