-- Events that change no leader, new leaders, configurations, and calls that are given up.
use Rattle.std.proofs.Common.{◌≡◌, inl, inr, ℕ, List, [], ◌∷◌, Option, Some, None, refl, ap, sym, subst}
use Rattle.std.specs.FinMap.{insert}
use Rattle.std.proofs.lemmas.Bool.{cond_both}
use Rattle.std.proofs.lemmas.Option.{none-some}
use Rattle.graph_model.specs.declared.answer.Answer.{Answer}
use Rattle.graph_model.specs.declared.call_id.CallId.{CallId}
use Rattle.graph_model.specs.declared.graph_step.GStep.{GStep}
use Rattle.graph_model.specs.declared.op.Op.{Op}
use Rattle.part_keys.specs.declared.chain.Mode.TheVariants.{Doubled}
use Rattle.part_keys.specs.declared.entry.PartEntry.{PartEntry}
use Rattle.part_keys.specs.declared.entry.PartEntry.TheVariants as entry
use Rattle.chain_leader.specs.declared.letter.Letter.{Letter}
use Rattle.chain_leader.specs.Rules.{Table, give_up}
use Rattle.chain_leader.specs.Leading.{Leading, asking, still, pulsed}
use Rattle.chain_world.specs.Places.{Among}
use Rattle.chain_world.specs.Course.{Courses}
use Rattle.chain_world.specs.Invariant.Discipline.{IsInvoked, IsRightReply}
use Rattle.chain_world.specs.State.{Post, Leader, Client, Chains, decided_of, posts_of}
use Rattle.chain_world.specs.World.{with_taken}
use Rattle.chain_world.proofs.Occurring.{told_waits, told_again}
use Rattle.chain_world.specs.Invariant.Protocol.{IsMeant, IsProposed, IsKept, IsLed, HasPut, HasFenced}
use Rattle.chain_world.proofs.Staying.{is_chains, AreQuiet, gone_on, quiet_put, quiet_fenced, kept_behind}
use Rattle.chain_world.proofs.Moving.{ready_less}
use Rattle.chain_world.proofs.Tables.{alike_itself, alike_set, give_up_cases}
use Rattle.chain_world.proofs.Taking.{still_kept, proposes_kept}

-- Packets that are no Remotes or Fences leave, graph steps are taken, and clients change.
module _ (parts : ℕ) (s : Chains) (k : Courses) (kept : IsKept parts s k) (steps : List GStep) (more : List Post) (clients : ℕ → Client) (quiet : AreQuiet more) where
  abbrev pub told_world : Chains
  told_world = gone_on s steps s.founded s.leaders more clients

  told_put : (p t v : ℕ) → HasPut told_world p t v → HasPut s p t v
  told_put = quiet_put s steps s.founded s.leaders more clients quiet

  told_fenced : (p t v : ℕ) → HasFenced told_world p t v → HasFenced s p t v
  told_fenced = quiet_fenced s steps s.founded s.leaders more clients quiet

  same_led : (p t : ℕ) (l : Leader) → s.leaders p t ≡ Some l → IsLed parts told_world p t l
  same_led p t l is = let led = kept.leaders p t l is in record {
    above = led.above;
    within = led.within;
    senders = led.senders;
    rules = ready_less parts (decided_of s p) t l.applied l.lead.table (HasPut s p t) (HasFenced s p t) (HasPut told_world p t) (HasFenced told_world p t) (told_put p t) (told_fenced p t) l.lead.ready led.rules;
  }

  pub told_kept : ((id : CallId) (op : Op) → IsInvoked s.ledger.steps id op → IsInvoked steps id op)
      → ((id : CallId) (a : Answer) (m : ℕ) → IsRightReply parts s.ledger id a m → IsRightReply parts told_world.ledger id a m)
      → ((post : Post) → Among post more → IsMeant parts told_world k post)
      → IsKept parts told_world k
  told_kept invoked rights says = kept_behind s steps s.founded s.leaders more clients parts k kept (record { led = λ p t there. there; invoked = invoked; rights = rights }) (record {
    made = λ p t i x at. at;
    proposed = λ p t x among. inl among;
    meant = says;
    one_mode = λ p t v a b. kept.one_mode p t v (told_put p t v a) (told_fenced p t v b);
    unput = λ p t v u c a known fate. kept.unput p t v u c (told_put p t v a) known fate;
    leaders_new = same_led;
  })

module _ (parts : ℕ) (s : Chains) (k : Courses) (kept : IsKept parts s k) where
  -- Pulse
  again_quiet : (p t : ℕ) (lead : Leading) → AreQuiet (posts_of p t None (pulsed lead))
  again_quiet p t lead = cond_both lead.ready _ _ (λ (ls : List Letter). AreQuiet (posts_of p t None ls)) (λ _ post among. elim among [ inl same ↦ ap (λ (x : Post). is_chains x.packet.body) same | inr none ↦ absurd none ]) (λ _ post none. absurd none)

  again_meant : (z : Chains) (p t : ℕ) (lead : Leading) (post : Post) → Among post (posts_of p t None (pulsed lead)) → IsMeant parts z k post
  again_meant z p t lead = cond_both lead.ready _ _ (λ (ls : List Letter). (post : Post) → Among post (posts_of p t None ls) → IsMeant parts z k post)
      (λ _ post among. elim among [ inl same ↦ subst (IsMeant parts z k) (sym same) tt | inr none ↦ absurd none ]) (λ _ post none. absurd none)

  pub pulse_kept : (p t : ℕ) → IsKept parts (told_again s p t (s.leaders p t)) k
  pulse_kept p t = by_leader (s.leaders p t)
    where
      by_leader : (o : Option Leader) → IsKept parts (told_again s p t o) k
      by_leader None = kept
      by_leader (Some l) = told_kept parts s k kept s.ledger.steps (posts_of p t None (pulsed l.lead)) s.clients (again_quiet p t l.lead) (λ id op h. h) (λ id a m r. r)
          (again_meant (told_world parts s k kept s.ledger.steps (posts_of p t None (pulsed l.lead)) s.clients (again_quiet p t l.lead)) p t l.lead)

  -- GiveUp
  pub give_up_kept : (p t : ℕ) (id : CallId) → IsKept parts (told_waits s p t id (s.leaders p t)) k
  give_up_kept p t id = by_leader (s.leaders p t) refl
    where
      by_leader : (o : Option Leader) → s.leaders p t ≡ o → IsKept parts (told_waits s p t id o) k
      by_leader None is = kept
      by_leader (Some l) is = cond_both l.lead.ready (asking l.lead (give_up l.lead.table id)) (still l.lead) (λ tk. IsKept parts (with_taken s p t l tk None) k)
          (λ _. give_up_cases (λ (made : Table × Option PartEntry). IsKept parts (with_taken s p t l (asking l.lead made) None) k) l.lead.table id
          (still_kept parts s k kept p t l is l.lead None (alike_itself l.lead.table) refl)
          (λ v row there put its. proposes_kept parts s k kept p t l is (record l.lead { table = insert l.lead.table v (record row { mode = Doubled }) }) (entry.Double v ∷ []) None
          (alike_set l.lead.table v row (record row { mode = Doubled }) there (record { id = refl; list = refl; remote = refl; fence = sym put })) refl
          (λ x among. elim among [ inl same ↦ subst (IsProposed parts s k p t) (sym same) tt | inr none ↦ absurd none ])
          (λ e at. absurd (none-some e at))))
          (λ _. still_kept parts s k kept p t l is l.lead None (alike_itself l.lead.table) refl)
