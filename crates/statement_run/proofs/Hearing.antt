-- What a packet is to a client to which nothing is due.
use Rattle.std.proofs.Common.{◌≡◌, ℕ, Option, Some, None, Bool, true, false, cond, ◌==◌, refl, ap, ◌∙◌}
use Rattle.std.specs.Option.{option_map}
use Rattle.graph_model.specs.declared.answer.Answer.{Answer}
use Rattle.chain_leader.specs.declared.body.About.TheVariants as about
use Rattle.chain_leader.specs.declared.body.ChainBody.TheVariants as says
use Rattle.replica_model.specs.declared.packet.Body.{Body}
use Rattle.replica_model.specs.declared.packet.Body.TheVariants as body
use Rattle.replica_model.specs.declared.packet.Packet.{Packet}
use Rattle.statement_run.specs.Caller.{Open, Due, Caller, answers, hears_by, hears}
use Rattle.statement_run.specs.Settled.{due_by, went, due_of, answered_by, hinted_by}

module _ (c : Caller) (free : c.due ≡ None) (k : ℕ) where
  abbrev due_in : Caller → Option Answer
  due_in x = option_map (λ (d : Due). d.answer) x.due

  none_due : due_in c ≡ None
  none_due = ap (option_map (λ (d : Due). d.answer)) free

  abbrev heard : Body → Caller
  heard b = hears_by c c.call None k b

  hears_body : (packet : Packet) (b : Body) → packet.body ≡ b → hears c packet k ≡ heard b
  hears_body packet b said = ap (λ d. hears_by c c.call d k packet.body) free ∙ ap (hears_by c c.call None k) said

  -- an answer ends the open call where it fits it
  due_answer : (o : Option Open) (number : ℕ) (answer : Answer) → due_in (hears_by c o None k (body.Chain (says.Answer number answer))) ≡ due_of o number answer
  due_answer None number answer = none_due
  due_answer (Some call) number answer = go (answers call number answer)
    where
      go : (b : Bool) → due_in (cond b (record c { due = Some (record { answer = answer; packet = k }) }) c) ≡ cond b (Some answer) None
      go true = refl
      go false = none_due

  pub heard_due : (packet : Packet) (number : ℕ) (answer : Answer) → packet.body ≡ body.Chain (says.Answer number answer) → due_by c packet k ≡ due_of c.call number answer
  heard_due packet number answer said = ap due_in (hears_body packet (body.Chain (says.Answer number answer)) said) ∙ due_answer c.call number answer

  module _ (n : ℕ) where
    abbrev gone : Caller → Caller
    gone x = answered_by n x (due_in x)

    still : gone c ≡ c
    still = ap (answered_by n c) none_due

    answer_of : (o : Option Open) (number : ℕ) (answer : Answer) → gone (hears_by c o None k (body.Chain (says.Answer number answer))) ≡ answered_by n c (due_of o number answer)
    answer_of None number answer = still
    answer_of (Some call) number answer = go (answers call number answer)
      where
        go : (b : Bool) → gone (cond b (record c { due = Some (record { answer = answer; packet = k }) }) c) ≡ answered_by n c (cond b (Some answer) None)
        go true = refl
        go false = still

    pub heard_answer : (packet : Packet) (number : ℕ) (answer : Answer) → packet.body ≡ body.Chain (says.Answer number answer)
        → went n c packet k ≡ answered_by n c (due_of c.call number answer)
    heard_answer packet number answer said = ap gone (hears_body packet (body.Chain (says.Answer number answer)) said) ∙ answer_of c.call number answer

    -- a NotLeader about a call is a hint
    hint_of : (o : Option Open) (number part hint : ℕ) → gone (hears_by c o None k (body.Chain (says.NotLeader (about.Call number) part hint))) ≡ hinted_by c o number hint
    hint_of None number part hint = still
    hint_of (Some call) number part hint = go (number == call.id.number)
      where
        go : (b : Bool) → gone (cond b (record c { call = Some (record call { hint = hint }) }) c) ≡ cond b (record c { call = Some (record call { hint = hint }) }) c
        go true = ap (answered_by n (record c { call = Some (record call { hint = hint }) })) none_due
        go false = still

    pub heard_hint : (packet : Packet) (number part hint : ℕ) → packet.body ≡ body.Chain (says.NotLeader (about.Call number) part hint)
        → went n c packet k ≡ hinted_by c c.call number hint
    heard_hint packet number part hint said = ap gone (hears_body packet (body.Chain (says.NotLeader (about.Call number) part hint)) said) ∙ hint_of c.call number part hint
