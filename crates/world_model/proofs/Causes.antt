-- Each answer that a client gets has its cause in what was decided.
use Rattle.std.proofs.Common.{◌≡◌, inl, inr, ℕ, List, [], ◌∷◌, ap, sym, subst, ◌∙◌}
use Rattle.std.proofs.lemmas.Option.{same_Some}
use Rattle.std.specs.List.{AllByRecursion}
use Rattle.part_keys.specs.declared.vid_kind.VidKind.{VidKind}
use Rattle.chain_world.specs.declared.packet.ChainEnd.{ChainEnd}
use Rattle.replica_model.specs.declared.packet.Place.{Place}
use Rattle.statement_run.specs.Caller.{Open}
use Rattle.graph_model.specs.declared.answer.Answer.{Answer}
use Rattle.graph_model.specs.declared.answer.Answer.TheVariants as said
use Rattle.graph_model.specs.declared.call_id.CallId.{CallId}
use Rattle.chain_leader.specs.declared.body.ChainBody.TheVariants as says
use Rattle.chain_world.specs.declared.event.ChainEvent.{ChainEvent}
use Rattle.chain_world.specs.declared.event.ChainEvent.TheVariants as event
use Rattle.chain_world.specs.declared.packet.ChainEnd.TheVariants as ends
use Rattle.chain_world.specs.Causes.{HasCause}
use Rattle.chain_world.specs.Ledger.{Ledger}
use Rattle.chain_world.specs.Places.{Among}
use Rattle.chain_world.specs.State.{Chains}
use Rattle.chain_world.specs.World.{run}
use Rattle.chain_world.proofs.Answered.{sent_answers_have_causes}
use Rattle.chain_world.proofs.Members.{among_at}
use Rattle.replica_model.specs.declared.packet.To.{To}
use Rattle.replica_model.specs.declared.packet.To.TheVariants as to
use Rattle.replica_model.specs.declared.packet.Body.{Body}
use Rattle.part_keys.specs.Spelled.{Spelling}
use Rattle.world_model.specs.State.{State, start}
use Rattle.world_model.specs.After.{Doing}
use Rattle.world_model.specs.Journal.{space_at, Run}
use Rattle.world_model.specs.Grouped.{Has}
use Rattle.world_model.specs.Chained.{chain_post, HasLike, IsMailed}
use Rattle.world_model.specs.Causes.{IsFounded, AnswersAreFounded, RepliesAreFounded, WasTold, HasTick, AnswersHaveTicks, RepliesHaveTicks}
use Rattle.world_model.proofs.Joined.{joined}
use Rattle.world_model.proofs.Backed.{Backed}
use Rattle.world_model.proofs.Policies.{always_elected}

founded : (ids : VidKind) (parts : ℕ) (events : List ChainEvent) (id : CallId) (a : Answer) (m : ℕ) → HasCause ids parts events id a m → IsFounded parts (run ids parts events).ledger id a m
founded ids parts events id said.Fine m is = record { part = is.part; place = is.place; term = is.term; entry = is.entry; answer = is.answer; decided = is.decided; settles = is.settles }
founded ids parts events id said.Skipped m is = record { part = is.part; place = is.place; term = is.term; entry = is.entry; its = is.its; decided = is.decided }
founded ids parts events id (said.Conflict other) m is = record { part = is.part; place = is.place; term = is.term; entry = is.entry; its = is.its; decided = is.decided }
founded ids parts events id said.Pending m is = record { part = is.part; place = is.place; term = is.term; chain = is.chain; decided = is.decided }
founded ids parts events id said.Cancelled m is = record { part = is.part; place = is.place; term = is.term; chain = is.chain; decided = is.decided }
founded ids parts events id (said.Shown view) m is = is
founded ids parts events id said.Unknown m is = is

module _ (ids : VidKind) (parts : ℕ) (c : Chains) (reached : (events : List ChainEvent) × (run ids parts events ≡ c)) where
  sent_founded : (client number : ℕ) (a : Answer) (from : ChainEnd) (m : ℕ) → Has c.posts (chain_post from (ends.Client client) (says.Answer number a) m) → IsFounded parts c.ledger (record { client = client; number = number }) a m
  sent_founded client number a from m has =
      let it = chain_post from (ends.Client client) (says.Answer number a) m in
      subst (λ (x : Chains). IsFounded parts x.ledger (record { client = client; number = number }) a m) reached.1
      (founded ids parts reached.0 (record { client = client; number = number }) a m
      (sent_answers_have_causes ids parts reached.0 from client number m a
      (subst (λ (x : Chains). Among it x.posts) (sym reached.1) (among_at it c.posts has.0 has.1))))

  mailed : (client number : ℕ) (a : Answer) (from : Place) (m : ℕ) → IsMailed c.posts from (ends.Client client) (says.Answer number a) m → IsFounded parts c.ledger (record { client = client; number = number }) a m
  mailed client number a from m mail = sent_founded client number a mail.from m mail.there

pub answers_are_founded : (spelling : Spelling) (n : ℕ) (doings : List Doing) (v : State) → Run spelling (start n) doings v → AnswersAreFounded (space_at spelling v).parts v
answers_are_founded spelling n doings v run k post client number a at whom said =
    (let J = joined spelling n doings v run in
    let c = J.chains in
    subst (λ (l : Ledger). IsFounded (space_at spelling v).parts l (record { client = client; number = number }) a post.moment) J.chained.ledger_is
    (mailed (space_at spelling v).ids (space_at spelling v).parts c J.chained.reached client number a post.packet.from post.moment
    (subst (λ (b : Body). HasLike c.posts post.packet.from (to.Client client) b post.moment) said
    (subst (λ (w : To). HasLike c.posts post.packet.from w post.packet.body post.moment) whom (J.chained.mail k post at)))))

pub replies_are_founded : (spelling : Spelling) (n : ℕ) (doings : List Doing) (s : State) → Run spelling (start n) doings s → RepliesAreFounded (space_at spelling s).parts s
replies_are_founded spelling n doings s run id a may =
    (let J = joined spelling n doings s run in
    let c = J.chains in
    elim may.ends [
      | inr up ↦ inl up.unknown
      | inl due ↦
          (let d = (J.chained.calls id.client).due due.0 due.1 in
          let m = d.2.post.moment in
          let same = same_Some d.0 may.call (sym d.1 ∙ may.its) in
          inr (
            m,
            subst (λ (l : Ledger). IsFounded (space_at spelling s).parts l id a m) J.chained.ledger_is
                (sent_founded (space_at spelling s).ids (space_at spelling s).parts c J.chained.reached id.client id.number a d.2.is.from m
                (subst (λ k. Has c.posts (chain_post d.2.is.from (ends.Client id.client) (says.Answer k a) m)) (ap (λ (k : Open). k.id.number) same ∙ ap (λ (i : CallId). i.number) may.same)
                (subst (λ b. Has c.posts (chain_post d.2.is.from (ends.Client id.client) (says.Answer d.0.id.number b) m)) due.2 d.2.is.there))),
          ))
    ])

-- Pending and Cancelled have a tick.
all_among : {A : Type 0} (P : A → Type 0) (x : A) (xs : List A) → AllByRecursion P xs → Among x xs → P x
all_among P x [] all among = absurd among
all_among P x (y ∷ xs) all (inl same) = subst P (sym same) all.0
all_among P x (y ∷ xs) all (inr later) = all_among P x xs all.1 later

module _ (ids : VidKind) (parts : ℕ) (doings : List Doing) (events : List ChainEvent) (backed : AllByRecursion (Backed (WasTold doings)) events) where
  ticked : (id : CallId) (a : Answer) (m : ℕ) → HasCause ids parts events id a m → HasTick parts (run ids parts events).ledger doings id a
  ticked id said.Pending m is = record {
    part = is.part;
    place = is.place;
    term = is.term;
    chain = is.chain;
    decided = is.decided;
    given_up = all_among (Backed (WasTold doings)) (event.GiveUp is.part is.term id) events backed is.given_up;
  }
  ticked id said.Cancelled m is = record {
    part = is.part;
    place = is.place;
    term = is.term;
    chain = is.chain;
    decided = is.decided;
    elected = always_elected (WasTold doings) ids parts events backed is.part is.term is.leader is.led is.cancels;
  }
  ticked id said.Fine m is = tt
  ticked id said.Skipped m is = tt
  ticked id (said.Conflict other) m is = tt
  ticked id (said.Shown view) m is = tt
  ticked id said.Unknown m is = tt

  module _ (c : Chains) (reached : run ids parts events ≡ c) where
    sent_ticked : (client number : ℕ) (a : Answer) (from : ChainEnd) (m : ℕ) → Has c.posts (chain_post from (ends.Client client) (says.Answer number a) m) → HasTick parts c.ledger doings (record { client = client; number = number }) a
    sent_ticked client number a from m has =
        let it = chain_post from (ends.Client client) (says.Answer number a) m in
        subst (λ (x : Chains). HasTick parts x.ledger doings (record { client = client; number = number }) a) reached
        (ticked (record { client = client; number = number }) a m
        (sent_answers_have_causes ids parts events from client number m a
        (subst (λ (x : Chains). Among it x.posts) (sym reached) (among_at it c.posts has.0 has.1))))

    mailed_ticked : (client number : ℕ) (a : Answer) (from : Place) (m : ℕ) → IsMailed c.posts from (ends.Client client) (says.Answer number a) m → HasTick parts c.ledger doings (record { client = client; number = number }) a
    mailed_ticked client number a from m mail = sent_ticked client number a mail.from m mail.there

pub answers_have_ticks : (spelling : Spelling) (n : ℕ) (doings : List Doing) (v : State) → Run spelling (start n) doings v → AnswersHaveTicks (space_at spelling v).parts doings v
answers_have_ticks spelling n doings v run k post client number a at whom said =
    (let J = joined spelling n doings v run in
    let c = J.chains in
    subst (λ (l : Ledger). HasTick (space_at spelling v).parts l doings (record { client = client; number = number }) a) J.chained.ledger_is
    (mailed_ticked (space_at spelling v).ids (space_at spelling v).parts doings J.onward.events J.onward.backed c J.onward.is client number a post.packet.from post.moment
    (subst (λ (b : Body). HasLike c.posts post.packet.from (to.Client client) b post.moment) said
    (subst (λ (w : To). HasLike c.posts post.packet.from w post.packet.body post.moment) whom (J.chained.mail k post at)))))

pub replies_have_ticks : (spelling : Spelling) (n : ℕ) (doings : List Doing) (s : State) → Run spelling (start n) doings s → RepliesHaveTicks (space_at spelling s).parts doings s
replies_have_ticks spelling n doings s run id a may =
    (let J = joined spelling n doings s run in
    let c = J.chains in
    elim may.ends [
      | inr up ↦ subst (λ (x : Answer). HasTick (space_at spelling s).parts s.ledger doings id x) (sym up.unknown) tt
      | inl due ↦
          (let d = (J.chained.calls id.client).due due.0 due.1 in
          let m = d.2.post.moment in
          let same = same_Some d.0 may.call (sym d.1 ∙ may.its) in
          subst (λ (l : Ledger). HasTick (space_at spelling s).parts l doings id a) J.chained.ledger_is
          (sent_ticked (space_at spelling s).ids (space_at spelling s).parts doings J.onward.events J.onward.backed c J.onward.is id.client id.number a d.2.is.from m
          (subst (λ k. Has c.posts (chain_post d.2.is.from (ends.Client id.client) (says.Answer k a) m)) (ap (λ (k : Open). k.id.number) same ∙ ap (λ (i : CallId). i.number) may.same)
          (subst (λ b. Has c.posts (chain_post d.2.is.from (ends.Client id.client) (says.Answer d.0.id.number b) m)) due.2 d.2.is.there))))
    ])
