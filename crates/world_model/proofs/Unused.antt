-- Where nothing was placed and no statement was queued, the world is as it began but for its table.
use Rattle.std.proofs.Common.{◌≡◌, ℕ, List, [], ◌∷◌, length, Option, None, Some, Bool, true, false, cond, eqb-true, refl, ap, sym, subst, ◌∙◌, arith}
use Rattle.std.specs.Prelude.{◌==◌, slice_get}
use Rattle.std.proofs.lemmas.Bool.{cond_both, true≢false}
use Rattle.std.proofs.lemmas.Option.{none-some}
use Rattle.meta_parts.specs.Table.{written}
use Rattle.part_keys.specs.Spelled.{Spelling}
use Rattle.chain_leader.specs.declared.body.About.{About}
use Rattle.chain_leader.specs.declared.body.About.TheVariants as about
use Rattle.chain_leader.specs.declared.body.ChainBody.{ChainBody}
use Rattle.chain_leader.specs.declared.body.ChainBody.TheVariants as says
use Rattle.replica_model.specs.declared.packet.Body.{Body}
use Rattle.replica_model.specs.declared.packet.Body.TheVariants as packet_body
use Rattle.statement_run.specs.Caller.{Caller, Open, Due, queued, rounded_from, answers, hears_by, hears_of, hinted_of}
use Rattle.world_model.specs.declared.event.Cause.{Cause}
use Rattle.world_model.specs.declared.event.Cause.TheVariants as cause
use Rattle.world_model.specs.declared.event.Event.{Event}
use Rattle.world_model.specs.declared.event.Event.TheVariants as event
use Rattle.world_model.specs.State.{Space, home_of, Standing, Vacant, Up, Stopped, Down, Gone, Post, State, began, start, Site, AtClient, AtPeer, Nowhere, at_one, of_one}
use Rattle.world_model.specs.After.{core_by, standing_after, caller_after, after_at, after, Doing, Noted, Queued, done}
use Rattle.world_model.specs.Lawful.{WasSent, MayRestart, MayAt, Lawful, MayDo}
use Rattle.world_model.specs.Journal.{space_at, Run, IsAsItBegan}
use Rattle.world_model.proofs.Local.{one_here, client_here}

-- nothing is there, and no call was made
pub record IsUnused (s : State) : Type 0 where
  pub placed : (p y : ℕ) → s.placed p y ≡ Vacant
  pub last : (c : ℕ) → (s.callers c).last ≡ 0

-- then all else is as it began, and no call is open
pub record IsBlank (s : State) : Type 0 where
  pub is : s ≡ record (began s.table) { callers = s.callers }
  pub calls : (c : ℕ) → (s.callers c).call ≡ None

abbrev Kept : State → Type 0
Kept s = IsUnused s → IsBlank s

-- what isn't vacant
abbrev is_there : Standing → Bool
is_there Vacant = false
is_there (Up r) = true
is_there (Stopped r i) = true
is_there (Down d) = true
is_there Gone = true

-- a client that hears a packet made no call by it
hears_last : (c : Caller) (o : Option Open) (d : Option Due) (k : ℕ) (b : Body) → (hears_by c o d k b).last ≡ c.last
hears_last c (Some call) None k (packet_body.Chain said) = said_last said
  where
    told_last : (other : About) (hint : ℕ) → (hinted_of c call other hint).last ≡ c.last
    told_last (about.Call number) hint = cond_both (number == call.id.number) (record c { call = Some (record call { hint = hint }) }) c (λ (x : Caller). x.last ≡ c.last) (λ is. refl) (λ not_so. refl)
    told_last (about.Chain v) hint = refl

    said_last : (said : ChainBody) → (hears_of c call k said).last ≡ c.last
    said_last (says.Answer number answer) =
        cond_both (answers call number answer) (record c { due = Some (record { answer = answer; packet = k }) }) c (λ (x : Caller). x.last ≡ c.last) (λ is. refl) (λ not_so. refl)
    said_last (says.NotLeader other part hint) = told_last other hint
    said_last (says.Request number x) = refl
    said_last (says.Remote term v list) = refl
    said_last (says.Done term v) = refl
    said_last (says.Stale term v above) = refl
    said_last (says.Fence term v edges) = refl
    said_last (says.Fenced term v written) = refl
    said_last (says.Resume term behind) = refl
hears_last c (Some call) None k (packet_body.Raft message) = refl
hears_last c (Some call) (Some d) k b = refl
hears_last c None d k b = refl

module _ (sp : Space) (s : State) (kept : Kept s) where
  -- a replica that the event leaves there
  not_vacant : (p y : ℕ) (x : Standing) → at_one s.placed p y x p y ≡ Vacant → is_there x ≡ true → ⊥
  not_vacant p y x vacant there = true≢false (sym there ∙ ap is_there (sym (one_here s.placed p y x) ∙ vacant))

  by_up : (e : Event) (post : Option Post) (p y : ℕ) (up : (r : _) × (s.placed p y ≡ Up r)) → is_there (standing_after (home_of sp p) y e post (Up up.0)) ≡ true
      → IsUnused (after_at sp s e post (AtPeer p y)) → ⊥
  by_up e post p y up there unused = not_vacant p y (standing_after (home_of sp p) y e post (s.placed p y)) (unused.placed p y)
      (subst (λ x. is_there (standing_after (home_of sp p) y e post x) ≡ true) (sym up.1) there)

  -- a client that made no call by the event
  last_back : (c : ℕ) (x : Caller) → x.last ≡ (s.callers c).last → ((d : ℕ) → (of_one s.callers c x d).last ≡ 0) → (d : ℕ) → (s.callers d).last ≡ 0
  last_back c x same none d = go (d == c) refl (none d)
    where
      here : (s.callers c).last ≡ 0
      here = sym same ∙ ap (λ (z : Caller). z.last) (sym (client_here s.callers c x)) ∙ none c

      go : (b : Bool) → d == c ≡ b → (cond b x (s.callers d)).last ≡ 0 → (s.callers d).last ≡ 0
      go true e z = subst (λ k. (s.callers k).last ≡ 0) (sym (eqb-true d c e)) here
      go false e z = z

  -- nothing was sent before
  none_sent : IsUnused s → (k : ℕ) → WasSent s.posts k → ⊥
  none_sent unused k sent = none-some sent.post (sym (ap (λ (x : State). slice_get x.posts k) (kept unused).is) ∙ sent.sent)

  none_open : IsUnused s → (c : ℕ) (call : Open) → (s.callers c).call ≡ Some call → ⊥
  none_open unused c call its = none-some call (sym ((kept unused).calls c) ∙ its)

  restarted : (p y : ℕ) (took : Bool) (x : Standing) → MayRestart (home_of sp p) took x → is_there (standing_after (home_of sp p) y (event.Restart p y took) None x) ≡ true
  restarted p y took (Down d) may = refl
  restarted p y took (Stopped r i) may = refl
  restarted p y true Vacant may = absurd may
  restarted p y false Vacant may = absurd may
  restarted p y true (Up r) may = absurd may
  restarted p y false (Up r) may = absurd may
  restarted p y true Gone may = absurd may
  restarted p y false Gone may = absurd may

  delivered : (k : ℕ) (post : Post) → WasSent s.posts k → (site : Site) → MayAt sp s (event.Deliver k) site → Kept (after_at sp s (event.Deliver k) (Some post) site)
  delivered k post sent (AtPeer p y) may unused = absurd (by_up (event.Deliver k) (Some post) p y may refl unused)
  delivered k post sent (AtClient c) may unused =
      absurd (none_sent (record { placed = unused.placed; last = last_back c _ (hears_last (s.callers c) (s.callers c).call (s.callers c).due k post.packet.body) unused.last }) k sent)
  delivered k post sent Nowhere may unused = absurd may

  stopped : (p y : ℕ) (c : Cause) → Lawful sp s (event.StepCrash p y c) → Kept (after sp s (event.StepCrash p y c))
  stopped p y (cause.Tick t) may unused = absurd (by_up (event.StepCrash p y (cause.Tick t)) None p y may.core refl unused)
  stopped p y (cause.Sent k) may unused =
      absurd (by_up (event.StepCrash p y (cause.Sent k)) (Some may.mail.post) p y may.core refl
      (subst (λ o. IsUnused (after_at sp s (event.StepCrash p y (cause.Sent k)) o (AtPeer p y))) may.mail.sent unused))

  kept_after : (e : Event) → Lawful sp s e → Kept (after sp s e)
  kept_after (event.Invoke id op) may unused =
      absurd (let a = ap (λ (x : Caller). x.last) (sym (client_here s.callers id.client (caller_after (event.Invoke id op) None (s.callers id.client)))) ∙ unused.last id.client in
      let b = may.core.number in omega arith)
  kept_after (event.Deliver k) may unused =
      subst (λ o. Kept (after_at sp s (event.Deliver k) o (core_by s.table (event.Deliver k) o))) (sym may.mail.sent)
      (delivered k may.mail.post may.mail (core_by s.table (event.Deliver k) (Some may.mail.post)) (subst (λ o. MayAt sp s (event.Deliver k) (core_by s.table (event.Deliver k) o)) may.mail.sent may.core)) unused
  kept_after (event.Lose k) may unused =
      absurd (let many = ap (λ (x : State). length x.posts) (kept (record { placed = unused.placed; last = unused.last })).is in let low = may.mail.sent in omega arith)
  kept_after (event.Tick p y t) may unused = absurd (by_up (event.Tick p y t) None p y may.core refl unused)
  kept_after (event.Crash p y) may unused = absurd (by_up (event.Crash p y) None p y may.core refl unused)
  kept_after (event.StepCrash p y c) may unused = stopped p y c may unused
  kept_after (event.Restart p y took) may unused =
      absurd (not_vacant p y (standing_after (home_of sp p) y (event.Restart p y took) None (s.placed p y)) (unused.placed p y) (restarted p y took (s.placed p y) may.core))
  kept_after (event.Place p node y first) may unused = absurd (not_vacant p y _ (unused.placed p y) refl)
  kept_after (event.Wipe p y) may unused = absurd (not_vacant p y Gone (unused.placed p y) refl)
  kept_after (event.Meta b) may unused =
      (let blank = kept (record { placed = unused.placed; last = unused.last }) in
      record { is = ap (λ (x : State). record x { table = written s.table b }) blank.is; calls = blank.calls })
  kept_after (event.Round c) may unused = absurd (none_open (record { placed = unused.placed; last = last_back c _ (rounded_last (s.callers c).call) unused.last }) c may.core.call may.core.its)
    where
      rounded_last : (o : Option Open) → (rounded_from (s.callers c) o).last ≡ (s.callers c).last
      rounded_last None = refl
      rounded_last (Some call) = refl
  kept_after (event.Reply id a) may unused =
      absurd (none_open (record { placed = unused.placed; last = last_back id.client _ refl unused.last }) id.client may.core.call may.core.its)

  kept_done : (d : Doing) → MayDo sp s d → Kept (done sp s d)
  kept_done (Noted e) may unused = kept_after e may unused
  kept_done (Queued c statement) may unused =
      (let blank = kept (record { placed = unused.placed; last = last_back c _ refl unused.last }) in
      record { is = ap (λ (x : State). record x { callers = of_one s.callers c (queued (s.callers c) statement) }) blank.is; calls = λ d. go blank d (d == c) })
    where
      go : IsBlank s → (d : ℕ) (b : Bool) → (cond b (queued (s.callers c) statement) (s.callers d)).call ≡ None
      go blank d true = blank.calls c
      go blank d false = blank.calls d

kept_from : (spelling : Spelling) (s : State) → Kept s → (doings : List Doing) (v : State) → Run spelling s doings v → Kept v
kept_from spelling s kept [] v run = subst Kept (sym run) kept
kept_from spelling s kept (d ∷ doings) v run = kept_from spelling (done (space_at spelling s) s d) (kept_done (space_at spelling s) s kept d run.0) doings v run.1

pub as_it_began : IsAsItBegan
as_it_began spelling n doings v run nothing =
    (let blank = kept_from spelling (start n) (λ unused. record { is = refl; calls = λ c. refl }) doings v run (record { placed = nothing.0; last = λ c. ap (λ (x : Caller). x.last) (nothing.1 c) }) in
    blank.is ∙ same_callers)
  where
    same_callers : record (began v.table) { callers = v.callers } ≡ began v.table
    same_callers = λ t. record (began v.table) { callers = λ c. nothing.1 c t }
