-- An event is about one core alone.
use Rattle.std.proofs.Common.{◌≡◌, ◌≢◌, ℕ, List, [], ◌∷◌, ◌++◌, map, Option, None, Some, Bool, true, false, cond, refl, ap, sym, subst, ◌∙◌, eqb-true, append-nil, inl}
use Rattle.std.specs.Prelude.{◌==◌, ◌&&◌, slice_get}
use Rattle.std.proofs.lemmas.Bool.{cond-true, and_from, eq-eqb}
use Rattle.replica_model.specs.declared.packet.Packet.{Packet}
use Rattle.replica_model.specs.Stepped.{Leaving}
use Rattle.statement_run.specs.Caller.{Caller}
use Rattle.world_model.specs.declared.event.Cause.TheVariants as cause
use Rattle.world_model.specs.declared.event.Event.{Event}
use Rattle.world_model.specs.declared.event.Event.TheVariants as event
use Rattle.world_model.specs.State.{Space, home_of, Post, post_of, posted, State, now, Site, AtClient, AtPeer, Nowhere, at_one, of_one, resolve}
use Rattle.world_model.specs.After.{packet_by, core_by, Step, step_by, standing_after, node_after, stops_after, caller_after, caller_sends, posts_and, posts_with, asked_with, after_at, after, Noted, Queued, done}
use Rattle.world_model.specs.Lawful.{WasSent, MayMail, MayPeer, MayClient, MayAt, MayElse, ComesTo, IsDue, Lawful}
use Rattle.world_model.specs.Journal.{space_at}
use Rattle.world_model.specs.Local.{core_at, SameAt, OthersStay, leaves_of, one_of, sends_at, packets_in, SendsItsOwn, Later, IsOwn, DoesTheSame, StaysLawful, WritesNothing, OthersComeBetween}
use Rattle.world_model.proofs.Lists.{get_left}

-- what is changed at one place, there and elsewhere
pub one_here : {A : Type 0} (f : ℕ → ℕ → A) (p y : ℕ) (x : A) → at_one f p y x p y ≡ x
one_here f p y x = cond-true ((p == p) && (y == y)) x (f p y) (and_from (p == p) (y == y) (eq-eqb p p refl) (eq-eqb y y refl))

one_off : {A : Type 0} (f : ℕ → ℕ → A) (p y : ℕ) (x : A) (q z : ℕ) → AtPeer q z ≢ AtPeer p y → at_one f p y x q z ≡ f q z
one_off f p y x q z other = go (q == p) refl (z == y) refl
  where
    go : (b : Bool) → q == p ≡ b → (c : Bool) → z == y ≡ c → cond (b && c) x (f q z) ≡ f q z
    go true e true d = absurd (other (ap (λ n. AtPeer n z) (eqb-true q p e) ∙ ap (AtPeer p) (eqb-true z y d)))
    go true e false d = refl
    go false e c d = refl

client_off : {A : Type 0} (f : ℕ → A) (c : ℕ) (x : A) (d : ℕ) → AtClient d ≢ AtClient c → of_one f c x d ≡ f d
client_off f c x d other = go (d == c) refl
  where
    go : (b : Bool) → d == c ≡ b → cond b x (f d) ≡ f d
    go true e = absurd (other (ap AtClient (eqb-true d c e)))
    go false e = refl

pub client_here : {A : Type 0} (f : ℕ → A) (c : ℕ) (x : A) → of_one f c x c ≡ x
client_here f c x = cond-true (c == c) x (f c) (eq-eqb c c refl)

-- the other cores
apart_at : (sp : Space) (s : State) (e : Event) (post : Option Post) (core site : Site) → site ≢ core → SameAt s (after_at sp s e post core) site
apart_at sp s e post (AtPeer p y) (AtPeer q z) other = (one_off s.placed p y _ q z other, one_off s.nodes p y _ q z other, one_off s.stops p y _ q z other)
apart_at sp s e post (AtPeer p y) (AtClient d) other = refl
apart_at sp s e post (AtPeer p y) Nowhere other = tt
apart_at sp s e post (AtClient c) (AtPeer q z) other = (refl, refl, refl)
apart_at sp s e post (AtClient c) (AtClient d) other = client_off s.callers c _ d other
apart_at sp s e post (AtClient c) Nowhere other = tt
apart_at sp s e post Nowhere (AtPeer q z) other = (refl, refl, refl)
apart_at sp s e post Nowhere (AtClient d) other = refl
apart_at sp s e post Nowhere Nowhere other = tt

pub apart : OthersStay
apart sp s e site other = apart_at sp s e (packet_by s.posts e) (core_at s e) site other

-- the packets
left_packets : (asked : ℕ → ℕ) (leaves : List Leaving) → packets_in (map (posted asked) leaves) ≡ map (λ (l : Leaving). l.packet) leaves
left_packets asked [] = refl
left_packets asked (l ∷ leaves) = ap (λ xs. l.packet ∷ xs) (left_packets asked leaves)

packets_and : (posts more : List Post) → packets_in (posts ++ more) ≡ packets_in posts ++ packets_in more
packets_and [] more = refl
packets_and (x ∷ posts) more = ap (λ xs. x.packet ∷ xs) (packets_and posts more)

step_sends : (asked : ℕ → ℕ → ℕ) (posts : List Post) (step : Option Step) → packets_in (posts_with asked posts step) ≡ packets_in posts ++ leaves_of step
step_sends asked posts None = sym (append-nil (packets_in posts))
step_sends asked posts (Some x) = packets_and posts (map (posted (asked x.made.replica.core.term)) x.made.leaves) ∙ ap (λ xs. packets_in posts ++ xs) (left_packets (asked x.made.replica.core.term) x.made.leaves)

client_sends : (posts : List Post) (packet : Option Packet) → packets_in (posts_and posts packet) ≡ packets_in posts ++ one_of packet
client_sends posts None = sym (append-nil (packets_in posts))
client_sends posts (Some packet) = packets_and posts (post_of packet ∷ [])

sends_there : (sp : Space) (s : State) (e : Event) (post : Option Post) (core : Site) → packets_in (after_at sp s e post core).posts ≡ packets_in s.posts ++ sends_at sp s e post core
sends_there sp s e post (AtPeer p y) = step_sends (asked_with s.asked (now s) p (step_by (home_of sp p) e post (s.placed p y)) p) s.posts (step_by (home_of sp p) e post (s.placed p y))
sends_there sp s e post (AtClient c) = client_sends s.posts (caller_sends e (s.callers c))
sends_there sp s e post Nowhere = sym (append-nil (packets_in s.posts))

pub sends_its_own : SendsItsOwn
sends_its_own sp s e = sends_there sp s e (packet_by s.posts e) (core_at s e)

-- Posts stand where they stood.
step_grows : (asked : ℕ → ℕ → ℕ) (posts : List Post) (step : Option Step) (k : ℕ) (post : Post) → slice_get posts k ≡ Some post → slice_get (posts_with asked posts step) k ≡ Some post
step_grows asked posts None k post at = at
step_grows asked posts (Some x) k post at = get_left posts (map (posted (asked x.made.replica.core.term)) x.made.leaves) k post at

client_grows : (posts : List Post) (packet : Option Packet) (k : ℕ) (post : Post) → slice_get posts k ≡ Some post → slice_get (posts_and posts packet) k ≡ Some post
client_grows posts None k post at = at
client_grows posts (Some packet) k post at = get_left posts (post_of packet ∷ []) k post at

grows_at : (sp : Space) (s : State) (e : Event) (about : Option Post) (core : Site) (k : ℕ) (post : Post) → slice_get s.posts k ≡ Some post → slice_get (after_at sp s e about core).posts k ≡ Some post
grows_at sp s e about (AtPeer p y) k post at = step_grows (asked_with s.asked (now s) p (step_by (home_of sp p) e about (s.placed p y)) p) s.posts (step_by (home_of sp p) e about (s.placed p y)) k post at
grows_at sp s e about (AtClient c) k post at = client_grows s.posts (caller_sends e (s.callers c)) k post at
grows_at sp s e about Nowhere k post at = at

-- What is lawful stays so.
module _ (sp : Space) (s v : State) where
  may_later : (e : Event) (core : Site) → SameAt s v core → IsOwn s e → MayAt sp s e core → MayAt sp v e core
  may_later e (AtPeer p y) same own may = subst (MayPeer (home_of sp p) e) (sym same.0) may
  may_later e (AtClient c) same own may = subst (MayClient sp e) (sym same) may
  may_later (event.Invoke id op) Nowhere same own may = absurd may
  may_later (event.Deliver k) Nowhere same own may = absurd may
  may_later (event.Tick p y t) Nowhere same own may = absurd may
  may_later (event.Crash p y) Nowhere same own may = absurd may
  may_later (event.StepCrash p y c) Nowhere same own may = absurd may
  may_later (event.Restart p y took) Nowhere same own may = absurd may
  may_later (event.Place p node y first) Nowhere same own may = absurd may
  may_later (event.Wipe p y) Nowhere same own may = absurd may
  may_later (event.Round c) Nowhere same own may = absurd may
  may_later (event.Reply id a) Nowhere same own may = absurd may
  may_later (event.Lose k) Nowhere same own may = absurd own
  may_later (event.Meta body) Nowhere same own may = absurd own

  behind_later : (e : Event) (post : Option Post) (core : Site) → SameAt s v core → SameAt (after_at sp s e post core) (after_at sp v e post core) core
  behind_later e post (AtPeer p y) same = (
    one_here v.placed p y (standing_after (home_of sp p) y e post (v.placed p y)) ∙ ap (standing_after (home_of sp p) y e post) same.0 ∙ sym (one_here s.placed p y (standing_after (home_of sp p) y e post (s.placed p y))),
    one_here v.nodes p y (node_after e (v.nodes p y)) ∙ ap (node_after e) same.1 ∙ sym (one_here s.nodes p y (node_after e (s.nodes p y))),
    one_here v.stops p y (stops_after e (v.stops p y)) ∙ ap (stops_after e) same.2 ∙ sym (one_here s.stops p y (stops_after e (s.stops p y))),
  )
  behind_later e post (AtClient c) same =
      client_here v.callers c (caller_after e post (v.callers c)) ∙ ap (caller_after e post) same ∙ sym (client_here s.callers c (caller_after e post (s.callers c)))
  behind_later e post Nowhere same = tt

  sends_later : (e : Event) (post : Option Post) (core : Site) → SameAt s v core → sends_at sp v e post core ≡ sends_at sp s e post core
  sends_later e post (AtPeer p y) same = ap (λ x. leaves_of (step_by (home_of sp p) e post x)) same.0
  sends_later e post (AtClient c) same = ap (λ (x : Caller). one_of (caller_sends e x)) same
  sends_later e post Nowhere same = refl

-- an event whose packet is the same, by the same table
module _ (sp : Space) (s v : State) (e : Event) (own : IsOwn s e) (may : Lawful sp s e) (later : Later s v (core_at s e)) where
  -- its packet
  packet_is : packet_by v.posts e ≡ packet_by s.posts e → (mail : MayMail v.posts v.done e) → (rest : MayElse sp v e) → DoesTheSame sp s v e
  packet_is same mail rest =
      let core : core_at v e ≡ core_at s e = ap (λ t. core_by t e (packet_by v.posts e)) later.table ∙ ap (core_by s.table e) same in
      record {
        lawful = record { mail = mail; core = subst (MayAt sp v e) (sym core) (may_later sp s v e (core_at s e) later.core own may.core); rest = rest };
        core = core;
        behind = subst (λ site. SameAt (after sp s e) (after_at sp v e (packet_by v.posts e) site) (core_at s e)) (sym core)
            (subst (λ post. SameAt (after sp s e) (after_at sp v e post (core_at s e)) (core_at s e)) (sym same) (behind_later sp s v e (packet_by s.posts e) (core_at s e) later.core));
        sends = ap (sends_at sp v e (packet_by v.posts e)) core ∙ ap (λ post. sends_at sp v e post (core_at s e)) same ∙ sends_later sp s v e (packet_by s.posts e) (core_at s e) later.core;
      }

  -- of one that was sent
  sent_later : (k : ℕ) → WasSent s.posts k → WasSent v.posts k
  sent_later k was = record { post = was.post; sent = later.posts k was.post was.sent }

  same_packet : (k : ℕ) → WasSent s.posts k → slice_get v.posts k ≡ slice_get s.posts k
  same_packet k was = later.posts k was.post was.sent ∙ sym was.sent

pub stays_lawful : StaysLawful
stays_lawful sp s v (event.Invoke id op) own may later = packet_is sp s v (event.Invoke id op) own may later refl tt tt
stays_lawful sp s v (event.Deliver k) own may later =
    packet_is sp s v (event.Deliver k) own may later (same_packet sp s v (event.Deliver k) own may later k may.mail) (sent_later sp s v (event.Deliver k) own may later k may.mail) tt
stays_lawful sp s v (event.Tick p y t) own may later = packet_is sp s v (event.Tick p y t) own may later refl tt tt
stays_lawful sp s v (event.Crash p y) own may later = packet_is sp s v (event.Crash p y) own may later refl tt tt
stays_lawful sp s v (event.StepCrash p y (cause.Tick t)) own may later = packet_is sp s v (event.StepCrash p y (cause.Tick t)) own may later refl tt tt
stays_lawful sp s v (event.StepCrash p y (cause.Sent k)) own may later =
    (let e = event.StepCrash p y (cause.Sent k) in
    let same = same_packet sp s v e own may later k may.mail in
    packet_is sp s v e own may later same (sent_later sp s v e own may later k may.mail)
    (subst (ComesTo v p y) (sym same) (comes (slice_get s.posts k) may.rest)))
  where
    comes : (post : Option Post) → ComesTo s p y post → ComesTo v p y post
    comes None to = to
    comes (Some post) to = ap (λ t. resolve t post.packet.to) later.table ∙ to
stays_lawful sp s v (event.Restart p y took) own may later = packet_is sp s v (event.Restart p y took) own may later refl tt tt
stays_lawful sp s v (event.Reply id a) own may later =
    packet_is sp s v (event.Reply id a) own may later refl tt (inl (subst (λ (x : Caller). IsDue x a) (sym later.core) own))
stays_lawful sp s v (event.Place p node y first) own may later = absurd own
stays_lawful sp s v (event.Wipe p y) own may later = absurd own
stays_lawful sp s v (event.Round c) own may later = absurd own
stays_lawful sp s v (event.Lose k) own may later = absurd own
stays_lawful sp s v (event.Meta body) own may later = absurd own

-- Events of others.
same_at : (s : State) (site : Site) → SameAt s s site
same_at s (AtPeer p y) = (refl, refl, refl)
same_at s (AtClient c) = refl
same_at s Nowhere = tt

same_then : (s u v : State) (site : Site) → SameAt s u site → SameAt u v site → SameAt s v site
same_then s u v (AtPeer p y) a b = (b.0 ∙ a.0, b.1 ∙ a.1, b.2 ∙ a.2)
same_then s u v (AtClient c) a b = b ∙ a
same_then s u v Nowhere a b = tt

table_at : (sp : Space) (s : State) (e : Event) → WritesNothing e → (post : Option Post) (core : Site) → (after_at sp s e post core).table ≡ s.table
table_at sp s e none post (AtPeer p y) = refl
table_at sp s e none post (AtClient c) = refl
table_at sp s (event.Invoke id op) none post Nowhere = refl
table_at sp s (event.Deliver k) none post Nowhere = refl
table_at sp s (event.Lose k) none post Nowhere = refl
table_at sp s (event.Tick p y t) none post Nowhere = refl
table_at sp s (event.Crash p y) none post Nowhere = refl
table_at sp s (event.StepCrash p y c) none post Nowhere = refl
table_at sp s (event.Restart p y took) none post Nowhere = refl
table_at sp s (event.Place p node y first) none post Nowhere = refl
table_at sp s (event.Wipe p y) none post Nowhere = refl
table_at sp s (event.Meta body) none post Nowhere = absurd none
table_at sp s (event.Round c) none post Nowhere = refl
table_at sp s (event.Reply id a) none post Nowhere = refl

then_later : (s u v : State) (site : Site) → Later s u site → Later u v site → Later s v site
then_later s u v site a b = record { table = b.table ∙ a.table; posts = λ k post at. b.posts k post (a.posts k post at); core = same_then s u v site a.core b.core }

pub others_come_between : OthersComeBetween
others_come_between spelling s [] v site run others = record {
  table = ap (λ (x : State). x.table) run;
  posts = λ k post at. ap (λ (x : State). slice_get x.posts k) run ∙ at;
  core = subst (λ x. SameAt s x site) (sym run) (same_at s site);
}
others_come_between spelling s (Noted e ∷ doings) v site run others =
    then_later s (after (space_at spelling s) s e) v site
    (record {
      table = table_at (space_at spelling s) s e others.1 (packet_by s.posts e) (core_at s e);
      posts = grows_at (space_at spelling s) s e (packet_by s.posts e) (core_at s e);
      core = apart (space_at spelling s) s e site others.0;
    })
    (others_come_between spelling (after (space_at spelling s) s e) doings v site run.1 others.2)
others_come_between spelling s (Queued c ops ∷ doings) v site run others =
    then_later s (done (space_at spelling s) s (Queued c ops)) v site
    (record { table = refl; posts = λ k post at. at; core = queued_off site others.0 })
    (others_come_between spelling (done (space_at spelling s) s (Queued c ops)) doings v site run.1 others.1)
  where
    queued_off : (site : Site) → site ≢ AtClient c → SameAt s (done (space_at spelling s) s (Queued c ops)) site
    queued_off (AtPeer q z) other = (refl, refl, refl)
    queued_off (AtClient d) other = client_off s.callers c _ d other
    queued_off Nowhere other = tt
