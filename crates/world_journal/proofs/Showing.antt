-- The packets behind an event.
use Rattle.std.proofs.Common.{◌≡◌, ◌≢◌, ◌⊎◌, inl, inr, if◌then◌else◌, ℕ, zero, suc, ◌+◌, ◌≤◌, ◌<◌, ◌==◌, ◌&&◌, Bool, true, false, List, [], ◌∷◌, ◌++◌, length, map, Option, Some, None, slice_get, refl, ap, sym, ◌∙◌, subst, arith, length-append}
use Rattle.std.proofs.lemmas.Option.{same_Some, none-some, slice_get_within}
use Rattle.std.specs.Option.{is_some}
use Rattle.std.specs.Prelude.{not}
use Rattle.std.proofs.lemmas.List.{map-append, length-map}
use Rattle.std.proofs.lemmas.Bool.{cond-true, cond-false, eq-eqb, ne_eqb, and_from, and_left, and_right, cases_eq, cases_lt, true≢false, false≢true}
use Rattle.world_model.proofs.Local.{sends_its_own}
use Rattle.world_mail.specs.declared.packets.Sent.{Sent}
use Rattle.world_mail.specs.Sent.{bytes_of, fresh, marked, lowest, lowest_from, lowest_by}
use Rattle.world_mail.proofs.Marking.{length_marked, bytes_fresh}
use Rattle.replica_model.specs.declared.packet.Packet.{Packet}
use Rattle.world_model.specs.declared.event.Cause.TheVariants as cause
use Rattle.world_model.specs.declared.event.Event.{Event}
use Rattle.world_model.specs.declared.event.Event.TheVariants as event
use Rattle.world_model.specs.State.{Space, Post, State, Site, AtClient, AtPeer, Nowhere}
use Rattle.world_model.specs.After.{packet_by, core_by, ends, done_after, after, after_at}
use Rattle.world_model.specs.Lawful.{Lawful, MayMail, all_below}
use Rattle.world_model.specs.Journal.{Codec}
use Rattle.world_model.specs.Local.{packets_in, sends_by}
use Rattle.world_journal.specs.Ends.{ended_by, ended_in}
use Rattle.world_journal.specs.Shows.{Shows, Spells}

-- ---- marks

-- whether a number is the one, if there is one
abbrev is_it : Option ℕ → ℕ → Bool
is_it None j = false
is_it (Some k) j = j == k

ends_as : (e : Event) (j : ℕ) → ends e j ≡ is_it (ended_by e) j
ends_as (event.Deliver k) j = refl
ends_as (event.Lose k) j = refl
ends_as (event.StepCrash p y (cause.Sent k)) j = refl
ends_as (event.StepCrash p y (cause.Tick t)) j = refl
ends_as (event.Invoke id op) j = refl
ends_as (event.Tick p y t) j = refl
ends_as (event.Crash p y) j = refl
ends_as (event.Restart p y took) j = refl
ends_as (event.Place p node y first) j = refl
ends_as (event.Wipe p y) j = refl
ends_as (event.Meta b) j = refl
ends_as (event.Round c) j = refl
ends_as (event.Reply id a) j = refl

marked_here : (sent : List Sent) (k : ℕ) (one : Sent) → slice_get (marked sent k) k ≡ Some one → one.done ≡ true
marked_here [] k one is = absurd (none-some one is)
marked_here (s ∷ sent) zero one is = sym (ap (λ (x : Sent). x.done) (same_Some _ _ is))
marked_here (s ∷ sent) (suc k) one is = marked_here sent k one is

marked_apart : (sent : List Sent) (k j : ℕ) → j ≢ k → slice_get (marked sent k) j ≡ slice_get sent j
marked_apart [] k j apart = refl
marked_apart (s ∷ sent) zero zero apart = absurd (apart refl)
marked_apart (s ∷ sent) zero (suc j) apart = refl
marked_apart (s ∷ sent) (suc k) zero apart = refl
marked_apart (s ∷ sent) (suc k) (suc j) apart = marked_apart sent k j (λ e. apart (ap suc e))

bytes_marked : (sent : List Sent) (k : ℕ) → bytes_of (marked sent k) ≡ bytes_of sent
bytes_marked [] k = refl
bytes_marked (s ∷ sent) zero = refl
bytes_marked (s ∷ sent) (suc k) = ap (λ xs. s.bytes ∷ xs) (bytes_marked sent k)

bytes_ended : (n : Option ℕ) (sent : List Sent) → bytes_of (ended_in n sent) ≡ bytes_of sent
bytes_ended None sent = refl
bytes_ended (Some k) sent = bytes_marked sent k

pub length_ended : (n : Option ℕ) (sent : List Sent) → length (ended_in n sent) ≡ length sent
length_ended None sent = refl
length_ended (Some k) sent = length_marked sent k

-- a number beyond the packets marks none
pub marked_past : (sent : List Sent) (k : ℕ) → length sent ≤ k → marked sent k ≡ sent
marked_past [] k past = refl
marked_past (s ∷ sent) zero past = absurd (omega (arith, past))
marked_past (s ∷ sent) (suc k) past = ap (λ r. s ∷ r) (marked_past sent k (omega (arith, past)))

-- the mark of a packet, behind one that is done
mark_by : (k j : ℕ) (d : ℕ → Bool) (sent : List Sent) (one : Sent) → ((x : Sent) → slice_get sent j ≡ Some x → d j ≡ x.done) → slice_get (marked sent k) j ≡ Some one
    → (j ≡ k) ⊎ (j ≢ k) → (if j == k then true else d j) ≡ one.done
mark_by k j d sent one before is (inl same) = cond-true (j == k) true (d j) (eq-eqb j k same) ∙ sym (marked_here sent k one (subst (λ n. slice_get (marked sent k) n ≡ Some one) same is))
mark_by k j d sent one before is (inr apart) = cond-false (j == k) true (d j) (ne_eqb j k apart) ∙ before one (sym (marked_apart sent k j apart) ∙ is)

mark_of : (n : Option ℕ) (j : ℕ) (d : ℕ → Bool) (sent : List Sent) (one : Sent) → ((x : Sent) → slice_get sent j ≡ Some x → d j ≡ x.done) → slice_get (ended_in n sent) j ≡ Some one
    → (if is_it n j then true else d j) ≡ one.done
mark_of None j d sent one before is = before one is
mark_of (Some k) j d sent one before is = mark_by k j d sent one before is (cases_eq j k)

-- one beyond the packets is done by no lawful event
free_by : (n : Option ℕ) (j : ℕ) (d : ℕ → Bool) → ((k : ℕ) → n ≡ Some k → k < j) → d j ≡ false → (if is_it n j then true else d j) ≡ false
free_by None j d below free = free
free_by (Some k) j d below free = cond-false (j == k) true (d j) (ne_eqb j k (λ e. let b = below k refl in absurd (omega (arith, b, e)))) ∙ free

may_end : (posts : List Post) (done : ℕ → Bool) (e : Event) → MayMail posts done e → (k : ℕ) → ended_by e ≡ Some k → k < length posts
may_end posts done (event.Deliver n) may k is = subst (λ m. m < length posts) (same_Some n k is) (slice_get_within posts n may.post may.sent)
may_end posts done (event.Lose n) may k is = subst (λ m. m < length posts) (same_Some n k is) may.sent
may_end posts done (event.StepCrash p y (cause.Sent n)) may k is = subst (λ m. m < length posts) (same_Some n k is) (slice_get_within posts n may.post may.sent)
may_end posts done (event.StepCrash p y (cause.Tick t)) may k is = absurd (none-some k is)
may_end posts done (event.Invoke id op) may k is = absurd (none-some k is)
may_end posts done (event.Tick p y t) may k is = absurd (none-some k is)
may_end posts done (event.Crash p y) may k is = absurd (none-some k is)
may_end posts done (event.Restart p y took) may k is = absurd (none-some k is)
may_end posts done (event.Place p node y first) may k is = absurd (none-some k is)
may_end posts done (event.Wipe p y) may k is = absurd (none-some k is)
may_end posts done (event.Meta b) may k is = absurd (none-some k is)
may_end posts done (event.Round c) may k is = absurd (none-some k is)
may_end posts done (event.Reply id a) may k is = absurd (none-some k is)

-- ---- packets

as_many : (codec : Codec) (sent : List Sent) (s : State) → Shows codec sent s → length sent ≡ length s.posts
as_many codec sent s is =
    sym (length-map sent (λ (x : Sent). x.bytes)) ∙ sym (length-map (bytes_of sent) Some) ∙ sym (ap length is.spelled)
    ∙ length-map (packets_in s.posts) codec.spell ∙ length-map s.posts (λ (post : Post). post.packet)

spells_more : (codec : Codec) (xs ys : List (List ℕ)) (ps qs : List Packet) → Spells codec xs ps → Spells codec ys qs → Spells codec (xs ++ ys) (ps ++ qs)
spells_more codec xs ys ps qs first second = map-append codec.spell ps qs ∙ ap (λ l. l ++ map codec.spell qs) first ∙ ap (λ l. map Some xs ++ l) second ∙ sym (map-append Some xs ys)

bytes_behind : (n : Option ℕ) (sent : List Sent) (packets : List (List ℕ)) → bytes_of (ended_in n sent ++ fresh packets) ≡ bytes_of sent ++ packets
bytes_behind n sent packets = map-append (λ (x : Sent). x.bytes) (ended_in n sent) (fresh packets) ∙ ap (λ l. l ++ bytes_of (fresh packets)) (bytes_ended n sent) ∙ ap (λ l. bytes_of sent ++ l) (bytes_fresh packets)

get_left : (xs ys : List Sent) (j : ℕ) → j < length xs → slice_get (xs ++ ys) j ≡ slice_get xs j
get_left [] ys j below = absurd (omega (arith, below))
get_left (x ∷ xs) ys zero below = refl
get_left (x ∷ xs) ys (suc j) below = get_left xs ys j (omega (arith, below))

fresh_free : (packets : List (List ℕ)) (i : ℕ) (one : Sent) → slice_get (fresh packets) i ≡ Some one → one.done ≡ false
fresh_free [] i one is = absurd (none-some one is)
fresh_free (p ∷ packets) zero one is = sym (ap (λ (x : Sent). x.done) (same_Some _ _ is))
fresh_free (p ∷ packets) (suc i) one is = fresh_free packets i one is

right_free : (xs : List Sent) (packets : List (List ℕ)) (j : ℕ) (one : Sent) → length xs ≤ j → slice_get (xs ++ fresh packets) j ≡ Some one → one.done ≡ false
right_free [] packets j one past is = fresh_free packets j one is
right_free (x ∷ xs) packets zero one past is = absurd (omega (arith, past))
right_free (x ∷ xs) packets (suc j) one past is = right_free xs packets j one (omega (arith, past)) is

-- ---- the state behind an event

done_there : (sp : Space) (s : State) (e : Event) (post : Option Post) (site : Site) → (after_at sp s e post site).done ≡ done_after e s.done
done_there sp s e post (AtPeer p y) = refl
done_there sp s e post (AtClient c) = refl
done_there sp s e post Nowhere = refl

done_behind : (sp : Space) (s : State) (e : Event) (j : ℕ) → (after sp s e).done j ≡ (if is_it (ended_by e) j then true else s.done j)
done_behind sp s e j =
    ap (λ d. d j) (done_there sp s e (packet_by s.posts e) (core_by s.table e (packet_by s.posts e)))
    ∙ ap (λ b. if b then true else s.done j) (ends_as e j)

behind_by : (sp : Space) (s : State) (e : Event) (sent : List Sent) (packets : List (List ℕ)) (j : ℕ) (one : Sent)
    → ((k : ℕ) (x : Sent) → slice_get sent k ≡ Some x → s.done k ≡ x.done) → ((k : ℕ) → length sent ≤ k → (after sp s e).done k ≡ false)
    → slice_get (ended_in (ended_by e) sent ++ fresh packets) j ≡ Some one → (j < length sent) ⊎ (length sent ≤ j) → (after sp s e).done j ≡ one.done
behind_by sp s e sent packets j one before free is (inl below) =
    let n = length_ended (ended_by e) sent in
    done_behind sp s e j ∙ mark_of (ended_by e) j s.done sent one (before j) (sym (get_left (ended_in (ended_by e) sent) (fresh packets) j (omega (arith, n, below))) ∙ is)
behind_by sp s e sent packets j one before free is (inr past) =
    let n = length_ended (ended_by e) sent in
    free j past ∙ sym (right_free (ended_in (ended_by e) sent) packets j one (omega (arith, n, past)) is)

free_behind : (codec : Codec) (sp : Space) (s : State) (e : Event) (sent : List Sent) → Shows codec sent s → Lawful sp s e → (j : ℕ) → length sent ≤ j → (after sp s e).done j ≡ false
free_behind codec sp s e sent is lawful j past =
    let long = as_many codec sent s is in
    done_behind sp s e j ∙ free_by (ended_by e) j s.done (λ k which. let within = may_end s.posts s.done e lawful.mail k which in omega (arith, within, long, past)) (is.beyond j past)

pub shows_behind : (codec : Codec) (sp : Space) (s : State) (e : Event) (sent : List Sent) (packets : List (List ℕ)) → Shows codec sent s → Lawful sp s e → Spells codec packets (sends_by sp s e)
    → Shows codec (ended_in (ended_by e) sent ++ fresh packets) (after sp s e)
shows_behind codec sp s e sent packets is lawful spells =
    let n = length_ended (ended_by e) sent in
    let m = length-append (ended_in (ended_by e) sent) (fresh packets) in
    record {
      spelled =
          ap (map codec.spell) (sends_its_own sp s e) ∙ spells_more codec (bytes_of sent) packets (packets_in s.posts) (sends_by sp s e) is.spelled spells
          ∙ ap (map Some) (sym (bytes_behind (ended_by e) sent packets));
      done = λ j one there. behind_by sp s e sent packets j one is.done (free_behind codec sp s e sent is lawful) there (cases_lt j (length sent));
      beyond = λ j past. free_behind codec sp s e sent is lawful j (omega (arith, n, m, past));
    }

-- ---- a quiet mail

free_here : (b : Bool) (k m : ℕ) (later : Option ℕ) → lowest_by b k later ≡ Some m → ((b ≡ false) × (k ≡ m)) ⊎ (later ≡ Some m)
free_here true k m later is = inr is
free_here false k m later is = inl (refl, same_Some k m is)

-- the lowest isn't done
record IsFree (sent : List Sent) (k m : ℕ) : Type 0 where
  pub at : ℕ
  pub number : m ≡ k + at
  pub one : Sent
  pub there : slice_get sent at ≡ Some one
  pub free : one.done ≡ false

free_later : (s : Sent) (sent : List Sent) (k m : ℕ) → IsFree sent (suc k) m → IsFree (s ∷ sent) k m
free_later s sent k m f = record { at = suc f.at; number = (let n = f.number in omega (arith, n)); one = f.one; there = f.there; free = f.free }

free_either : (s : Sent) (sent : List Sent) (k m : ℕ) → (lowest_from (suc k) sent ≡ Some m → IsFree sent (suc k) m) → ((s.done ≡ false) × (k ≡ m)) ⊎ (lowest_from (suc k) sent ≡ Some m) → IsFree (s ∷ sent) k m
free_either s sent k m below (inl here) = record { at = 0; number = (let e = here.1 in omega (arith, e)); one = s; there = refl; free = here.0 }
free_either s sent k m below (inr later) = free_later s sent k m (below later)

lowest_free : (k : ℕ) (sent : List Sent) (m : ℕ) → lowest_from k sent ≡ Some m → IsFree sent k m
lowest_free k [] m is = absurd (none-some m is)
lowest_free k (s ∷ sent) m is = free_either s sent k m (lowest_free (suc k) sent m) (free_here s.done k m (lowest_from (suc k) sent) is)

none_by : (b : Bool) (k : ℕ) (later : Option ℕ) → lowest_by b k later ≡ None → (b ≡ true) × (later ≡ None)
none_by true k later is = (refl, is)
none_by false k later is = absurd (none-some k (sym is))

lowest_done : (k : ℕ) (sent : List Sent) → lowest_from k sent ≡ None → (j : ℕ) (one : Sent) → slice_get sent j ≡ Some one → one.done ≡ true
lowest_done k [] none j one is = absurd (none-some one is)
lowest_done k (s ∷ sent) none zero one is = ap (λ (x : Sent). x.done) (sym (same_Some _ _ is)) ∙ (none_by s.done k (lowest_from (suc k) sent) none).0
lowest_done k (s ∷ sent) none (suc j) one is = lowest_done (suc k) sent (none_by s.done k (lowest_from (suc k) sent) none).1 j one is

all_true : (n : ℕ) (f : ℕ → Bool) → ((k : ℕ) → k < n → f k ≡ true) → all_below n f ≡ true
all_true zero f all = refl
all_true (suc n) f all = and_from (f n) (all_below n f) (all n (let b : n < suc n = omega arith in b)) (all_true n f (λ k below. all k (omega (arith, below))))

all_false_by : (n : ℕ) (f : ℕ → Bool) (m : ℕ) → f m ≡ false → (all_below n f ≡ false) ⊎ (m ≡ n) → f n && all_below n f ≡ false
all_false_by n f m free (inl below) = and_right (f n) (all_below n f) below
all_false_by n f m free (inr same) = and_left (f n) (all_below n f) (subst (λ k. f k ≡ false) same free)

all_false_at : (n : ℕ) (f : ℕ → Bool) (m : ℕ) → m < suc n → (m < n → all_below n f ≡ false) → (m < n) ⊎ (n ≤ m) → (all_below n f ≡ false) ⊎ (m ≡ n)
all_false_at n f m below less (inl is) = inl (less is)
all_false_at n f m below less (inr more) = inr (omega (arith, below, more))

all_false : (n : ℕ) (f : ℕ → Bool) (m : ℕ) → m < n → f m ≡ false → all_below n f ≡ false
all_false zero f m below free = absurd (omega (arith, below))
all_false (suc n) f m below free = all_false_by n f m free (all_false_at n f m below (λ is. all_false n f m is free) (cases_lt m n))

get_there : (xs : List Sent) (i : ℕ) → i < length xs → (x : Sent) × (slice_get xs i ≡ Some x)
get_there [] i below = absurd (omega (arith, below))
get_there (x ∷ xs) zero below = (x, refl)
get_there (x ∷ xs) (suc i) below = get_there xs i (omega (arith, below))

all_delivered : (codec : Codec) (s : State) (sent : List Sent) → Shows codec sent s → lowest sent ≡ None → all_below (length s.posts) s.done ≡ true
all_delivered codec s sent is none =
    let long = as_many codec sent s is in
    all_true (length s.posts) s.done (λ k below. let there = get_there sent k (omega (arith, long, below)) in is.done k there.0 there.1 ∙ lowest_done 0 sent none k there.0 there.1)

not_delivered : (codec : Codec) (s : State) (sent : List Sent) (m : ℕ) → Shows codec sent s → lowest sent ≡ Some m → all_below (length s.posts) s.done ≡ false
not_delivered codec s sent m is some =
    let f = lowest_free 0 sent m some in
    let long = as_many codec sent s is in
    let within = slice_get_within sent f.at f.one f.there in
    all_false (length s.posts) s.done f.at (omega (arith, within, long)) (is.done f.at f.one f.there ∙ f.free)

pub delivered_as : (codec : Codec) (s : State) (sent : List Sent) (o : Option ℕ) (b : Bool) → Shows codec sent s → o ≡ lowest sent → is_some o ≡ not b → b ≡ all_below (length s.posts) s.done
delivered_as codec s sent None true is low same = sym (all_delivered codec s sent is (sym low))
delivered_as codec s sent None false is low same = absurd (false≢true same)
delivered_as codec s sent (Some m) true is low same = absurd (true≢false same)
delivered_as codec s sent (Some m) false is low same = sym (not_delivered codec s sent m is (sym low))
