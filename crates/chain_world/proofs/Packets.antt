-- A leader takes any packet that was sent.
use Rattle.std.proofs.Common.{◌≡◌, inl, inr, ℕ, zero, suc, List, [], ◌∷◌, ◌++◌, map, length, take, Option, Some, None, Bool, true, ◌&&◌, refl, ap, sym, subst, ◌∙◌, append_assoc, eqb-true}
use Rattle.std.specs.Prelude.{◌==◌, nat_lt, if◌then◌else◌, slice_get, drop}
use Rattle.std.specs.List.{AllByRecursion, filter}
use Rattle.std.specs.Option.{unwrap_or}
use Rattle.std.specs.FinMap.{entries}
use Rattle.std.proofs.lemmas.Bool.{cond_both, and_parts}
use Rattle.std.proofs.lemmas.Option.{same_Some, none-some}
use Rattle.std.proofs.lemmas.List.Elements.{filter_map-append}
use Rattle.maps.proofs.Keys.{nat_keys}
use Rattle.maps.proofs.Found.{entries_got}
use Rattle.part_keys.specs.declared.chain.PrimeRec.{PrimeRec}
use Rattle.part_keys.specs.declared.proposal.Proposal.TheVariants.{Made}
use Rattle.part_keys.specs.declared.entry.PartEntry.{PartEntry}
use Rattle.part_keys.specs.declared.entry.PartEntry.TheVariants as entry
use Rattle.chain_leader.specs.declared.body.ChainBody.{ChainBody}
use Rattle.chain_leader.specs.declared.body.ChainBody.TheVariants as says
use Rattle.chain_leader.specs.declared.letter.Letter.{Letter}
use Rattle.chain_leader.specs.declared.letter.Letter.TheVariants.{Again}
use Rattle.chain_leader.specs.Calls.{is_write}
use Rattle.chain_leader.specs.Leading.{Taken, still, proposing, standing_behind, onward, resumes_all, resuming, taken, Ruled}
use Rattle.part_keys.specs.declared.vid_kind.VidKind.{VidKind}
use Rattle.chain_world.specs.declared.packet.ChainEnd.{ChainEnd}
use Rattle.chain_world.specs.declared.packet.ChainEnd.TheVariants as ends
use Rattle.chain_world.specs.Places.{Among}
use Rattle.chain_world.specs.Course.{Courses}
use Rattle.chain_world.specs.State.{Post, Leader, Chains, decided_of, machine_behind, packet_of, addressed, posts_of}
use Rattle.chain_world.specs.World.{part_from, is_to, kept_sender, behind_taking, with_taken, taking}
use Rattle.chain_world.proofs.Occurring.{took}
use Rattle.chain_world.specs.Invariant.Protocol.{IsSent, IsMeantBy, IsClosing, IsWritten, IsFenced, IsAsked, IsEntry, IsKept, StandsAt}
use Rattle.chain_world.proofs.Members.{at_end, among_at}
use Rattle.chain_world.proofs.Staying.{is_chains, AreQuiet}
use Rattle.chain_world.proofs.Moving.{leader_set, set_here}
use Rattle.chain_world.proofs.Tables.{alike_itself}
use Rattle.chain_world.proofs.Resuming.{leader_twice, with_table, taken_up, resumes_kept}
use Rattle.chain_world.proofs.Quietly.{quietly_kept}
use Rattle.chain_world.proofs.Taking.{senders_on, still_kept, proposing_kept, done_kept, fenced_kept}

-- to whom a packet goes that this leader takes: its part, or itself
to_part : (p t q : ℕ) (to : ChainEnd) → is_to p t to ≡ true → to ≡ ends.Part q → q ≡ p
to_part p t q to is e = eqb-true q p (ap (is_to p t) (sym e) ∙ is)

to_leader : (p t q u : ℕ) (to : ChainEnd) → is_to p t to ≡ true → to ≡ ends.Leader q u → (q ≡ p) × (u ≡ t)
to_leader p t q u to is e = let a = and_parts (q == p) (u == t) (ap (is_to p t) (sym e) ∙ is) in (eqb-true q p a.0, eqb-true u t a.1)

-- a chain that wrote is over
closing_of : (k : Courses) (p v : ℕ) → IsWritten k p v → IsClosing k p v
closing_of k p v w = record { course = w.course; known = w.known; over = inl w.wrote }

-- what stands in the first entries of a list, and in those that pass a test
pub all_first : {A : Type 0} (P : A → Type 0) (n : ℕ) (xs : List A) → AllByRecursion P xs → AllByRecursion P (take n xs)
all_first P zero xs all = tt
all_first P (suc n) [] all = tt
all_first P (suc n) (x ∷ xs) all = (all.0, all_first P n xs all.1)

pub all_where : {A : Type 0} (P : A → Type 0) (test : A → Bool) (xs : List A) → AllByRecursion P xs → AllByRecursion P (filter test xs)
all_where P test [] all = tt
all_where P test (x ∷ xs) all = cond_both (test x) _ _ (AllByRecursion P) (λ _. (all.0, all_where P test xs all.1)) (λ _. all_where P test xs all.1)

module _ (parts : ℕ) (s : Chains) (k : Courses) (kept : IsKept parts s k) (p t : ℕ) (l : Leader) (is : s.leaders p t ≡ Some l) where
  -- Requests: of a call that writes
  request_kept : (ids : VidKind) (q : ℕ) (x : PartEntry) → q ≡ p → IsAsked parts s q x → IsKept parts (with_taken s p t l (if is_write x then proposing ids parts p l.lead x else still l.lead) None) k
  request_kept ids q x same asked = by_entry x (subst (λ (n : ℕ). IsAsked parts s n x) same asked)
    where
      it_is : (y : PartEntry) → IsEntry parts s k p t y → IsKept parts (with_taken s p t l (proposing ids parts p l.lead y) None) k
      it_is y meant = proposing_kept parts s k kept p t l is ids y None meant (λ e at. absurd (none-some e at))

      it_isnt : IsKept parts (with_taken s p t l (still l.lead) None) k
      it_isnt = still_kept parts s k kept p t l is l.lead None (alike_itself l.lead.table) refl

      by_entry : (y : PartEntry) → IsAsked parts s p y → IsKept parts (with_taken s p t l (if is_write y then proposing ids parts p l.lead y else still l.lead) None) k
      by_entry (entry.Prime id list absent) a = it_is (entry.Prime id list absent) a
      by_entry (entry.Vertex id op) a = it_is (entry.Vertex id op) a
      by_entry (entry.Local v) a = it_isnt
      by_entry (entry.Double v) a = it_isnt
      by_entry (entry.Close v) a = it_isnt
      by_entry (entry.Abort v) a = it_isnt
      by_entry (entry.Remote q u v list) a = it_isnt
      by_entry (entry.Fence q u v edges) a = it_isnt
      by_entry (entry.Read id query) a = it_isnt

  -- a Resume
  onward_quiet : (chains : List (ℕ × PrimeRec)) → AreQuiet (posts_of p t None (onward chains))
  onward_quiet chains = cond_both (nat_lt 64 (length chains)) _ _ (λ (letters : List Letter). AreQuiet (posts_of p t None letters)) (λ _. all_again (take 1 (drop 63 chains))) (λ _ post none. absurd none)
    where
      all_again : (cs : List (ℕ × PrimeRec)) → AreQuiet (posts_of p t None (map (λ (c : ℕ × PrimeRec). Again (Some c.0)) cs))
      all_again [] post none = absurd none
      all_again (c ∷ cs) post (inl same) = ap (λ (x : Post). is_chains x.packet.body) same
      all_again (c ∷ cs) post (inr more) = all_again cs post more

  onward_meant : (z : Chains) (chains : List (ℕ × PrimeRec)) (post : Post) → Among post (posts_of p t None (onward chains)) → IsMeantBy parts z k post.moment post.packet.from post.packet.to post.packet.body
  onward_meant z chains = cond_both (nat_lt 64 (length chains)) _ _ (λ (letters : List Letter). (post : Post) → Among post (posts_of p t None letters) → IsMeantBy parts z k post.moment post.packet.from post.packet.to post.packet.body)
      (λ _. all_again (take 1 (drop 63 chains))) (λ _ post none. absurd none)
    where
      all_again : (cs : List (ℕ × PrimeRec)) (post : Post) → Among post (posts_of p t None (map (λ (c : ℕ × PrimeRec). Again (Some c.0)) cs)) → IsMeantBy parts z k post.moment post.packet.from post.packet.to post.packet.body
      all_again [] post none = absurd none
      all_again (c ∷ cs) post (inl same) = subst (λ (x : Post). IsMeantBy parts z k x.moment x.packet.from x.packet.to x.packet.body) (sym same) tt
      all_again (c ∷ cs) post (inr more) = all_again cs post more

  resuming_kept : (chains : List (ℕ × PrimeRec)) → l.lead.ready ≡ true → AllByRecursion (λ (c : ℕ × PrimeRec). StandsAt parts (decided_of s p) l.applied c.0 c.1) chains
      → IsKept parts (with_taken s p t l (resuming t l.lead chains) None) k
  resuming_kept chains ready all =
      let first = resumes_kept parts k p t (take 64 chains) s kept l is ready (all_first _ 64 chains all) in
      let made : Ruled = resumes_all t l.lead.policy (take 64 chains) l.lead.table in
      let between : Leader = with_table l made.table in
      let world : Chains = taken_up s p t l made.table (posts_of p t None made.letters) in
      let behind : Leader = behind_taking l (resuming t l.lead chains) None in
      let led = first.leaders p t between (set_here s.leaders p t between) in
      let rest = quietly_kept parts world k first p t between (set_here s.leaders p t between) behind [] refl (posts_of p t None (onward chains)) (onward_quiet chains)
      led.within (senders_on l.made [] l.senders None led.senders (λ e at. absurd (none-some e at))) led.rules (λ x none. absurd none) (onward_meant _ chains) in
      subst (λ (posts : List Post). IsKept parts (record { ledger = s.ledger; founded = s.founded; leaders = leader_set s.leaders p t behind; posts = posts; clients = s.clients }) k)
      (append_assoc s.posts (posts_of p t None made.letters) (posts_of p t None (onward chains)) ∙ ap (λ (more : List Post). s.posts ++ more) (sym (filter_map-append (addressed p t None) made.letters (onward chains))))
      (subst (λ (leaders : ℕ → ℕ → Option Leader). IsKept parts (record { ledger = s.ledger; founded = s.founded; leaders = leaders; posts = (s.posts ++ posts_of p t None made.letters) ++ posts_of p t None (onward chains); clients = s.clients }) k)
      (leader_twice s.leaders p t between behind) rest)

  -- any packet
  if_ready : (test : Bool) (tk : Taken) → (test ≡ true → IsKept parts (with_taken s p t l tk None) k) → IsKept parts (with_taken s p t l (if test then tk else still l.lead) None) k
  if_ready test tk then_it = cond_both test _ _ (λ (x : Taken). IsKept parts (with_taken s p t l x None) k) then_it (λ _. still_kept parts s k kept p t l is l.lead None (alike_itself l.lead.table) refl)

  its_term : (u : ℕ) → (l.lead.ready && (u == t)) ≡ true → (l.lead.ready ≡ true) × (u ≡ t)
  its_term u e = let a = and_parts l.lead.ready (u == t) e in (a.0, eqb-true u t a.1)

  takes : (ids : VidKind) (m : ℕ) (from to : ChainEnd) (b : ChainBody) → is_to p t to ≡ true → IsSent s (packet_of from to b) → IsMeantBy parts s k m from to b
      → IsKept parts (with_taken s p t l (taken ids parts p t (machine_behind parts s p l.applied) l.lead b (part_from from)) (kept_sender from b)) k
  takes ids m from to (says.Request number x) its sent i = request_kept ids i.part x (to_part p t i.part to its i.receiver) i.asked
  takes ids m from to (says.Answer number answer) its sent i = still_kept parts s k kept p t l is l.lead None (alike_itself l.lead.table) refl
  takes ids m from to (says.NotLeader about q hint) its sent i = absurd i
  takes ids m from to (says.Remote u v list) its sent i =
      let here = to_part p t i.course.remote to its i.receiver in
      let part = ap part_from i.sender in
      proposing_kept parts s k kept p t l is ids (entry.Remote (part_from from) u v list) (Some from)
      (subst (λ (e : ChainEnd). IsSent s (packet_of e (ends.Part p) (says.Remote u v list))) (i.sender ∙ ap (λ (q : ℕ). ends.Leader q u) (sym part))
      (subst (λ (e : ChainEnd). IsSent s (packet_of from e (says.Remote u v list))) (i.receiver ∙ ap ends.Part here) sent))
      (λ e at. record {
        part = i.part;
        term = u;
        sender_is = sym (same_Some from e at) ∙ i.sender;
        of = entry.Remote (part_from from) u v list;
        at = at_end l.made (Made (entry.Remote (part_from from) u v list));
        from = inl (u, v, list, ap (λ (q : ℕ). entry.Remote q u v list) part);
      })
  takes ids m from to (says.Done u v) its sent i =
      let here = to_leader p t i.part i.term to its i.receiver in
      if_ready (l.lead.ready && (u == t)) _ (λ e. done_kept parts s k kept p t l is v (closing_of k p v (subst (λ (q : ℕ). IsWritten k q v) here.0 i.written)))
  takes ids m from to (says.Stale u v above) its sent i = still_kept parts s k kept p t l is l.lead None (alike_itself l.lead.table) refl
  takes ids m from to (says.Fence u v edges) its sent i =
      let here = to_part p t i.course.remote to its i.receiver in
      let part = ap part_from i.sender in
      proposing_kept parts s k kept p t l is ids (entry.Fence (part_from from) u v edges) (Some from)
      (subst (λ (e : ChainEnd). IsSent s (packet_of e (ends.Part p) (says.Fence u v edges))) (i.sender ∙ ap (λ (q : ℕ). ends.Leader q u) (sym part))
      (subst (λ (e : ChainEnd). IsSent s (packet_of from e (says.Fence u v edges))) (i.receiver ∙ ap ends.Part here) sent))
      (λ e at. record {
        part = i.part;
        term = u;
        sender_is = sym (same_Some from e at) ∙ i.sender;
        of = entry.Fence (part_from from) u v edges;
        at = at_end l.made (Made (entry.Fence (part_from from) u v edges));
        from = inr (u, v, edges, ap (λ (q : ℕ). entry.Fence q u v edges) part);
      })
  takes ids m from to (says.Fenced u v written) its sent i =
      let here = to_leader p t i.part i.term to its i.receiver in
      if_ready (l.lead.ready && (u == t)) _ (λ e. fenced_kept parts s k kept p t l is v written
      (subst (λ (n : ℕ). IsFenced parts s k p n v written) (its_term u e).1 (subst (λ (q : ℕ). IsFenced parts s k q u v written) here.0 i.fenced)))
  takes ids m from to (says.Resume u after) its sent i =
      if_ready (l.lead.ready && (u == t)) _ (λ e. resuming_kept (standing_behind (machine_behind parts s p l.applied) after) (its_term u e).0
      (all_where _ (λ (c : ℕ × PrimeRec). nat_lt (unwrap_or after 0) c.0) (entries (machine_behind parts s p l.applied).chains) (entries_got nat_keys (machine_behind parts s p l.applied).chains)))

-- Take keeps it.
pub take_kept : (ids : VidKind) (parts : ℕ) (s : Chains) (k : Courses) → IsKept parts s k → (p t n : ℕ) → IsKept parts (took ids parts s p t (s.leaders p t) (slice_get s.posts n)) k
take_kept ids parts s k kept p t n = by_leader (s.leaders p t) refl (slice_get s.posts n) refl
  where
    by_leader : (o : Option Leader) → s.leaders p t ≡ o → (post : Option Post) → slice_get s.posts n ≡ post → IsKept parts (took ids parts s p t o post) k
    by_leader None is post at = kept
    by_leader (Some l) is None at = kept
    by_leader (Some l) is (Some post) at = cond_both (is_to p t post.packet.to) (taking ids parts s p t l post.packet) s (λ (z : Chains). IsKept parts z k)
        (λ its. takes parts s k kept p t l is ids post.moment post.packet.from post.packet.to post.packet.body its (post.moment, among_at post s.posts n at) (kept.meant post (among_at post s.posts n at)))
        (λ other. kept)
