-- Each event keeps that a Double is of a call that was given up at its leader.
use Rattle.std.proofs.Common.{◌≡◌, inl, inr, ℕ, suc, List, [], ◌∷◌, ◌++◌, Option, Some, None, Bool, true, false, ◌&&◌, refl, ap, sym, subst, ◌∙◌, append-nil, cond, arith, eqb-true}
use Rattle.std.specs.Prelude.{◌==◌, nat_le, if◌then◌else◌, slice_get}
use Rattle.std.specs.FinMap.{get, get-empty}
use Rattle.std.specs.Ordering.{nat_cmp}
use Rattle.std.proofs.lemmas.Bool.{false≢true, cond_both, and_parts}
use Rattle.std.proofs.lemmas.Option.{none-some, slice_get_within}
use Rattle.raft_log.specs.declared.config.Config.{Config}
use Rattle.graph_model.specs.declared.call_id.CallId.{CallId}
use Rattle.part_keys.specs.declared.chain.Policy.{Policy}
use Rattle.part_keys.specs.declared.proposal.Proposal.{Proposal}
use Rattle.part_keys.specs.declared.proposal.Proposal.TheVariants.{Start, Members, Made, Blank}
use Rattle.part_keys.specs.declared.entry.PartEntry.{PartEntry}
use Rattle.part_keys.specs.declared.entry.PartEntry.TheVariants as entry
use Rattle.part_rules.specs.declared.applied.Applied.{Applied}
use Rattle.part_rules.specs.Part.{Part}
use Rattle.part_rules.specs.Machine as machines
use Rattle.chain_leader.specs.declared.body.ChainBody.{ChainBody}
use Rattle.chain_leader.specs.declared.body.ChainBody.TheVariants as says
use Rattle.chain_leader.specs.Rules.{give_up, Table}
use Rattle.chain_leader.specs.Leading.{Applies, still, asking, forgetting, chain_in, on_entry, started}
use Rattle.part_keys.specs.declared.vid_kind.VidKind.{VidKind}
use Rattle.chain_world.specs.declared.event.ChainEvent.{ChainEvent}
use Rattle.chain_world.specs.declared.event.ChainEvent.TheVariants as event
use Rattle.chain_world.specs.Places.{Among, At}
use Rattle.chain_world.specs.State.{Post, Leader, Chains, start, decided_of, machine_behind, made_by, with_leader, posts_of, made_by_leader}
use Rattle.chain_world.specs.World.{is_to, with_taken, taking, own_sender, with_applied, applying, is_unfounded, with_made, may_lead, new_leader, may_invoke, with_invoke, may_decide, after, run_from, run, first_asked, knows_all, is_open_at, with_reply, moment_of}
use Rattle.chain_world.proofs.Occurring.{took, applied_next, applies, told_waits, told_again, founding, member_proposed, deciding, is_in_range, occurs, showing, sees, ended, may_end, after_is}
use Rattle.chain_world.specs.Invariant.Protocol.{IsMeantBy}
use Rattle.graph_model.specs.declared.answer.Answer.{Answer}
use Rattle.chain_world.specs.Invariant.Safe.{IsSafe}
use Rattle.chain_world.proofs.Members.{among_at}
use Rattle.chain_world.proofs.Moving.{set_split}
use Rattle.chain_world.proofs.Worlds.{after_safe, start_safe, always_safe}
use Rattle.part_keys.specs.declared.chain.PrimeRec.{PrimeRec}
use Rattle.part_keys.specs.declared.chain.Mode.TheVariants as mode
use Rattle.part_rules.specs.declared.applied.Applied.TheVariants as told
use Rattle.chain_world.specs.Invariant.Doubling.{IsOf, RowsAre, AreDoubling}
use Rattle.chain_world.specs.Invariant.Doubling.{ShowsGivenUp}
use Rattle.chain_world.proofs.Doubling.{is_double, stands_of, of_on, moved_doubling, take_doubling}
use Rattle.chain_world.proofs.Calls.{rows_insert, rows_forgetting, ruled_are}
use Rattle.chain_world.proofs.Tables.{give_up_cases}
use Rattle.chain_world.proofs.Fronts.{behind_more}
use Rattle.chain_world.proofs.Decided.{lists}
use Rattle.part_rules.proofs.FoldsCases.{double_cases}
use Rattle.raft_log.specs.Decided.{count_term}
use Rattle.chain_world.specs.World.{are_at_most}
use Rattle.part_rules.specs.declared.applied.Applied.{Applied}

module _ (ids : VidKind) (parts : ℕ) (s : Chains) (safe : IsSafe parts s) (given : ℕ → ℕ → CallId → Type 0) (are : AreDoubling parts s given) where
  -- Apply
  module _ (p t : ℕ) (l : Leader) (is : s.leaders p t ≡ Some l) (u : ℕ) where
    applied_doubling : (made : Applies) → RowsAre (IsOf parts (decided_of s p)) made.leading.table → AreDoubling parts (with_applied s p t l made (own_sender s p t l u)) given
    applied_doubling made rows = moved_doubling parts s safe.courses safe.kept given are p t l is (record l { lead = made.leading; applied = suc l.applied }) [] (posts_of p t (own_sender s p t l u) (made.answers ++ made.rules)) (sym (append-nil l.made)) rows (λ v none. absurd none)

    rows_now : RowsAre (IsOf parts (decided_of s p)) l.lead.table
    rows_now = are.rows p t l is

    entry_doubling : (x : PartEntry) → At (decided_of s p) l.applied (u, Made x) → AreDoubling parts (applying parts s p t l (u, Made x)) given
    entry_doubling x at =
        let m : Part = machine_behind parts s p l.applied in
        let r : Part × Applied = machines.applied parts (suc l.applied) x m in
        let inside = slice_get_within (decided_of s p) l.applied (u, Made x) at in
        applied_doubling (on_entry t l.lead (u == t) x r)
        (ruled_are (IsOf parts (decided_of s p)) t (forgetting l.lead.table r.0 (chain_in x)) l.lead.ready r.0 r.1 (rows_forgetting (IsOf parts (decided_of s p)) l.lead.table r.0 (chain_in x) rows_now)
        (λ v e rec there. stands_of parts (decided_of s p) (suc l.applied) v rec inside (ap (λ (q : Part). get q.chains v) (behind_more parts (decided_of s p) l.applied (u, Made x) at) ∙ there)))

    item_doubling : (x : Proposal) → At (decided_of s p) l.applied (u, x) → AreDoubling parts (applying parts s p t l (u, x)) given
    item_doubling Start at = by_own (u == t)
      where
        by_own : (b : Bool) → AreDoubling parts (with_applied s p t l (started l.lead b) (own_sender s p t l u)) given
        by_own true = applied_doubling (started l.lead true) rows_now
        by_own false = applied_doubling (started l.lead false) rows_now
    item_doubling (Members config) at = applied_doubling (record { leading = l.lead; answers = []; rules = [] }) rows_now
    item_doubling (Made x) at = entry_doubling x at
    item_doubling Blank at = applied_doubling (record { leading = l.lead; answers = []; rules = [] }) rows_now

  apply_event : (p t : ℕ) (o : Option Leader) → s.leaders p t ≡ o → AreDoubling parts (applies parts s p t o) given
  apply_event p t None is = are
  apply_event p t (Some l) is = by_entry (slice_get (decided_of s p) l.applied) refl
    where
      by_entry : (o : Option (ℕ × Proposal)) → slice_get (decided_of s p) l.applied ≡ o → AreDoubling parts (applied_next parts s p t l o) given
      by_entry None at = are
      by_entry (Some e) at = cond_both (nat_le e.0 t) (applying parts s p t l e) s (λ (z : Chains). AreDoubling parts z given) (λ _. item_doubling p t l is e.0 e.1 at) (λ _. are)

  take_event : (p t : ℕ) (o : Option Leader) → s.leaders p t ≡ o → (k : ℕ) (post : Option Post) → slice_get s.posts k ≡ post → AreDoubling parts (took ids parts s p t o post) given
  take_event p t None is k post at = are
  take_event p t (Some l) is k None at = are
  take_event p t (Some l) is k (Some post) at = cond_both (is_to p t post.packet.to) (taking ids parts s p t l post.packet) s (λ (z : Chains). AreDoubling parts z given)
      (λ _. take_doubling parts s safe.courses safe.kept given are p t l is ids post.packet.from post.packet.body (unsent post.packet.body (safe.kept.meant post (among_at post s.posts k at)))) (λ _. are)
    where
      unsent : (b : ChainBody) → IsMeantBy parts s safe.courses post.moment post.packet.from post.packet.to b → (q : _) (o hint : _) → b ≡ says.NotLeader q o hint → ⊥
      unsent b meant q o hint e = subst (IsMeantBy parts s safe.courses post.moment post.packet.from post.packet.to) e meant

  lead_event : (p t : ℕ) (policy : Policy) (a : ℕ) → AreDoubling parts (if may_lead s p t a then with_leader s p t (new_leader policy a) else s) given
  lead_event p t policy a = cond_both (may_lead s p t a) (with_leader s p t (new_leader policy a)) s (λ (z : Chains). AreDoubling parts z given) (λ _. led) (λ _. are)
    where
      by_place : (q u v : ℕ) (b c : Bool) → (Among (Made (entry.Double v)) (cond b (s.founded q) (made_by_leader (s.leaders q u))) → (id : CallId) × IsOf parts (decided_of s q) v id × given q u id)
          → Among (Made (entry.Double v)) (cond b (s.founded q) (made_by_leader (cond c (Some (new_leader policy a)) (s.leaders q u)))) → (id : CallId) × IsOf parts (decided_of s q) v id × given q u id
      by_place q u v true c old among = old among
      by_place q u v false false old among = old among
      by_place q u v false true old among = elim among [ inl same ↦ absurd (false≢true (sym (ap is_double same))) | inr none ↦ absurd none ]

      led : AreDoubling parts (with_leader s p t (new_leader policy a)) given
      led = record {
        rows = λ q u x at. elim (set_split s.leaders p t (new_leader policy a) q u x at) [
          | inl own ↦ λ v row has. absurd (none-some row (sym (get-empty nat_cmp v) ∙ ap (λ (y : Leader). get y.lead.table v) (sym own.2) ∙ has))
          | inr other ↦ are.rows q u x other.0
        ];
        doubles = λ q u v. by_place q u v (u == 0) ((q == p) && (u == t)) (are.doubles q u v);
      }

  member_event : (p t : ℕ) (config : Config) (o : Option Leader) → s.leaders p t ≡ o → AreDoubling parts (if t == 0 then founding s p config else member_proposed s p t config o) given
  member_event p t config o is = cond_both (t == 0) (founding s p config) (member_proposed s p t config o) (λ (z : Chains). AreDoubling parts z given)
      (λ _. cond_both (is_unfounded s p) _ s (λ (z : Chains). AreDoubling parts z given) (λ _. record { rows = are.rows; doubles = λ q u v. by_place q u v (u == 0) (q == p) (are.doubles q u v) }) (λ _. are)) (λ _. by_leader o is)
    where
      by_place : (q u v : ℕ) (b c : Bool) → (Among (Made (entry.Double v)) (cond b (s.founded q) (made_by_leader (s.leaders q u))) → (id : CallId) × IsOf parts (decided_of s q) v id × given q u id)
          → Among (Made (entry.Double v)) (cond b (cond c (Members config ∷ []) (s.founded q)) (made_by_leader (s.leaders q u))) → (id : CallId) × IsOf parts (decided_of s q) v id × given q u id
      by_place q u v false c old among = old among
      by_place q u v true false old among = old among
      by_place q u v true true old among = elim among [ inl same ↦ absurd (false≢true (sym (ap is_double same))) | inr none ↦ absurd none ]

      by_leader : (o : Option Leader) → s.leaders p t ≡ o → AreDoubling parts (member_proposed s p t config o) given
      by_leader None is = are
      by_leader (Some l) is =
          let m = moved_doubling parts s safe.courses safe.kept given are p t l is (with_made l (Members config ∷ [])) (Members config ∷ []) [] refl (are.rows p t l is)
          (λ v among. elim among [ inl same ↦ absurd (false≢true (sym (ap is_double same))) | inr none ↦ absurd none ]) in
          record { rows = m.rows; doubles = m.doubles }

  -- GiveUp: the Double is of the call that is given up
  give_up_event : (p t : ℕ) (id : CallId) → given p t id → (o : Option Leader) → s.leaders p t ≡ o → AreDoubling parts (told_waits s p t id o) given
  give_up_event p t id its None is = are
  give_up_event p t id its (Some l) is = cond_both l.lead.ready (asking l.lead (give_up l.lead.table id)) (still l.lead) (λ tk. AreDoubling parts (with_taken s p t l tk None) given)
      (λ _. give_up_cases (λ (made : Table × Option PartEntry). AreDoubling parts (with_taken s p t l (asking l.lead made) None) given) l.lead.table id plain
      (λ v row there put same. (let of = are.rows p t l is v row there in
      moved_doubling parts s safe.courses safe.kept given are p t l is _ (Made (entry.Double v) ∷ []) _ refl
      (rows_insert (IsOf parts (decided_of s p)) l.lead.table v (record row { mode = mode.Doubled }) (are.rows p t l is) of)
      (λ w among. elim among [ inl this ↦ (id, (let e : v ≡ w = cc in subst (λ (n : ℕ). IsOf parts (decided_of s p) n id) e (subst (IsOf parts (decided_of s p) v) same of)), its) | inr none ↦ absurd none ]))))
      (λ _. plain)
    where
      plain : AreDoubling parts (with_taken s p t l (still l.lead) None) given
      plain = moved_doubling parts s safe.courses safe.kept given are p t l is _ [] _ refl (are.rows p t l is) (λ v none. absurd none)

  -- Decide: the lists go on
  decide_event : (p t n : ℕ) → AreDoubling parts (if may_decide s p t n then deciding parts s p t (slice_get (made_by s p t) n) else s) given
  decide_event p t n = cond_both (may_decide s p t n) (deciding parts s p t (slice_get (made_by s p t) n)) s (λ (z : Chains). AreDoubling parts z given)
      (λ may. (let a = and_parts (are_at_most t (decided_of s p)) (n == count_term (decided_of s p) t) may in by_made a.0 (eqb-true n (count_term (decided_of s p) t) a.1) (slice_get (made_by s p t) n) refl)) (λ _. are)
    where
      by_made : are_at_most t (decided_of s p) ≡ true → n ≡ count_term (decided_of s p) t → (o : Option Proposal) → slice_get (made_by s p t) n ≡ o → AreDoubling parts (deciding parts s p t o) given
      by_made all same None e = are
      by_made all same (Some x) e =
          let longer = lists parts s safe.courses safe.kept safe.ledger p t x all (subst (λ (m : ℕ). At (made_by s p t) m x) same e) in
          record {
            rows = λ q u l is v row has. of_on parts (decided_of s q) _ (longer q) v row.id (are.rows q u l is v row has);
            doubles = λ q u v among. (let d = are.doubles q u v among in (d.0, of_on parts (decided_of s q) _ (longer q) v d.0 d.1, d.2));
          }

  -- nothing of it changes
  see_event : (p t : ℕ) (id : CallId) (o : Option Leader) → AreDoubling parts (sees parts s p t id o) given
  see_event p t id None = are
  see_event p t id (Some l) = cond_both (knows_all s p l) (showing parts s p t id (first_asked p id s.posts)) s (λ (z : Chains). AreDoubling parts z given) (λ _. by_query (first_asked p id s.posts)) (λ _. are)
    where
      by_query : (o : Option _) → AreDoubling parts (showing parts s p t id o) given
      by_query None = are
      by_query (Some q) = record { rows = are.rows; doubles = are.doubles }

  pulse_event : (p t : ℕ) (o : Option Leader) → AreDoubling parts (told_again s p t o) given
  pulse_event p t None = are
  pulse_event p t (Some l) = record { rows = are.rows; doubles = are.doubles }

  reply_event : (id : CallId) (a : Answer) (o : Option Post) → AreDoubling parts (ended s id a o) given
  reply_event id a o = cond_both (may_end id a o) (with_reply s id a (moment_of o)) s (λ (z : Chains). AreDoubling parts z given) (λ _. record { rows = are.rows; doubles = are.doubles }) (λ _. are)

  occurs_doubling : (e : ChainEvent) → ((p t : ℕ) (id : CallId) → e ≡ event.GiveUp p t id → given p t id) → AreDoubling parts (occurs ids parts s e) given
  occurs_doubling (event.Invoke id op) its = cond_both (may_invoke ids parts (s.clients id.client) id op) (with_invoke parts s id op) s (λ (z : Chains). AreDoubling parts z given) (λ _. record { rows = are.rows; doubles = are.doubles }) (λ _. are)
  occurs_doubling (event.Members p t config) its = member_event p t config (s.leaders p t) refl
  occurs_doubling (event.Lead p t policy a) its = lead_event p t policy a
  occurs_doubling (event.Take p t k) its = take_event p t (s.leaders p t) refl k (slice_get s.posts k) refl
  occurs_doubling (event.Decide p t n) its = decide_event p t n
  occurs_doubling (event.Apply p t) its = apply_event p t (s.leaders p t) refl
  occurs_doubling (event.GiveUp p t id) its = give_up_event p t id (its p t id refl) (s.leaders p t) refl
  occurs_doubling (event.Pulse p t) its = pulse_event p t (s.leaders p t)
  occurs_doubling (event.See p t id) its = see_event p t id (s.leaders p t)
  occurs_doubling (event.Reply id a k) its = cond_both (is_open_at s id) (ended s id a (slice_get s.posts k)) s (λ (z : Chains). AreDoubling parts z given) (λ _. reply_event id a (slice_get s.posts k)) (λ _. are)

  pub after_doubling : (e : ChainEvent) → ((p t : ℕ) (id : CallId) → e ≡ event.GiveUp p t id → given p t id) → AreDoubling parts (after ids parts s e) given
  after_doubling e its = subst (λ (z : Chains). AreDoubling parts z given) (sym (after_is ids parts s e)) (cond_both (is_in_range parts e) (occurs ids parts s e) s (λ (z : Chains). AreDoubling parts z given) (λ _. occurs_doubling e its) (λ _. are))

doubling_from : (ids : VidKind) (parts : ℕ) (given : ℕ → ℕ → CallId → Type 0) (events : List ChainEvent) (s : Chains) → ((p t : ℕ) (id : CallId) → Among (event.GiveUp p t id) events → given p t id) → IsSafe parts s → AreDoubling parts s given → AreDoubling parts (run_from ids parts s events) given
doubling_from ids parts given [] s its safe are = are
doubling_from ids parts given (e ∷ events) s its safe are =
    doubling_from ids parts given events (after ids parts s e) (λ p t id among. its p t id (inr among)) (after_safe ids parts s safe e) (after_doubling ids parts s safe given are e (λ p t id same. its p t id (inl (sym same))))

always_doubling : (ids : VidKind) (parts : ℕ) (events : List ChainEvent) → AreDoubling parts (run ids parts events) (λ p t id. Among (event.GiveUp p t id) events)
always_doubling ids parts events = doubling_from ids parts (λ p t id. Among (event.GiveUp p t id) events) events start (λ p t id among. among) (start_safe ids parts)
    (record { rows = λ p t l is. absurd (none-some l is); doubles = λ p t v among. absurd (cond_both (t == 0) [] [] (λ (xs : List Proposal). Among (Made (entry.Double v)) xs → ⊥) (λ _ none. none) (λ _ none. none) among) })

-- the chain that a Double showed
doubled_chain : (parts index : ℕ) (m : Part) (v : ℕ) (id : CallId) → (machines.applied parts index (entry.Double v) m).1 ≡ told.Doubled id → (chain : PrimeRec) × (get m.chains v ≡ Some chain) × (chain.id ≡ id)
doubled_chain parts index m v id = double_cases m (λ (r : Part × Applied). r.1 ≡ told.Doubled id → (chain : PrimeRec) × (get m.chains v ≡ Some chain) × (chain.id ≡ id)) v
    (λ e. absurd (let f : told.Nothing ≡ told.Doubled id = e in cc)) (λ chain there single e. (chain, there, (let f : chain.id ≡ id = cc in f)))

-- where a Double showed a call's chain, that call was given up at the leader of its term
pub shows_given_up : ShowsGivenUp
shows_given_up ids parts events p i t v id was =
    let s : Chains = run ids parts events in
    let safe = always_safe ids parts events in
    let made = safe.kept.follows p i (t, Made (entry.Double v)) was.there in
    let d = (always_doubling ids parts events).doubles p t v (among_at (Made (entry.Double v)) (made_by s p t) _ made) in
    let c = doubled_chain parts (suc i) (machine_behind parts s p i) v id was.is in
    let inside = slice_get_within (decided_of s p) i (t, Made (entry.Double v)) was.there in
    subst (λ (n : CallId). Among (event.GiveUp p t n) events) (sym (d.1.its i c.0 (omega arith) c.1) ∙ c.2) d.2
