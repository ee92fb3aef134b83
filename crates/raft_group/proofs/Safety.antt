-- The facts of a group, from the invariant.
use Rattle.std.proofs.Common.{◌≡◌, ◌≢◌, inl, inr, ℕ, suc, ◌+◌, ◌-◌, ◌<◌, ◌≤◌, List, [], ◌∷◌, length, take, drop, map, Some, true, ap, sym, subst, ◌∙◌, arith}
use Rattle.std.specs.Prelude.{slice_get}
use Rattle.std.proofs.lemmas.Bool.{cases_eq}
use Rattle.std.proofs.lemmas.List.{length-map}
use Rattle.std.proofs.lemmas.Option.{same_Some}
use Rattle.raft_log.specs.declared.config.Config.{Config}
use Rattle.raft_log.specs.declared.entry.Entry.{Entry}
use Rattle.raft_log.specs.declared.entry.Item.{Item}
use Rattle.raft_log.specs.declared.entry.Item.TheVariants.{Members}
use Rattle.raft_log.specs.Decided.{Leadership, made_in, count_term, IsNext, Follows}
use Rattle.raft_core.specs.Core.{Core, is_leading}
use Rattle.raft_history.specs.Logs.{Agree, term_at as term_up_to}
use Rattle.raft_history.specs.History.{Election, IsProvenanced, IsSafe}
use Rattle.raft_history.proofs.Agreement.{turned, joined, shorter, same_term, term_at_end}
use Rattle.raft_history.proofs.Provenance.{front_provenanced, older_in_base, behind_base}
use Rattle.raft_group.specs.declared.event.GroupEvent.{GroupEvent}
use Rattle.raft_group.specs.Group.{Group, first_entry, founding, items_of, start, run}
use Rattle.raft_group.specs.Facts.{pairs_of, StandsAt, AgreesWith, LeadsBy, MadeBy, IsFounding, GroupFacts}
use Rattle.raft_group.specs.Invariant.{reading, Past, IsFirst, IsLedBy}
use Rattle.raft_group.specs.Sound.{IsSound}
use Rattle.raft_group.proofs.Confirmed.{confirms_well}
use Rattle.raft_group.proofs.Founded.{run_first}
use Rattle.raft_group.proofs.Led.{stands_map, map_stands, stands_within}
use Rattle.raft_group.proofs.Places.{get_take, get_drop, same_entry, all_places, all_front, term_there, of_one_term, count_from, made_in_is}
use Rattle.raft_group.proofs.Events.{every_run_is_sound}

-- Who made an entry of a log: the leadership of its term; and which entries before it that one made.
pub record MadeIn (first : Config) (leaders : List (Leadership Item)) (log : List Entry) (i : ℕ) (e : Entry) : Type 0 where
  pub place : ℕ
  pub leadership : Leadership Item
  pub stands : StandsAt leaders place leadership
  pub by : MadeBy leadership i e
  pub others_before : (j : ℕ) → j < leadership.base → j < i → term_up_to (reading first) log (suc j) < e.term
  pub own_from : (j : ℕ) → leadership.base ≤ j → j < i → term_up_to (reading first) log (suc j) ≡ e.term

module _ (first : Config) (g : Group) (sound : IsSound first g) where
  abbrev h : Past
  h = sound.past

  safe : IsSafe (reading first) h
  safe = sound.holds.safe

  -- an entry of term 0 is the first configuration, at the head of the log
  is_first : (log : List Entry) → IsProvenanced (reading first) h log → (i : ℕ) (e : Entry) → slice_get log i ≡ Some e → e.term ≡ 0 → (i ≡ 0) × (first_entry first ≡ e)
  is_first log p i e at old =
      let w = stands_within log i e at in
      let t = term_there first log i e at in
      let head : i ≡ 0 = elim (cases_eq i 0) [ inl z ↦ z | inr above ↦ absurd (let a = p.alone (suc i) (omega arith) (omega arith) in omega arith) ] in
      (head, same_Some (first_entry first) e (sym (ap (λ (xs : List Entry). slice_get xs 0) (p.founded (omega arith))) ∙ get_take log 1 0 (omega arith) ∙ ap (slice_get log) (sym head) ∙ at))

  -- it was made by the leadership of term 0
  made_first : (log : List Entry) → IsProvenanced (reading first) h log → (i : ℕ) (e : Entry) → slice_get log i ≡ Some e → e.term ≡ 0 → MadeIn first g.leaders log i e
  made_first log p i e at old =
      let w = stands_within log i e at in
      let i_is : i ≡ 0 = (is_first log p i e at old).0 in
      let e_is : first_entry first ≡ e = (is_first log p i e at old).1 in
      record {
        place = sound.led.founded.0;
        leadership = founding first;
        stands = sound.led.founded.1;
        by = record {
          term = sym old;
          behind = omega arith;
          made = subst (λ n. slice_get (Members first ∷ []) (n - 0) ≡ Some e.item) (sym i_is) (ap (λ (x : Entry). Some x.item) e_is);
        };
        others_before = λ j low before. absurd (omega arith);
        own_from = λ j from before. absurd (omega arith);
      }

  -- what the history's election of a term gives of an entry of its leader's log
  made_by : (log : List Entry) (i : ℕ) (e : Entry) → slice_get log i ≡ Some e → Agree log (h.log_of e.term) (suc i)
      → (k : ℕ) (l : Leadership Item) → StandsAt g.leaders k l → l.term ≡ e.term → IsLedBy h l → MadeIn first g.leaders log i e
  made_by log i e at agree k l stands same by =
      let x = by.election in
      let is : h.elected e.term ≡ Some x = ap h.elected (sym same) ∙ by.elected in
      let t = term_there first log i e at in
      let b = by.base in
      let behind = behind_base (reading first) h safe e.term x is log (suc i) agree t in
      let begins = (safe.logs e.term x is).begins in
      let el = safe.elections e.term x is in
      record {
        place = k;
        leadership = l;
        stands = stands;
        by = record {
          term = same;
          behind = omega arith;
          made =
              ap (λ (items : List Item). slice_get items (i - l.base)) by.made
              ∙ map_stands (λ (x : Entry). x.item) (drop l.base (h.log_of l.term)) (i - l.base) e
              (get_drop (h.log_of l.term) l.base (i - l.base) ∙ ap (slice_get (h.log_of l.term)) (let n : l.base + (i - l.base) ≡ i = omega arith in n)
              ∙ ap (λ u. slice_get (h.log_of u) i) same ∙ sym (same_entry i (omega arith) agree) ∙ at);
        };
        others_before = λ j low before.
            (let inside : suc j ≤ length x.base = omega arith in
            let o = older_in_base (reading first) h safe e.term x el (suc j) inside in
            let s = same_term (reading first) (joined (shorter (suc j) (let n : suc j ≤ suc i = omega arith in n) agree) (turned (shorter (suc j) inside begins))) in
            omega arith);
        own_from = λ j from before.
            (let s = same_term (reading first) (shorter (suc j) (let n : suc j ≤ suc i = omega arith in n) agree) in
            s ∙ sound.holds.kept.own_terms e.term x is (suc j) (omega arith) (let r = agree.right in omega arith));
      }

  -- each entry of a log with provenance was made by the leader of its term
  pub made_at : (log : List Entry) → IsProvenanced (reading first) h log → (i : ℕ) (e : Entry) → slice_get log i ≡ Some e → MadeIn first g.leaders log i e
  made_at log p i e at = elim (cases_eq e.term 0) [
    | inl old ↦ made_first log p i e at old
    | inr later ↦
        (let w = stands_within log i e at in
        let t = term_there first log i e at in
        let m = p.made (suc i) (omega arith) (omega arith) in
        let s = sound.led.every e.term m.0 (ap h.elected (sym t) ∙ m.1) in
        elim (sound.led.known s.0 s.1 s.2) [
          | inl f ↦ absurd (later (sym s.3 ∙ ap (λ (l : Leadership Item). l.term) f))
          | inr by ↦ made_by log i e at (subst (λ u. Agree log (h.log_of u) (suc i)) t m.2) s.0 s.1 s.2 s.3 by
        ])
  ]

  -- Prefix agreement.
  agrees : (peer : ℕ) → AgreesWith g.decided (g.core peer)
  agrees peer = let a = (sound.holds.peers peer).agrees in record { within = a.right; same = a.same }

  -- What is decided follows the leaderships.
  decided_provenanced : IsProvenanced (reading first) h g.decided
  decided_provenanced = elim sound.holds.decides [
    | inl none ↦ subst (IsProvenanced (reading first) h) (sym none) (record {
      rises = λ i j ij jn. (let z : i ≡ j = omega arith in let e = ap (term_up_to (reading first) []) z in omega arith);
      founded = λ above. absurd (omega arith);
      alone = λ i above inside. absurd (omega arith);
      made = λ i inside above. absurd (let z : i ≡ 0 = omega arith in let e = ap (term_up_to (reading first) []) z in omega arith);
    })
    | inr by ↦
        (let c = safe.commits by.0 by.1 in
        let x = c.led in
        let r = c.reached in
        let w = c.within in
        subst (IsProvenanced (reading first) h) (sym by.2) (front_provenanced (reading first) h (h.log_of by.0.term) by.0.index (omega arith) (safe.logs by.0.term x.0 x.1).provenanced))
  ]

  next_is : (i : ℕ) (e : Entry) → slice_get g.decided i ≡ Some e → IsNext g.leaders (take i (pairs_of g.decided)) (e.term, e.item)
  next_is i e at =
      let p = decided_provenanced in
      let m = made_at g.decided p i e at in
      let w = stands_within g.decided i e at in
      let t = term_there first g.decided i e at in
      let long : length (pairs_of g.decided) ≡ length g.decided = length-map g.decided (λ (x : Entry). (x.term, x.item)) in
      let count : count_term (take i (pairs_of g.decided)) e.term ≡ i - m.leadership.base = count_from (pairs_of g.decided) e.term m.leadership.base i (omega arith) (each m) in
      record {
        rising = all_front (λ (x : ℕ × Item). x.0 ≤ e.term) i (pairs_of g.decided)
            (λ j x before there. (let s = stands_map (λ (y : Entry). (y.term, y.item)) g.decided j x there in
            let tj = term_there first g.decided j s.0 s.1 in
            let r = p.rises (suc j) (suc i) (omega arith) (omega arith) in
            let n = ap (λ (y : ℕ × Item). y.0) s.2 in
            omega arith));
        made =
            ap (λ n. slice_get (made_in g.leaders e.term) n) count
            ∙ ap (λ u. slice_get (made_in g.leaders u) (i - m.leadership.base)) (sym m.by.term)
            ∙ ap (λ (items : List Item). slice_get items (i - m.leadership.base)) (made_in_is g.leaders sound.led.distinct m.place m.leadership m.stands)
            ∙ m.by.made;
      }
    where
      each : (m : MadeIn first g.leaders g.decided i e) → (j : ℕ) (x : ℕ × Item) → j < i → slice_get (pairs_of g.decided) j ≡ Some x
          → (j < m.leadership.base → x.0 ≢ e.term) × (m.leadership.base ≤ j → x.0 ≡ e.term)
      each m j x before there =
          let s = stands_map (λ (y : Entry). (y.term, y.item)) g.decided j x there in
          let tj = term_there first g.decided j s.0 s.1 in
          let n = ap (λ (y : ℕ × Item). y.0) s.2 in
          (λ low same. (let o = m.others_before j low before in omega arith), λ from. sym n ∙ sym tj ∙ m.own_from j from before)

  follows : Follows g.leaders (pairs_of g.decided)
  follows i entry at =
      let s = stands_map (λ (y : Entry). (y.term, y.item)) g.decided i entry at in
      subst (IsNext g.leaders (take i (pairs_of g.decided))) s.2 (next_is i s.0 s.1)

  -- What a peer has that leads.
  leads_by : (peer : ℕ) → is_leading (g.core peer).role ≡ true → (k : ℕ) (l : Leadership Item) → StandsAt g.leaders k l → l.term ≡ (g.core peer).term → IsLedBy h l → LeadsBy (g.core peer) l
  leads_by peer leads k l stands same by =
      let held = sound.holds.peers peer in
      let c : Core = g.core peer in
      let ld = held.leads leads in
      let e = ld.elected in
      let x = by.election in
      let is : h.elected c.term ≡ Some x = ap h.elected (sym same) ∙ by.elected in
      let x_is : x ≡ e.0 = same_Some x e.0 (sym is ∙ e.1) in
      let b = by.base in
      let log_is : c.log ≡ h.log_of l.term = ld.log ∙ ap h.log_of (sym same) in
      let long = ap length ld.log in
      let begins = (safe.logs c.term x is).begins in
      let r = begins.right in
      let el = safe.elections c.term x is in
      record {
        term = same;
        peer = by.peer ∙ ap (λ (y : Election Entry). y.leader) x_is ∙ e.2 ∙ sym held.me;
        above = held.peer.leading leads;
        base = omega arith;
        noop = (let n = ld.noop in let z = ap (λ (y : Election Entry). length y.base) x_is in omega arith);
        made =
            of_one_term c.term (drop l.base c.log) (all_places (λ (y : Entry). y.term ≡ c.term) (drop l.base c.log)
            (λ j y at. (let there : slice_get c.log (l.base + j) ≡ Some y = sym (get_drop c.log l.base j) ∙ at in
            let w = stands_within c.log (l.base + j) y there in
            sym (term_there first c.log (l.base + j) y there) ∙ ap (λ (m : List Entry). term_up_to (reading first) m (suc (l.base + j))) ld.log
            ∙ sound.holds.kept.own_terms c.term x is (suc (l.base + j)) (omega arith) (omega arith))))
            ∙ ap (map (λ (item : Item). (c.term, item))) (ap (λ (m : List Entry). items_of (drop l.base m)) log_is ∙ sym by.made);
        before = all_front (λ (y : Entry). y.term < c.term) l.base c.log
            (λ j y low at. (let inside : suc j ≤ length x.base = omega arith in
            let t = term_there first c.log j y at in
            let o = older_in_base (reading first) h safe c.term x el (suc j) inside in
            let s = same_term (reading first) (shorter (suc j) inside begins) in
            let m = ap (λ (n : List Entry). term_up_to (reading first) n (suc j)) ld.log in
            omega arith));
      }

  leads : (peer : ℕ) → is_leading (g.core peer).role ≡ true → (k : ℕ) × (l : Leadership Item) × StandsAt g.leaders k l × LeadsBy (g.core peer) l
  leads peer leading =
      let held = sound.holds.peers peer in
      let e = (held.leads leading).elected in
      let above = held.peer.leading leading in
      let s = sound.led.every (g.core peer).term e.0 e.1 in (
        s.0,
        s.1,
        s.2,
        elim (sound.led.known s.0 s.1 s.2) [
          | inl f ↦ absurd (let z : s.1.term ≡ 0 = ap (λ (l : Leadership Item). l.term) f in let t = s.3 in omega arith)
          | inr by ↦ leads_by peer leading s.0 s.1 s.2 s.3 by
        ],
      )

  -- Terms.
  bounded : (peer place : ℕ) (e : Entry) → slice_get (g.core peer).log place ≡ Some e → e.term ≤ (g.core peer).term
  bounded peer place e at =
      let held = sound.holds.peers peer in
      let w = stands_within (g.core peer).log place e at in
      let t = term_there first (g.core peer).log place e at in
      let r = held.provenanced.rises (suc place) (length (g.core peer).log) (omega arith) (omega arith) in
      let l = term_at_end (reading first) (g.core peer).log in
      let b = held.bounded in
      omega arith

  made_there : (peer place : ℕ) (e : Entry) → slice_get (g.core peer).log place ≡ Some e → (k : ℕ) × (l : Leadership Item) × StandsAt g.leaders k l × MadeBy l place e
  made_there peer place e at = let m = made_at (g.core peer).log (sound.holds.peers peer).provenanced place e at in (m.place, m.leadership, m.stands, m.by)

  founded : g.first ≡ first → (peer place : ℕ) (e : Entry) → slice_get (g.core peer).log place ≡ Some e → e.term ≡ 0 → IsFounding g place e
  founded same peer place e at old =
      let f = is_first (g.core peer).log (sound.holds.peers peer).provenanced place e at old in
      record { head = f.0; first = sym f.1 ∙ ap first_entry (sym same) }

  pub facts : g.first ≡ first → GroupFacts g
  facts same = record { peers = λ peer. (sound.holds.peers peer).peer; named = λ peer. (sound.holds.peers peer).me; unplaced = sound.members.blank; one_a_term = sound.led.distinct; agrees = agrees; follows = follows; leads = leads; bounded = bounded; made_there = made_there; founded = founded same; confirmed = λ peer leads. confirms_well first g sound peer leads }

-- the facts hold behind each list of events
pub safe_always : (first : Config) → IsFirst first → (events : List GroupEvent) → GroupFacts (run first events)
safe_always first is events = facts first (run first events) (every_run_is_sound first is events) (run_first events (start first))
