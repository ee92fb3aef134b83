-- Behind a decision all of it holds again.
use Rattle.std.proofs.Common.{◌≡◌, ◌⊎◌, inl, inr, ℕ, suc, ◌<◌, ◌≤◌, List, [], ◌∷◌, ◌++◌, length, take, Some, Bool, true, false, refl, ap, sym, subst, ◌∙◌, arith, eqb-true}
use Rattle.std.specs.Prelude.{◌==◌, nat_le}
use Rattle.std.specs.Map.{keys_of}
use Rattle.std.specs.FinMap.{get}
use Rattle.std.proofs.lemmas.Bool.{false≢true, leb-true, leb-false, le-leb, eqb-false}
use Rattle.std.proofs.lemmas.Option.{same_Some, slice_get_within}
use Rattle.graph_model.specs.declared.edge_id.EdgeId.{EdgeId}
use Rattle.graph_model.specs.declared.half.Half.{Half}
use Rattle.raft_log.specs.Decided.{count_term}
use Rattle.part_keys.specs.declared.chain.PrimeRec.{PrimeRec}
use Rattle.part_keys.specs.declared.proposal.Proposal.{Proposal}
use Rattle.part_keys.specs.declared.proposal.Proposal.TheVariants.{Start, Made}
use Rattle.part_keys.specs.declared.entry.PartEntry.{PartEntry}
use Rattle.part_keys.specs.declared.entry.PartEntry.TheVariants as entry
use Rattle.part_rules.specs.declared.applied.Applied.TheVariants as told
use Rattle.part_rules.specs.Part.{Part, guard_of, number_of, all_written}
use Rattle.part_rules.specs.Folded.{item_applied, folded}
use Rattle.part_rules.proofs.FoldsCases.{fence_cases}
use Rattle.chain_world.specs.Places.{At}
use Rattle.chain_world.specs.Course.{Aborted, Course, Courses, is_aborted, stands}
use Rattle.chain_world.specs.Invariant.Discipline.{WasAnswered}
use Rattle.chain_world.specs.Invariant.Sound.{IsSound}
use Rattle.chain_world.specs.State.{Leader, Chains, decided_of, decided_machine, made_by}
use Rattle.chain_world.specs.World.{are_at_most}
use Rattle.chain_world.specs.Invariant.Going.{Goes}
use Rattle.chain_world.specs.Invariant.Protocol.{HasPut, HasFenced, IsDenied, IsProposed, IsKept, IsLed, IsStanding, StandsAt}
use Rattle.chain_world.proofs.Setting.{set_split}
use Rattle.chain_world.proofs.Ending.{course_found}
use Rattle.chain_world.proofs.Fronts.{take_whole, length_more}
use Rattle.chain_world.proofs.Folding.{fence_guards}
use Rattle.chain_world.proofs.Changing.{HasBegun, fate_apart}
use Rattle.chain_world.proofs.Growing.{Longer, stood_then, ready_on}
use Rattle.chain_world.proofs.Going.{meant_on, proposed_on, denied_on}
use Rattle.chain_world.proofs.Decisions.{fence_of, put_started, at_most}
use Rattle.chain_world.proofs.Decided.{all_edges, decided_world, decided_courses, proposed, sound_then, lists, at_split, at_here, machine_here, Came, came, its_entry, decided_goes}

-- a Fence tells whether all is written
fence_says : (parts index : ℕ) (m : Part) (q u v : ℕ) (edges : List EdgeId) (b : Bool) → (item_applied parts index (Made (entry.Fence q u v edges)) m).1 ≡ told.Fenced b → all_written m v edges ≡ b
fence_says parts index m q u v edges b = fence_cases m (λ r. r.1 ≡ told.Fenced b → all_written m v edges ≡ b) q u v edges
    (λ stale e. absurd (let f : told.Stale (guard_of m q) ≡ told.Fenced b = e in cc)) (λ fresh e. (let f : all_written m v edges ≡ b = cc in f))

module _ (parts : ℕ) (s : Chains) (k : Courses) (kept : IsKept parts s k) (sound : IsSound parts s.ledger k) (p t : ℕ) (x : Proposal)
    (all : are_at_most t (decided_of s p) ≡ true) (next : At (made_by s p t) (count_term (decided_of s p) t) x) where
  abbrev z : Chains
  z = decided_world parts s k kept sound p t x all next

  abbrev l : Courses
  l = decided_courses parts s k kept sound p t x all next

  longer : (q : ℕ) → Longer (decided_of s q) (decided_of z q)
  longer = lists parts s k kept sound p t x all next

  split : (q i : ℕ) (e : ℕ × Proposal) → At (decided_of z q) i e → At (decided_of s q) i e ⊎ ((q ≡ p) × (i ≡ length (decided_of s p)) × (e ≡ (t, x)))
  split = at_split parts s k kept sound p t x all next

  highest : (i : ℕ) (e : ℕ × Proposal) → At (decided_of s p) i e → e.0 ≤ t
  highest = at_most parts s k kept p t x all (proposed parts s k kept sound p t x all next)

  before : (q w : ℕ) (now : Course) → l q w ≡ Some now → Came parts s k kept sound p t x all next q w now ⊎ HasBegun now
  before = came parts s k kept sound p t x all next

  is_entry : (y : PartEntry) → x ≡ Made y → IsProposed parts s k p t (Made y)
  is_entry = its_entry parts s k kept sound p t x all next

  goes : Goes parts s k z l
  goes = decided_goes parts s k kept sound p t x all next

  rising_then : (q i j : ℕ) (e f : ℕ × Proposal) → At (decided_of z q) i e → At (decided_of z q) j f → i ≤ j → e.0 ≤ f.0
  rising_then q i j e f a b le = elim (split q j f b) [
    | inl old_f ↦ elim (split q i e a) [
      | inl old_e ↦ kept.rising q i j e f old_e old_f le
      | inr new_e ↦ absurd (let w = slice_get_within (decided_of s p) j f (subst (λ (n : ℕ). At (decided_of s n) j f) new_e.0 old_f) in let n = new_e.1 in omega arith)
    ]
    | inr new_f ↦ (let ft : f.0 ≡ t = ap (λ (y : ℕ × Proposal). y.0) new_f.2 in elim (split q i e a) [
      | inl old_e ↦ (let h = highest i e (subst (λ (n : ℕ). At (decided_of s n) i e) new_f.0 old_e) in omega arith)
      | inr new_e ↦ (let et : e.0 ≡ t = ap (λ (y : ℕ × Proposal). y.0) new_e.2 in omega arith)
    ])
  ]

  follows_then : (q i : ℕ) (e : ℕ × Proposal) → At (decided_of z q) i e → At (made_by z q e.0) (count_term (take i (decided_of z q)) e.0) e.1
  follows_then q i e at = elim (split q i e at) [
    | inl old ↦ subst (λ (ds : List (ℕ × Proposal)). At (made_by s q e.0) (count_term ds e.0) e.1) (sym ((longer q).front i (let w = slice_get_within (decided_of s q) i e old in omega arith))) (kept.follows q i e old)
    | inr new ↦ (let front : take i (decided_of z q) ≡ decided_of s p =
        ap (λ (n : ℕ). take n (decided_of z q)) new.1 ∙ ap (λ (n : ℕ). take (length (decided_of s p)) (decided_of z n)) new.0 ∙ (longer p).front (length (decided_of s p)) (omega arith) ∙ take_whole (decided_of s p) in
        subst (λ (ds : List (ℕ × Proposal)). At (made_by s q e.0) (count_term ds e.0) e.1) (sym front)
        (subst (λ (n : ℕ). At (made_by s n e.0) (count_term (decided_of s p) e.0) e.1) (sym new.0) (subst (λ (y : ℕ × Proposal). At (made_by s p y.0) (count_term (decided_of s p) y.0) y.1) (sym new.2) next)))
  ]

  standing_old : (q n v : ℕ) (rec : PrimeRec) → n ≤ length (decided_of s q) → StandsAt parts (decided_of z q) n v rec → IsStanding (decided_of z q) l q n v rec
  standing_old q n v rec h at =
      let st = kept.standing q n v rec h (stood_then parts (decided_of s q) (decided_of z q) (longer q) n v rec h at) in
      let g = goes.courses q v st.course st.known in
      record {
        course = g.new;
        known = g.known;
        number = st.number;
        list = st.list ∙ sym g.list;
        remote = st.remote ∙ sym g.remote;
        later = λ u fate. elim (before q v g.new g.known) [
          | inl from ↦ elim (from.aborted u fate) [
            | inl was ↦ (let a = st.later u (ap (λ (c : Course). c.fate) (same_Some st.course from.old (sym st.known ∙ from.known)) ∙ was) in (a.0, a.1, a.2, (longer q).place a.0 a.1 a.3, a.4))
            | inr its ↦ (length (decided_of s p), (t, x), subst (λ (m : ℕ). n ≤ length (decided_of s m)) its.1 h, at_here parts s k kept sound p t x all next q its.1, its.2)
          ]
          | inr begun ↦ absurd (fate_apart g.new.fate u (ap is_aborted begun.primed) fate)
        ];
      }

  standing_new : (q v : ℕ) (rec : PrimeRec) (n : ℕ) → get (decided_machine parts z q).chains v ≡ Some rec → IsStanding (decided_of z q) l q n v rec
  standing_new q v rec n at =
      let i = course_found v (l q v) rec (sym ((sound_then parts s k kept sound p t x all next).sound.holds.kept q v) ∙ at) in
      record {
        course = i.its;
        known = i.is;
        number = ap (λ (r : PrimeRec). r.v) i.same;
        list = ap (λ (r : PrimeRec). r.list) i.same;
        remote = ap (λ (r : PrimeRec). r.remote) i.same;
        later = λ u fate. absurd (false≢true (ap stands (sym fate) ∙ i.stands));
      }

  standing_then : (q n v : ℕ) (rec : PrimeRec) → n ≤ length (decided_of z q) → StandsAt parts (decided_of z q) n v rec → IsStanding (decided_of z q) l q n v rec
  standing_then q n v rec h at = by_length (nat_le n (length (decided_of s q))) refl
    where
      by_length : (b : Bool) → nat_le n (length (decided_of s q)) ≡ b → IsStanding (decided_of z q) l q n v rec
      by_length true e = standing_old q n v rec (leb-true n (length (decided_of s q)) e) at
      by_length false e = standing_new q v rec n (ap (λ (ds : List (ℕ × Proposal)). get (folded parts ds).chains v) (sym whole) ∙ at)
        where
          more : length (decided_of s q) < n
          more = leb-false n (length (decided_of s q)) e

          long : length (decided_of z q) ≤ suc (length (decided_of s q))
          long = elim (set_split s.ledger.decided p (decided_of s p ++ (t, x) ∷ []) q) [
            | inl here ↦ (let a = ap length here.1 in let b = length_more (decided_of s p) (t, x) in let c = ap (λ (m : ℕ). length (decided_of s m)) here.0 in omega arith)
            | inr other ↦ (let a = ap length other.1 in omega arith)
          ]

          whole : take n (decided_of z q) ≡ decided_of z q
          whole = ap (λ (m : ℕ). take m (decided_of z q)) (let a = long in let b = more in omega arith) ∙ take_whole (decided_of z q)

  aborted_then : (q v u : ℕ) (now : Course) → l q v ≡ Some now → now.fate ≡ Aborted u → (u ≤ guard_of (decided_machine parts z now.remote) q) × HasFenced z q u v
  aborted_then q v u now known fate = elim (before q v now known) [
    | inr begun ↦ absurd (fate_apart now.fate u (ap is_aborted begun.primed) fate)
    | inl from ↦ (let g = goes.courses q v from.old from.known in
        let same : now ≡ g.new = same_Some now g.new (sym known ∙ g.known) in
        let remote : now.remote ≡ from.old.remote = ap (λ (c : Course). c.remote) same ∙ g.remote in
        let up = goes.guards from.old.remote q in
        elim (from.aborted u fate) [
          | inl was ↦ (let a = kept.aborted q v u from.old from.known was in
              (subst (λ (n : ℕ). u ≤ guard_of (decided_machine parts z n) q) (sym remote) (let b = a.0 in omega arith), a.1))
          | inr its ↦ (let i = subst (λ (n : ℕ). IsDenied parts s k n u v) (sym its.1) (subst (λ (n : ℕ). IsDenied parts s k p n v) its.2 (is_entry (entry.Abort v) its.0)) in
              let there : from.old ≡ i.course = same_Some from.old i.course (sym from.known ∙ i.known) in
              (subst (λ (n : ℕ). u ≤ guard_of (decided_machine parts z n) q) (sym (remote ∙ ap (λ (c : Course). c.remote) there)) (let b = i.guarded in let c = goes.guards i.course.remote q in omega arith), i.fenced))
        ])
  ]

  unput_then : (q w v u : ℕ) (now : Course) → HasPut z q w v → l q v ≡ Some now → now.fate ≡ Aborted u → w < u
  unput_then q w v u now put known fate = elim (before q v now known) [
    | inr begun ↦ absurd (fate_apart now.fate u (ap is_aborted begun.primed) fate)
    | inl from ↦ elim (from.aborted u fate) [
      | inl was ↦ kept.unput q w v u from.old put from.known was
      | inr its ↦ (let i = subst (λ (n : ℕ). IsDenied parts s k n u v) (sym its.1) (subst (λ (n : ℕ). IsDenied parts s k p n v) its.2 (is_entry (entry.Abort v) its.0)) in
          let st = put_started parts s k kept q w v put in
          let le = highest st.0 (w, Start) (subst (λ (n : ℕ). At (decided_of s n) st.0 (w, Start)) its.1 st.1) in
          let same = its.2 in
          strictly (w == u) refl i.fenced (omega arith))
    ]
  ]
    where
      strictly : (b : Bool) → (w == u) ≡ b → HasFenced s q u v → w ≤ u → w < u
      strictly true e fenced le = absurd (kept.one_mode q w v put (subst (λ (n : ℕ). HasFenced s q n v) (sym (eqb-true w u e)) fenced))
      strictly false e fenced le = (let apart = eqb-false w u e in omega arith)

  -- a Fence that finds its chain unwritten
  denied_new : (q u v : ℕ) (edges : List EdgeId) → x ≡ Made (entry.Fence q u v edges) → (item_applied parts (suc (length (decided_of s p))) x (decided_machine parts s p)).1 ≡ told.Fenced false → IsDenied parts z l q u v
  denied_new q u v edges is answer =
      let i = fence_of parts s k kept q u v p edges (is_entry (entry.Fence q u v edges) is) in
      let g = goes.courses q v i.0 i.1 in
      let said : (item_applied parts (suc (length (decided_of s p))) (Made (entry.Fence q u v edges)) (decided_machine parts s p)).1 ≡ told.Fenced false =
      ap (λ (y : Proposal). (item_applied parts (suc (length (decided_of s p))) y (decided_machine parts s p)).1) (sym is) ∙ answer in
      record {
        course = g.new;
        known = g.known;
        fenced = i.4;
        guarded = subst (λ (n : ℕ). u ≤ guard_of (decided_machine parts z n) q) (sym (g.remote ∙ i.2))
            (subst (λ (m : Part). u ≤ guard_of m q) (sym (machine_here parts s k kept sound p t x all next p refl))
            (subst (λ (y : Proposal). u ≤ guard_of (item_applied parts (suc (length (decided_of s p))) y (decided_machine parts s p)).0 q) (sym is)
            (fence_guards parts (suc (length (decided_of s p))) (decided_machine parts s p) q u v edges false said)));
        passed = λ wrote. absurd (by_before i.0 i.1 i.2 i.3 said g.new g.known wrote);
      }
    where
      old_unwritten : (c : Course) → k q v ≡ Some c → c.remote ≡ p → keys_of c.list ≡ edges
          → (item_applied parts (suc (length (decided_of s p))) (Made (entry.Fence q u v edges)) (decided_machine parts s p)).1 ≡ told.Fenced false → c.wrote ≡ true → ⊥
      old_unwritten c known remote whole said wrote = false≢true (sym (fence_says parts (suc (length (decided_of s p))) (decided_machine parts s p) q u v edges false said)
          ∙ ap (all_written (decided_machine parts s p) v) (sym whole)
          ∙ all_edges (λ e. nat_le v (number_of (decided_machine parts s p) e)) (keys_of c.list) (λ e on.
          (let w = sound.sound.holds.chains.written q v c known wrote e on in
          let r = (sound.sound.holds.chains.routed q v c known e on).1 in
          le-leb v (number_of (decided_machine parts s p) e) (subst (λ (n : ℕ). v ≤ number_of (decided_machine parts s n) e) (r ∙ remote) w))))

      by_before : (c : Course) → k q v ≡ Some c → c.remote ≡ p → keys_of c.list ≡ edges
          → (item_applied parts (suc (length (decided_of s p))) (Made (entry.Fence q u v edges)) (decided_machine parts s p)).1 ≡ told.Fenced false → (now : Course) → l q v ≡ Some now → now.wrote ≡ true → ⊥
      by_before c known remote whole said now later wrote = elim (before q v now later) [
        | inr begun ↦ false≢true (sym begun.unwritten ∙ wrote)
        | inl from ↦ elim (from.wrote wrote) [
          | inl was ↦ old_unwritten c known remote whole said (ap (λ (y : Course). y.wrote) (same_Some c from.old (sym known ∙ from.known)) ∙ was)
          | inr its ↦ (let e : Made (entry.Fence q u v edges) ≡ Made (entry.Remote q its.0 v its.1) = sym is ∙ its.2 in apart its.0 its.1 e)
        ]
      ]
        where
          apart : (a : ℕ) (list : List (EdgeId × Half)) → Made (entry.Fence q u v edges) ≡ Made (entry.Remote q a v list) → ⊥
          apart a list e = cc

  denied_then : (q i w a u v : ℕ) (edges : List EdgeId) → WasAnswered parts (decided_of z q) i w (entry.Fence a u v edges) (told.Fenced false) → IsDenied parts z l a u v
  denied_then q i w a u v edges was = elim (split q i (w, Made (entry.Fence a u v edges)) was.there) [
    | inl old ↦ denied_on parts s k z l goes a u v (kept.denied q i w a u v edges (record {
      there = old;
      is = ap (λ (ds : List (ℕ × Proposal)). (item_applied parts (suc i) (Made (entry.Fence a u v edges)) (folded parts ds)).1) (sym ((longer q).front i (let n = slice_get_within (decided_of s q) i _ old in omega arith))) ∙ was.is;
    }))
    | inr new ↦ (let is : x ≡ Made (entry.Fence a u v edges) = sym (ap (λ (y : ℕ × Proposal). y.1) new.2) in
        let front : take i (decided_of z q) ≡ decided_of s p =
        ap (λ (n : ℕ). take n (decided_of z q)) new.1 ∙ ap (λ (n : ℕ). take (length (decided_of s p)) (decided_of z n)) new.0 ∙ (longer p).front (length (decided_of s p)) (omega arith) ∙ take_whole (decided_of s p) in
        denied_new a u v edges is
        (ap (λ (y : Proposal). (item_applied parts (suc (length (decided_of s p))) y (decided_machine parts s p)).1) is
        ∙ ap (λ (n : ℕ). (item_applied parts (suc n) (Made (entry.Fence a u v edges)) (decided_machine parts s p)).1) (sym new.1)
        ∙ ap (λ (ds : List (ℕ × Proposal)). (item_applied parts (suc i) (Made (entry.Fence a u v edges)) (folded parts ds)).1) (sym front) ∙ was.is))
  ]

  led_then : (q u : ℕ) (y : Leader) → s.leaders q u ≡ Some y → IsLed parts z q u y
  led_then q u y is = let led = kept.leaders q u y is in record {
    above = led.above;
    within = let a = led.within in let b = (longer q).length_grows in omega arith;
    senders = led.senders;
    rules = ready_on parts (decided_of s q) (decided_of z q) (longer q) (HasPut s q u) (HasFenced s q u) u y.applied y.lead.table y.lead.ready led.within led.rules;
  }

  pub decided_kept : IsKept parts z l
  decided_kept = record {
    rising = rising_then;
    follows = follows_then;
    standing = standing_then;
    one_mode = kept.one_mode;
    aborted = aborted_then;
    unput = unput_then;
    meant = λ post among. meant_on parts s k z l goes post (kept.meant post among);
    proposed = λ q u y among. proposed_on parts s k z l goes q u y (kept.proposed q u y among);
    denied = denied_then;
    leaders = led_then;
  }
