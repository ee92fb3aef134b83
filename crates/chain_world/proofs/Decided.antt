-- A decision keeps what holds between leaders, packets and lists.
use Rattle.std.proofs.Common.{◌≡◌, ◌⊎◌, inl, inr, ℕ, suc, ◌<◌, ◌≤◌, List, [], ◌∷◌, ◌++◌, length, Some, Bool, true, false, ◌&&◌, ◌||◌, refl, ap, sym, subst, ◌∙◌, arith, eqb-true}
use Rattle.std.specs.Prelude.{◌==◌}
use Rattle.std.specs.List.{list_all}
use Rattle.std.proofs.lemmas.Bool.{false≢true, eqb-false}
use Rattle.std.proofs.lemmas.Option.{same_Some}
use Rattle.maps.specs.Keys.{has_key}
use Rattle.maps.proofs.Keys.{same_itself}
use Rattle.graph_model.specs.declared.edge_id.EdgeId.{EdgeId}
use Rattle.graph_model.specs.declared.half.Half.{Half}
use Rattle.graph_model.specs.Keys.{edge_cmp}
use Rattle.raft_log.specs.Decided.{count_term}
use Rattle.part_keys.specs.declared.proposal.Proposal.{Proposal}
use Rattle.part_keys.specs.declared.proposal.Proposal.TheVariants.{Start, Members, Made, Blank}
use Rattle.part_keys.specs.declared.entry.PartEntry.{PartEntry}
use Rattle.part_keys.specs.declared.entry.PartEntry.TheVariants as entry
use Rattle.part_rules.specs.declared.applied.Applied.TheVariants as told
use Rattle.part_rules.specs.Part.{Part, guard_of}
use Rattle.part_rules.specs.Folded.{item_applied, folded}
use Rattle.part_rules.proofs.FoldsAt.{edge_keys}
use Rattle.part_rules.proofs.FoldsLists.{folded_one_more}
use Rattle.chain_world.specs.Places.{At}
use Rattle.chain_world.specs.Course.{Fate, Primed, Doubled, Settled, Closed, Aborted, Course, Courses, is_aborted, recorded, stands}
use Rattle.chain_world.specs.Invariant.ChainFacts.{GoOn}
use Rattle.chain_world.specs.Ledger.{decides, next_applied}
use Rattle.chain_world.specs.Invariant.Discipline.{MayDecide}
use Rattle.chain_world.specs.Invariant.Sound.{IsSound}
use Rattle.chain_world.specs.State.{Chains, decided_of, decided_machine, made_by}
use Rattle.chain_world.specs.World.{are_at_most}
use Rattle.chain_world.specs.Invariant.Going.{GoesOn, Goes}
use Rattle.chain_world.specs.Invariant.Protocol.{HasPut, HasFenced, IsPassed, IsProposed, IsKept}
use Rattle.chain_world.proofs.Setting.{set_split}
use Rattle.chain_world.proofs.Steps.{one_of_left}
use Rattle.chain_world.proofs.Deciding.{decides_sound, decides_goes}
use Rattle.chain_world.proofs.Members.{among_at, at_end, at_more}
use Rattle.chain_world.proofs.Folding.{item_raises, done_guard}
use Rattle.chain_world.proofs.Changing.{HasBegun, came_from}
use Rattle.chain_world.proofs.Growing.{Longer, longer_itself, longer_by_one, rights_on}
use Rattle.chain_world.proofs.Decisions.{put_of, put_started, may_decide}

-- a test holds of all edges of a list, where it holds of each that stands there
pub all_edges : (test : EdgeId → Bool) (es : List EdgeId) → ((e : EdgeId) → has_key edge_cmp e es ≡ true → test e ≡ true) → list_all test es ≡ true
all_edges test [] each = refl
all_edges test (e ∷ es) each = both (each e (either_left _ (same_itself edge_keys e))) (all_edges test es (λ f on. each f (either_right _ on)))
  where
    both : {a b : Bool} → a ≡ true → b ≡ true → (a && b) ≡ true
    both {a} {b} f g = ap (λ (x : Bool). x && b) f ∙ g

    either_left : {a : Bool} (b : Bool) → a ≡ true → (a || b) ≡ true
    either_left {a} b f = ap (λ (x : Bool). x || b) f

    either_right : (a : Bool) {b : Bool} → b ≡ true → (a || b) ≡ true
    either_right true {b} f = refl
    either_right false {b} f = f

module _ (parts : ℕ) (s : Chains) (k : Courses) (kept : IsKept parts s k) (sound : IsSound parts s.ledger k) (p t : ℕ) (x : Proposal)
    (all : are_at_most t (decided_of s p) ≡ true) (next : At (made_by s p t) (count_term (decided_of s p) t) x) where
  abbrev d : ℕ × Proposal
  d = (t, x)

  abbrev pub decided_world : Chains
  decided_world = record s { ledger = decides parts s.ledger p d }

  abbrev pub decided_courses : Courses
  decided_courses = recorded parts s.ledger k p d

  pub proposed : IsProposed parts s k p t x
  proposed = kept.proposed p t x (among_at x (made_by s p t) (count_term (decided_of s p) t) next)

  pub may : MayDecide parts s.ledger k p d
  may = may_decide parts s k kept p t x all proposed

  pub sound_then : IsSound parts (decides parts s.ledger p d) decided_courses
  sound_then = decides_sound parts s.ledger k sound p d may

  pub goes_on : GoOn k decided_courses
  goes_on = decides_goes parts s.ledger k sound p d may

  -- the lists: one is longer by one
  pub lists : (q : ℕ) → Longer (decided_of s q) (decided_of decided_world q)
  lists q = elim (set_split s.ledger.decided p (decided_of s p ++ d ∷ []) q) [
    | inl here ↦ subst (Longer (decided_of s q)) (sym here.1) (subst (λ (n : ℕ). Longer (decided_of s n) (decided_of s p ++ d ∷ [])) (sym here.0) (longer_by_one (decided_of s p) d))
    | inr other ↦ subst (Longer (decided_of s q)) (sym other.1) (longer_itself (decided_of s q))
  ]

  pub at_split : (q i : ℕ) (e : ℕ × Proposal) → At (decided_of decided_world q) i e → At (decided_of s q) i e ⊎ ((q ≡ p) × (i ≡ length (decided_of s p)) × (e ≡ d))
  at_split q i e at = elim (set_split s.ledger.decided p (decided_of s p ++ d ∷ []) q) [
    | inl here ↦ elim (at_more e (decided_of s p) d i (subst (λ (ds : List (ℕ × Proposal)). At ds i e) here.1 at)) [
      | inl old ↦ inl (subst (λ (n : ℕ). At (decided_of s n) i e) (sym here.0) old)
      | inr new ↦ inr (here.0, new.0, new.1)
    ]
    | inr other ↦ inl (subst (λ (ds : List (ℕ × Proposal)). At ds i e) other.1 at)
  ]

  pub here_is : (q : ℕ) → q ≡ p → decided_of decided_world q ≡ decided_of s p ++ d ∷ []
  here_is q same = elim (set_split s.ledger.decided p (decided_of s p ++ d ∷ []) q) [ inl here ↦ here.1 | inr other ↦ absurd (other.0 same) ]

  pub at_here : (q : ℕ) → q ≡ p → At (decided_of decided_world q) (length (decided_of s p)) d
  at_here q same = subst (λ (ds : List (ℕ × Proposal)). At ds (length (decided_of s p)) d) (sym (here_is q same)) (at_end (decided_of s p) d)

  pub machine_here : (q : ℕ) → q ≡ p → decided_machine parts decided_world q ≡ (item_applied parts (suc (length (decided_of s p))) x (decided_machine parts s p)).0
  machine_here q same = ap (folded parts) (here_is q same) ∙ folded_one_more parts (decided_of s p) d

  pub guards : (q f : ℕ) → guard_of (decided_machine parts s q) f ≤ guard_of (decided_machine parts decided_world q) f
  guards q f = elim (set_split s.ledger.decided p (decided_of s p ++ d ∷ []) q) [
    | inl here ↦ subst (λ (m : Part). guard_of (decided_machine parts s q) f ≤ guard_of m f) (sym (machine_here q here.0))
        (subst (λ (n : ℕ). guard_of (decided_machine parts s n) f ≤ guard_of (item_applied parts (suc (length (decided_of s p))) x (decided_machine parts s p)).0 f) (sym here.0)
        (item_raises parts (suc (length (decided_of s p))) (decided_machine parts s p) x f))
    | inr other ↦ subst (λ (ds : List (ℕ × Proposal)). guard_of (decided_machine parts s q) f ≤ guard_of (folded parts ds) f) (sym other.1) (omega arith)
  ]

  passed : (q u : ℕ) → IsPassed (decided_of s q) u → IsPassed (decided_of decided_world q) u
  passed q u h = (h.0, h.1, (lists q).place h.0 h.1 h.2, h.3)

  -- a chain then: it was there, with what it wrote and its end, or the entry gave it these; or it has just begun
  pub record Came (q w : ℕ) (now : Course) : Type 0 where
    pub old : Course
    pub known : k q w ≡ Some old
    pub wrote : now.wrote ≡ true → (old.wrote ≡ true) ⊎ ((u : ℕ) × (list : List (EdgeId × Half)) × (x ≡ Made (entry.Remote q u w list)) × ((next_applied parts s.ledger p x).1 ≡ told.Done))
    pub aborted : (u : ℕ) → now.fate ≡ Aborted u → (old.fate ≡ Aborted u) ⊎ ((x ≡ Made (entry.Abort w)) × (q ≡ p) × (t ≡ u))

  pub came : (q w : ℕ) (now : Course) → decided_courses q w ≡ Some now → Came q w now ⊎ HasBegun now
  came q w now = by_item x refl
    where
      plain : (y : Proposal) → k q w ≡ Some now → Came q w now ⊎ HasBegun now
      plain y e = inl (record { old = now; known = e; wrote = λ h. inl h; aborted = λ u h. inl h })

      by_item : (y : Proposal) → x ≡ y → recorded parts s.ledger k p (t, y) q w ≡ Some now → Came q w now ⊎ HasBegun now
      by_item Start is e = plain Start e
      by_item (Members config) is e = plain (Members config) e
      by_item Blank is e = plain Blank e
      by_item (Made y) is e = elim (came_from k p t (decided_machine parts s p) parts (suc (length (decided_of s p))) y q w now e) [
        | inl c ↦ inl (record {
          old = c.old;
          known = c.known;
          wrote = λ h. elim (c.wrote h) [ inl was ↦ inl was | inr its ↦ inr (its.0, its.1, is ∙ ap Made its.2, ap (λ (z : Proposal). (next_applied parts s.ledger p z).1) is ∙ its.3) ];
          aborted = λ u h. elim (c.aborted u h) [ inl was ↦ inl was | inr its ↦ inr (is ∙ ap Made its.0, its.1, its.2) ];
        })
        | inr b ↦ inr b
      ]

  -- what the entry is where it is known
  pub its_entry : (y : PartEntry) → x ≡ Made y → IsProposed parts s k p t (Made y)
  its_entry y is = subst (IsProposed parts s k p t) is proposed

  -- The Remote of a chain that a Fence found unwritten is of a later leader.
  unwritten_then : (q u v : ℕ) (c now : Course) → HasFenced s q u v → k q v ≡ Some c → u ≤ guard_of (decided_machine parts s c.remote) q
      → (c.wrote ≡ true → IsPassed (decided_of s q) u) → decided_courses q v ≡ Some now → now.wrote ≡ true → IsPassed (decided_of decided_world q) u
  unwritten_then q u v c now fenced known guarded was_passed later wrote = elim (came q v now later) [
    | inr begun ↦ absurd (false≢true (sym begun.unwritten ∙ wrote))
    | inl from ↦ elim (from.wrote wrote) [
      | inl before ↦ passed q u (was_passed (ap (λ (y : Course). y.wrote) (same_Some c from.old (sym known ∙ from.known)) ∙ before))
      | inr its ↦ passed q u (by_remote its.0 its.1 its.2 its.3)
    ]
  ]
    where
      by_remote : (w : ℕ) (list : List (EdgeId × Half)) → x ≡ Made (entry.Remote q w v list) → (next_applied parts s.ledger p x).1 ≡ told.Done → IsPassed (decided_of s q) u
      by_remote w list is done =
          let i = put_of parts s k kept q w v p list (its_entry (entry.Remote q w v list) is) in
          let same : c ≡ i.0 = same_Some c i.0 (sym known ∙ i.1) in
          let here : c.remote ≡ p = ap (λ (y : Course). y.remote) same ∙ i.2 in
          let g = done_guard parts (suc (length (decided_of s p))) (decided_machine parts s p) q w v list (ap (λ (z : Proposal). (next_applied parts s.ledger p z).1) (sym is) ∙ done) in
          let guarded_here : u ≤ guard_of (decided_machine parts s p) q = subst (λ (n : ℕ). u ≤ guard_of (decided_machine parts s n) q) here guarded in
          let st = put_started parts s k kept q w v i.4 in
          (st.0, (w, Start), st.1, strictly w (u == w) refl i.4 (omega arith))
        where
          strictly : (n : ℕ) (b : Bool) → (u == n) ≡ b → HasPut s q n v → u ≤ n → u < n
          strictly n true e put le = absurd (kept.one_mode q u v (subst (λ (m : ℕ). HasPut s q m v) (sym (eqb-true u n e)) put) fenced)
          strictly n false e put le = (let apart = eqb-false u n e in omega arith)

  pub course_goes : (q v : ℕ) (c : Course) → k q v ≡ Some c → GoesOn decided_courses q v c
  course_goes q v c known = let g = goes_on q v c known in record {
    new = g.0;
    known = g.1;
    list = g.2.list;
    remote = g.2.remote;
    wrote = g.2.wrote;
    aborted = λ a. ap is_aborted (g.2.ended (not_standing c.fate a)) ∙ a;
  }
    where
      not_standing : (fate : Fate) → is_aborted fate ≡ true → stands fate ≡ false
      not_standing Primed a = sym a
      not_standing Doubled a = sym a
      not_standing Settled a = refl
      not_standing Closed a = refl
      not_standing (Aborted u) a = refl

  pub decided_goes : Goes parts s k decided_world decided_courses
  decided_goes = record {
    posts = λ post among. among;
    led = λ q u there. there;
    invoked = λ id op h. one_of_left s.ledger.steps _ _ h;
    courses = course_goes;
    guards = guards;
    passed = passed;
    unwritten = unwritten_then;
    rights = rights_on parts s.ledger (decides parts s.ledger p d) _ refl lists;
  }
