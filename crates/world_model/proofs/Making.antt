-- What a leader of the group made, its counterpart has proposed: as it leads on, and as it begins to lead.
use Rattle.std.proofs.Common.{◌≡◌, ◌≢◌, inl, inr, ℕ, zero, suc, ◌<◌, List, [], ◌∷◌, ◌++◌, length, take, drop, map, Some, None, cond, refl, ap, sym, subst, ◌∙◌, arith, eqb-true}
use Rattle.std.specs.Prelude.{◌==◌, slice_get}
use Rattle.std.specs.List.{AllByRecursion, take-map}
use Rattle.std.proofs.lemmas.Bool.{cond-false, cond_both, ne_eqb, eqb-false, cases_eq}
use Rattle.std.proofs.lemmas.List.{map-append, drop-append-le}
use Rattle.std.proofs.Math.Seq.{take-append_seam, drop-append_seam}
use Rattle.std.proofs.lemmas.Option.{same_Some, none-some}
use Rattle.raft_log.specs.declared.entry.Entry.{Entry}
use Rattle.raft_log.specs.declared.entry.Item.{Item}
use Rattle.raft_log.specs.Decided.{Leadership}
use Rattle.raft_core.specs.Core.{Core}
use Rattle.raft_core.specs.Votes.{no_op}
use Rattle.raft_core.proofs.Lists.{all_through-map}
use Rattle.raft_group.specs.Group.{items_of, begun, made_on}
use Rattle.raft_group.specs.Facts.{pairs_of, StandsAt, HasOneATerm, AgreesWith, LeadsBy}
use Rattle.raft_group.proofs.Led.{stands_map, map_stands, stands_push, push_stands, last_stands, stands_within}
use Rattle.part_keys.specs.declared.chain.Policy.{Policy}
use Rattle.part_keys.specs.declared.proposal.Proposal.{Proposal}
use Rattle.chain_world.specs.State.{Chains, Leader, made_by, made_by_leader}
use Rattle.chain_world.specs.World.{new_leader}
use Rattle.part_keys.specs.Spelled.{Spelling}
use Rattle.replica_model.specs.Spelling.{value_of, valued, values_of}
use Rattle.world_model.specs.State.{Space}
use Rattle.world_model.specs.Chained.{HasMade, HasLeaders, HasNoOther}
use Rattle.world_model.proofs.Moving.{Moves}

-- what the others proposed is as it was
made_off : (c d : Chains) (p t : ℕ) (l : Leader) → Moves c d p t l → (u : ℕ) → u ≢ t → made_by d p u ≡ made_by c p u
made_off c d p t l moves u other =
    ap (λ f. cond (u == 0) (f p) (made_by_leader (d.leaders p u))) moves.founded ∙ ap (λ o. cond (u == 0) (c.founded p) (made_by_leader o)) (moves.others p u (inr other))

pub made_here : (d : Chains) (p t : ℕ) (l : Leader) → 0 < t → d.leaders p t ≡ Some l → made_by d p t ≡ l.made
made_here d p t l above here =
    cond-false (t == 0) (d.founded p) (made_by_leader (d.leaders p t)) (ne_eqb t 0 (λ z. (let a = above in omega arith))) ∙ ap made_by_leader here

-- the items of a log whose pairs are known
items_back : (t : ℕ) (log : List Entry) (made : List Item) → pairs_of log ≡ map (λ (item : Item). (t, item)) made → items_of log ≡ made
items_back t log made e = firsts log ∙ ap (map (λ (x : ℕ × Item). x.1)) e ∙ seconds made
  where
    firsts : (xs : List Entry) → items_of xs ≡ map (λ (x : ℕ × Item). x.1) (pairs_of xs)
    firsts [] = refl
    firsts (x ∷ xs) = ap (λ zs. x.item ∷ zs) (firsts xs)

    seconds : (xs : List Item) → map (λ (x : ℕ × Item). x.1) (map (λ (item : Item). (t, item)) xs) ≡ xs
    seconds [] = refl
    seconds (x ∷ xs) = ap (λ zs. x ∷ zs) (seconds xs)

-- the values of items behind a log are those of its entries
abbrev pub proposals_of : Spelling → List Entry → List Proposal
proposals_of s log = map (value_of s) (items_of log)

module _ (sp : Space) (p : ℕ) (c : Chains) (leaders : List (Leadership Item)) (one : HasOneATerm leaders)
    (made : HasMade sp c p leaders) (led : HasLeaders c p leaders) (unled : HasNoOther c p leaders) where
  -- it leads the same term on, and its log got some entries
  module _ (before behind : Core) (more : List Entry) (grown : behind.log ≡ before.log ++ more) (same : behind.term ≡ before.term)
      (k : ℕ) (its : Leadership Item) (there : StandsAt leaders k its) (by : LeadsBy before its)
      (l m : Leader) (was : c.leaders p before.term ≡ Some l) (d : Chains) (moves : Moves c d p before.term m) (added : m.made ≡ l.made ++ proposals_of sp.spelling more) where
    its_items : proposals_of sp.spelling (drop its.base behind.log) ≡ m.made
    its_items =
        ap (λ log. proposals_of sp.spelling (drop its.base log)) grown
        ∙ ap (proposals_of sp.spelling) (drop-append-le its.base before.log more by.base)
        ∙ ap (map (value_of sp.spelling)) (map-append (λ (e : Entry). e.item) (drop its.base before.log) more)
        ∙ map-append (value_of sp.spelling) (items_of (drop its.base before.log)) (items_of more)
        ∙ ap (λ xs. map (value_of sp.spelling) xs ++ proposals_of sp.spelling more) (items_back before.term (drop its.base before.log) its.made by.made)
        ∙ ap (λ xs. xs ++ proposals_of sp.spelling more) (made k its there ∙ ap (made_by c p) by.term ∙ made_here c p before.term l by.above was)
        ∙ sym added

    -- a leadership of that term is its own
    its_own : (j : ℕ) (x : Leadership Item) → StandsAt leaders j x → x.term ≡ before.term → x ≡ its
    its_own j x at term = same_Some x its (sym at ∙ ap (slice_get leaders) (one j k x its at there (term ∙ sym by.term)) ∙ there)

    one_made : (j : ℕ) (x : Leadership Item) → StandsAt leaders j x → map (value_of sp.spelling) (made_on behind x).made ≡ made_by d p (made_on behind x).term
    one_made j x at = cond_both (x.term == behind.term) (record x { made = items_of (drop x.base behind.log) }) x (λ (y : Leadership Item). map (value_of sp.spelling) y.made ≡ made_by d p y.term)
        (λ own. (let term : x.term ≡ before.term = eqb-true x.term behind.term own ∙ same in
        ap (λ (y : Leadership Item). proposals_of sp.spelling (drop y.base behind.log)) (its_own j x at term) ∙ its_items
        ∙ sym (made_here d p before.term m by.above moves.here) ∙ ap (made_by d p) (sym term)))
        (λ other. made j x at ∙ sym (made_off c d p before.term m moves x.term (λ e. eqb-false x.term behind.term other (e ∙ sym same))))

    pub on_made : HasMade sp d p (map (made_on behind) leaders)
    on_made j y at = (let w = stands_map (made_on behind) leaders j y at in
        subst (λ (z : Leadership Item). map (value_of sp.spelling) z.made ≡ made_by d p z.term) w.2 (one_made j w.0 w.1))

    term_kept : (x : Leadership Item) → (made_on behind x).term ≡ x.term
    term_kept x = cond_both (x.term == behind.term) (record x { made = items_of (drop x.base behind.log) }) x (λ (y : Leadership Item). y.term ≡ x.term) (λ own. refl) (λ other. refl)

    pub on_led : HasLeaders d p (map (made_on behind) leaders)
    on_led j y at above =
        let w = stands_map (made_on behind) leaders j y at in
        let term : y.term ≡ w.0.term = ap (λ (z : Leadership Item). z.term) (sym w.2) ∙ term_kept w.0 in
        elim (cases_eq y.term before.term) [
          | inl own ↦ (m, ap (d.leaders p) own ∙ moves.here)
          | inr other ↦ (let old = led j w.0 w.1 (let a = above in let b = term in omega arith) in (old.0, moves.others p y.term (inr other) ∙ ap (c.leaders p) term ∙ old.1))
        ]

    pub on_unled : HasNoOther d p (map (made_on behind) leaders)
    on_unled u none =
        let apart : (j : ℕ) (x : Leadership Item) → StandsAt leaders j x → x.term ≢ u = λ j x at e. none j (made_on behind x) (map_stands (made_on behind) leaders j x at) (term_kept x ∙ e) in
        let other : u ≢ before.term = λ e. apart k its there (by.term ∙ sym e) in
        moves.others p u (inr other) ∙ unled u apart

  -- It begins to lead: the term is new, and what it committed has lesser terms.
  module _ (before behind : Core) (grown : behind.log ≡ before.log ++ no_op behind.term ∷ []) (above : 0 < behind.term)
      (k : ℕ) (its : Leadership Item) (there : StandsAt (leaders ++ begun before behind ∷ []) k its) (by : LeadsBy behind its) (new_one : HasOneATerm (leaders ++ begun before behind ∷ [])) where
    last : StandsAt (leaders ++ begun before behind ∷ []) (length leaders) (begun before behind)
    last = last_stands leaders (begun before behind)

    its_is : its ≡ begun before behind
    its_is = same_Some its (begun before behind) (sym there ∙ ap (slice_get (leaders ++ begun before behind ∷ [])) (new_one k (length leaders) its (begun before behind) there last by.term) ∙ last)

    -- no leadership had this term
    term_new : (j : ℕ) (x : Leadership Item) → StandsAt leaders j x → x.term ≢ behind.term
    term_new j x at e =
        let same = new_one j (length leaders) x (begun before behind) (push_stands leaders (begun before behind) j x at) last e in
        let within = stands_within leaders j x at in
        absurd (omega arith)

    pub new_unled : c.leaders p behind.term ≡ None
    new_unled = unled behind.term term_new

    log_lesser : AllByRecursion (λ (e : Entry). e.term < behind.term) before.log
    log_lesser = subst (AllByRecursion (λ (e : Entry). e.term < behind.term))
        (ap (λ (x : Leadership Item). take x.base behind.log) its_is ∙ ap (take (length before.log)) grown ∙ take-append_seam before.log (no_op behind.term ∷ [])) by.before

    module _ (decided : List Entry) (agrees : AgreesWith decided before) where
      pub new_lesser : AllByRecursion (λ (e : ℕ × Proposal). e.0 < behind.term) (take before.commit (values_of sp.spelling decided))
      new_lesser = subst (AllByRecursion (λ (e : ℕ × Proposal). e.0 < behind.term))
          (ap (values_of sp.spelling) agrees.same ∙ sym (take-map (valued sp.spelling) before.commit decided))
          (all_through-map (λ (e : Entry). e.term < behind.term) (λ (e : ℕ × Proposal). e.0 < behind.term) (valued sp.spelling) (λ e is. is) (take before.commit before.log) (front before.commit before.log log_lesser))
        where
          front : (n : ℕ) (xs : List Entry) → AllByRecursion (λ (e : Entry). e.term < behind.term) xs → AllByRecursion (λ (e : Entry). e.term < behind.term) (take n xs)
          front zero xs all = tt
          front (suc n) [] all = tt
          front (suc n) (x ∷ xs) all = (all.0, front n xs all.1)

    module _ (policy : Policy) (a : ℕ) (d : Chains) (moves : Moves c d p behind.term (new_leader policy a)) where
      first_made : proposals_of sp.spelling (drop (length before.log) behind.log) ≡ made_by d p behind.term
      first_made =
          ap (λ log. proposals_of sp.spelling (drop (length before.log) log)) grown ∙ ap (proposals_of sp.spelling) (drop-append_seam before.log (no_op behind.term ∷ []))
          ∙ sym (made_here d p behind.term (new_leader policy a) above moves.here)

      pub new_made : HasMade sp d p (leaders ++ begun before behind ∷ [])
      new_made j x at = elim (stands_push leaders (begun before behind) j x at) [
        | inl old ↦ made j x old ∙ sym (made_off c d p behind.term (new_leader policy a) moves x.term (term_new j x old))
        | inr new ↦ subst (λ (y : Leadership Item). map (value_of sp.spelling) y.made ≡ made_by d p y.term) (sym new.1) first_made
      ]

      pub new_led : HasLeaders d p (leaders ++ begun before behind ∷ [])
      new_led j x at pos = elim (stands_push leaders (begun before behind) j x at) [
        | inl old ↦ (let o = led j x old pos in (o.0, moves.others p x.term (inr (term_new j x old)) ∙ o.1))
        | inr new ↦ (new_leader policy a, ap (λ (y : Leadership Item). d.leaders p y.term) new.1 ∙ moves.here)
      ]

      pub new_no_other : HasNoOther d p (leaders ++ begun before behind ∷ [])
      new_no_other u none =
          let other : u ≢ behind.term = λ e. none (length leaders) (begun before behind) last (sym e) in
          moves.others p u (inr other) ∙ unled u (λ j x at. none j x (push_stands leaders (begun before behind) j x at))

-- A leader goes on that proposes nothing: all that was proposed, and who leads, is as it was.
module _ (c d : Chains) (p t : ℕ) (l m : Leader) (was : c.leaders p t ≡ Some l) (moves : Moves c d p t m) (same : m.made ≡ l.made) where
  pub made_stays : (u : ℕ) → made_by d p u ≡ made_by c p u
  made_stays u =
      ap (λ f. cond (u == 0) (f p) (made_by_leader (d.leaders p u))) moves.founded
      ∙ ap (λ xs. cond (u == 0) (c.founded p) xs) (elim (cases_eq u t) [
        | inl own ↦ ap (λ n. made_by_leader (d.leaders p n)) own ∙ ap made_by_leader moves.here ∙ same ∙ ap made_by_leader (sym was) ∙ ap (λ n. made_by_leader (c.leaders p n)) (sym own)
        | inr other ↦ ap made_by_leader (moves.others p u (inr other))
      ])

  pub led_stays : (u : ℕ) → (x : Leader) × (c.leaders p u ≡ Some x) → (x : Leader) × (d.leaders p u ≡ Some x)
  led_stays u x = elim (cases_eq u t) [
    | inl own ↦ (m, ap (d.leaders p) own ∙ moves.here)
    | inr other ↦ (x.0, moves.others p u (inr other) ∙ x.1)
  ]

  pub unled_stays : (u : ℕ) → c.leaders p u ≡ None → d.leaders p u ≡ None
  unled_stays u none = elim (cases_eq u t) [
    | inl own ↦ absurd (none-some l (sym none ∙ ap (c.leaders p) own ∙ was))
    | inr other ↦ moves.others p u (inr other) ∙ none
  ]
