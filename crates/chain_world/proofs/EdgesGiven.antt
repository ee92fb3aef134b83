-- The last chain on an edge through each change of a chain.
use Rattle.std.proofs.Common.{◌≡◌, inl, inr, ℕ, ◌≤◌, Option, None, Some, Bool, true, false, cond, refl, ap, sym, ◌∙◌, arith}
use Rattle.std.specs.Prelude.{nat_lt}
use Rattle.std.specs.FinMap.{get}
use Rattle.std.proofs.lemmas.Bool.{cases_Bool, ltb-true, ltb-false}
use Rattle.std.proofs.lemmas.Option.{same_Some}
use Rattle.graph_model.specs.Contents.{row_of}
use Rattle.graph_model.specs.Keys.{edge_cmp, in_key}
use Rattle.graph_model.specs.declared.edge_id.EdgeId.{EdgeId}
use Rattle.graph_model.specs.declared.half.Half.{Half}
use Rattle.maps.specs.Lists.{at_key}
use Rattle.maps.proofs.Pairs.{at_key_out, has_key_of}
use Rattle.part_keys.specs.Routing.{part_of}
use Rattle.part_rules.specs.FoldLaws.{by}
use Rattle.part_rules.specs.Part.{Part}
use Rattle.chain_world.specs.Course.{Fate, Primed, Course, Courses, stands, has_edge, with_course}
use Rattle.chain_world.specs.Edges.{is_shown, gives_in, gives_out, given, IsLast, IsUngiven, AreLast}
use Rattle.chain_world.proofs.EdgesLast.{given_not, given_half, given_by, given_set, same_last, same_ungiven}
use Rattle.chain_world.proofs.EdgesSet.{set_at, set_same}
use Rattle.chain_world.proofs.Courses.{course_split}
use Rattle.chain_world.proofs.Pends.{course_here}

-- the chain that stands on an edge is the last one on it
abbrev pub Latest : Courses → Type 0
Latest k = (p v w : ℕ) (c d : Course) → k p v ≡ Some c → stands c.fate ≡ true → k p w ≡ Some d → (e : EdgeId) → has_edge c.list e ≡ true → has_edge d.list e ≡ true → w ≤ v

module _ (k : Courses) (latest : Latest k) (p v : ℕ) where
  -- a chain goes on
  module _ (c d : Course) (is : k p v ≡ Some c) (list : c.list ≡ d.list) (stood : stands d.fate ≡ true → stands c.fate ≡ true) where
    before : (q w : ℕ) (y : Course) → with_course k p v (Some d) q w ≡ Some y → (z : Course) × (k q w ≡ Some z) × (z.list ≡ y.list) × (stands y.fate ≡ true → stands z.fate ≡ true)
    before q w y e = elim (course_split k p v (Some d) q w y e) [
      | inl here ↦
          (let same = same_Some d y here.2 in
          (c, ap (λ j. k j w) here.0 ∙ ap (k p) here.1 ∙ is, list ∙ ap (λ (z : Course). z.list) same, λ s. stood (ap (λ (z : Course). stands z.fate) same ∙ s)))
      | inr old ↦ (y, old.1, refl, λ s. s)
    ]

    pub latest_on : Latest (with_course k p v (Some d))
    latest_on q u w a b at standing to e on up =
        let x = before q u a at in
        let y = before q w b to in
        latest q u w x.0 y.0 x.1 (x.3 standing) y.1 e (ap (λ l. has_edge l e) x.2 ∙ on) (ap (λ l. has_edge l e) y.2 ∙ up)

  -- a chain begins, with a greater number than all, where none stands
  pub latest_begun : (c : Course) → ((w : ℕ) → v ≤ w → k p w ≡ None)
      → ((w : ℕ) (d : Course) → k p w ≡ Some d → stands d.fate ≡ true → (e : EdgeId) → has_edge c.list e ≡ true → has_edge d.list e ≡ true → ⊥)
      → Latest (with_course k p v (Some c))
  latest_begun c fresh free q u w a b at standing to e on up = elim (course_split k p v (Some c) q u a at) [
    | inl new ↦ elim (course_split k p v (Some c) q w b to) [
      | inl also ↦ (let m = new.1 in let n = also.1 in omega arith)
      | inr old ↦ (let m = new.1 in elim (cases_Bool (nat_lt w v)) [
        | inl low ↦ (let l = ltb-true w v low in omega arith)
        | inr high ↦ (let t : None ≡ Some b = sym (fresh w (ltb-false w v high)) ∙ ap (λ j. k j w) (sym new.0) ∙ old.1 in cc)
      ])
    ]
    | inr old ↦ elim (course_split k p v (Some c) q w b to) [
      | inl new ↦ absurd (free u a (ap (λ j. k j u) (sym new.0) ∙ old.1) standing e (ap (λ (z : Course). has_edge z.list e) (same_Some c b new.2) ∙ up) on)
      | inr other ↦ latest q u w a b old.1 standing other.1 e on up
    ]
  ]

module _ (parts : ℕ) (machine : ℕ → Part) (k : Courses) (are : AreLast parts machine k) (p : ℕ) (x : Part) where
  -- where no chain gives an edge anything else, and the halves stay
  module _ (l : Courses) where
    pub same_inn : (e : EdgeId) → ((w : ℕ) → given gives_in e (l (part_of parts e.src) w) ≡ given gives_in e (k (part_of parts e.src) w)) → (get (set_at machine p x (part_of parts e.dst)).inn (in_key e) ≡ get (machine (part_of parts e.dst)).inn (in_key e))
        → (v : ℕ) (half : Half) → IsLast l gives_in e (part_of parts e.src) v half → get (set_at machine p x (part_of parts e.dst)).inn (in_key e) ≡ Some (by v half)
    same_inn e same kept v half last = kept ∙ are.inn e v half (same_last gives_in e k l (part_of parts e.src) same v half last)

    pub same_no_inn : (e : EdgeId) → ((w : ℕ) → given gives_in e (l (part_of parts e.src) w) ≡ given gives_in e (k (part_of parts e.src) w)) → (get (set_at machine p x (part_of parts e.dst)).inn (in_key e) ≡ get (machine (part_of parts e.dst)).inn (in_key e))
        → IsUngiven l gives_in e (part_of parts e.src) → get (set_at machine p x (part_of parts e.dst)).inn (in_key e) ≡ None
    same_no_inn e same kept none = kept ∙ are.no_inn e (same_ungiven gives_in e k l (part_of parts e.src) same none)

    pub same_out : (e : EdgeId) → ((w : ℕ) → given gives_out e (l (part_of parts e.src) w) ≡ given gives_out e (k (part_of parts e.src) w)) → (get (set_at machine p x (part_of parts e.src)).out e ≡ get (machine (part_of parts e.src)).out e)
        → (v : ℕ) (half : Half) → IsLast l gives_out e (part_of parts e.src) v half → get (set_at machine p x (part_of parts e.src)).out e ≡ row_of half
    same_out e same kept v half last = kept ∙ are.out e v half (same_last gives_out e k l (part_of parts e.src) same v half last)

    pub same_no_out : (e : EdgeId) → ((w : ℕ) → given gives_out e (l (part_of parts e.src) w) ≡ given gives_out e (k (part_of parts e.src) w)) → (get (set_at machine p x (part_of parts e.src)).out e ≡ get (machine (part_of parts e.src)).out e)
        → IsUngiven l gives_out e (part_of parts e.src) → get (set_at machine p x (part_of parts e.src)).out e ≡ None
    same_no_out e same kept none = kept ∙ are.no_out e (same_ungiven gives_out e k l (part_of parts e.src) same none)

    pub inn_kept : x.inn ≡ (machine p).inn → (e : EdgeId) → get (set_at machine p x (part_of parts e.dst)).inn (in_key e) ≡ get (machine (part_of parts e.dst)).inn (in_key e)
    inn_kept i e = set_same machine p x (λ s. get s.inn (in_key e)) (ap (λ m. get m (in_key e)) i) (part_of parts e.dst)

    pub out_kept : x.out ≡ (machine p).out → (e : EdgeId) → get (set_at machine p x (part_of parts e.src)).out e ≡ get (machine (part_of parts e.src)).out e
    out_kept o e = set_same machine p x (λ s. get s.out e) (ap (λ m. get m e) o) (part_of parts e.src)

    -- the halves stay, and each chain gives what it gave
    pub last_stays : Latest l → ((e : EdgeId) (q w : ℕ) → given gives_in e (l q w) ≡ given gives_in e (k q w)) → ((e : EdgeId) (q w : ℕ) → given gives_out e (l q w) ≡ given gives_out e (k q w))
        → x.inn ≡ (machine p).inn → x.out ≡ (machine p).out → AreLast parts (set_at machine p x) l
    last_stays latest same_in same_outs i o = record {
      latest = latest;
      inn = λ e. same_inn e (same_in e (part_of parts e.src)) (inn_kept i e);
      no_inn = λ e. same_no_inn e (same_in e (part_of parts e.src)) (inn_kept i e);
      out = λ e. same_out e (same_outs e (part_of parts e.src)) (out_kept o e);
      no_out = λ e. same_no_out e (same_outs e (part_of parts e.src)) (out_kept o e);
    }

  -- a chain begins
  pub last_begins : (v : ℕ) (c : Course) → c.fate ≡ Primed → c.wrote ≡ false → ((w : ℕ) → v ≤ w → k p w ≡ None)
      → ((w : ℕ) (d : Course) → k p w ≡ Some d → stands d.fate ≡ true → (e : EdgeId) → has_edge c.list e ≡ true → has_edge d.list e ≡ true → ⊥)
      → x.inn ≡ (machine p).inn → x.out ≡ (machine p).out → AreLast parts (set_at machine p x) (with_course k p v (Some c))
  last_begins v c primed unwritten fresh free i o = last_stays (with_course k p v (Some c)) (latest_begun k are.latest p v c fresh free)
      (λ e q w. given_set gives_in e k p v (Some c) (given_not gives_in e c unwritten ∙ ap (given gives_in e) (sym (fresh v (omega arith)))) q w)
      (λ e q w. given_set gives_out e k p v (Some c) (given_not gives_out e c (ap is_shown primed) ∙ ap (given gives_out e) (sym (fresh v (omega arith)))) q w) i o

  module _ (r v : ℕ) (c : Course) (is : k r v ≡ Some c) where
    -- a chain goes on to a fate that shows no more than the one before
    pub last_ends : (fate : Fate) → is_shown fate ≡ is_shown c.fate → (stands fate ≡ true → stands c.fate ≡ true) → x.inn ≡ (machine p).inn → x.out ≡ (machine p).out
        → AreLast parts (set_at machine p x) (with_course k r v (Some (record c { fate = fate })))
    last_ends fate shown stood i o = last_stays (with_course k r v (Some d)) (latest_on k are.latest r v c d is refl stood)
        (λ e q w. given_set gives_in e k r v (Some d) (ap (given gives_in e) (sym is)) q w)
        (λ e q w. given_set gives_out e k r v (Some d) (ap (λ b. cond b (at_key edge_cmp e c.list) None) shown ∙ ap (given gives_out e) (sym is)) q w) i o
      where
        d : Course
        d = record c { fate = fate }

    -- the last chain on an edge of the list of one that stands and gives: it is that one
    module _ (gives : Course → Bool) (d : Course) (list : c.list ≡ d.list) (giving : gives d ≡ true) (e : EdgeId) (half : Half) (on : at_key edge_cmp e d.list ≡ Some half) where
      here : given gives e (with_course k r v (Some d) r v) ≡ Some half
      here = ap (given gives e) (course_here k r v (Some d)) ∙ given_half gives e d giving ∙ on

      pub it_is_last : (stood : stands c.fate ≡ true) (u : ℕ) (other : Half) → IsLast (with_course k r v (Some d)) gives e r u other → (u ≡ v) × (other ≡ half)
      it_is_last stood u other last =
          let up = last.last v half here in
          let b = given_by gives e (with_course k r v (Some d) r u) other last.its in
          let down : u ≤ v = elim (course_split k r v (Some d) r u b.0 b.1) [
            | inl here ↦ (let n = here.1 in omega arith)
            | inr old ↦ are.latest r v u c b.0 is stood old.1 e (ap (λ l. has_edge l e) list ∙ has_key_of edge_cmp e d.list half on) (has_key_of edge_cmp e b.0.list other b.2)
          ] in
          let same : u ≡ v = omega arith in
          (same, same_Some other half (sym last.its ∙ ap (λ j. given gives e (with_course k r v (Some d) r j)) same ∙ here))

      pub not_ungiven : IsUngiven (with_course k r v (Some d)) gives e r → ⊥
      not_ungiven none = let t : None ≡ Some half = sym (none v) ∙ here in cc

    -- an edge that isn't in its list
    pub off_list : (gives : Course → Bool) (d : Course) → c.list ≡ d.list → (e : EdgeId) → has_edge c.list e ≡ false → given gives e (Some d) ≡ given gives e (k r v)
    off_list gives d list e off = nothing d (sym list) ∙ sym (ap (given gives e) is ∙ nothing c refl)
      where
        none : (b : Bool) (o : Option Half) → o ≡ None → cond b o None ≡ None
        none true o h = h
        none false o h = refl

        nothing : (y : Course) → y.list ≡ c.list → given gives e (Some y) ≡ None
        nothing y same = none (gives y) (at_key edge_cmp e y.list) (ap (at_key edge_cmp e) same ∙ at_key_out edge_cmp e c.list off)
