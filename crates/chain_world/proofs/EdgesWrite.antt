-- The last chain on an edge, as a chain that stands writes its in-halves or its out-halves.
use Rattle.std.proofs.Common.{◌≡◌, inl, inr, ℕ, ◌<◌, None, Some, true, false, refl, ap, sym, ◌∙◌, subst}
use Rattle.std.specs.Option.{option_map, unwrap_or}
use Rattle.std.specs.FinMap.{get}
use Rattle.std.proofs.lemmas.Bool.{cases_Bool}
use Rattle.graph_model.specs.Contents.{row_of}
use Rattle.graph_model.specs.Keys.{edge_cmp, in_key}
use Rattle.graph_model.specs.declared.edge_id.EdgeId.{EdgeId}
use Rattle.graph_model.specs.declared.half.Half.{Half}
use Rattle.maps.proofs.Pairs.{at_key_in, at_key_out}
use Rattle.part_keys.specs.Routing.{part_of}
use Rattle.part_rules.specs.FoldLaws.{by}
use Rattle.part_rules.specs.Machine as table
use Rattle.part_rules.specs.Part.{Part, number_of}
use Rattle.part_rules.proofs.FoldsAt.{out_at, in_fresh, in_other}
use Rattle.chain_world.specs.Course.{Fate, Course, Courses, stands, has_edge, with_course}
use Rattle.chain_world.specs.Invariant.ChainFacts.{AreRouted}
use Rattle.chain_world.specs.Edges.{is_shown, gives_in, gives_out, given, IsLast, IsUngiven, AreLast}
use Rattle.chain_world.proofs.EdgesLast.{given_set}
use Rattle.chain_world.proofs.EdgesSet.{set_at, set_same, set_here}
use Rattle.chain_world.proofs.EdgesGiven.{latest_on, same_inn, same_no_inn, same_out, same_no_out, inn_kept, out_kept, it_is_last, not_ungiven, off_list}

module _ (parts : ℕ) (machine : ℕ → Part) (k : Courses) (are : AreLast parts machine k) (p : ℕ) (x : Part) (r v : ℕ) (c : Course) (is : k r v ≡ Some c) (standing : stands c.fate ≡ true) where
  -- the in-halves of a chain that stands are written, in its remote part
  module _ (routed : AreRouted (part_of parts) r p c.list) (low : (e : EdgeId) → has_edge c.list e ≡ true → number_of (machine p) e < v) (i : x.inn ≡ table.in_written (machine p) v c.list) (o : x.out ≡ (machine p).out) where
    abbrev wrote : Course
    wrote = record c { wrote = true }

    abbrev l : Courses
    l = with_course k r v (Some wrote)

    in_kept : (e : EdgeId) → has_edge c.list e ≡ false → get (set_at machine p x (part_of parts e.dst)).inn (in_key e) ≡ get (machine (part_of parts e.dst)).inn (in_key e)
    in_kept e off = set_same machine p x (λ s. get s.inn (in_key e)) (ap (λ m. get m (in_key e)) i ∙ in_other (machine p) v c.list e off) (part_of parts e.dst)

    in_off : (e : EdgeId) → has_edge c.list e ≡ false → (w : ℕ) → given gives_in e (l (part_of parts e.src) w) ≡ given gives_in e (k (part_of parts e.src) w)
    in_off e off = given_set gives_in e k r v (Some wrote) (off_list parts machine k are p x r v c is gives_in wrote refl e off) (part_of parts e.src)

    wrote_inn : (e : EdgeId) (u : ℕ) (half : Half) → IsLast l gives_in e (part_of parts e.src) u half → get (set_at machine p x (part_of parts e.dst)).inn (in_key e) ≡ Some (by u half)
    wrote_inn e u half last = elim (cases_Bool (has_edge c.list e)) [
      | inl on ↦
          (let h = at_key_in edge_cmp e c.list on in
          let way = routed e on in
          let same = it_is_last parts machine k are p x r v c is gives_in wrote refl refl e h.0 h.1 standing u half (subst (λ q. IsLast l gives_in e q u half) way.0 last) in
          ap (λ (s : Part). get s.inn (in_key e)) (set_here machine p x (part_of parts e.dst) way.1) ∙ ap (λ m. get m (in_key e)) i ∙ in_fresh (machine p) v c.list e h.0 h.1 (low e on)
          ∙ (λ j. Some (by (sym same.0 j) (sym same.1 j))))
      | inr off ↦ same_inn parts machine k are p x l e (in_off e off) (in_kept e off) u half last
    ]

    wrote_no_inn : (e : EdgeId) → IsUngiven l gives_in e (part_of parts e.src) → get (set_at machine p x (part_of parts e.dst)).inn (in_key e) ≡ None
    wrote_no_inn e none = elim (cases_Bool (has_edge c.list e)) [
      | inl on ↦
          (let h = at_key_in edge_cmp e c.list on in
          absurd (not_ungiven parts machine k are p x r v c is gives_in wrote refl refl e h.0 h.1 (subst (λ q. IsUngiven l gives_in e q) (routed e on).0 none)))
      | inr off ↦ same_no_inn parts machine k are p x l e (in_off e off) (in_kept e off) none
    ]

    out_same : (e : EdgeId) (w : ℕ) → given gives_out e (l (part_of parts e.src) w) ≡ given gives_out e (k (part_of parts e.src) w)
    out_same e = given_set gives_out e k r v (Some wrote) (ap (given gives_out e) (sym is)) (part_of parts e.src)

    pub last_writes : AreLast parts (set_at machine p x) (with_course k r v (Some (record c { wrote = true })))
    last_writes = record {
      latest = latest_on k are.latest r v c wrote is refl (λ s. s);
      inn = wrote_inn;
      no_inn = wrote_no_inn;
      out = λ e. same_out parts machine k are p x l e (out_same e) (out_kept parts machine k are p x l o e);
      no_out = λ e. same_no_out parts machine k are p x l e (out_same e) (out_kept parts machine k are p x l o e);
    }

  -- the out-halves of a chain that stands are written, in its source part
  module _ (home : r ≡ p) (remote : ℕ) (routed : AreRouted (part_of parts) r remote c.list) (fate : Fate) (shown : is_shown fate ≡ true) (i : x.inn ≡ (machine p).inn) (o : x.out ≡ table.out_written (machine p).out c.list) where
    abbrev showing : Course
    showing = record c { fate = fate }

    abbrev s : Courses
    s = with_course k r v (Some showing)

    out_kept_off : (e : EdgeId) → has_edge c.list e ≡ false → get (set_at machine p x (part_of parts e.src)).out e ≡ get (machine (part_of parts e.src)).out e
    out_kept_off e off = set_same machine p x (λ y. get y.out e)
        (ap (λ m. get m e) o ∙ out_at (machine p).out c.list e ∙ ap (λ w. unwrap_or (option_map row_of w) (get (machine p).out e)) (at_key_out edge_cmp e c.list off)) (part_of parts e.src)

    out_off : (e : EdgeId) → has_edge c.list e ≡ false → (w : ℕ) → given gives_out e (s (part_of parts e.src) w) ≡ given gives_out e (k (part_of parts e.src) w)
    out_off e off = given_set gives_out e k r v (Some showing) (off_list parts machine k are p x r v c is gives_out showing refl e off) (part_of parts e.src)

    shown_out : (e : EdgeId) (u : ℕ) (half : Half) → IsLast s gives_out e (part_of parts e.src) u half → get (set_at machine p x (part_of parts e.src)).out e ≡ row_of half
    shown_out e u half last = elim (cases_Bool (has_edge c.list e)) [
      | inl on ↦
          (let h = at_key_in edge_cmp e c.list on in
          let way = routed e on in
          let same = it_is_last parts machine k are p x r v c is gives_out showing refl shown e h.0 h.1 standing u half (subst (λ q. IsLast s gives_out e q u half) way.0 last) in
          ap (λ (y : Part). get y.out e) (set_here machine p x (part_of parts e.src) (way.0 ∙ home)) ∙ ap (λ m. get m e) o ∙ out_at (machine p).out c.list e
          ∙ ap (λ w. unwrap_or (option_map row_of w) (get (machine p).out e)) h.1 ∙ ap row_of (sym same.1))
      | inr off ↦ same_out parts machine k are p x s e (out_off e off) (out_kept_off e off) u half last
    ]

    shown_no_out : (e : EdgeId) → IsUngiven s gives_out e (part_of parts e.src) → get (set_at machine p x (part_of parts e.src)).out e ≡ None
    shown_no_out e none = elim (cases_Bool (has_edge c.list e)) [
      | inl on ↦
          (let h = at_key_in edge_cmp e c.list on in
          absurd (not_ungiven parts machine k are p x r v c is gives_out showing refl shown e h.0 h.1 (subst (λ q. IsUngiven s gives_out e q) (routed e on).0 none)))
      | inr off ↦ same_no_out parts machine k are p x s e (out_off e off) (out_kept_off e off) none
    ]

    in_same : (e : EdgeId) (w : ℕ) → given gives_in e (s (part_of parts e.src) w) ≡ given gives_in e (k (part_of parts e.src) w)
    in_same e = given_set gives_in e k r v (Some showing) (ap (given gives_in e) (sym is)) (part_of parts e.src)

    pub last_shows : AreLast parts (set_at machine p x) (with_course k r v (Some (record c { fate = fate })))
    last_shows = record {
      latest = latest_on k are.latest r v c showing is refl (λ y. standing);
      inn = λ e. same_inn parts machine k are p x s e (in_same e) (inn_kept parts machine k are p x s i e);
      no_inn = λ e. same_no_inn parts machine k are p x s e (in_same e) (inn_kept parts machine k are p x s i e);
      out = shown_out;
      no_out = shown_no_out;
    }
