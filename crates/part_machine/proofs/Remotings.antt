-- The plans of a Remote, of a Fence, and of a call on a vertex.
use Rattle.std.proofs.Common.{◌≡◌, ℕ, ◌^◌, ◌<◌, List, [], ◌++◌, filter, Option, None, Some, Bool, true, false, cond, refl, ap, sym, subst, ◌∙◌}
use Rattle.std.specs.Prelude.{nat_lt, ◌&&◌}
use Rattle.std.specs.FinMap.{get, insert, contains_key}
use Rattle.std.specs.Option.{is_some}
use Rattle.std.specs.List.{AllByRecursion}
use Rattle.std.specs.Ordering.{nat_cmp}
use Rattle.graph_bytes.specs.Fits.{IsSmall, FitsRow}
use Rattle.graph_model.specs.Edges.{edges_in, is_once_each}
use Rattle.graph_model.specs.declared.call_id.CallId.{CallId}
use Rattle.graph_model.specs.declared.edge_id.EdgeId.{EdgeId}
use Rattle.graph_model.specs.declared.half.Half.{Half}
use Rattle.graph_model.specs.declared.op.Op.{Op}
use Rattle.graph_model.specs.declared.op.Op.TheVariants.{PutVertex, DelVertex}
use Rattle.graph_model.specs.declared.val.Val.{Val}
use Rattle.graph_model.specs.declared.vid.Vid.{Vid}
use Rattle.kv_part.specs.Store.{Contents, written}
use Rattle.kv_part.specs.declared.batch.Write.{Write}
use Rattle.maps.specs.Keys.{has_key}
use Rattle.maps.specs.Lists.{put_all}
use Rattle.part_keys.specs.KeyOrder.{tag_at}
use Rattle.part_keys.specs.Keys.{FitsKey}
use Rattle.part_keys.specs.declared.entry.PartEntry.TheVariants.{Remote, Fence, Vertex}
use Rattle.part_keys.specs.declared.key.Key.TheVariants.{Tag}
use Rattle.part_rules.specs.Part.{Part, guard_of, is_fresh, all_written}
use Rattle.part_rules.specs.Machine.{raising, in_halves, in_written, keeping, vertex_written}
use Rattle.part_rules.specs.declared.applied.Applied.{Applied}
use Rattle.part_rules.specs.declared.applied.Applied.TheVariants.{Stale, Done, Fenced, Skipped, Finished, Nothing}
use Rattle.part_rules.specs.declared.kept.Outcome.TheVariants as kept
use Rattle.part_store.specs.Keeps.{Keeps, FitsInto, FitsTag}
use Rattle.part_store.specs.Reads.{guard_in_store, last_in_store, tag_is_in}
use Rattle.part_store.specs.Settings.{IsSetting}
use Rattle.part_store.specs.Writes.{guard_writes, in_writes, client_writes, tag_writes, tag_removals}
use Rattle.part_store.specs.declared.setting.Setting.{Setting}
use Rattle.part_store.proofs.Changes.{keeps_guard, keeps_ins, keeps_client, keeps_tag}
use Rattle.part_store.proofs.Doubling.{written-append, keeps_vertex_gone}
use Rattle.part_store.proofs.Reading.{guard_is, tag_is}
use Rattle.part_machine.specs.Calls.{seen_by, finished}
use Rattle.part_machine.specs.Chains.{Chains}
use Rattle.part_machine.specs.Plans.{IsState, IsNext, IsPlan}
use Rattle.part_machine.proofs.States.{plan_of, still_plan, keep_plan, seen_plan, new_call, stays, client_fits, guard_fits}

module _ (s : Setting) (is : IsSetting s) {next index : ℕ} {p : Part} {m : Contents} {chains : Chains} (is-next : IsNext next index) (st : IsState s next p m chains) where
  module _ (source term v : ℕ) (small : IsSmall source) where
    guard_read : guard_of p source ≡ guard_in_store s m source
    guard_read = sym (guard_is s p m st.keeps source (guard_fits s is source small))

    raised : term < 2 ^ 64 → Keeps s (raising p source term) (written m (guard_writes s source term))
    raised fits = keeps_guard s is.kind p m st.keeps source term (guard_fits s is source small) fits

    -- a leader of a greater term was here
    pub remote_stale : (list : List (EdgeId × Half)) → nat_lt term (guard_in_store s m source) ≡ true → IsPlan s index (Remote source term v list) p m chains (record { batch = []; turn = None; answer = Stale (guard_in_store s m source) })
    remote_stale list stale = still_plan s is is-next st (Remote source term v list) (Stale (guard_in_store s m source))
        (ap (λ (g : ℕ). cond (nat_lt term g) (p, Stale g) (record (raising p source term) { inn = in_written p v list }, Done)) guard_read
        ∙ ap (λ b. cond b (p, Stale (guard_in_store s m source)) (record (raising p source term) { inn = in_written p v list }, Done)) stale)

    pub fence_stale : (edges : List EdgeId) → nat_lt term (guard_in_store s m source) ≡ true → IsPlan s index (Fence source term v edges) p m chains (record { batch = []; turn = None; answer = Stale (guard_in_store s m source) })
    fence_stale edges stale = still_plan s is is-next st (Fence source term v edges) (Stale (guard_in_store s m source))
        (ap (λ (g : ℕ). cond (nat_lt term g) (p, Stale g) (raising p source term, Fenced (all_written p v edges))) guard_read
        ∙ ap (λ b. cond b (p, Stale (guard_in_store s m source)) (raising p source term, Fenced (all_written p v edges))) stale)

    -- the guard is raised, and the in-halves that are fresh are written
    pub remote_plan : (list fresh : List (EdgeId × Half)) → nat_lt term (guard_in_store s m source) ≡ false → fresh ≡ filter (is_fresh p v) list → term < 2 ^ 64 → v < 2 ^ 64
        → AllByRecursion (FitsInto s) fresh → is_once_each (edges_in fresh) ≡ true
        → IsPlan s index (Remote source term v list) p m chains (record { batch = guard_writes s source term ++ in_writes s v fresh; turn = None; answer = Done })
    remote_plan list fresh newer left term-fits v-fits fits once =
        let q : Part = record (raising p source term) { inn = in_written p v list } in
        let writes = guard_writes s source term in
        let all : Keeps s q (written m (writes ++ in_writes s v fresh)) =
        subst (Keeps s q) (sym (written-append m writes (in_writes s v fresh)))
        (subst (λ (l : List (EdgeId × Half)). Keeps s (record (raising p source term) { inn = put_all p.inn (in_halves v l) }) (written (written m writes) (in_writes s v fresh))) left
        (keeps_ins s (raising p source term) v fresh fits is.kind (written m writes) (raised term-fits) once v-fits)) in
        plan_of s is is-next st (Remote source term v list) (record { batch = writes ++ in_writes s v fresh; turn = None; answer = Done }) (q, Done)
        (ap (λ (g : ℕ). cond (nat_lt term g) (p, Stale g) (q, Done)) guard_read ∙ ap (λ b. cond b (p, Stale (guard_in_store s m source)) (q, Done)) newer)
        (stays s is is-next st q (written m (writes ++ in_writes s v fresh)) refl all) refl

    -- the guard is raised, and the answer tells of the in-halves
    pub fence_plan : (edges : List EdgeId) (told : Bool) → nat_lt term (guard_in_store s m source) ≡ false → told ≡ all_written p v edges → term < 2 ^ 64
        → IsPlan s index (Fence source term v edges) p m chains (record { batch = guard_writes s source term; turn = None; answer = Fenced told })
    fence_plan edges told newer is-told fits =
        plan_of s is is-next st (Fence source term v edges) (record { batch = guard_writes s source term; turn = None; answer = Fenced told }) (raising p source term, Fenced (all_written p v edges))
        (ap (λ (g : ℕ). cond (nat_lt term g) (p, Stale g) (raising p source term, Fenced (all_written p v edges))) guard_read
        ∙ ap (λ b. cond b (p, Stale (guard_in_store s m source)) (raising p source term, Fenced (all_written p v edges))) newer)
        (stays s is is-next st (raising p source term) (written m (guard_writes s source term)) refl (raised fits)) (ap (λ b. Fenced b) is-told)

  -- ---- vertices

  module _ (id : CallId) (small : IsSmall id.client) where
    -- a call that was seen
    pub vertex_seen : (op : Op) (a : Applied) → seen_by id (last_in_store s m id.client) ≡ Some a → IsPlan s index (Vertex id op) p m chains (record { batch = []; turn = None; answer = a })
    vertex_seen op a seen = seen_plan s is is-next st (Vertex id op) id (vertex_written p id op) a refl small seen

    module _ (new : seen_by id (last_in_store s m id.client) ≡ None) where
      -- an op that is no change of a vertex
      pub vertex_nothing : (op : Op) → vertex_written p id op ≡ (p, Nothing) → IsPlan s index (Vertex id op) p m chains (record { batch = []; turn = None; answer = Nothing })
      vertex_nothing op none = still_plan s is is-next st (Vertex id op) Nothing (new_call s is is-next st id (vertex_written p id op) small new ∙ none)

      -- a call that finishes behind some writes
      finishes : (op : Op) (q : Part) (writes : List Write) → vertex_written p id op ≡ (record q { clients = insert p.clients id.client (record { number = id.number; outcome = kept.Fine }) }, Finished id)
          → q.clients ≡ p.clients → q.chains ≡ p.chains → Keeps s q (written m writes) → id.number < 2 ^ 64 → IsPlan s index (Vertex id op) p m chains (finished s id writes)
      finishes op q writes is-q same chains-same keeps number =
          let last = client_writes s id.client (record { number = id.number; outcome = kept.Fine }) in
          let r : Part = record q { clients = insert q.clients id.client (record { number = id.number; outcome = kept.Fine }) } in
          let all : Keeps s r (written m (writes ++ last)) =
          subst (Keeps s r) (sym (written-append m writes last))
          (keeps_client s is.kind q (written m writes) keeps id.client (record { number = id.number; outcome = kept.Fine }) (client_fits s is id.client small) number tt) in
          plan_of s is is-next st (Vertex id op) (finished s id writes) (r, Finished id)
          (new_call s is is-next st id (vertex_written p id op) small new ∙ is-q ∙ ap (λ c. (record q { clients = insert c id.client (record { number = id.number; outcome = kept.Fine }) }, Finished id)) (sym same))
          (stays s is is-next st r (written m (writes ++ last)) chains-same all) refl

      module _ (v : Vid) (tag : ℕ) (vals : List Val) (absent : Bool) (place : FitsKey s.ids (Tag s.part v tag)) where
        -- a row that is here is left with the flag
        pub tag_skipped : absent ≡ true → tag_is_in s m v tag ≡ true → id.number < 2 ^ 64
            → IsPlan s index (Vertex id (PutVertex v tag vals absent)) p m chains (record { batch = client_writes s id.client (record { number = id.number; outcome = kept.Skipped }); turn = None; answer = Skipped })
        tag_skipped flag there number = keep_plan s is is-next st (Vertex id (PutVertex v tag vals absent)) id kept.Skipped Skipped
            (new_call s is is-next st id (vertex_written p id (PutVertex v tag vals absent)) small new
            ∙ ap (λ b. cond (b && contains_key p.tags (tag_at v tag)) (keeping p id kept.Skipped, Skipped) (record (keeping p id kept.Fine) { tags = insert p.tags (tag_at v tag) vals }, Finished id)) flag
            ∙ ap (λ b. cond b (keeping p id kept.Skipped, Skipped) (record (keeping p id kept.Fine) { tags = insert p.tags (tag_at v tag) vals }, Finished id)) (sym (tag_is s p m st.keeps v tag place) ∙ there))
            small number tt

        -- else the row is written
        pub tag_written : absent && tag_is_in s m v tag ≡ false → FitsRow vals → id.number < 2 ^ 64 → IsPlan s index (Vertex id (PutVertex v tag vals absent)) p m chains (finished s id (tag_writes s v tag vals))
        tag_written out fits number = finishes (PutVertex v tag vals absent) (record p { tags = insert p.tags (tag_at v tag) vals }) (tag_writes s v tag vals)
            (ap (λ b. cond (absent && b) (keeping p id kept.Skipped, Skipped) (record (keeping p id kept.Fine) { tags = insert p.tags (tag_at v tag) vals }, Finished id)) (sym (tag_is s p m st.keeps v tag place))
            ∙ ap (λ b. cond b (keeping p id kept.Skipped, Skipped) (record (keeping p id kept.Fine) { tags = insert p.tags (tag_at v tag) vals }, Finished id)) out)
            refl refl (keeps_tag s is.kind p m st.keeps v tag vals place fits) number

      -- all tags of the vertex are removed
      pub tags_removed : (v : Vid) (tags : List ℕ) → AllByRecursion (FitsTag s v) tags → ((t : ℕ) → contains_key p.tags (tag_at v t) ≡ true → has_key nat_cmp t tags ≡ true) → id.number < 2 ^ 64
          → IsPlan s index (Vertex id (DelVertex v)) p m chains (finished s id (tag_removals s v tags))
      tags_removed v tags fits all number = finishes (DelVertex v) _ (tag_removals s v tags) refl refl refl (keeps_vertex_gone s is.kind v p m tags st.keeps fits all) number

-- a tag that is there has a key
pub tag_place : (s : Setting) (p : Part) (m : Contents) → Keeps s p m → (v : Vid) (tag : ℕ) → contains_key p.tags (tag_at v tag) ≡ true → FitsKey s.ids (Tag s.part v tag)
tag_place s p m keeps v tag there = place_of (get p.tags (tag_at v tag)) refl there
  where
    place_of : (o : Option (List Val)) → get p.tags (tag_at v tag) ≡ o → is_some o ≡ true → FitsKey s.ids (Tag s.part v tag)
    place_of None is there = absurd cc
    place_of (Some vals) is there = (keeps.fits.tags (tag_at v tag) vals is).0
