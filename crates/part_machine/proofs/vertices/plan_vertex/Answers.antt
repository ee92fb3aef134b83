use Rattle.std.proofs.Common.{◌≡◌, ◌++◌, List, IfOk, refl, sym, ap, subst, ◌∙◌}
use Rattle.std.proofs.lemmas.Bool.{and_parts}
use Rattle.graph_model.specs.declared.op.Op.{Op}
use Rattle.kv_part.specs.declared.batch.Write.{Write}
use Rattle.part_keys.specs.declared.entry.PartEntry.TheVariants as entry
use Rattle.part_rules.specs.declared.kept.Outcome.TheVariants as kept
use Rattle.part_store.specs.Keeps.{FitsOutcome}
use Rattle.part_store.specs.Reads.{tag_is_in}
use Rattle.part_store.specs.Writes.{tag_writes, tag_removals}
use Rattle.part_store.proofs.TagsRead.{tags_all}
use Rattle.part_machine.specs.Calls.{finished}
use Rattle.part_machine.specs.Plans.{IsPlan}
use Rattle.part_machine.specs.declared.plan.Plan.{Plan}
use Rattle.part_machine.proofs.Oks.{ok_is, ok_just}
use Rattle.std.specs.Ordering.{nat_cmp}
use Rattle.maps.specs.Keys.{has_key}
use Rattle.part_machine.proofs.Remotings.{vertex_seen, vertex_nothing, tag_skipped, tag_written, tags_removed, tag_place}
use Rattle.part_machine.proofs.vertices.plan_vertex.Goals as goal

pub returns-in-Some : goal.returns-in-Some
returns-in-Some g c = λ p chains next index is-next st.
    rw c.still.ensures (vertex_seen c.args.s c.requires.setting is-next st c.args.id c.requires.client c.args.op.now c.in-Some.answer (sym c.in-Some.ensures))

pub returns-then-tag_stays : goal.returns-then-tag_stays
returns-then-tag_stays g c = λ p chains next index is-next st.
    let both = and_parts c.in-PutVertex.absent (tag_is_in c.args.s (g.S.KeyStore.meaning c.args.store.now) c.in-PutVertex.v c.in-PutVertex.tag) (sym c.tag_stays.ensures.is ∙ c.if-tag_stays.true) in
    subst (λ (op : Op). IfOk c.keep.result (IsPlan c.args.s index (entry.Vertex c.args.id op) p (g.S.KeyStore.meaning c.args.store.now) chains)) (sym c.in-PutVertex.is)
    (ok_is (IsPlan c.args.s index (entry.Vertex c.args.id _) p (g.S.KeyStore.meaning c.args.store.now) chains) _ (FitsOutcome kept.Skipped) c.keep.result c.keep.ensures.plan c.keep.ensures.fits
    (λ fits. tag_skipped c.args.s c.requires.setting is-next st c.args.id c.requires.client (sym c.in_default.ensures) c.in-PutVertex.v c.in-PutVertex.tag c.in-PutVertex.row c.in-PutVertex.absent c.tag_stays.ensures.fits both.0 both.1 c.keep.ensures.number))

pub returns-in_ok-push_tag-in-PutVertex : goal.returns-in_ok-push_tag-in-PutVertex
returns-in_ok-push_tag-in-PutVertex g c = λ p chains next index is-next st.
    let batch = c.in_ok-push_tag-in-PutVertex.ensures.ok ∙ ap (λ (b : List Write). b ++ tag_writes c.args.s c.in-PutVertex.v c.in-PutVertex.tag c.in-PutVertex.row) c.new-batch.ensures in
    subst (λ (op : Op). IfOk c.finish.result (IsPlan c.args.s index (entry.Vertex c.args.id op) p (g.S.KeyStore.meaning c.args.store.now) chains)) (sym c.in-PutVertex.is)
    (ok_just (IsPlan c.args.s index (entry.Vertex c.args.id _) p (g.S.KeyStore.meaning c.args.store.now) chains) _ c.finish.result
    (subst (λ (b : List Write). IfOk c.finish.result (λ (plan : Plan). plan ≡ finished c.args.s c.args.id b)) batch c.finish.ensures.plan)
    (tag_written c.args.s c.requires.setting is-next st c.args.id c.requires.client (sym c.in_default.ensures) c.in-PutVertex.v c.in-PutVertex.tag c.in-PutVertex.row c.in-PutVertex.absent c.tag_stays.ensures.fits
    (sym c.tag_stays.ensures.is ∙ c.if-tag_stays.false) c.in_ok-push_tag-in-PutVertex.ensures.fits c.finish.ensures.number))

pub returns-in_ok-push_no_tags-in-DelVertex : goal.returns-in_ok-push_no_tags-in-DelVertex
returns-in_ok-push_no_tags-in-DelVertex g c = λ p chains next index is-next st.
    let tags = c.as_slice.ensures ∙ c.in_ok-tags-in-DelVertex.ensures in
    let batch = c.in_ok-push_no_tags-in-DelVertex.ensures.ok ∙ ap (λ (b : List Write). b ++ tag_removals c.args.s c.in-DelVertex.v c.as_slice.result.now) c.new-batch.ensures in
    subst (λ (op : Op). IfOk c.finish-in-DelVertex.result (IsPlan c.args.s index (entry.Vertex c.args.id op) p (g.S.KeyStore.meaning c.args.store.now) chains)) (sym c.in-DelVertex.is)
    (ok_just (IsPlan c.args.s index (entry.Vertex c.args.id _) p (g.S.KeyStore.meaning c.args.store.now) chains) _ c.finish-in-DelVertex.result
    (subst (λ (b : List Write). IfOk c.finish-in-DelVertex.result (λ (plan : Plan). plan ≡ finished c.args.s c.args.id b)) batch c.finish-in-DelVertex.ensures.plan)
    (tags_removed c.args.s c.requires.setting is-next st c.args.id c.requires.client (sym c.in_default.ensures) c.in-DelVertex.v c.as_slice.result.now c.in_ok-push_no_tags-in-DelVertex.ensures.fits
    (λ t there. ap (λ l. has_key nat_cmp t l) tags ∙ tags_all c.args.s p (g.S.KeyStore.meaning c.args.store.now) st.keeps c.in-DelVertex.v t (tag_place c.args.s p (g.S.KeyStore.meaning c.args.store.now) st.keeps c.in-DelVertex.v t there) there)
    c.finish-in-DelVertex.ensures.number))

pub returns-in-PutEdges : goal.returns-in-PutEdges
returns-in-PutEdges g c = λ p chains next index is-next st.
    rw (c.in-PutEdges.is, c.still-in-PutEdges.ensures) (vertex_nothing c.args.s c.requires.setting is-next st c.args.id c.requires.client (sym c.in_default.ensures) _ refl)

pub returns-in-DelEdges : goal.returns-in-DelEdges
returns-in-DelEdges g c = λ p chains next index is-next st.
    rw (c.in-DelEdges.is, c.still-in-DelEdges.ensures) (vertex_nothing c.args.s c.requires.setting is-next st c.args.id c.requires.client (sym c.in_default.ensures) _ refl)

pub returns-in-Read : goal.returns-in-Read
returns-in-Read g c = λ p chains next index is-next st.
    rw (c.in-Read.is, c.still-in-Read.ensures) (vertex_nothing c.args.s c.requires.setting is-next st c.args.id c.requires.client (sym c.in_default.ensures) _ refl)
