use Rattle.std.proofs.Common.{◌<◌, ◌^◌, List, nat_lt, sym, ap, subst, ◌∙◌, rules, arith}
use Rattle.std.specs.List.{filter}
use Rattle.std.proofs.lemmas.Bool.{lt-ltb}
use Rattle.graph_bytes.specs.Fits.{HasSpellingHalf}
use Rattle.graph_model.specs.Edges.{edges_in, is_once_each}
use Rattle.graph_model.proofs.EdgeLemmas.{edges_held}
use Rattle.graph_model.specs.declared.edge_id.EdgeId.{EdgeId}
use Rattle.graph_model.specs.declared.half.Half.{Half}
use Rattle.part_rules.specs.Part.{is_fresh}
use Rattle.part_store.specs.Settings.{IsInto, AreInto}
use Rattle.part_machine.specs.Edges.{is_lower}
use Rattle.part_machine.proofs.Left.{all_left, once_left}
use Rattle.part_machine.proofs.Oks.{not_below}
use Rattle.part_machine.proofs.Remotings.{remote_stale, remote_plan}
use Rattle.part_machine.proofs.remoting.plan_remote.Goals as goal

pub returns-then-term-kept : goal.returns-then-term-kept
returns-then-term-kept g c = λ p chains next index is-next st.
    rw (c.still.ensures, c.guard_at-kept.ensures.is)
    (remote_stale c.args.s c.requires.setting is-next st c.args.source c.args.term c.args.v c.requires.source c.args.list.now
    (ap (λ k. nat_lt c.args.term k) (sym c.guard_at-kept.ensures.is) ∙ lt-ltb c.args.term c.guard_at-kept.result (omega (arith, c.if-term-kept.true))))

pub push_ins-requires-clause-into : goal.push_ins-requires-clause-into
push_ins-requires-clause-into g c =
    let left = c.in_ok-fresh.ensures.left ∙ ap (λ l. filter (is_lower c.args.s (g.S.KeyStore.meaning c.args.store.now) c.args.v) l) c.as_slice.ensures.list in
    subst (AreInto c.args.s) (sym (c.as_slice-2.ensures ∙ left))
    (all_left (λ (x : EdgeId × Half). IsInto c.args.s x.0 × HasSpellingHalf x.1) (is_lower c.args.s (g.S.KeyStore.meaning c.args.store.now) c.args.v) c.args.list.now c.requires.into)

pub returns : goal.returns
returns g c = λ p chains next index is-next st.
    let left = c.in_ok-fresh.ensures.left ∙ ap (λ l. filter (is_lower c.args.s (g.S.KeyStore.meaning c.args.store.now) c.args.v) l) c.as_slice.ensures.list in
    let small : c.args.v < 2 ^ 64 = search rules in
    rw (c.in_ok-push_ins.ensures.ok, c.in_ok-push_guard.ensures.ok, c.new-batch.ensures)
    (remote_plan c.args.s c.requires.setting is-next st c.args.source c.args.term c.args.v c.requires.source c.args.list.now c.as_slice-2.result.now
    (ap (λ k. nat_lt c.args.term k) (sym c.guard_at-kept.ensures.is) ∙ not_below c.args.term c.guard_at-kept.result (omega (arith, c.if-term-kept.false)))
    (c.as_slice-2.ensures ∙ c.in_ok-fresh.ensures.fresh p st.keeps ∙ ap (λ l. filter (is_fresh p c.args.v) l) c.as_slice.ensures.list)
    c.push_guard.ensures.fits.1 small c.in_ok-push_ins.ensures.fits
    (ap (λ (l : List (EdgeId × Half)). is_once_each (edges_in l)) (c.as_slice-2.ensures ∙ left)
    ∙ once_left (is_lower c.args.s (g.S.KeyStore.meaning c.args.store.now) c.args.v) c.args.list.now (edges_held (edges_in c.args.list.now) c.as_slice.ensures.edges).once))
