use Rattle.std.proofs.Common.{List, IfOk, sym, subst}
use Rattle.graph_model.specs.declared.edge_id.EdgeId.{EdgeId}
use Rattle.part_keys.specs.declared.entry.PartEntry.{PartEntry}
use Rattle.part_keys.specs.declared.entry.PartEntry.TheVariants as entry
use Rattle.part_machine.specs.Chains.{standing}
use Rattle.part_machine.specs.Plans.{IsPlan}
use Rattle.part_machine.proofs.planning.plan_entry.Goals as goal

pub returns-in-Prime : goal.returns-in-Prime
returns-in-Prime g c = λ p next is-next st.
    subst (λ (e : PartEntry). IfOk c.plan_prime.result (IsPlan c.args.s c.args.index e p (g.S.KeyStore.meaning c.args.store.now) (standing c.args.places.now.entries))) (sym c.in-Prime.is) (c.plan_prime.ensures p _ next is-next st)

pub returns-in-Local : goal.returns-in-Local
returns-in-Local g c = λ p next is-next st.
    subst (λ (e : PartEntry). IfOk c.plan_local.result (IsPlan c.args.s c.args.index e p (g.S.KeyStore.meaning c.args.store.now) (standing c.args.places.now.entries))) (sym c.in-Local.is) (c.plan_local.ensures p next c.args.index is-next st)

pub returns-in-Double : goal.returns-in-Double
returns-in-Double g c = λ p next is-next st.
    subst (λ (e : PartEntry). IfOk c.plan_double.result (IsPlan c.args.s c.args.index e p (g.S.KeyStore.meaning c.args.store.now) (standing c.args.places.now.entries))) (sym c.in-Double.is) (c.plan_double.ensures p next c.args.index is-next st)

pub returns-in-Close : goal.returns-in-Close
returns-in-Close g c = λ p next is-next st.
    subst (λ (e : PartEntry). IfOk c.plan_close.result (IsPlan c.args.s c.args.index e p (g.S.KeyStore.meaning c.args.store.now) (standing c.args.places.now.entries))) (sym c.in-Close.is) (c.plan_close.ensures p next c.args.index is-next st)

pub returns-in-Abort : goal.returns-in-Abort
returns-in-Abort g c = λ p next is-next st.
    subst (λ (e : PartEntry). IfOk c.plan_abort.result (IsPlan c.args.s c.args.index e p (g.S.KeyStore.meaning c.args.store.now) (standing c.args.places.now.entries))) (sym c.in-Abort.is) (c.plan_abort.ensures p next c.args.index is-next st)

pub returns-in-Remote : goal.returns-in-Remote
returns-in-Remote g c = λ p next is-next st.
    subst (λ (e : PartEntry). IfOk c.plan_remote.result (IsPlan c.args.s c.args.index e p (g.S.KeyStore.meaning c.args.store.now) (standing c.args.places.now.entries))) (sym c.in-Remote.is) (c.plan_remote.ensures p _ next c.args.index is-next st)

pub returns-in-Fence : goal.returns-in-Fence
returns-in-Fence g c = λ p next is-next st.
    subst (λ (e : PartEntry). IfOk c.plan_fence.result (IsPlan c.args.s c.args.index e p (g.S.KeyStore.meaning c.args.store.now) (standing c.args.places.now.entries))) (sym c.in-Fence.is) (subst (λ (l : List EdgeId). IfOk c.plan_fence.result (IsPlan c.args.s c.args.index (entry.Fence c.in-Fence.source c.in-Fence.term c.in-Fence.v l) p (g.S.KeyStore.meaning c.args.store.now) (standing c.args.places.now.entries))) c.as_slice.ensures.list (c.plan_fence.ensures p _ next c.args.index is-next st))

pub returns-in-Vertex : goal.returns-in-Vertex
returns-in-Vertex g c = λ p next is-next st.
    subst (λ (e : PartEntry). IfOk c.plan_vertex.result (IsPlan c.args.s c.args.index e p (g.S.KeyStore.meaning c.args.store.now) (standing c.args.places.now.entries))) (sym c.in-Vertex.is) (c.plan_vertex.ensures p _ next c.args.index is-next st)
