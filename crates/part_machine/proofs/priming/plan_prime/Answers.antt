use Rattle.std.proofs.Common.{List, sym, ap, ◌∙◌, subst}
use Rattle.std.specs.List.{AllByRecursion, filter}
use Rattle.std.specs.Option.{option_map}
use Rattle.graph_bytes.specs.Fits.{HasSpellingHalf}
use Rattle.graph_model.specs.Edges.{are_edges, edges_in, is_once_each}
use Rattle.graph_model.proofs.EdgeLemmas.{edges_held}
use Rattle.graph_model.specs.declared.edge_id.EdgeId.{EdgeId}
use Rattle.graph_model.specs.declared.half.Half.{Half}
use Rattle.part_keys.specs.declared.entry.PartEntry.TheVariants as entry
use Rattle.part_rules.specs.Part.{chain_on_any}
use Rattle.part_rules.specs.declared.kept.Outcome.TheVariants as kept
use Rattle.part_store.specs.Keeps.{FitsOut, FitsOutcome}
use Rattle.part_store.specs.Settings.{IsFrom, AreFrom}
use Rattle.part_machine.specs.Edges.{id_of, is_taken, is_left}
use Rattle.part_machine.specs.Plans.{IsPlan}
use Rattle.part_machine.proofs.Left.{all_left, are_left, once_left}
use Rattle.part_machine.proofs.Oks.{ok_is, some_left, none_left, not_empty}
use Rattle.part_machine.proofs.Primings.{prime_seen, prime_conflict, prime_skipped, prime_begun}
use Rattle.part_machine.proofs.priming.plan_prime.Goals as goal

pub returns-in-Some : goal.returns-in-Some
returns-in-Some g c = λ p chains next is-next st.
    rw c.still.ensures (prime_seen c.args.s c.requires.setting is-next st c.args.id c.requires.client c.args.list.now c.args.absent c.in-Some.answer (sym c.in-Some.ensures))

pub returns-in-Some-call_on_any : goal.returns-in-Some-call_on_any
returns-in-Some-call_on_any g c = λ p chains next is-next st.
    ok_is (IsPlan c.args.s c.args.index (entry.Prime c.args.id c.args.list.now c.args.absent) p (g.S.KeyStore.meaning c.args.store.now) chains) _ (FitsOutcome (kept.Conflict c.in-Some-call_on_any.other)) c.keep.result c.keep.ensures.plan c.keep.ensures.fits
    (λ fits. prime_conflict c.args.s c.requires.setting is-next st c.args.id c.requires.client c.args.list.now c.args.absent (sym c.in_default.ensures) c.in-Some-call_on_any.other
    (sym (c.in-Some-call_on_any.ensures.call p st.keeps ∙ ap (λ l. option_map id_of (chain_on_any p (edges_in l))) c.as_slice.ensures.list)) c.keep.ensures.number fits)

pub returns-then-is_empty : goal.returns-then-is_empty
returns-then-is_empty g c = λ p chains next is-next st.
    ok_is (IsPlan c.args.s c.args.index (entry.Prime c.args.id c.args.list.now c.args.absent) p (g.S.KeyStore.meaning c.args.store.now) chains) _ (FitsOutcome kept.Skipped) c.keep-then-is_empty.result c.keep-then-is_empty.ensures.plan c.keep-then-is_empty.ensures.fits
    (λ fits. prime_skipped c.args.s c.requires.setting is-next st c.args.id c.requires.client c.args.list.now c.args.absent (sym c.in_default.ensures)
    (sym (c.in_default-call_on_any.ensures.call p st.keeps ∙ ap (λ l. option_map id_of (chain_on_any p (edges_in l))) c.as_slice.ensures.list))
    (not_empty c.args.list.now c.as_slice.ensures.edges)
    (sym (ap (λ l. filter (is_taken p c.args.absent) l) c.as_slice-2.ensures.list) ∙ sym (c.in_ok-taken.ensures.taken p st.keeps) ∙ none_left _ c.is_empty.result c.is_empty.ensures c.if-is_empty.true)
    c.keep-then-is_empty.ensures.number)

pub new-requires : goal.new-requires
new-requires g c =
    let left = c.in_ok-taken.ensures.left ∙ ap (λ l. filter (is_left c.args.s (g.S.KeyStore.meaning c.args.store.now) c.args.absent) l) c.as_slice-2.ensures.list in
    ap (λ (l : List (EdgeId × Half)). are_edges (edges_in l)) left
    ∙ are_left (is_left c.args.s (g.S.KeyStore.meaning c.args.store.now) c.args.absent) c.args.list.now c.as_slice.ensures.edges
    (λ none. some_left _ c.is_empty.result c.is_empty.ensures c.if-is_empty.false (left ∙ none))

pub begin-requires-clause-from : goal.begin-requires-clause-from
begin-requires-clause-from g c =
    let left = c.in_ok-taken.ensures.left ∙ ap (λ l. filter (is_left c.args.s (g.S.KeyStore.meaning c.args.store.now) c.args.absent) l) c.as_slice-2.ensures.list in
    subst (AreFrom c.args.s) (sym (c.new.ensures ∙ left))
    (all_left (λ (x : EdgeId × Half). IsFrom c.args.s x.0 × HasSpellingHalf x.1) (is_left c.args.s (g.S.KeyStore.meaning c.args.store.now) c.args.absent) c.args.list.now c.requires.from)

pub returns : goal.returns
returns g c = λ p chains next is-next st.
    let left = c.in_ok-taken.ensures.left ∙ ap (λ l. filter (is_left c.args.s (g.S.KeyStore.meaning c.args.store.now) c.args.absent) l) c.as_slice-2.ensures.list in
    let from : AreFrom c.args.s c.new.result = subst (AreFrom c.args.s) (sym (c.new.ensures ∙ left))
    (all_left (λ (x : EdgeId × Half). IsFrom c.args.s x.0 × HasSpellingHalf x.1) (is_left c.args.s (g.S.KeyStore.meaning c.args.store.now) c.args.absent) c.args.list.now c.requires.from) in
    let once = ap (λ (l : List (EdgeId × Half)). is_once_each (edges_in l)) (c.new.ensures ∙ left) ∙ once_left (is_left c.args.s (g.S.KeyStore.meaning c.args.store.now) c.args.absent) c.args.list.now (edges_held (edges_in c.args.list.now) c.as_slice.ensures.edges).once in
    ok_is (IsPlan c.args.s c.args.index (entry.Prime c.args.id c.args.list.now c.args.absent) p (g.S.KeyStore.meaning c.args.store.now) chains) _ (AllByRecursion (FitsOut c.args.s) c.new.result) c.begin.result c.begin.ensures.plan c.begin.ensures.fits
    (λ fits. prime_begun c.args.s c.requires.setting is-next st c.args.id c.requires.client c.args.list.now c.args.absent (sym c.in_default.ensures) c.new.result
    (sym (c.in_default-call_on_any.ensures.call p st.keeps ∙ ap (λ l. option_map id_of (chain_on_any p (edges_in l))) c.as_slice.ensures.list))
    (ap (λ l. filter (is_taken p c.args.absent) l) (sym c.as_slice-2.ensures.list) ∙ sym (c.in_ok-taken.ensures.taken p st.keeps) ∙ sym c.new.ensures)
    (λ none. some_left _ c.is_empty.result c.is_empty.ensures c.if-is_empty.false (sym c.new.ensures ∙ none))
    c.begin.ensures.number once fits from)
