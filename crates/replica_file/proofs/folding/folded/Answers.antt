use Rattle.std.proofs.Common.{◌≡◌, ◌+◌, true, List, ◌∷◌, ℕ, drop, ap, sym, subst, ◌∙◌, arith}
use Rattle.std.proofs.lemmas.List.{drop_more}
use Rattle.replica_file.specs.Durable.{Durable}
use Rattle.replica_file.specs.Grammar.{all_may}
use Rattle.replica_file.specs.Folded.{first_gate, folded}
use Rattle.replica_file.specs.Seen.{durable_of, record_of, last_gate}
use Rattle.replica_file.proofs.Folds.{preserved}
use Rattle.replica_file.proofs.Gates.{gate_fits}
use Rattle.replica_file.proofs.Own.{kept_own}
use Rattle.replica_file.proofs.folding.folded.Goals as goal

pub overflow_add-result : goal.overflow_add-result
overflow_add-result g c =
    let all = c.as_slice-body-items.result.now in
    let at = c.loop-body.body-index in
    let rest = drop (c.loop-body.body-index + 1) c.args.bodies.now in
    let seen = drop_more all at c.body-item.result c.loop-body-test.true ∙ ap (λ x. x ∷ drop (at + 1) all) (sym c.body-item.is) in
    let e = subst (λ (l : List (List ℕ)). drop at l ≡ c.body-item.result ∷ drop (at + 1) l) c.as_slice-body-items.ensures seen in
    let fits = gate_fits c.loop-body.gate c.body-item.result rest (drop c.loop-body.body-index c.args.bodies.now) (last_gate first_gate c.args.bodies.now) e c.loop-body.invariant.placed c.requires in
    omega (arith, fits)

pub overflow_add-result-in-Err-Misfit : goal.overflow_add-result-in-Err-Misfit
overflow_add-result-in-Err-Misfit g c =
    let all = c.as_slice-body-items.result.now in
    let at = c.loop-body.body-index in
    let rest = drop (c.loop-body.body-index + 1) c.args.bodies.now in
    let seen = drop_more all at c.body-item.result c.loop-body-test.true ∙ ap (λ x. x ∷ drop (at + 1) all) (sym c.body-item.is) in
    let e = subst (λ (l : List (List ℕ)). drop at l ≡ c.body-item.result ∷ drop (at + 1) l) c.as_slice-body-items.ensures seen in
    let fits = gate_fits c.loop-body.gate c.body-item.result rest (drop c.loop-body.body-index c.args.bodies.now) (last_gate first_gate c.args.bodies.now) e c.loop-body.invariant.placed c.requires in
    omega (arith, fits, c.len.ensures, c.saturating_sub-place.ensures)

pub overflow_add-gate : goal.overflow_add-gate
overflow_add-gate g c =
    let all = c.as_slice-body-items.result.now in
    let at = c.loop-body.body-index in
    let rest = drop (c.loop-body.body-index + 1) c.args.bodies.now in
    let seen = drop_more all at c.body-item.result c.loop-body-test.true ∙ ap (λ x. x ∷ drop (at + 1) all) (sym c.body-item.is) in
    let e = subst (λ (l : List (List ℕ)). drop at l ≡ c.body-item.result ∷ drop (at + 1) l) c.as_slice-body-items.ensures seen in
    let fits = gate_fits c.loop-body.gate c.body-item.result rest (drop c.loop-body.body-index c.args.bodies.now) (last_gate first_gate c.args.bodies.now) e c.loop-body.invariant.placed c.requires in
    omega (arith, fits)

pub overflow_add-gate-in-loop-body : goal.overflow_add-gate-in-loop-body
overflow_add-gate-in-loop-body g c =
    let all = c.as_slice-body-items.result.now in
    let at = c.loop-body.body-index in
    let rest = drop (c.loop-body.body-index + 1) c.args.bodies.now in
    let seen = drop_more all at c.body-item.result c.loop-body-test.true ∙ ap (λ x. x ∷ drop (at + 1) all) (sym c.body-item.is) in
    let e = subst (λ (l : List (List ℕ)). drop at l ≡ c.body-item.result ∷ drop (at + 1) l) c.as_slice-body-items.ensures seen in
    let fits = gate_fits c.loop-body.gate c.body-item.result rest (drop c.loop-body.body-index c.args.bodies.now) (last_gate first_gate c.args.bodies.now) e c.loop-body.invariant.placed c.requires in
    omega (arith, fits, c.len-in-loop-body.ensures)

pub loop-body-preserved : goal.loop-body-preserved
loop-body-preserved g c =
    let all = c.as_slice-body-items.result.now in
    let at = c.loop-body.body-index in
    let rest = drop (c.loop-body.body-index + 1) c.args.bodies.now in
    let seen = drop_more all at c.body-item.result c.loop-body-test.true ∙ ap (λ x. x ∷ drop (at + 1) all) (sym c.body-item.is) in
    let e = subst (λ (l : List (List ℕ)). drop at l ≡ c.body-item.result ∷ drop (at + 1) l) c.as_slice-body-items.ensures seen in
    let allowed = g.P.Payloads.allowed c.args.payloads.now in
    record {
      fold = preserved allowed c.loop-body.gate c.len-in-loop-body.result (durable_of c.loop-body.left) (durable_of c.keep.new.self) c.body-item.result c.as_slice.result.now (drop c.loop-body.body-index c.args.bodies.now) rest (record_of c.in-Ok.record) (folded allowed c.args.bodies.now) e c.as_slice.ensures c.len-in-loop-body.ensures c.in-Ok.ensures.read c.in_ok-keep.ensures.kept c.loop-body.invariant.fold;
      own = subst (λ (d : Durable). all_may allowed d.log ≡ true) (sym c.in_ok-keep.ensures.kept) (kept_own allowed (durable_of c.loop-body.left) (record_of c.in-Ok.record) c.loop-body.invariant.own c.in-Ok.ensures.own);
      placed = rw c.len-in-loop-body.ensures (subst (λ (l : List (List ℕ)). last_gate c.loop-body.gate l ≡ last_gate first_gate c.args.bodies.now) e c.loop-body.invariant.placed);
    }
