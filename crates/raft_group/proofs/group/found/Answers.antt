use Rattle.std.proofs.Common.{◌≡◌, ◌+◌, [], ◌∷◌, ◌++◌, take, get_or, true, refl, ap, sym, subst, ◌∙◌, append_assoc}
use Rattle.std.proofs.lemmas.List.{take_more}
use Rattle.raft_group.specs.declared.placed.PlacedPeer.{PlacedPeer}
use Rattle.raft_group.specs.Held.{AreFounded}
use Rattle.raft_group.proofs.Founding.{found_one}
use Rattle.raft_group.proofs.group.found.Goals as goal

pub loop-id-preserved : goal.loop-id-preserved
loop-id-preserved c = λ before h.
    let first = c.args.first.now in
    let ids = c.args.ids.now in
    let i = c.loop-id.id-index in
    let id = get_or ids i 0 in
    let now : PlacedPeer = record { is_member = true; core = c.in_ok-core.core } in
    let one = found_one first (before ++ take i ids) c.loop-id.peers id now refl c.in_ok-core.ensures (c.loop-id.invariant before h) in
    let e : before ++ take (i + 1) ids ≡ (before ++ take i ids) ++ id ∷ [] = ap (λ xs. before ++ xs) (take_more ids i 0 c.loop-id-test.true) ∙ sym (append_assoc before (take i ids) (id ∷ [])) in
    subst (λ xs. AreFounded first xs c.put.new.self) (sym e) (subst (AreFounded first ((before ++ take i ids) ++ id ∷ [])) (sym c.in_ok-put.ensures) one)
