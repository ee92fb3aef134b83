use Rattle.std.proofs.Common.{◌≡◌, ◌+◌, ◌<◌, ◌≤◌, suc, Some, take, length, arith, refl, ap, sym, subst, ◌∙◌}
use Rattle.std.specs.List.{slice_get}
use Rattle.std.proofs.lemmas.Option.{slice_get_read}
use Rattle.graph_model.specs.Contents.{nothing}
use Rattle.graph_model.specs.Changes.{changed, after_all}
use Rattle.graph_model.specs.Alike.{AlikeAt}
use Rattle.graph_model.proofs.Alike.{alike_through, alike_back, changed_alike, skipped, taken_one, aside}
use Rattle.graph_model.proofs.track.made_again.Goals as goal

pub marks-preserved : goal.marks-preserved
marks-preserved c =
    let v = c.args.v.now in
    let xs = c.args.changes.now in
    let step = c.in-Some.step in
    let made = c.marks.made in
    let x = c.index-changes-step.result in
    let next = c.in-Some.ensures.next in
    let fits : c.args.m ≤ length xs = c.requires.fits in
    let within : step < length xs = omega (arith, fits, next.below) in
    let at : slice_get xs step ≡ Some x = slice_get_read xs (length xs) step x refl within c.index-changes-step.is in
    let same = alike_back v _ _ (skipped v nothing xs c.marks.from step next.from_on (aside v xs c.args.marks.now.entries c.marks.from step c.requires.marked next.none)) in
    let then = alike_through v made (after_all nothing (take c.marks.from xs)) (after_all nothing (take step xs)) c.marks.invariant.alike same in
    let one : suc step ≡ step + 1 = omega arith in
    let is : changed (after_all nothing (take step xs)) x ≡ after_all nothing (take (step + 1) xs) = sym (taken_one nothing xs step x at) ∙ ap (λ n. after_all nothing (take n xs)) one in
    record {
      below = omega (arith, next.below);
      alike = subst (λ k. AlikeAt v k (after_all nothing (take (step + 1) xs))) (sym c.in_ok-apply.ensures.ok)
          (subst (λ k. AlikeAt v (changed made x) k) is (changed_alike v made (after_all nothing (take step xs)) x then));
    }

pub returns : goal.returns
returns c =
    let v = c.args.v.now in
    let xs = c.args.changes.now in
    let same = skipped v nothing xs c.marks.from c.args.m c.marks.invariant.below (aside v xs c.args.marks.now.entries c.marks.from c.args.m c.requires.marked c.in_default.ensures.none) in
    alike_through v c.marks.made (after_all nothing (take c.marks.from xs)) (after_all nothing (take c.args.m xs)) c.marks.invariant.alike (alike_back v _ _ same)
