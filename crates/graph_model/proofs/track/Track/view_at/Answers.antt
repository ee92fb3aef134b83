use Rattle.std.proofs.Common.{arith, length, take, ◌≡◌, ◌≤◌, ap, sym, subst, ◌∙◌}
use Rattle.graph_model.specs.Contents.{nothing}
use Rattle.graph_model.specs.State.{at_moment}
use Rattle.graph_model.specs.Changes.{after_all, befores}
use Rattle.graph_model.specs.Views.{view_of}
use Rattle.graph_model.specs.Alike.{vertex_of, AlikeAt}
use Rattle.graph_model.proofs.Alike.{view_alike}
use Rattle.graph_model.proofs.Changing.{moment_now, moment-after, befores-length}
use Rattle.graph_model.proofs.track.Track.view_at.Goals as goal

pub returns-then-m-now : goal.returns-then-m-now
returns-then-m-now c =
    let late : length c.args.self.now.past ≤ c.args.m = subst (λ n. n ≤ c.args.m) c.now.ensures c.if-m-now.true in
    c.in_ok-view.ensures ∙ ap (λ d. view_of c.args.query.now d.contents) c.self.view_is
    ∙ ap (view_of c.args.query.now) (sym (moment_now c.args.self.now.contents c.args.self.now.past c.args.m late))

pub made_again-requires-clause-fits : goal.made_again-requires-clause-fits
made_again-requires-clause-fits c =
    let xs = c.self.inside.changes.items in
    let early = c.if-m-now.false in
    let many : c.now.result ≡ length xs = c.now.ensures ∙ sym (ap (λ d. length d.past) c.self.view_is) ∙ befores-length nothing xs in
    let all : length c.as_slice.result.now ≡ length xs = ap length c.as_slice.ensures.value in
    omega (arith, early, many, all)

pub returns : goal.returns
returns c =
    let xs = c.self.inside.changes.items in
    let q = c.args.query.now in
    let made = c.in_ok-then.then in
    let alike : AlikeAt (vertex_of q) made (after_all nothing (take c.args.m xs)) = subst (λ v. AlikeAt v made (after_all nothing (take c.args.m xs))) c.vertex.ensures
    (subst (λ l. AlikeAt c.vertex.result made (after_all nothing (take c.args.m l))) c.as_slice.ensures.value c.in_ok-then.ensures) in
    c.in_ok-view-2.ensures ∙ view_alike q made (after_all nothing (take c.args.m xs)) alike
    ∙ ap (view_of q) (moment-after nothing xs c.args.m ∙ ap (λ s. at_moment s (befores nothing xs) c.args.m) (sym c.self.invariant.shelf)
    ∙ ap (λ d. at_moment d.contents d.past c.args.m) c.self.view_is)
