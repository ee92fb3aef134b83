use Rattle.std.proofs.Common.{◌≡◌, ◌+◌, ◌++◌, ◌∷◌, [], ℕ, List, take, drop, ap, sym, subst, ◌∙◌}
use Rattle.std.proofs.lemmas.List.{drop_more, take_more}
use Rattle.part_keys.specs.declared.entry.PartEntry.{PartEntry}
use Rattle.part_store.specs.declared.setting.Setting.{Setting}
use Rattle.part_machine.specs.Playing.{AreTaken, IsRun}
use Rattle.part_machine.proofs.Oks.{on_err}
use Rattle.part_machine.proofs.Runs.{run_state, run_goes_on, run_stays}
use Rattle.part_machine.proofs.playing.play_all.Goals as goal

pub play-requires-clause-own : goal.play-requires-clause-own
play-requires-clause-own g c =
    (run_state g.S.KeyStore.meaning g.S.KeyStore.has_place c.args.machine.now c.loop-placed.machine (take c.loop-placed.placed-index c.args.list.now) c.loop-placed.backs.items c.loop-placed.invariant.run c.requires.state.0 c.requires.state.1).own

pub returns-in_err-play-clause-err : goal.returns-in_err-play-clause-err
returns-in_err-play-clause-err g c = on_err c.from_residual.result _ (
  take c.loop-placed.placed-index c.args.list.now,
  run_stays g.S.KeyStore.meaning g.S.KeyStore.has_place c.args.machine.now c.loop-placed.machine c.play.new.machine (take c.loop-placed.placed-index c.args.list.now) c.loop-placed.backs.items c.play.new.backs.items c.loop-placed.invariant.run c.in_err-play.ensures.err,
)

pub loop-placed-preserved : goal.loop-placed-preserved
loop-placed-preserved g c =
    let i = c.loop-placed.placed-index in
    let x = c.placed-item.result in
    let rest = drop (i + 1) c.args.list.now in
    let e : drop i c.args.list.now ≡ x ∷ rest = drop_more c.args.list.now i x c.loop-placed-test.true ∙ ap (λ y. y ∷ rest) (sym c.placed-item.is) in
    let more : take (i + 1) c.args.list.now ≡ take i c.args.list.now ++ x ∷ [] = take_more c.args.list.now i x c.loop-placed-test.true ∙ ap (λ y. take i c.args.list.now ++ y ∷ []) (sym c.placed-item.is) in
    let taken = subst (AreTaken c.loop-placed.machine.setting c.loop-placed.machine.next) e c.loop-placed.invariant.taken in
    let played = c.in_ok-play.ensures.ok in
    record {
      run = subst (λ (done : List (ℕ × PartEntry)). IsRun g.S.KeyStore.meaning g.S.KeyStore.has_place c.args.machine.now done c.play.new.machine c.play.new.backs.items) (sym more)
          (run_goes_on g.S.KeyStore.meaning g.S.KeyStore.has_place c.args.machine.now c.loop-placed.machine c.play.new.machine (take i c.args.list.now) c.loop-placed.backs.items c.play.new.backs.items x.0 x.1 c.loop-placed.invariant.run played taken.0);
      taken = subst (λ (s : Setting). AreTaken s c.play.new.machine.next rest) (sym played.setting) (subst (λ (n : ℕ). AreTaken c.loop-placed.machine.setting n rest) (sym played.next) taken.2);
    }
