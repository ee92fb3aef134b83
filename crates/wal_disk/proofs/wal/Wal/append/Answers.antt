use Rattle.std.proofs.Common.{rules, ◌≡◌, ◌+◌, ◌-◌, ◌^◌, ◌≤◌, min, [], ◌∷◌, length, inl, sym, ◌∙◌, ap, subst, arith}
use Rattle.std.specs.Option.{option_map}
use Rattle.disk_model.specs.Disk.{Only, written_over}
use Rattle.disk_model.proofs.Moments.{weaker}
use Rattle.byte_fields.specs.Frames.{IsFrame, open_gate}
use Rattle.wal_disk.specs.File.{IsBeforeOrAfter}
use Rattle.wal_disk.proofs.Append.{at_some, if_some, told_before, gate_within, first_image, gate_in_staged, both_writes, settled_after}
use Rattle.wal_disk.proofs.wal.Wal.append.Goals as goal

pub put-requires-clause-inside : goal.put-requires-clause-inside
put-requires-clause-inside g c =
    if_some (g.D.Disk.reads c.self.inside.disk) (λ file. c.saturating_add.result ≤ length file)
    (λ file told. omega (arith, gate_within _ _ _ _ file ((rw (← c.self.view_is) at c.requires.sound).2 file told), c.saturating_add.ensures))

pub returns-in_err-put-clause-any_moment : goal.returns-in_err-put-clause-any_moment
returns-in_err-put-clause-any_moment g c = rw (← c.self.view_is) (λ version bodies body file is sound told.
    let s = sound file told in
    let next : c.saturating_add.result ≡ c.self.inside.gate + 1 = omega (arith, gate_within _ _ _ _ file s, g.met.D.Disk.fits c.self.inside.disk file told, c.saturating_add.ensures) in
    weaker g.D.Disk.clock g.D.Disk.left_since c.self.inside.disk c.put.new.disk _ (IsBeforeOrAfter version bodies body) c.put.ensures.any_moment
    (λ image torn. inl (first_image _ _ _ _ file s c.saturating_add.result _ next image torn)))

pub returns-in_err-put-clause-left : goal.returns-in_err-put-clause-left
returns-in_err-put-clause-left g c version bodies body file after is sound told told_after =
    let run = returns-in_err-put-clause-any_moment g c version bodies body file is sound told in
    run.each after (g.met.D.Disk.counts_now c.put.new.disk (g.D.Disk.clock c.args.self.now.0) after run.later (g.met.D.Disk.is_image c.put.new.disk after told_after))

pub put-requires-2-clause-inside : goal.put-requires-2-clause-inside
put-requires-2-clause-inside g c =
    if_some (g.D.Disk.reads c.put.new.disk) (λ file. c.self.inside.gate ≤ length file)
    (λ staged told.
    let before = told_before (written_over c.saturating_add.result c.as_slice-bytes.result.now) (g.D.Disk.reads c.self.inside.disk) (g.D.Disk.reads c.put.new.disk) staged c.in_ok-put.ensures.ok told in
    let s = (rw (← c.self.view_is) at c.requires.sound).2 before.0 before.1 in
    let next : c.saturating_add.result ≡ c.self.inside.gate + 1 = omega (arith, gate_within _ _ _ _ before.0 s, g.met.D.Disk.fits c.self.inside.disk before.0 before.1, c.saturating_add.ensures) in
    let is = subst (IsFrame c.requires.frame.0) (sym c.as_slice-bytes.ensures) c.requires.frame.1 in
    omega (arith, ap length before.2, gate_in_staged _ _ _ _ before.0 s c.requires.frame.0 c.as_slice-bytes.result.now is c.saturating_add.result next))

pub returns-in_err-put-2-clause-any_moment : goal.returns-in_err-put-2-clause-any_moment
returns-in_err-put-2-clause-any_moment g c = rw (← c.self.view_is) (λ version bodies body file is sound told.
    let next : c.saturating_add.result ≡ c.self.inside.gate + 1 = omega (arith, gate_within _ _ _ _ file (sound file told), g.met.D.Disk.fits c.self.inside.disk file told, c.saturating_add.ensures) in
    both_writes g.D.Disk.reads g.D.Disk.may_leave g.D.Disk.clock g.D.Disk.left_since c.self.inside.disk c.put.new.disk c.put-2.new.disk
    version bodies body c.as_slice-bytes.result.now file c.self.inside.gate c.saturating_add.result (sound file told) (subst (IsFrame body) (sym c.as_slice-bytes.ensures) is) next
    (c.in_ok-put.ensures.ok ∙ ap (option_map (written_over c.saturating_add.result c.as_slice-bytes.result.now)) told)
    c.in_ok-put.ensures.durable c.put.ensures.any_moment c.put-2.ensures.any_moment)

pub returns-in_err-put-2-clause-left : goal.returns-in_err-put-2-clause-left
returns-in_err-put-2-clause-left g c version bodies body file after is sound told told_after =
    let run = returns-in_err-put-2-clause-any_moment g c version bodies body file is sound told in
    run.each after (g.met.D.Disk.counts_now c.put-2.new.disk (g.D.Disk.clock c.args.self.now.0) after run.later (g.met.D.Disk.is_image c.put-2.new.disk after told_after))

pub returns-clause-acknowledged : goal.returns-clause-acknowledged
returns-clause-acknowledged g c = rw (← c.self.view_is) (λ version bodies body is sound after told_after.
    let between = told_before (written_over c.self.inside.gate (open_gate ∷ [])) (g.D.Disk.reads c.put.new.disk) (g.D.Disk.reads c.put-2.new.disk) after c.in_ok-put-2.ensures.ok told_after in
    let before = told_before (written_over c.saturating_add.result c.as_slice-bytes.result.now) (g.D.Disk.reads c.self.inside.disk) (g.D.Disk.reads c.put.new.disk) between.0 c.in_ok-put.ensures.ok between.1 in
    let s = sound before.0 before.1 in
    let next : c.saturating_add.result ≡ c.self.inside.gate + 1 = omega (arith, gate_within _ _ _ _ before.0 s, g.met.D.Disk.fits c.self.inside.disk before.0 before.1, c.saturating_add.ensures) in
    let is_bytes = subst (IsFrame body) (sym c.as_slice-bytes.ensures) is in
    let written = between.2 ∙ ap (written_over c.self.inside.gate (open_gate ∷ [])) before.2 in
    let only = at_some (g.D.Disk.reads c.put-2.new.disk) (λ f. Only f (g.D.Disk.may_leave c.put-2.new.disk)) after told_after c.in_ok-put-2.ensures.durable in
    let place : c.saturating_add-self-inside.result ≡ min (c.self.inside.gate + length c.as_slice-bytes.result.now) (2 ^ 64 - 1) = search rules in
    settled_after _ _ _ _ before.0 s body c.as_slice-bytes.result.now is_bytes c.saturating_add.result next _ after c.saturating_add-self-inside.result written (g.met.D.Disk.fits c.put-2.new.disk after told_after) place only)

pub returns-clause-any_moment : goal.returns-clause-any_moment
returns-clause-any_moment g c = rw (← c.self.view_is) (λ version bodies body file is sound told.
    let next : c.saturating_add.result ≡ c.self.inside.gate + 1 = omega (arith, gate_within _ _ _ _ file (sound file told), g.met.D.Disk.fits c.self.inside.disk file told, c.saturating_add.ensures) in
    both_writes g.D.Disk.reads g.D.Disk.may_leave g.D.Disk.clock g.D.Disk.left_since c.self.inside.disk c.put.new.disk c.put-2.new.disk
    version bodies body c.as_slice-bytes.result.now file c.self.inside.gate c.saturating_add.result (sound file told) (subst (IsFrame body) (sym c.as_slice-bytes.ensures) is) next
    (c.in_ok-put.ensures.ok ∙ ap (option_map (written_over c.saturating_add.result c.as_slice-bytes.result.now)) told)
    c.in_ok-put.ensures.durable c.put.ensures.any_moment c.put-2.ensures.any_moment)

pub returns-clause-left : goal.returns-clause-left
returns-clause-left g c version bodies body file after is sound told told_after =
    let run = returns-clause-any_moment g c version bodies body file is sound told in
    run.each after (g.met.D.Disk.counts_now c.put-2.new.disk (g.D.Disk.clock c.args.self.now.0) after run.later (g.met.D.Disk.is_image c.put-2.new.disk after told_after))
