-- A step's record in its room, and what is kept behind the step.
use Rattle.std.proofs.Common.{◌≡◌, ℕ, List, Option, Result, Ok, Err, false, sym, ap, subst, ◌∙◌}
use Rattle.std.specs.Prelude.{OnOk, is_err}
use Rattle.raft_core.specs.Durable as raft
use Rattle.raft_log.specs.declared.record.Record.{Record}
use Rattle.replica_file.specs.Durable.{Durable, kept}
use Rattle.replica_file.specs.Grammar.{Allowed}
use Rattle.replica_file.specs.OnDisk.{IsKept}
use Rattle.replica_model.specs.Replica.{Home, Replica}
use Rattle.replica_record.specs.Durable.{durable_of}
use Rattle.replica_record.specs.Framed.{IsFramed, MayBeKept}
use Rattle.replica_record.specs.Own.{allowed_in}
use Rattle.replica_record.proofs.Steps.{durable_behind}
use Rattle.replica_core.specs.Durable.{came_up}

-- the frame of the record that a step keeps
pub framed_of : (allowed : Allowed) (calls bytes : ℕ) (shown made stepped : Option Record) (frame : Option (List ℕ)) → shown ≡ made → made ≡ stepped → MayBeKept allowed stepped
    → (MayBeKept allowed shown → IsFramed allowed calls bytes shown frame) → IsFramed allowed calls bytes made frame
framed_of allowed calls bytes shown made stepped frame is same may more =
    subst (λ (r : Option Record). IsFramed allowed calls bytes r frame) is (more (subst (λ (r : Option Record). MayBeKept allowed r) (sym (is ∙ same)) may))

pub ok_of : {T E : Type 0} (result : Result T E) (P : Type 0) → is_err result ≡ false → OnOk result P → P
ok_of (Ok value) P is on = on
ok_of (Err e) P is on = absurd cc

module _ {D : Type 0} (reads : D → Option (List ℕ)) (may_leave : D → List ℕ → Type 0) where
  -- what is kept behind a step is what is durable behind it
  pub kept_behind : (home new_home : Home) (before made behind : Replica) (r : Option Record) (wal : D × ℕ) → new_home ≡ home → behind ≡ made → raft.durable made.core ≡ raft.kept (raft.durable before.core) r
      → IsKept reads may_leave (allowed_in home) (kept (durable_of before) r) wal → IsKept reads may_leave (allowed_in new_home) (durable_of behind) wal
  kept_behind home new_home before made behind r wal same is durable here =
      subst (λ (h : Home). IsKept reads may_leave (allowed_in h) (durable_of behind) wal) (sym same)
      (subst (λ (d : Durable). IsKept reads may_leave (allowed_in home) d wal) (sym (ap durable_of is ∙ durable_behind before made r durable)) here)

  -- and of a replica that comes up
  pub kept_up : (home new_home : Home) (me : ℕ) (d : Durable) (behind : Replica) (wal : D × ℕ) → new_home ≡ home → behind ≡ came_up me d
      → IsKept reads may_leave (allowed_in home) d wal → IsKept reads may_leave (allowed_in new_home) (durable_of behind) wal
  kept_up home new_home me d behind wal same is here =
      subst (λ (h : Home). IsKept reads may_leave (allowed_in h) (durable_of behind) wal) (sym same)
      (subst (λ (e : Durable). IsKept reads may_leave (allowed_in home) e wal) (sym (ap durable_of is)) here)
