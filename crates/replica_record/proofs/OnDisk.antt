-- A step's record on a disk.
use Rattle.std.proofs.Common.{◌≡◌, ℕ, List, Option, None, Some, Result, refl, sym, subst}
use Rattle.std.specs.Prelude.{OnOk}
use Rattle.raft_log.specs.declared.record.Record.{Record}
use Rattle.byte_fields.specs.Frames.{IsFrame}
use Rattle.wal_frames.specs.Spelling.{body}
use Rattle.replica_file.specs.Durable.{Durable, kept, kept_by}
use Rattle.replica_file.specs.File.{HasState}
use Rattle.replica_file.specs.Grammar.{Allowed, IsRecord}
use Rattle.replica_file.specs.Laws.{IsBeforeOrBehind}
use Rattle.replica_file.specs.OnDisk.{IsKept}
use Rattle.replica_record.specs.Durable.{HasEither}
use Rattle.replica_record.specs.Framed.{HasFrame, IsFramed}

-- the record of a frame that is there
pub record IsOf (allowed : Allowed) (calls bytes : ℕ) (r : Option Record) (frame : List ℕ) : Type 0 where
  pub one : Record
  pub is : r ≡ Some one
  pub has : HasFrame allowed calls bytes one frame

pub framed_some : (allowed : Allowed) (calls bytes : ℕ) (r : Option Record) (frame : List ℕ) → IsFramed allowed calls bytes r (Some frame) → IsOf allowed calls bytes r frame
framed_some allowed calls bytes None frame is = absurd is
framed_some allowed calls bytes (Some r) frame is = record { one = r; is = refl; has = is }

pub framed_none : (allowed : Allowed) (calls bytes : ℕ) (r : Option Record) → IsFramed allowed calls bytes r None → r ≡ None
framed_none allowed calls bytes None is = refl
framed_none allowed calls bytes (Some r) is = absurd is

module _ {D : Type 0} (reads : D → Option (List ℕ)) (may_leave : D → List ℕ → Type 0) where
  -- a file that is read has the state that is kept in it
  pub has_state : (allowed : Allowed) (d : Durable) (wal : D × ℕ) (file : List ℕ) → IsKept reads may_leave allowed d wal → reads wal.0 ≡ Some file → HasState allowed d file
  has_state allowed d wal file is told = record { bodies = is.bodies; records = (is.sound file told).records; fold = is.fold }

  -- and so has each image of it
  pub image_has_state : (allowed : Allowed) (d : Durable) (wal : D × ℕ) (file image : List ℕ) → IsKept reads may_leave allowed d wal → reads wal.0 ≡ Some file → may_leave wal.0 image → HasState allowed d image
  image_has_state allowed d wal file image is told left =
      subst (λ (c : List ℕ). HasState allowed d c) (sym ((is.sound file told).durable image left)) (has_state allowed d wal file is told)

  -- the record of a step is durable
  pub kept_some : (allowed : Allowed) (calls bytes : ℕ) (d : Durable) (r : Option Record) (frame : List ℕ) (old new : D × ℕ) {T E : Type 0} (result : Result T E) → IsFramed allowed calls bytes r (Some frame)
      → ((one : Record) → IsFrame (body one) frame → IsRecord allowed one → OnOk result (IsKept reads may_leave allowed (kept_by d one) new)) → OnOk result (IsKept reads may_leave allowed (kept d r) new)
  kept_some allowed calls bytes d r frame old new result is more =
      let x = framed_some allowed calls bytes r frame is in
      subst (λ (o : Option Record). OnOk result (IsKept reads may_leave allowed (kept d o) new)) (sym x.is) (more x.one x.has.framed x.has.own)

  pub kept_none : (allowed : Allowed) (calls bytes : ℕ) (d : Durable) (r : Option Record) (wal : D × ℕ) → IsFramed allowed calls bytes r None → IsKept reads may_leave allowed d wal → IsKept reads may_leave allowed (kept d r) wal
  kept_none allowed calls bytes d r wal is here = subst (λ (o : Option Record). IsKept reads may_leave allowed (kept d o) wal) (sym (framed_none allowed calls bytes r is)) here

-- a file behind it has one state or the other
pub either_some : (allowed : Allowed) (calls bytes : ℕ) (d : Durable) (r : Option Record) (frame : List ℕ) (P : (List ℕ → Type 0) → Type 0) → IsFramed allowed calls bytes r (Some frame)
    → ((one : Record) → IsFrame (body one) frame → IsRecord allowed one → P (IsBeforeOrBehind allowed d one)) → P (HasEither allowed d r)
either_some allowed calls bytes d r frame P is more =
    let x = framed_some allowed calls bytes r frame is in
    subst (λ (o : Option Record). P (HasEither allowed d o)) (sym x.is) (more x.one x.has.framed x.has.own)
