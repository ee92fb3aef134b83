-- What no event undoes.
use Rattle.std.specs.Prelude.{◌≡◌, ℕ, ◌≤◌, Some, true, is_some}
use Rattle.graph_model.specs.declared.answer.Answer.{Answer}
use Rattle.graph_model.specs.declared.call_id.CallId.{CallId}
use Rattle.graph_model.specs.declared.op.Op.{Op}
use Rattle.part_rules.specs.Part.{guard_of}
use Rattle.chain_world.specs.Places.{Among}
use Rattle.chain_world.specs.Course.{Course, Courses, is_aborted}
use Rattle.chain_world.specs.Invariant.Discipline.{IsInvoked, IsRightReply}
use Rattle.chain_world.specs.State.{Post, Chains, decided_of, decided_machine}
use Rattle.chain_world.specs.Invariant.Protocol.{HasFenced, IsPassed}

-- a chain keeps its list and remote part, what it wrote, and that it was given up
pub record GoesOn (k : Courses) (p v : ℕ) (old : Course) : Type 0 where
  pub new : Course
  pub known : k p v ≡ Some new
  pub list : new.list ≡ old.list
  pub remote : new.remote ≡ old.remote
  pub wrote : old.wrote ≡ true → new.wrote ≡ true
  pub aborted : is_aborted old.fate ≡ true → is_aborted new.fate ≡ true

-- Packets, leaders, calls, chains, guards, entries and right replies stay; and a chain that a Fence found unwritten is written
-- only where a later leader is ready.
pub record Goes (parts : ℕ) (s : Chains) (k : Courses) (z : Chains) (l : Courses) : Type 0 where
  pub posts : (post : Post) → Among post s.posts → Among post z.posts
  pub led : (p t : ℕ) → is_some (s.leaders p t) ≡ true → is_some (z.leaders p t) ≡ true
  pub invoked : (id : CallId) (op : Op) → IsInvoked s.ledger.steps id op → IsInvoked z.ledger.steps id op
  pub courses : (p v : ℕ) (c : Course) → k p v ≡ Some c → GoesOn l p v c
  pub guards : (q p : ℕ) → guard_of (decided_machine parts s q) p ≤ guard_of (decided_machine parts z q) p
  pub passed : (p t : ℕ) → IsPassed (decided_of s p) t → IsPassed (decided_of z p) t
  pub unwritten : (p t v : ℕ) (c d : Course) → HasFenced s p t v → k p v ≡ Some c → t ≤ guard_of (decided_machine parts s c.remote) p
      → (c.wrote ≡ true → IsPassed (decided_of s p) t) → l p v ≡ Some d → d.wrote ≡ true → IsPassed (decided_of z p) t
  pub rights : (id : CallId) (a : Answer) (m : ℕ) → IsRightReply parts s.ledger id a m → IsRightReply parts z.ledger id a m
