-- The run that was worked by hand is lawful.
use Rattle.std.proofs.Common.{inl, ℕ, List, [], ◌∷◌, take, Option, None, Some, refl, ap, arith}
use Rattle.std.specs.Prelude.{pos}
use Rattle.std.specs.FinMap.{get-empty}
use Rattle.graph_model.specs.Keys.{tag_cmp}
use Rattle.graph_model.specs.Views.{row_alone}
use Rattle.graph_model.specs.declared.val.Val.{Val}
use Rattle.graph_model.specs.declared.vid.Vid.TheVariants.{Num as Numbered}
use Rattle.graph_model.specs.declared.answer.Answer.TheVariants.{Shown}
use Rattle.part_keys.specs.declared.chain.Policy.TheVariants.{Forward}
use Rattle.part_keys.specs.declared.vid_kind.VidKind.TheVariants.{Num}
use Rattle.meta_parts.specs.declared.table.MetaBody.TheVariants.{Allocate}
use Rattle.replica_model.specs.declared.input.Tick.TheVariants as tick
use Rattle.world_model.specs.declared.event.Event.{Event}
use Rattle.world_model.specs.declared.event.Event.TheVariants as event
use Rattle.world_model.specs.State.{State, start}
use Rattle.world_model.specs.Lawful.{Lawful, IsDue}
use Rattle.world_model.specs.Journal.{space_at, Run}
use Rattle.world_model.specs.SmallSpelling.{small}
use Rattle.world_model.specs.Worked.{alone, call, asked, read_alone, did}

-- the state behind the first n doings
abbrev at : ℕ → State
at n = did small (start 1) (take n read_alone)

abbrev May : ℕ → Event → Type 0
May n e = Lawful (space_at small (at n)) (at n) e

allocate : May 0 (event.Meta (Allocate 1 1 (1 ∷ []) Num))
allocate = record { mail = tt; core = refl; rest = refl }

place : May 1 (event.Place 1 1 1 (Some alone))
place = record { mail = tt; core = refl; rest = record { part = refl; peer = omega arith; named = refl; alone = λ z is. absurd is; given = refl } }

elect : May 2 (event.Tick 1 1 (tick.Elect Forward))
elect = record { mail = tt; core = (_, refl); rest = tt }

invoke : May 4 (event.Invoke call asked)
invoke = record { mail = tt; core = record { client = refl; parts = 1; its = refl; number = refl; whole = refl; bytes = _; spelled = refl }; rest = tt }

first : May 5 (event.Deliver 1)
first = record { mail = record { post = _; sent = refl }; core = (_, refl); rest = tt }

second : May 6 (event.Deliver 2)
second = record { mail = record { post = _; sent = refl }; core = tt; rest = tt }

due : IsDue ((at 7).callers 5) (Shown [])
due = (_, refl, ap (λ (o : Option (List Val)). Shown (row_alone None o)) (get-empty tag_cmp (record { vid = Numbered (pos 7); tag = 3 })))

reply : May 7 (event.Reply call (Shown []))
reply = record { mail = tt; core = record { client = refl; call = _; its = refl; same = refl; ends = inl due }; rest = inl due }

pub lawful : Run small (start 1) read_alone (did small (start 1) read_alone)
lawful = (allocate, (place, (elect, ((refl, omega arith, refl), (invoke, (first, (second, (reply, refl))))))))
