-- A leader is ready where an entry of its own term is committed.
use Rattle.std.proofs.Common.{◌≡◌, ◌⊎◌, inl, inr, ℕ, suc, ◌+◌, ◌<◌, ◌≤◌, List, [], ◌∷◌, ◌++◌, take, drop, Option, Some, Bool, true, false, refl, ap, sym, ◌∙◌, arith, eqb-true}
use Rattle.std.specs.Prelude.{◌==◌, nat_le, slice_get}
use Rattle.std.proofs.lemmas.Bool.{and_from, le-leb, cases_lt}
use Rattle.std.proofs.lemmas.List.{length-take}
use Rattle.std.proofs.lemmas.Option.{slice_get_within}
use Rattle.raft_log.specs.declared.entry.Entry.{Entry}
use Rattle.raft_log.specs.declared.entry.Item.{Item}
use Rattle.raft_log.specs.Decided.{Leadership}
use Rattle.raft_core.specs.Core.{Core, is_leading, is_ready}
use Rattle.raft_group.specs.Facts.{LeadsBy}
use Rattle.raft_group.proofs.Places.{get_take, get_drop}
use Rattle.raft_group.proofs.Led.{stands_map}
use Rattle.part_keys.specs.declared.proposal.Proposal.{Proposal}
use Rattle.part_keys.specs.declared.proposal.Proposal.TheVariants.{Start, Members, Made, Blank}
use Rattle.part_rules.specs.Part.{Part}
use Rattle.part_rules.specs.Folded.{item_applied as item_folded}
use Rattle.chain_leader.specs.Leading.{Leading, on_item, on_item_by}
use Rattle.replica_model.specs.declared.packet.Place.{Place}
use Rattle.replica_model.specs.Spelling.{valued, values_of}
use Rattle.replica_model.specs.Replica.{Home}
use Rattle.replica_model.specs.Letters.{works}
use Rattle.world_model.specs.State.{Space}
use Rattle.world_model.specs.Chained.{HasOwn}
use Rattle.world_model.proofs.Lists.{get_left}
use Rattle.world_model.proofs.Posting.{all_at}

-- an item makes a leader ready only where it is of the own term
item_ready : (parts t : ℕ) (machine : Part) (l : Leading) (index : ℕ) (own : Bool) (x : Proposal) → (on_item_by parts t machine l index own x).leading.ready ≡ true → (l.ready ≡ true) ⊎ (own ≡ true)
item_ready parts t machine l index true Start e = inr refl
item_ready parts t machine l index false Start e = inl e
item_ready parts t machine l index own (Members config) e = inl e
item_ready parts t machine l index own (Made x) e = inl e
item_ready parts t machine l index own Blank e = inl e

pub works_ready : (home : Home) (me t : ℕ) (ours : ℕ → Option Place) (machine : Part) (l : Leading) (index : ℕ) (entries : List (ℕ × Proposal)) → (works home me t ours machine l index entries).leading.ready ≡ true
    → (l.ready ≡ true) ⊎ ((j : ℕ) × (e : ℕ × Proposal) × (slice_get entries j ≡ Some e) × (e.0 ≡ t))
works_ready home me t ours machine l index [] e = inl e
works_ready home me t ours machine l index (d ∷ entries) e =
    elim (works_ready home me t ours (item_folded home.parts index d.1 machine).0 (on_item home.parts t machine l index d).leading (suc index) entries e) [
      | inr later ↦ inr (suc later.0, later.1, later.2, later.3)
      | inl now ↦ elim (item_ready home.parts t machine l index (d.0 == t) d.1 now) [
        | inl before ↦ inl before
        | inr own ↦ inr (0, d, refl, eqb-true d.0 t own)
      ]
    ]

-- an entry of the own term stays committed
pub own_stays : (before behind : Core) (more : List Entry) → behind.log ≡ before.log ++ more → behind.term ≡ before.term → before.commit ≤ behind.commit → HasOwn before → HasOwn behind
own_stays before behind more grown same rises own = record {
  place = own.place;
  its = own.its;
  before = (let b = own.before in omega arith);
  there = ap (λ (xs : List Entry). slice_get xs own.place) grown ∙ get_left before.log more own.place own.its own.there;
  own = own.own ∙ sym same;
}

-- and one that is committed now
pub own_new : (sp : Space) (behind : Core) (a j : ℕ) (e : ℕ × Proposal) → slice_get (values_of sp.spelling (drop a (take behind.commit behind.log))) j ≡ Some e → e.0 ≡ behind.term → HasOwn behind
own_new sp behind a j e at term =
    let w = stands_map (valued sp.spelling) (drop a (take behind.commit behind.log)) j e at in
    let there : slice_get (take behind.commit behind.log) (a + j) ≡ Some w.0 = sym (get_drop (take behind.commit behind.log) a j) ∙ w.1 in
    let low = take_within behind.commit behind.log (a + j) w.0 there in
    record {
      place = a + j;
      its = w.0;
      before = low;
      there = sym (get_take behind.log behind.commit (a + j) low) ∙ there;
      own = ap (λ (x : ℕ × Proposal). x.0) w.2 ∙ term;
    }
  where
    take_within : (n : ℕ) (xs : List Entry) (k : ℕ) (x : Entry) → slice_get (take n xs) k ≡ Some x → k < n
    take_within n xs k x at2 = (let a2 = slice_get_within (take n xs) k x at2 in let b = length-take n xs in omega arith)

-- so a leader of the group is ready
pub own_ready : (core : Core) (l : Leadership Item) → is_leading core.role ≡ true → LeadsBy core l → HasOwn core → is_ready core ≡ true
own_ready core l led by own = and_from (is_leading core.role) (nat_le core.noop core.commit) led (le-leb core.noop core.commit within)
  where
    behind : (k : ℕ) → k < l.base → slice_get core.log k ≡ Some own.its → own.its.term < core.term
    behind k low at = all_at (λ (e : Entry). e.term < core.term) (take l.base core.log) by.before k own.its (get_take core.log l.base k low ∙ at)

    within : core.noop ≤ core.commit
    within = elim (cases_lt own.place l.base) [
      | inl low ↦ absurd (let a = behind own.place low own.there in let b = own.own in omega arith)
      | inr high ↦ (let a = by.noop in let b = own.before in omega arith)
    ]
