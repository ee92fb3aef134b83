-- What leaves in a step has spellings, as the program has it.
use Rattle.std.proofs.Common.{◌≡◌, ℕ, Bool, List, [], ◌∷◌, map, refl, sym, subst, arith}
use Rattle.kv_part.specs.Store.{Contents}
use Rattle.part_store.specs.Settings.{IsSetting}
use Rattle.replica_model.specs.Stepped.{Leaving}
use Rattle.replica_state.specs.Leaving.{leaving_of}
use Rattle.replica_state.specs.declared.leaving.Leaving.{Leaving as Packed}
use Rattle.replica_peer.specs.Peer.{home_of, setting_of, IsReplica}
use Rattle.replica_peer.specs.declared.peer.Peer.{Peer}
use Rattle.replica_spelling.specs.Spelled.{IsHome, AreSpelled}
use Rattle.replica_core.specs.Spelled.{HaveSpellings}

packed_spelled : (ls : List Packed) → AreSpelled (map leaving_of ls) → HaveSpellings ls
packed_spelled [] all = tt
packed_spelled (l ∷ ls) all = (all.0, packed_spelled ls all.1)

pub packets_spelled : (ls : List Packed) (leaves : List Leaving) → map leaving_of ls ≡ leaves → AreSpelled leaves → HaveSpellings ls
packets_spelled ls leaves same all = packed_spelled ls (subst AreSpelled (sym same) all)

-- a peer belongs to one of at most 64 parts
pub at_home : {S : Type 0} (meaning : S → Contents) (has_place : S → List ℕ → Bool) (a : Peer S) → IsReplica meaning has_place a → IsHome (home_of a)
at_home meaning has_place a is =
    let s : IsSetting (setting_of a.state.whose) = subst IsSetting is.setting is.shows.setting in
    record { part = (s.one, omega (arith, s.within, s.few)); some = s.some; few = s.few; spelling = refl }
