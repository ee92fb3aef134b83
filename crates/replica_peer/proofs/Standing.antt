-- The chains that a Resume takes up are those that stand in the part.
use Rattle.std.proofs.Common.{◌≡◌, ℕ, Bool, List, map, length, Option, Result, ap, sym, ◌∙◌}
use Rattle.std.specs.Prelude.{nat_lt, IfOk}
use Rattle.std.specs.Option.{unwrap_or}
use Rattle.part_keys.specs.declared.chain.PrimeRec.{PrimeRec}
use Rattle.part_rules.specs.FoldLaws.{NamedByPrime}
use Rattle.part_rules.specs.Part.{Part}
use Rattle.part_rules.specs.View.{at_once, chains_behind, primes}
use Rattle.chain_leader.specs.Leading.{Leading, Taken, resuming, standing_behind}
use Rattle.chain_leader.specs.Resuming.{AreStanding, row_for, all_taken_up, resumed_by}
use Rattle.chain_leader.specs.declared.resuming.TakenUp.{TakenUp}
use Rattle.chain_leader.proofs.TakingUp.{resumed_is}
use Rattle.replica_model.specs.Replica.{Home, Replica, applied_by, machine_of}
use Rattle.replica_peer.proofs.Oks.{ok_then}

-- what the machine told
pub are_standing : NamedByPrime → (home : Home) (r : Replica) (after : Option ℕ) (behind : ℕ) (standing : List PrimeRec) (more : Bool) → behind ≡ unwrap_or after 0
    → standing ≡ primes behind (machine_of home r) → more ≡ nat_lt at_once (length (chains_behind behind (machine_of home r))) → AreStanding (machine_of home r) after standing more
are_standing law home r after behind standing more is first further = record {
  named = λ v rec there. (law home.parts (applied_by home r) v rec there).named;
  first = first ∙ ap (λ n. primes n (machine_of home r)) is;
  further = further ∙ ap (λ n. nat_lt at_once (length (chains_behind n (machine_of home r)))) is;
}

module _ {E : Type 0} (made : Result TakenUp E) (m : Part) (after : Option ℕ) (standing : List PrimeRec) (more : Bool) (are : AreStanding m after standing more) (own term : ℕ) (same : own ≡ term) (l : Leading) where
  by_own : resumed_by own l standing more ≡ resuming term l (standing_behind m after)
  by_own = ap (λ t. resumed_by t l standing more) same ∙ sym (resumed_is m after standing more are term l)

  pub letters_are : IfOk made (λ (x : TakenUp). x.letters ≡ (resumed_by own l standing more).letters) → IfOk made (λ (x : TakenUp). x.letters ≡ (resuming term l (standing_behind m after)).letters)
  letters_are = ok_then made _ _ (λ x is. is ∙ ap (λ (tk : Taken). tk.letters) by_own)

  pub table_is : IfOk made (λ (x : TakenUp). x.rows.items ≡ map (row_for l.policy) standing) → IfOk made (λ (x : TakenUp). all_taken_up x.rows.items l.table ≡ (resuming term l (standing_behind m after)).leading.table)
  table_is = ok_then made _ _ (λ x is. ap (λ rows. all_taken_up rows l.table) is ∙ ap (λ (tk : Taken). tk.leading.table) by_own)
