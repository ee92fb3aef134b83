-- The control of some words, by their number and then by the first of them. That these are the controls of
-- `Spelling` is what `read_control` says.
use Rattle.std.specs.Prelude.{ℕ, ◌-◌, ◌^◌, ◌&&◌, true, false, List, [], ◌∷◌, codes, bytes_eq, Option, None, Some, option_map, if◌then◌else◌}
use Rattle.fault_schedule.specs.Fields.{number, small, counted, kind}
pub use Rattle.fault_schedule.specs.Words.{words}
use Rattle.fault_schedule.specs.declared.control.Control.{Control}
use Rattle.fault_schedule.specs.declared.control.Control.TheVariants.{Cut, Heal, Lose, Keep, Again, Crash, Restart, RestartMeta, Elect, GiveUp, Rounds, AddNode, Balance, BalanceStep, Move, Parts, Chaos}

abbrev pub with_pair : {A B : Type 0} → (A → B → Control) → Option A → Option B → Option Control
with_pair make (Some a) (Some b) = Some (make a b)
with_pair make (Some a) None = None
with_pair make None b = None

abbrev pub with_triple : (ℕ → ℕ → ℕ → Control) → Option ℕ → Option ℕ → Option ℕ → Option Control
with_triple make (Some a) b c = with_pair (make a) b c
with_triple make None b c = None

unfoldable pub alone : List ℕ → Option Control
alone command =
    if bytes_eq command (codes ":heal") then Some Heal else
    (if bytes_eq command (codes ":keep") then Some Keep else
    (if bytes_eq command (codes ":addnode") then Some AddNode else
    (if bytes_eq command (codes ":balance") then Some Balance else
    (if bytes_eq command (codes ":parts") then Some Parts else None))))

unfoldable pub restart : List ℕ → Option Control
restart a = if bytes_eq a (codes "meta") then Some RestartMeta else option_map Restart (small a)

unfoldable pub with_one : List ℕ → List ℕ → Option Control
with_one command a =
    if bytes_eq command (codes ":lose") then option_map Lose (kind a) else
    (if bytes_eq command (codes ":crash") then option_map Crash (small a) else
    (if bytes_eq command (codes ":restart") then restart a else
    (if bytes_eq command (codes ":giveup") then option_map GiveUp (small a) else
    (if bytes_eq command (codes ":rounds") then option_map Rounds (counted 64 a) else
    (if bytes_eq command (codes ":balance") && bytes_eq a (codes "step") then Some BalanceStep else None)))))

unfoldable pub with_two : List ℕ → List ℕ → List ℕ → Option Control
with_two command a b =
    if bytes_eq command (codes ":cut") then with_pair Cut (small a) (small b) else
    (if bytes_eq command (codes ":again") then with_pair Again (kind a) (number (2 ^ 64 - 1) b) else
    (if bytes_eq command (codes ":elect") then with_pair (λ p n. Elect p n false) (small a) (small b) else
    (if bytes_eq command (codes ":chaos") then with_pair Chaos (number (2 ^ 64 - 1) a) (counted 1000 b) else None)))

unfoldable pub with_three : List ℕ → List ℕ → List ℕ → List ℕ → Option Control
with_three command a b c =
    if bytes_eq command (codes ":elect") && bytes_eq c (codes "cancel") then with_pair (λ p n. Elect p n true) (small a) (small b) else
    (if bytes_eq command (codes ":move") then with_triple Move (small a) (small b) (small c) else None)

abbrev pub control_of : List (List ℕ) → Option Control
control_of [] = None
control_of (command ∷ []) = alone command
control_of (command ∷ a ∷ []) = with_one command a
control_of (command ∷ a ∷ b ∷ []) = with_two command a b
control_of (command ∷ a ∷ b ∷ c ∷ []) = with_three command a b c
control_of (command ∷ a ∷ b ∷ c ∷ d ∷ rest) = None
