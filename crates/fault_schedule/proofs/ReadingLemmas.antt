-- The control of some words is the one whose words they are.
use Rattle.std.proofs.Common.{◌≡◌, ℕ, ◌-◌, ◌^◌, arith, List, [], ◌∷◌, Option, Some, None, cond, true, false, refl, ap}
use Rattle.std.specs.Prelude.{◌&&◌, bytes_eq, codes, option_map, IfSome}
use Rattle.std.proofs.lemmas.Bool.{cond_both}
use Rattle.std.proofs.lemmas.Slice.Eq.{bytes_eq-Decides}
use Rattle.fault_schedule.specs.Fields.{number, small, counted, kind}
use Rattle.fault_schedule.specs.Spelling.{words_of, IsAllowed}
use Rattle.fault_schedule.specs.Reading.{control_of, alone, with_one, with_two, with_three, restart, with_pair, with_triple}
use Rattle.fault_schedule.specs.declared.control.Control.{Control}
use Rattle.fault_schedule.specs.declared.control.Control.TheVariants.{Cut, Heal, Lose, Keep, Again, Crash, Restart, RestartMeta, Elect, GiveUp, Rounds, AddNode, Balance, BalanceStep, Move, Parts, Chaos}
use Rattle.fault_schedule.proofs.FieldLemmas.{number_some, small_some, counted_some, kind_some, number_read, small_read, counted_read, kind_read, no_digits, both}

-- words spell a control
abbrev Spell : List (List ℕ) → Control → Type 0
Spell words control = (words ≡ words_of control) × IsAllowed control

module _ (Q : Control → Type 0) where
  -- one row: words are told by a test, and else the rows below tell
  row : (a b : List ℕ) (made below : Option Control) → (a ≡ b → IfSome made Q) → IfSome below Q → IfSome (cond (bytes_eq a b) made below) Q
  row a b made below here else = cond_both (bytes_eq a b) made below (λ o. IfSome o Q) (λ e. here ((bytes_eq-Decides a b).0 e)) (λ e. else)

  last_row : (a b c d : List ℕ) (made below : Option Control) → (a ≡ b → c ≡ d → IfSome made Q) → IfSome below Q → IfSome (cond (bytes_eq a b && bytes_eq c d) made below) Q
  last_row a b c d made below here else =
      cond_both (bytes_eq a b && bytes_eq c d) made below (λ o. IfSome o Q) (λ e.
      let two = both (bytes_eq a b) (bytes_eq c d) e in
      here ((bytes_eq-Decides a b).0 two.0) ((bytes_eq-Decides c d).0 two.1)) (λ e. else)

  one : {A : Type 0} (make : A → Control) (o : Option A) → ((x : A) → o ≡ Some x → Q (make x)) → IfSome (option_map make o) Q
  one make None is = record {}
  one make (Some x) is = is x refl

  pair : {A B : Type 0} (make : A → B → Control) (o : Option A) (p : Option B) → ((x : A) (y : B) → o ≡ Some x → p ≡ Some y → Q (make x y)) → IfSome (with_pair make o p) Q
  pair make None p is = record {}
  pair make (Some x) None is = record {}
  pair make (Some x) (Some y) is = is x y refl refl

  triple : (make : ℕ → ℕ → ℕ → Control) (o p q : Option ℕ) → ((x y z : ℕ) → o ≡ Some x → p ≡ Some y → q ≡ Some z → Q (make x y z)) → IfSome (with_triple make o p q) Q
  triple make None p q is = record {}
  triple make (Some x) p q is = pair (make x) p q (λ y z. is x y z refl)

alone_found : (command : List ℕ) → IfSome (alone command) (Spell (command ∷ []))
unfolding alone
alone_found command =
    let Q : Control → Type 0 = Spell (command ∷ []) in
    row Q command (codes ":heal") _ _ (λ e. (ap (λ w. w ∷ []) e, record {}))
    (row Q command (codes ":keep") _ _ (λ e. (ap (λ w. w ∷ []) e, record {}))
    (row Q command (codes ":addnode") _ _ (λ e. (ap (λ w. w ∷ []) e, record {}))
    (row Q command (codes ":balance") _ _ (λ e. (ap (λ w. w ∷ []) e, record {}))
    (row Q command (codes ":parts") _ _ (λ e. (ap (λ w. w ∷ []) e, record {})) (record {})))))

two_words : {a b c d : List ℕ} → a ≡ c → b ≡ d → ◌≡◌ {A = List (List ℕ)} (a ∷ b ∷ []) (c ∷ d ∷ [])
two_words e f = cc

three_words : {a b c d e f : List ℕ} → a ≡ d → b ≡ e → c ≡ f → ◌≡◌ {A = List (List ℕ)} (a ∷ b ∷ c ∷ []) (d ∷ e ∷ f ∷ [])
three_words p q r = cc

four_words : {a b c d e f g h : List ℕ} → a ≡ e → b ≡ f → c ≡ g → d ≡ h → ◌≡◌ {A = List (List ℕ)} (a ∷ b ∷ c ∷ d ∷ []) (e ∷ f ∷ g ∷ h ∷ [])
four_words p q r s = cc

restart_found : (command a : List ℕ) → command ≡ codes ":restart" → IfSome (restart a) (Spell (command ∷ a ∷ []))
unfolding restart
restart_found command a e =
    let Q : Control → Type 0 = Spell (command ∷ a ∷ []) in
    row Q a (codes "meta") _ _ (λ f. (two_words e f, record {}))
    (one Q Restart (small a) (λ n f. let s = small_some a n f in (two_words e s.0, s.1)))

with_one_found : (command a : List ℕ) → IfSome (with_one command a) (Spell (command ∷ a ∷ []))
unfolding with_one
with_one_found command a =
    let Q : Control → Type 0 = Spell (command ∷ a ∷ []) in
    row Q command (codes ":lose") _ _ (λ e. one Q Lose (kind a) (λ k f. let s = kind_some a k f in (two_words e s.0, (s.1, s.2))))
    (row Q command (codes ":crash") _ _ (λ e. one Q Crash (small a) (λ n f. let s = small_some a n f in (two_words e s.0, s.1)))
    (row Q command (codes ":restart") _ _ (λ e. restart_found command a e)
    (row Q command (codes ":giveup") _ _ (λ e. one Q GiveUp (small a) (λ n f. let s = small_some a n f in (two_words e s.0, s.1)))
    (row Q command (codes ":rounds") _ _ (λ e. one Q Rounds (counted 64 a) (λ n f. let s = counted_some 64 a n f in (two_words e s.0, (s.1, s.2))))
    (last_row Q command (codes ":balance") a (codes "step") _ _ (λ e f. (two_words e f, record {})) (record {}))))))

with_two_found : (command a b : List ℕ) → IfSome (with_two command a b) (Spell (command ∷ a ∷ b ∷ []))
unfolding with_two
with_two_found command a b =
    let Q : Control → Type 0 = Spell (command ∷ a ∷ b ∷ []) in
    row Q command (codes ":cut") _ _ (λ e. pair Q Cut (small a) (small b) (λ x y f g. let s = small_some a x f in let t = small_some b y g in (three_words e s.0 t.0, (s.1, t.1))))
    (row Q command (codes ":again") _ _ (λ e. pair Q Again (kind a) (number (2 ^ 64 - 1) b) (λ x y f g. let s = kind_some a x f in let t = number_some (2 ^ 64 - 1) b y g in (three_words e s.0 t.0, ((s.1, s.2), omega (arith, t.1)))))
    (row Q command (codes ":elect") _ _ (λ e. pair Q (λ p n. Elect p n false) (small a) (small b) (λ x y f g. let s = small_some a x f in let t = small_some b y g in (three_words e s.0 t.0, (s.1, t.1))))
    (row Q command (codes ":chaos") _ _ (λ e. pair Q Chaos (number (2 ^ 64 - 1) a) (counted 1000 b) (λ x y f g. let s = number_some (2 ^ 64 - 1) a x f in let t = counted_some 1000 b y g in (three_words e s.0 t.0, (omega (arith, s.1), t.1, t.2)))) (record {}))))

with_three_found : (command a b c : List ℕ) → IfSome (with_three command a b c) (Spell (command ∷ a ∷ b ∷ c ∷ []))
unfolding with_three
with_three_found command a b c =
    let Q : Control → Type 0 = Spell (command ∷ a ∷ b ∷ c ∷ []) in
    last_row Q command (codes ":elect") c (codes "cancel") _ _ (λ e f. pair Q (λ p n. Elect p n true) (small a) (small b) (λ x y g h. let s = small_some a x g in let t = small_some b y h in (four_words e s.0 t.0 f, (s.1, t.1))))
    (row Q command (codes ":move") _ _ (λ e. triple Q Move (small a) (small b) (small c) (λ x y z f g h. let s = small_some a x f in let t = small_some b y g in let u = small_some c z h in (four_words e s.0 t.0 u.0, (s.1, t.1, u.1)))) (record {}))

-- a control that is read has these words
pub found : (words : List (List ℕ)) → IfSome (control_of words) (Spell words)
found [] = record {}
found (command ∷ []) = alone_found command
found (command ∷ a ∷ []) = with_one_found command a
found (command ∷ a ∷ b ∷ []) = with_two_found command a b
found (command ∷ a ∷ b ∷ c ∷ []) = with_three_found command a b c
found (command ∷ a ∷ b ∷ c ∷ d ∷ rest) = record {}

-- and the words of a control are read
pub read : (control : Control) → IsAllowed control → control_of (words_of control) ≡ Some control
unfolding alone with_one with_two with_three restart
read (Cut a b) h = rw (small_read a h.0, small_read b h.1) refl
read Heal h = refl
read (Lose kind) h = rw (kind_read kind h.0 h.1) refl
read Keep h = refl
read (Again kind n) h = rw (kind_read kind h.0.0 h.0.1, number_read (2 ^ 64 - 1) n (omega (arith, h.1)) h.1) refl
read (Crash node) h = rw (small_read node h) refl
read (Restart node) h = rw (no_digits (codes "meta") node (omega (arith, h)) refl, small_read node h) refl
read RestartMeta h = refl
read (Elect part node false) h = rw (small_read part h.0, small_read node h.1) refl
read (Elect part node true) h = rw (small_read part h.0, small_read node h.1) refl
read (GiveUp client) h = rw (small_read client h) refl
read (Rounds n) h = rw (counted_read 64 n h.0 h.1 (omega (arith, h.1))) refl
read AddNode h = refl
read Balance h = refl
read BalanceStep h = refl
read (Move part from to) h = rw (small_read part h.0, small_read from h.1, small_read to h.2) refl
read Parts h = refl
read (Chaos seed count) h = rw (number_read (2 ^ 64 - 1) seed (omega (arith, h.0)) h.0, counted_read 1000 count h.1 h.2 (omega (arith, h.2))) refl
