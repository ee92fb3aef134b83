-- How control lines are spelled: the words of each control, a line for each.
use Rattle.std.specs.Prelude.{◌≡◌, ℕ, ◌-◌, ◌≤◌, ◌<◌, ◌^◌, true, false, List, [], ◌∷◌, get_or, codes, decimal}
use Rattle.fault_schedule.specs.Words.{words, text_of}
use Rattle.fault_schedule.specs.declared.control.Control.{Control}
use Rattle.fault_schedule.specs.declared.control.Control.TheVariants.{Cut, Heal, Lose, Keep, Again, Crash, Restart, RestartMeta, Elect, GiveUp, Rounds, AddNode, Balance, BalanceStep, Move, Parts, Chaos}

-- the words of the kinds of packets, from kind 1 on
abbrev pub kind_words : List (List ℕ)
kind_words =
    codes "request" ∷ codes "answer" ∷ codes "notleader" ∷ codes "append" ∷ codes "appended" ∷ codes "vote" ∷ codes "voted"
    ∷ codes "now" ∷ codes "remote" ∷ codes "done" ∷ codes "stale" ∷ codes "fence" ∷ codes "fenced" ∷ codes "resume" ∷ []

abbrev pub kind_word : ℕ → List ℕ
kind_word kind = get_or kind_words (kind - 1) []

-- the words of each control
abbrev pub words_of : Control → List (List ℕ)
words_of (Cut a b) = codes ":cut" ∷ decimal a ∷ decimal b ∷ []
words_of Heal = codes ":heal" ∷ []
words_of (Lose kind) = codes ":lose" ∷ kind_word kind ∷ []
words_of Keep = codes ":keep" ∷ []
words_of (Again kind n) = codes ":again" ∷ kind_word kind ∷ decimal n ∷ []
words_of (Crash node) = codes ":crash" ∷ decimal node ∷ []
words_of (Restart node) = codes ":restart" ∷ decimal node ∷ []
words_of RestartMeta = codes ":restart" ∷ codes "meta" ∷ []
words_of (Elect part node false) = codes ":elect" ∷ decimal part ∷ decimal node ∷ []
words_of (Elect part node true) = codes ":elect" ∷ decimal part ∷ decimal node ∷ codes "cancel" ∷ []
words_of (GiveUp client) = codes ":giveup" ∷ decimal client ∷ []
words_of (Rounds n) = codes ":rounds" ∷ decimal n ∷ []
words_of AddNode = codes ":addnode" ∷ []
words_of Balance = codes ":balance" ∷ []
words_of BalanceStep = codes ":balance" ∷ codes "step" ∷ []
words_of (Move part from to) = codes ":move" ∷ decimal part ∷ decimal from ∷ decimal to ∷ []
words_of Parts = codes ":parts" ∷ []
words_of (Chaos seed count) = codes ":chaos" ∷ decimal seed ∷ decimal count ∷ []

-- its numbers have their width, and keep their bounds: 14 kinds, 1 to 64 Rounds, 1 to 1,000 drawn lines
abbrev pub IsSmall : ℕ → Type 0
IsSmall n = n < 2 ^ 32

abbrev pub IsKind : ℕ → Type 0
IsKind kind = (1 ≤ kind) × (kind ≤ 14)

abbrev pub IsAllowed : Control → Type 0
IsAllowed (Cut a b) = IsSmall a × IsSmall b
IsAllowed Heal = Unit {0}
IsAllowed (Lose kind) = IsKind kind
IsAllowed Keep = Unit {0}
IsAllowed (Again kind n) = IsKind kind × (n < 2 ^ 64)
IsAllowed (Crash node) = IsSmall node
IsAllowed (Restart node) = IsSmall node
IsAllowed RestartMeta = Unit {0}
IsAllowed (Elect part node cancel) = IsSmall part × IsSmall node
IsAllowed (GiveUp client) = IsSmall client
IsAllowed (Rounds n) = (1 ≤ n) × (n ≤ 64)
IsAllowed AddNode = Unit {0}
IsAllowed Balance = Unit {0}
IsAllowed BalanceStep = Unit {0}
IsAllowed (Move part from to) = IsSmall part × IsSmall from × IsSmall to
IsAllowed Parts = Unit {0}
IsAllowed (Chaos seed count) = (seed < 2 ^ 64) × (1 ≤ count) × (count ≤ 1000)

-- a line spells a control: its words, parted by single spaces, are the control's
abbrev pub IsSpelled : List ℕ → Control → Type 0
IsSpelled line control = (words (text_of line) ≡ words_of control) × IsAllowed control
