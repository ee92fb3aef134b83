-- What a step sends may be taken.
use Rattle.std.proofs.Common.{ℕ, zero, suc, List, [], ◌∷◌, length, drop, subst, sym}
use Rattle.std.specs.List.{AllByRecursion}
use Rattle.raft_log.specs.declared.entry.Entry.{Entry}
use Rattle.raft_log.specs.declared.message.RaftMsg.{RaftMsg}
use Rattle.raft_log.specs.declared.message.RaftMsg.TheVariants.{Append, Appended, Vote, Voted, TimeoutNow}
use Rattle.raft_log.specs.Config.{IsItem, AreEntries}
use Rattle.raft_log.proofs.PlaceLemmas.{all_of-take}
use Rattle.raft_core.specs.Ahead.{IsMessage, AreMessages}
use Rattle.raft_core.specs.Core.{Core}
use Rattle.raft_core.specs.Laws.{IsSentBy, SendsItsLog}
use Rattle.raft_core.specs.Step.{Stepped}
use Rattle.raft_core.proofs.Lists.{all_weaker}

all_of-drop : {A : Type 0} (P : A → Type 0) (n : ℕ) (xs : List A) → AllByRecursion P xs → AllByRecursion P (drop n xs)
all_of-drop P zero xs all = all
all_of-drop P (suc n) [] all = tt
all_of-drop P (suc n) (x ∷ xs) all = all_of-drop P n xs all.1

-- entries of a log that is one are entries
is_message : (core : Core) (message : RaftMsg) → AreEntries core.log → IsSentBy core message → IsMessage message
is_message core (Append term previous commit round entries) are by =
    let P : Entry → Type 0 = λ entry. IsItem entry.item in
    subst AreEntries (sym by.cut) (all_of-take P (length entries) (drop previous.index core.log) (all_of-drop P previous.index core.log are))
is_message core (Appended term ok index round) are by = tt
is_message core (Vote term last) are by = tt
is_message core (Voted term granted) are by = tt
is_message core (TimeoutNow term) are by = tt

pub are_messages : (st : Stepped) → AreEntries st.core.log → SendsItsLog st → AreMessages st.sends
are_messages st are sends =
    all_weaker (λ (send : ℕ × RaftMsg). IsSentBy st.core send.1) (λ (send : ℕ × RaftMsg). IsMessage send.1) (λ send by. is_message st.core send.1 are by) st.sends sends
