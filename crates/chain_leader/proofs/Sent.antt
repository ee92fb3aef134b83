-- What leaves when a chain begins, and when one that stands is taken up.
use Rattle.std.proofs.Common.{◌≡◌, ℕ, [], ◌∷◌, Option, None, Some, refl, ap, sym}
use Rattle.std.specs.FinMap.{get, insert}
use Rattle.maps.proofs.Keys.{nat_keys}
use Rattle.maps.proofs.Updates.{insert_here}
use Rattle.part_keys.specs.declared.chain.PrimeRec.{PrimeRec}
use Rattle.part_keys.specs.declared.chain.ChainState.{ChainState}
use Rattle.part_keys.specs.declared.chain.ChainMsg.{ChainMsg}
use Rattle.part_keys.specs.declared.chain.ChainMsg.TheVariants as send
use Rattle.part_keys.specs.declared.chain.Mode.{Mode}
use Rattle.part_keys.specs.declared.chain.Mode.TheVariants.{Put, Doubled, Fence}
use Rattle.part_keys.specs.declared.chain.Policy.{Policy}
use Rattle.chain_leader.specs.declared.body.ChainBody.TheVariants as says
use Rattle.chain_leader.specs.declared.letter.Letter.TheVariants.{Cross}
use Rattle.chain_leader.specs.Rules.{Table, added, message, on_primed, mode_for, next_try, resumes, resume}
use Rattle.chain_leader.specs.Leading.{sends_by, sends}
use Rattle.chain_leader.specs.Leader.{said_of, resumption}

-- the table is the rule's
table_by : (term : ℕ) (t : Table) (m : ChainMsg) (o : Option ChainState) → (sends_by term t m o).table ≡ t
table_by term t m None = refl
table_by term t m (Some chain) = refl

pub resumed_table : (term : ℕ) (t : Table) (rec : PrimeRec) (policy : Policy) → (resume t rec policy).0 ≡ (sends term (resume t rec policy)).table
resumed_table term t rec policy = sym (table_by term (resume t rec policy).0 (resume t rec policy).1 _)

pub begun_table : (term : ℕ) (t : Table) (rec : PrimeRec) → (on_primed t rec).0 ≡ (sends term (on_primed t rec)).table
begun_table term t rec = sym (table_by term (on_primed t rec).0 (on_primed t rec).1 _)

-- the letter of a row that was put into the table
row_sent : (term : ℕ) (t : Table) (v : ℕ) (row : ChainState) (mode : Mode) → Cross row.remote row.tries (said_of term row.list (message mode v)) ∷ [] ≡ (sends term (insert t v row, message mode v)).letters
row_sent term t v row Put = sym (ap (λ o. (sends_by term (insert t v row) (send.Remote v) o).letters) (insert_here nat_keys t v row))
row_sent term t v row Doubled = sym (ap (λ o. (sends_by term (insert t v row) (send.Remote v) o).letters) (insert_here nat_keys t v row))
row_sent term t v row Fence = sym (ap (λ o. (sends_by term (insert t v row) (send.Fence v) o).letters) (insert_here nat_keys t v row))

pub begun_sent : (term : ℕ) (t : Table) (rec : PrimeRec) → Cross rec.remote 0 (says.Remote term rec.v rec.list) ∷ [] ≡ (sends term (on_primed t rec)).letters
begun_sent term t rec = row_sent term t rec.v (added rec Put) Put

resumed_by : (term : ℕ) (t : Table) (rec : PrimeRec) (policy : Policy) (o : Option ChainState) → resumption term rec policy o ∷ [] ≡ (sends term (resumes t rec policy o)).letters
resumed_by term t rec policy None = row_sent term t rec.v (added rec (mode_for rec policy)) (mode_for rec policy)
resumed_by term t rec policy (Some chain) = row_sent term t rec.v (record chain { tries = next_try chain.tries }) chain.mode

pub resumed_sent : (term : ℕ) (t : Table) (rec : PrimeRec) (policy : Policy) → resumption term rec policy (get t rec.v) ∷ [] ≡ (sends term (resume t rec policy)).letters
resumed_sent term t rec policy = resumed_by term t rec policy (get t rec.v)
