-- An entry is worked off by its answer, the record of the chain that begins with it, and its sender.
use Rattle.std.proofs.Common.{◌≡◌, ℕ, Bool, true, List, [], ◌∷◌, ◌++◌, Option, map, ap, sym, ◌∙◌}
use Rattle.std.specs.Prelude.{◌==◌}
use Rattle.part_keys.specs.declared.chain.PrimeRec.{PrimeRec}
use Rattle.part_keys.specs.declared.entry.PartEntry.{PartEntry}
use Rattle.part_rules.specs.declared.applied.Applied.{Applied}
use Rattle.part_rules.specs.Part.{Part}
use Rattle.part_rules.specs.Machine.{applied}
use Rattle.part_machine.specs.Ahead.{begun_behind}
use Rattle.chain_leader.specs.Rules.{Table}
use Rattle.chain_leader.specs.Leading.{Applies, answers_of, chain_in, forgetting}
use Rattle.chain_leader.specs.Applying.{beginning_by, begun_with}
use Rattle.replica_model.specs.declared.packet.Place.{Place}
use Rattle.replica_model.specs.Replica.{Home}
use Rattle.replica_model.specs.Letters.{packets_of}
use Rattle.replica_model.specs.Stepped.{Leaving, leaving}
use Rattle.replica_state.specs.Leaving.{leaving_of}
use Rattle.replica_peer.specs.declared.placing.Kind.{Kind}
use Rattle.replica_peer.specs.declared.worked.WorkedAhead.{WorkedAhead}
use Rattle.replica_peer.specs.Along.{IsAlong}
use Rattle.replica_peer.specs.Worked.{Sent, by_ready, row_in}
use Rattle.replica_peer.proofs.Along.{IsEntry}
use Rattle.replica_peer.proofs.Working.{entry_is}

-- What two calls made of it: the answers leave, then the rules are followed.
pub record IsEntered (w middle later : WorkedAhead) (part me term : ℕ) (own : Bool) (sender : Option Place) (x : PartEntry) (said : Applied) (begun : Option PrimeRec) (t : Table) : Type 0 where
  pub answered : map leaving_of middle.leaves ≡ map leaving_of w.leaves ++ map leaving (packets_of part me term (λ v. 0) sender (answers_of own x said))
  pub same_rules : middle.rules.items ≡ w.rules.items
  pub same_begins : middle.begins.items ≡ w.begins.items
  pub same_ready : middle.ready ≡ w.ready
  pub leaves : later.leaves ≡ middle.leaves
  pub rules : later.rules.items ≡ middle.rules.items ++ (begun_with middle.ready t (beginning_by term said begun)).letters
  pub begins : later.begins.items ≡ middle.begins.items ++ row_in middle.ready (beginning_by term said begun) ∷ []
  pub ready : later.ready ≡ middle.ready

module _ (home : Home) (me term : ℕ) (senders : ℕ → Option Place) (p : Part) (placed : List (ℕ × PartEntry)) (before : List Leaving) (all : Sent) where
  -- the table that the letter is told of, which it doesn't hang on
  abbrev pub table_of : (index : ℕ) (machine : Part) (x : PartEntry) → Table
  table_of index machine x = forgetting (by_ready true).table (applied home.parts index x machine).0 (chain_in x)

  module _ (rest : List Kind) (w middle later : WorkedAhead) (of : ℕ) (sender : Option Place) (next : IsEntry home me term senders p placed before all rest w of sender) where
    abbrev behind : Part × Applied
    behind = applied home.parts next.index next.entry next.machine

    pub entered : (part : ℕ) (entry : ℕ × PartEntry) (said : Applied) (begun : Option PrimeRec) → part ≡ home.part → entry ≡ (next.index, next.entry) → said ≡ behind.1 → begun ≡ begun_behind behind.0 behind.1
        → IsEntered w middle later part me term (of == term) sender entry.1 said begun (table_of next.index next.machine next.entry) → IsAlong home me term senders p placed before all rest later
    entered part entry said begun here there answer record_is made =
        let x : entry.1 ≡ next.entry = ap (λ (e : ℕ × PartEntry). e.1) there in
        next.goes_on later (record {
          leaves = ap (map leaving_of) made.leaves ∙ made.answered
              ∙ (λ i. map leaving_of w.leaves ++ map leaving (packets_of (here i) me term (λ v. 0) (next.from i) (answers_of (of == term) (x i) (answer i))));
          rules = made.rules ∙ (λ i. made.same_rules i ++ (begun_with (made.same_ready i) (table_of next.index next.machine next.entry) (beginning_by term (answer i) (record_is i))).letters)
              ∙ ap (λ ls. w.rules.items ++ ls) (sym (ap (λ (a : Applies). a.rules) (entry_is home.parts term next.machine (by_ready w.ready) next.index (by_ready w.ready) (of == term) next.entry behind)));
          begins = made.begins ∙ (λ i. made.same_begins i ++ row_in (made.same_ready i) (beginning_by term (answer i) (record_is i)) ∷ []);
          ready = made.ready ∙ made.same_ready;
        })
