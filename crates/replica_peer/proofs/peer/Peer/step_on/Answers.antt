use Rattle.std.proofs.Common.{◌≡◌, ℕ, List, ap, sym, subst, ◌∙◌}
use Rattle.std.specs.Prelude.{◌==◌, ◌&&◌, not}
use Rattle.std.specs.FinMap.{contains_key}
use Rattle.std.specs.List.{list_any}
use Rattle.part_keys.specs.declared.entry.PartEntry.{PartEntry}
use Rattle.part_machine.specs.Machine.{IsMachine}
use Rattle.chain_leader.specs.Leading.{Leading}
use Rattle.replica_model.specs.Replica.{Home, Replica, machine_of}
use Rattle.replica_state.specs.Places.{number_held}
use Rattle.replica_peer.specs.Ended.{ends_among}
use Rattle.replica_peer.specs.Next.{table_left, hints_left, spent, table_by}
use Rattle.replica_peer.specs.Peer.{home_of, replica_of}
use Rattle.replica_peer.specs.Worked.{tabled}
use Rattle.replica_peer.specs.declared.next.Steps.{Steps}
use Rattle.replica_peer.proofs.Spent.{zero_where, spent_is}
use Rattle.replica_peer.proofs.peer.Peer.step_on.Goals as goal

pub apply_all-requires-clause-shows : goal.apply_all-requires-clause-shows
apply_all-requires-clause-shows g c =
    let p = machine_of (home_of c.args.self.now) (replica_of c.args.self.now) in
    (p, subst (λ (xs : List (ℕ × PartEntry)). IsMachine g.S.KeyStore.meaning g.S.KeyStore.has_place p xs c.args.self.now.machine) (sym c.as_slice-entries.ensures) c.requires.fits.shows)

pub returns-clause-replica : goal.returns-clause-replica
returns-clause-replica g c =
    let home : Home = home_of c.args.self.now in
    let r : Replica = replica_of c.args.self.now in
    let s : Steps = c.args.steps in
    let p = machine_of home r in
    let entries = c.as_slice-entries.ensures in
    let shows = subst (λ (xs : List (ℕ × PartEntry)). IsMachine g.S.KeyStore.meaning g.S.KeyStore.has_place p xs c.args.self.now.machine) (sym entries) c.requires.fits.shows in
    let left : c.lead_on.new.leader.table.0 ≡ table_left s.on s.rule r.lead.table = ap (λ (l : Leading). l.table) c.lead_on.ensures.leading in
    let table : c.apply_all.new.table.0 ≡ table_by home r s = c.apply_all.ensures.table p shows ∙ (λ j. tabled (c.requires.setting j).parts p (left j) (entries j) s.begins.items) in
    let hints : (v : ℕ) → number_held c.use_up_gone.new.hints.entries v ≡ spent s.told.items (table_by home r s) (hints_left s.on r.hints) v = λ v.
    c.use_up_gone.ensures v
    ∙ (λ j. zero_where (ends_among v (entries j) && not (contains_key (table j) v)) (number_held c.use_up.new.hints.entries v))
    ∙ ap (zero_where (ends_among v s.placed && not (contains_key (table_by home r s) v))) (
    c.use_up.ensures v ∙ (λ j. zero_where (list_any (λ w. v == w) (c.as_slice.ensures.value j)) (c.hints_on.ensures j v)))
    ∙ spent_is r c.requires.hints s.on s.rule home.parts p s.placed s.begins.items s.told.items v in
    λ j. record {
      core = c.move_on.ensures j;
      lead = record { ready = (c.lead_on.ensures.leading j).ready; policy = (c.lead_on.ensures.leading j).policy; table = table j };
      senders = c.senders_on.ensures j;
      hints = λ v. hints v j;
      rows = c.reads_on.ensures j;
    }
