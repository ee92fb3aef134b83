use Rattle.std.proofs.Common.{◌≡◌, ℕ, List, Option, length, get_or, ap, ◌∙◌, arith}
use Rattle.part_keys.specs.declared.entry.PartEntry.{PartEntry}
use Rattle.std.specs.List.{slice_get}
use Rattle.std.specs.Option.{option_copied, option_and_then}
use Rattle.std.proofs.lemmas.Option.{same_Some, none-some}
use Rattle.part_keys.specs.declared.chain.PrimeRec.{PrimeRec}
use Rattle.part_machine.specs.Ahead.{answers, beginnings}
use Rattle.replica_peer.specs.Peer.{home_in}
use Rattle.replica_peer.proofs.Along.{along_entry}
use Rattle.replica_peer.proofs.Entered.{table_of, entered}
use Rattle.replica_peer.proofs.Oks.{ok_with}
use Rattle.replica_peer.proofs.worked.WorkedAhead.entry.Goals as goal

pub returns-in_default : goal.returns-in_default
returns-in_default g c = λ senders p before all rest shows along.
    let next = along_entry (home_in c.args.machine.now.setting) c.args.by.me c.args.by.term senders p c.args.placed.now before all rest c.args.self.now c.args.of c.args.sender along in
    let at = next.at in
    let none = c.in_default.ensures.lookup.3 in
    let short = next.short in
    let slice = ap (λ (l : List (ℕ × PartEntry)). length l) c.as_slice.ensures in
    let place = c.len-place.ensures in
    let len = c.args.self.now.begins.ok in
    absurd (omega arith)

pub returns-in_default-answer : goal.returns-in_default-answer
returns-in_default-answer g c = λ senders p before all rest shows along.
    let next = along_entry (home_in c.args.machine.now.setting) c.args.by.me c.args.by.term senders p c.args.placed.now before all rest c.args.self.now c.args.of c.args.sender along in
    let said = next.said in
    let place : c.len-place.result ≡ length c.args.self.now.begins.items = let n = c.len-place.ensures in let ok = c.args.self.now.begins.ok in omega arith in
    absurd (none-some _ (c.in_default-answer.ensures p c.args.placed.now shows ∙ ap (λ (n : ℕ). slice_get (answers (home_in c.args.machine.now.setting).parts p c.args.placed.now) n) place ∙ said))

pub returns : goal.returns
returns g c = λ senders p before all rest shows along.
    let home = home_in c.args.machine.now.setting in
    let me = c.args.by.me in
    let term = c.args.by.term in
    let next = along_entry home me term senders p c.args.placed.now before all rest c.args.self.now c.args.of c.args.sender along in
    let place : c.len-place.result ≡ length c.args.self.now.begins.items = let n = c.len-place.ensures in let ok = c.args.self.now.begins.ok in omega arith in
    let entry = c.in-Some.ensures.lookup.1 ∙ (λ i. get_or (c.as_slice.ensures i) (place i) c.in-Some.entry.now) ∙ next.at c.in-Some.entry.now in
    let said = same_Some _ _ (c.in-Some-answer.ensures p c.args.placed.now shows ∙ ap (λ (n : ℕ). slice_get (answers home.parts p c.args.placed.now) n) place ∙ next.said) in
    let begun = c.begun.ensures p c.args.placed.now shows ∙ ap (λ (n : ℕ). option_and_then (λ (b : Option PrimeRec). b) (slice_get (beginnings home.parts p c.args.placed.now) n)) place ∙ ap (option_and_then (λ (b : Option PrimeRec). b)) next.begun in
    let t = table_of home me term senders p c.args.placed.now before all next.index next.machine next.entry in
    ok_with c.begin.result _ _ _ (c.begin.ensures.rules t) c.begin.ensures.begins
    (λ rules begins. entered home me term senders p c.args.placed.now before all rest c.args.self.now c.answers.new.self c.begin.new.self c.args.of c.args.sender next
    c.args.by.part c.in-Some.entry.now c.in-Some-answer.said.now (option_copied c.begun.result) c.requires entry said begun (record {
      answered = c.in_ok-answers.ensures.leaves;
      same_rules = c.in_ok-answers.ensures.rules;
      same_begins = c.in_ok-answers.ensures.begins;
      same_ready = c.in_ok-answers.ensures.ready;
      leaves = c.begin.ensures.leaves;
      rules = rules;
      begins = begins;
      ready = c.begin.ensures.ready;
    }))
