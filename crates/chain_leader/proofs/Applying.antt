-- What a leader makes of an item is what the program makes of it by the item's answer.
use Rattle.std.proofs.Common.{◌≡◌, ℕ, Option, None, Some, Bool, true, false, refl, ap, sym, ◌∙◌, subst}
use Rattle.std.specs.Prelude.{◌==◌}
use Rattle.std.specs.Option.{option_map}
use Rattle.part_keys.specs.declared.chain.PrimeRec.{PrimeRec}
use Rattle.part_keys.specs.declared.entry.PartEntry.{PartEntry}
use Rattle.part_keys.specs.declared.proposal.Proposal.{Proposal}
use Rattle.part_keys.specs.declared.proposal.Proposal.TheVariants.{Start, Made}
use Rattle.part_rules.specs.declared.applied.Applied.{Applied}
use Rattle.part_rules.specs.declared.applied.Applied.TheVariants.{Begun}
use Rattle.part_rules.specs.Part.{Part}
use Rattle.part_rules.specs.Machine.{applied}
use Rattle.part_rules.specs.Folded.{item_applied}
use Rattle.chain_leader.specs.declared.new_chain.NewChain.{NewChain}
use Rattle.chain_leader.specs.Rules.{Table}
use Rattle.chain_leader.specs.Leading.{Leading, Ruled, answers_of, chain_in, forgetting, quiet, begins, ruled_by, ruled, started, on_entry, on_item}
use Rattle.chain_leader.specs.Leader.{BeganBehind}
use Rattle.chain_leader.specs.Applying.{IsSaid, by_ready, beginning_of, beginning_by, begun_with, chain_at, entry_by, row_begun, row_in, with_row}
use Rattle.chain_leader.proofs.Sent.{begun_table, begun_sent}

-- a chain that begins
begins_by : (term : ℕ) (t : Table) (o : Option PrimeRec) → begins term t o ≡ begun_with true t (option_map (beginning_of term) o)
begins_by term t None = refl
begins_by term t (Some rec) = (λ i. record { table = sym (begun_table term t rec) i; letters = sym (begun_sent term t rec) i })

unready : (t : Table) (made : Option NewChain) → quiet t ≡ begun_with false t made
unready t None = refl
unready t (Some made) = refl

rule_by : (ready : Bool) (term : ℕ) (t : Table) (behind : Part) (said : Applied) (begun : Option PrimeRec) → BeganBehind behind said begun → ruled_by ready term t behind said ≡ begun_with ready t (beginning_by term said begun)
rule_by true term t behind (Begun v) begun h = ap (begins term t) h ∙ begins_by term t begun
rule_by false term t behind (Begun v) begun h = unready t (option_map (beginning_of term) begun)
rule_by true term t behind other begun h = refl
rule_by false term t behind other begun h = refl

-- an entry, by the part behind it and its answer
entry_is : (term : ℕ) (l : Leading) (own : Bool) (x : PartEntry) (behind : Part × Applied) (begun : Option PrimeRec) → BeganBehind behind.0 behind.1 begun → entry_by l own x behind.1 (beginning_by term behind.1 begun) behind.0 ≡ on_entry term l own x behind
entry_is term l own x behind begun h = ap (ruled l (answers_of own x behind.1)) (sym (rule_by l.ready term (forgetting l.table behind.0 (chain_in x)) behind.0 behind.1 begun h))

-- .. at a leader that is as that one, with the chain that was prepared
pub entry_at : (term : ℕ) (l m : Leading) (own : Bool) (x : PartEntry) (behind : Part) (said : Applied) (made : Option NewChain) (begun : Option PrimeRec)
    → m ≡ l → made ≡ beginning_by term said begun → BeganBehind behind said begun → entry_by m own x said made behind ≡ on_entry term l own x (behind, said)
entry_at term l m own x behind said made begun same prepared h =
    (λ i. entry_by (same i) own x said (prepared i) behind) ∙ entry_is term l own x (behind, said) begun h

-- the row of a chain that begins
row_put : (ready : Bool) (t : Table) (made : Option NewChain) → with_row t (row_in ready made) ≡ (begun_with ready t made).table
row_put true t (Some made) = refl
row_put true t None = refl
row_put false t made = refl

-- what leaves for it, whatever the table
sent_alike : (ready : Bool) (t u : Table) (made : Option NewChain) → (begun_with ready t made).letters ≡ (begun_with ready u made).letters
sent_alike true t u (Some made) = refl
sent_alike true t u None = refl
sent_alike false t u made = refl

-- An item that was looked at ahead: the leader behind it, and what it sends, by what it makes at a leader that is as ready.
pub record IsAhead (parts term index : ℕ) (machine : Part) (l : Leading) (of : ℕ) (item : Proposal) (said : Applied) (begun : Option PrimeRec) : Type 0 where
  pub leading : record l { ready = (on_item parts term machine (by_ready l.ready) index (of, item)).leading.ready; table = with_row (forgetting l.table (item_applied parts index item machine).0 (chain_at item)) (row_begun l.ready term item said begun) } ≡ (on_item parts term machine l index (of, item)).leading
  pub answers : (on_item parts term machine (by_ready l.ready) index (of, item)).answers ≡ (on_item parts term machine l index (of, item)).answers
  pub rules : (on_item parts term machine (by_ready l.ready) index (of, item)).rules ≡ (on_item parts term machine l index (of, item)).rules

-- a no-op, the leader's own or another's
start_ahead : (l : Leading) (own : Bool) → record l { ready = (started (by_ready l.ready) own).leading.ready } ≡ (started l own).leading
start_ahead l true = refl
start_ahead l false = refl

start_answers : (l : Leading) (own : Bool) → (started (by_ready l.ready) own).answers ≡ (started l own).answers
start_answers l true = refl
start_answers l false = refl

start_rules : (l : Leading) (own : Bool) → (started (by_ready l.ready) own).rules ≡ (started l own).rules
start_rules l true = refl
start_rules l false = refl

pub is_ahead : (parts term index : ℕ) (machine : Part) (l : Leading) (of : ℕ) (item : Proposal) (said : Applied) (begun : Option PrimeRec) → IsSaid parts index item machine said begun → IsAhead parts term index machine l of item said begun
is_ahead parts term index machine l of Start said begun h = record { leading = start_ahead l (of == term); answers = start_answers l (of == term); rules = start_rules l (of == term) }
is_ahead parts term index machine l of (Made x) said begun h =
    let behind = (applied parts index x machine).0 in
    let t = forgetting l.table behind (chain_in x) in
    let u = forgetting (by_ready l.ready).table behind (chain_in x) in
    let made = beginning_by term said begun in
    record {
      leading = ap (λ (m : Table). record l { table = m }) (row_put l.ready t made ∙ ap (λ (r : Ruled). r.table) (sym (rule_by l.ready term t behind said begun h.began)) ∙ ap (λ (s : Applied). (ruled_by l.ready term t behind s).table) h.answer);
      answers = refl;
      rules = ap (λ (s : Applied). (ruled_by l.ready term u behind s).letters) (sym h.answer) ∙ ap (λ (r : Ruled). r.letters) (rule_by l.ready term u behind said begun h.began) ∙ sent_alike l.ready u t made
          ∙ ap (λ (r : Ruled). r.letters) (sym (rule_by l.ready term t behind said begun h.began)) ∙ ap (λ (s : Applied). (ruled_by l.ready term t behind s).letters) h.answer;
    }
is_ahead parts term index machine l of other said begun h = record { leading = refl; answers = refl; rules = refl }

-- what the rules send for an entry that is looked at ahead
abbrev pub ahead : ℕ → ℕ → ℕ → Part → Bool → PartEntry → Table
ahead parts term index machine ready x = forgetting (by_ready ready).table (applied parts index x machine).0 (chain_in x)

pub said_rules : (parts term index : ℕ) (machine : Part) (ready : Bool) (of : ℕ) (item : Proposal) (x : PartEntry) (said : Applied) (begun : Option PrimeRec)
    → item ≡ Made x → IsSaid parts index item machine said begun
    → (begun_with ready (ahead parts term index machine ready x) (beginning_by term said begun)).letters ≡ (on_item parts term machine (by_ready ready) index (of, item)).rules
said_rules parts term index machine ready of item x said begun e =
    let behind = (applied parts index x machine).0 in
    let t = ahead parts term index machine ready x in
    subst (λ (y : Proposal). IsSaid parts index y machine said begun → (begun_with ready t (beginning_by term said begun)).letters ≡ (on_item parts term machine (by_ready ready) index (of, y)).rules) (sym e)
    (λ h. ap (λ (r : Ruled). r.letters) (sym (rule_by ready term t behind said begun h.began)) ∙ ap (λ (s : Applied). (ruled_by ready term t behind s).letters) h.answer)
