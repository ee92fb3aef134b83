-- One item after another is worked off.
use Rattle.std.proofs.Common.{◌≡◌, ℕ, zero, suc, Bool, true, false, ◌<◌, ◌≤◌, List, [], ◌∷◌, ◌++◌, Option, Some, map, drop, length, get_or, refl, ap, sym, subst, ◌∙◌, arith}
use Rattle.std.specs.Prelude.{◌==◌}
use Rattle.std.specs.List.{slice_get}
use Rattle.std.proofs.lemmas.List.{append_assoc, append-nil, map-append, length-append}
use Rattle.part_keys.specs.declared.chain.ChainState.{ChainState}
use Rattle.part_keys.specs.declared.entry.PartEntry.{PartEntry}
use Rattle.part_keys.specs.declared.proposal.Proposal.{Proposal}
use Rattle.part_keys.specs.declared.proposal.Proposal.TheVariants.{Start, Members, Made, Blank}
use Rattle.part_rules.specs.Part.{Part}
use Rattle.part_rules.specs.Machine.{applied}
use Rattle.part_rules.specs.Folded.{item_applied}
use Rattle.part_machine.specs.Ahead.{answers, begun_behind, beginnings}
use Rattle.chain_leader.specs.Leading.{Applies, on_item_by, started}
use Rattle.replica_model.specs.declared.packet.Place.{Place}
use Rattle.replica_model.specs.Replica.{Home}
use Rattle.replica_model.specs.Letters.{packets_of}
use Rattle.replica_model.specs.Stepped.{Leaving, leaving}
use Rattle.replica_state.specs.Leaving.{leaving_of}
use Rattle.replica_peer.specs.declared.placing.Kind.{Kind}
use Rattle.replica_peer.specs.declared.placing.Kind.TheVariants as kind
use Rattle.replica_peer.specs.declared.worked.WorkedAhead.{WorkedAhead}
use Rattle.replica_peer.specs.Along.{AreLeft, IsAt, IsAlong, IsWorked}
use Rattle.replica_peer.specs.Placed.{kind_of, kinds_at}
use Rattle.replica_peer.specs.Worked.{Sent, by_ready, entries_at, begins_at, sent}

-- what is left of a list behind the first of what was left
drop_next : {A : Type 0} (n : ℕ) (xs : List A) (y : A) (ys : List A) → drop n xs ≡ y ∷ ys → drop (suc n) xs ≡ ys
drop_next zero xs y ys e = ap (drop 1) e
drop_next (suc n) [] y ys e = absurd cc
drop_next (suc n) (x ∷ xs) y ys e = drop_next n xs y ys e

pub got_first : {A : Type 0} (n : ℕ) (xs : List A) (y : A) (ys : List A) → drop n xs ≡ y ∷ ys → slice_get xs n ≡ Some y
got_first zero xs y ys e = ap (λ l. slice_get l 0) e
got_first (suc n) [] y ys e = absurd cc
got_first (suc n) (x ∷ xs) y ys e = got_first n xs y ys e

pub got_in : {A : Type 0} (n : ℕ) (xs : List A) (y : A) (ys : List A) → drop n xs ≡ y ∷ ys → n < length xs
got_in zero [] y ys e = absurd cc
got_in zero (x ∷ xs) y ys e = omega arith
got_in (suc n) [] y ys e = absurd cc
got_in (suc n) (x ∷ xs) y ys e = let less = got_in n xs y ys e in omega arith

pub got_or : {A : Type 0} (n : ℕ) (xs : List A) (y : A) (ys : List A) (other : A) → drop n xs ≡ y ∷ ys → get_or xs n other ≡ y
got_or zero [] y ys other e = absurd cc
got_or zero (x ∷ xs) y ys other e = cc
got_or (suc n) [] y ys other e = absurd cc
got_or (suc n) (x ∷ xs) y ys other e = got_or n xs y ys other e

pub none_left : {A : Type 0} (n : ℕ) (xs : List A) → length xs ≤ n → drop n xs ≡ []
none_left zero [] short = refl
none_left zero (x ∷ xs) short = absurd (omega arith)
none_left (suc n) [] short = refl
none_left (suc n) (x ∷ xs) short = none_left n xs (omega arith)

pub first_left : {A : Type 0} (n after : ℕ) (xs : List A) (other : A) → n < length xs → after ≡ suc n → drop n xs ≡ get_or xs n other ∷ drop after xs
first_left n after [] other less next = absurd (omega arith)
first_left zero after (x ∷ xs) other less next = ap (λ m. x ∷ drop m (x ∷ xs)) (sym next)
first_left (suc n) after (x ∷ xs) other less next = first_left n (suc n) xs other (omega arith) refl ∙ ap (λ m. get_or xs n other ∷ drop m (x ∷ xs)) (sym next)

-- what is put behind what was, before the rest
put_behind : {A : Type 0} (was put now rest rest' all : List A) → now ≡ was ++ put → rest' ≡ rest → was ++ (put ++ rest) ≡ all → now ++ rest' ≡ all
put_behind was put now rest rest' all e f g = (λ i. e i ++ f i) ∙ append_assoc was put rest ∙ g

one_longer : {A : Type 0} (xs : List A) (x : A) (ys : List A) → ys ≡ xs ++ x ∷ [] → length ys ≡ suc (length xs)
one_longer xs x ys e = let long = ap length e ∙ length-append xs (x ∷ []) in omega arith

as_long : {A : Type 0} (xs ys : List A) → ys ≡ xs ++ [] → length ys ≡ length xs
as_long xs ys e = ap length (e ∙ append-nil xs)

module _ (home : Home) (me term : ℕ) (senders : ℕ → Option Place) (p : Part) (placed : List (ℕ × PartEntry)) (before : List Leaving) (all : Sent) where
  -- what an item does to what was worked off
  pub record IsItem (w later : WorkedAhead) (index : ℕ) (machine : Part) (of : ℕ) (x : Proposal) : Type 0 where
    pub leaves : map leaving_of later.leaves ≡ map leaving_of w.leaves ++ map leaving (packets_of home.part me term (λ v. 0) (senders index) (on_item_by home.parts term machine (by_ready w.ready) index (of == term) x).answers)
    pub rules : later.rules.items ≡ w.rules.items ++ (on_item_by home.parts term machine (by_ready w.ready) index (of == term) x).rules
    pub begins : later.begins.items ≡ w.begins.items ++ begins_at home.parts w.ready term index machine x
    pub ready : later.ready ≡ (on_item_by home.parts term machine (by_ready w.ready) index (of == term) x).leading.ready

  abbrev Left : ℕ → ℕ → Part → List (ℕ × Proposal) → Type 0
  Left done index machine items = AreLeft home.parts p placed done index machine items

  -- the other items are left
  left_behind : (w later : WorkedAhead) (index : ℕ) (machine : Part) (of : ℕ) (x : Proposal) (items : List (ℕ × Proposal)) → later.begins.items ≡ w.begins.items ++ begins_at home.parts w.ready term index machine x
      → Left (length w.begins.items) index machine ((of, x) ∷ items) → Left (length later.begins.items) (suc index) (item_applied home.parts index x machine).0 items
  left_behind w later index machine of Start items more left = subst (λ (n : ℕ). Left n (suc index) machine items) (sym (as_long w.begins.items later.begins.items more)) (record { entries = left.entries; answers = left.answers; beginnings = left.beginnings })
  left_behind w later index machine of (Members config) items more left = subst (λ (n : ℕ). Left n (suc index) machine items) (sym (as_long w.begins.items later.begins.items more)) (record { entries = left.entries; answers = left.answers; beginnings = left.beginnings })
  left_behind w later index machine of Blank items more left = subst (λ (n : ℕ). Left n (suc index) machine items) (sym (as_long w.begins.items later.begins.items more)) (record { entries = left.entries; answers = left.answers; beginnings = left.beginnings })
  left_behind w later index machine of (Made x) items more left =
      subst (λ (n : ℕ). Left n (suc index) (applied home.parts index x machine).0 items) (sym (one_longer w.begins.items _ later.begins.items more)) (record {
        entries = drop_next (length w.begins.items) placed _ _ left.entries;
        answers = drop_next (length w.begins.items) (answers home.parts p placed) _ _ left.answers;
        beginnings = drop_next (length w.begins.items) (beginnings home.parts p placed) _ _ left.beginnings;
      })

  abbrev At : List Kind → WorkedAhead → ℕ → Part → List (ℕ × Proposal) → Type 0
  At kinds w index machine items = IsAt home me term senders p placed before all kinds w index machine items

  abbrev Along : List Kind → WorkedAhead → Type 0
  Along kinds w = IsAlong home me term senders p placed before all kinds w

  -- behind an item
  next_at : (kinds rest : List Kind) (w later : WorkedAhead) (index : ℕ) (machine : Part) (of : ℕ) (x : Proposal) (items : List (ℕ × Proposal)) → rest ≡ kinds_at senders (suc index) items
      → At kinds w index machine ((of, x) ∷ items) → IsItem w later index machine of x → Along rest later
  next_at kinds rest w later index machine of x items same at is =
      let behind : Part = (item_applied home.parts index x machine).0 in
      let first : Applies = on_item_by home.parts term machine (by_ready w.ready) index (of == term) x in
      let go : Bool → Sent = λ ready. sent home me term senders behind ready (suc index) items in (
        suc index,
        behind,
        items,
        record {
          kinds_are = same;
          left = left_behind w later index machine of x items is.begins at.left;
          leaves = put_behind (map leaving_of w.leaves) (map leaving (packets_of home.part me term (λ v. 0) (senders index) first.answers)) (map leaving_of later.leaves)
              (map leaving (go first.leading.ready).answers) (map leaving (go later.ready).answers) (before ++ map leaving all.answers)
              is.leaves (ap (λ (ready : Bool). map leaving (go ready).answers) is.ready)
              (ap (λ (ls : List Leaving). map leaving_of w.leaves ++ ls) (sym (map-append leaving (packets_of home.part me term (λ v. 0) (senders index) first.answers) (go first.leading.ready).answers)) ∙ at.leaves);
          rules = put_behind w.rules.items first.rules later.rules.items (go first.leading.ready).rules (go later.ready).rules all.rules is.rules (ap (λ (ready : Bool). (go ready).rules) is.ready) at.rules;
          begins = put_behind w.begins.items (begins_at home.parts w.ready term index machine x) later.begins.items (go first.leading.ready).begins (go later.ready).begins all.begins is.begins (ap (λ (ready : Bool). (go ready).begins) is.ready) at.begins;
          ready = ap (λ (ready : Bool). (go ready).ready) is.ready ∙ at.ready;
        },
      )

  -- a no-op is answered nothing
  no_answers : (own ready : Bool) (index : ℕ) → map leaving (packets_of home.part me term (λ v. 0) (senders index) (started (by_ready ready) own).answers) ≡ []
  no_answers true ready index = refl
  no_answers false ready index = refl

  -- a no-op is worked off
  start_at : (rest : List Kind) (w later : WorkedAhead) (of index : ℕ) (machine : Part) (other : ℕ) (x : Proposal) (items : List (ℕ × Proposal)) → At (kind.Start of ∷ rest) w index machine ((other, x) ∷ items)
      → later.leaves ≡ w.leaves → later.rules.items ≡ w.rules.items ++ (started (by_ready w.ready) (of == term)).rules → later.begins.items ≡ w.begins.items
      → later.ready ≡ (started (by_ready w.ready) (of == term)).leading.ready → Along rest later
  start_at rest w later of index machine other Start items at leaves rules begins ready =
      let same : kind.Start of ∷ rest ≡ kind.Start other ∷ kinds_at senders (suc index) items = at.kinds_are in
      let term_is : of ≡ other = cc in
      let rest_is : rest ≡ kinds_at senders (suc index) items = cc in
      next_at (kind.Start of ∷ rest) rest w later index machine other Start items rest_is at (record {
        leaves = ap (map leaving_of) leaves ∙ sym (ap (λ (ls : List Leaving). map leaving_of w.leaves ++ ls) (no_answers (other == term) w.ready index) ∙ append-nil (map leaving_of w.leaves));
        rules = rules ∙ ap (λ (t : ℕ). w.rules.items ++ (started (by_ready w.ready) (t == term)).rules) term_is;
        begins = begins ∙ sym (append-nil w.begins.items);
        ready = ready ∙ ap (λ (t : ℕ). (started (by_ready w.ready) (t == term)).leading.ready) term_is;
      })
  start_at rest w later of index machine other (Members config) items at leaves rules begins ready = let same : kind.Start of ∷ rest ≡ kind.Quiet ∷ kinds_at senders (suc index) items = at.kinds_are in absurd cc
  start_at rest w later of index machine other (Made x) items at leaves rules begins ready = let same : kind.Start of ∷ rest ≡ kind.Entry other (senders index) ∷ kinds_at senders (suc index) items = at.kinds_are in absurd cc
  start_at rest w later of index machine other Blank items at leaves rules begins ready = let same : kind.Start of ∷ rest ≡ kind.Quiet ∷ kinds_at senders (suc index) items = at.kinds_are in absurd cc

  start_in : (rest : List Kind) (w later : WorkedAhead) (of index : ℕ) (machine : Part) (items : List (ℕ × Proposal)) → At (kind.Start of ∷ rest) w index machine items
      → later.leaves ≡ w.leaves → later.rules.items ≡ w.rules.items ++ (started (by_ready w.ready) (of == term)).rules → later.begins.items ≡ w.begins.items
      → later.ready ≡ (started (by_ready w.ready) (of == term)).leading.ready → Along rest later
  start_in rest w later of index machine [] at leaves rules begins ready = let same : kind.Start of ∷ rest ≡ [] = at.kinds_are in absurd cc
  start_in rest w later of index machine (d ∷ items) at leaves rules begins ready = start_at rest w later of index machine d.0 d.1 items at leaves rules begins ready

  pub along_start : (rest : List Kind) (w later : WorkedAhead) (of : ℕ) → Along (kind.Start of ∷ rest) w
      → later.leaves ≡ w.leaves → later.rules.items ≡ w.rules.items ++ (started (by_ready w.ready) (of == term)).rules → later.begins.items ≡ w.begins.items
      → later.ready ≡ (started (by_ready w.ready) (of == term)).leading.ready → Along rest later
  along_start rest w later of along leaves rules begins ready = start_in rest w later of along.0 along.1 along.2 along.3 leaves rules begins ready

  -- nothing is worked off
  quiet_item : (rest : List Kind) (w : WorkedAhead) (index : ℕ) (machine : Part) (of : ℕ) (x : Proposal) (items : List (ℕ × Proposal)) → rest ≡ kinds_at senders (suc index) items → At (kind.Quiet ∷ rest) w index machine ((of, x) ∷ items)
      → IsItem w w index machine of x → Along rest w
  quiet_item rest w index machine of x items same at is = next_at (kind.Quiet ∷ rest) rest w w index machine of x items same at is

  quiet_at : (rest : List Kind) (w : WorkedAhead) (index : ℕ) (machine : Part) (of : ℕ) (x : Proposal) (items : List (ℕ × Proposal)) → At (kind.Quiet ∷ rest) w index machine ((of, x) ∷ items) → Along rest w
  quiet_at rest w index machine of Start items at = let same : kind.Quiet ∷ rest ≡ kind.Start of ∷ kinds_at senders (suc index) items = at.kinds_are in absurd cc
  quiet_at rest w index machine of (Members config) items at =
      let same : kind.Quiet ∷ rest ≡ kind.Quiet ∷ kinds_at senders (suc index) items = at.kinds_are in
      let rest_is : rest ≡ kinds_at senders (suc index) items = cc in
      quiet_item rest w index machine of (Members config) items rest_is at (record { leaves = sym (append-nil (map leaving_of w.leaves)); rules = sym (append-nil w.rules.items); begins = sym (append-nil w.begins.items); ready = refl })
  quiet_at rest w index machine of (Made x) items at = let same : kind.Quiet ∷ rest ≡ kind.Entry of (senders index) ∷ kinds_at senders (suc index) items = at.kinds_are in absurd cc
  quiet_at rest w index machine of Blank items at =
      let same : kind.Quiet ∷ rest ≡ kind.Quiet ∷ kinds_at senders (suc index) items = at.kinds_are in
      let rest_is : rest ≡ kinds_at senders (suc index) items = cc in
      quiet_item rest w index machine of Blank items rest_is at (record { leaves = sym (append-nil (map leaving_of w.leaves)); rules = sym (append-nil w.rules.items); begins = sym (append-nil w.begins.items); ready = refl })

  quiet_in : (rest : List Kind) (w : WorkedAhead) (index : ℕ) (machine : Part) (items : List (ℕ × Proposal)) → At (kind.Quiet ∷ rest) w index machine items → Along rest w
  quiet_in rest w index machine [] at = let same : kind.Quiet ∷ rest ≡ [] = at.kinds_are in absurd cc
  quiet_in rest w index machine (d ∷ items) at = quiet_at rest w index machine d.0 d.1 items at

  pub along_quiet : (rest : List Kind) (w : WorkedAhead) → Along (kind.Quiet ∷ rest) w → Along rest w
  along_quiet rest w along = quiet_in rest w along.0 along.1 along.2 along.3

  -- An entry that comes next: its place, its answer, the chain that begins with it, its sender, and what is left behind it.
  pub record IsEntry (rest : List Kind) (w : WorkedAhead) (of : ℕ) (sender : Option Place) : Type 0 where
    pub index : ℕ
    pub machine : Part
    pub entry : PartEntry
    pub short : length w.begins.items < length placed
    pub at : (other : ℕ × PartEntry) → get_or placed (length w.begins.items) other ≡ (index, entry)
    pub said : slice_get (answers home.parts p placed) (length w.begins.items) ≡ Some (applied home.parts index entry machine).1
    pub begun : slice_get (beginnings home.parts p placed) (length w.begins.items) ≡ Some (begun_behind (applied home.parts index entry machine).0 (applied home.parts index entry machine).1)
    pub from : sender ≡ senders index
    pub goes_on : (later : WorkedAhead) → IsItem w later index machine of (Made entry) → Along rest later

  entry_at : (rest : List Kind) (w : WorkedAhead) (of : ℕ) (sender : Option Place) (index : ℕ) (machine : Part) (other : ℕ) (x : Proposal) (items : List (ℕ × Proposal)) → At (kind.Entry of sender ∷ rest) w index machine ((other, x) ∷ items) → IsEntry rest w of sender
  entry_at rest w of sender index machine other Start items at = let same : kind.Entry of sender ∷ rest ≡ kind.Start other ∷ kinds_at senders (suc index) items = at.kinds_are in absurd cc
  entry_at rest w of sender index machine other (Members config) items at = let same : kind.Entry of sender ∷ rest ≡ kind.Quiet ∷ kinds_at senders (suc index) items = at.kinds_are in absurd cc
  entry_at rest w of sender index machine other Blank items at = let same : kind.Entry of sender ∷ rest ≡ kind.Quiet ∷ kinds_at senders (suc index) items = at.kinds_are in absurd cc
  entry_at rest w of sender index machine other (Made x) items at =
      let same : kind.Entry of sender ∷ rest ≡ kind.Entry other (senders index) ∷ kinds_at senders (suc index) items = at.kinds_are in
      let term_is : of ≡ other = cc in
      let rest_is : rest ≡ kinds_at senders (suc index) items = cc in
      record {
        index = index;
        machine = machine;
        entry = x;
        short = got_in (length w.begins.items) placed _ _ at.left.entries;
        at = λ d. got_or (length w.begins.items) placed _ _ d at.left.entries;
        said = got_first (length w.begins.items) (answers home.parts p placed) _ _ at.left.answers;
        begun = got_first (length w.begins.items) (beginnings home.parts p placed) _ _ at.left.beginnings;
        from = cc;
        goes_on = λ later is. next_at (kind.Entry of sender ∷ rest) rest w later index machine other (Made x) items rest_is at (subst (λ (t : ℕ). IsItem w later index machine t (Made x)) term_is is);
      }

  entry_in : (rest : List Kind) (w : WorkedAhead) (of : ℕ) (sender : Option Place) (index : ℕ) (machine : Part) (items : List (ℕ × Proposal)) → At (kind.Entry of sender ∷ rest) w index machine items → IsEntry rest w of sender
  entry_in rest w of sender index machine [] at = let same : kind.Entry of sender ∷ rest ≡ [] = at.kinds_are in absurd cc
  entry_in rest w of sender index machine (d ∷ items) at = entry_at rest w of sender index machine d.0 d.1 items at

  pub along_entry : (rest : List Kind) (w : WorkedAhead) (of : ℕ) (sender : Option Place) → Along (kind.Entry of sender ∷ rest) w → IsEntry rest w of sender
  along_entry rest w of sender along = entry_in rest w of sender along.0 along.1 along.2 along.3

  -- what was worked off at first, and at last
  pub along_first : (w : WorkedAhead) (first : ℕ) (items : List (ℕ × Proposal)) (kinds : List Kind) → placed ≡ entries_at first items → kinds ≡ kinds_at senders first items
      → map leaving_of w.leaves ≡ before → w.rules.items ≡ [] → w.begins.items ≡ [] → sent home me term senders p w.ready first items ≡ all → Along kinds w
  along_first w first items kinds places same leaves rules begins sends = (
    first,
    p,
    items,
    record {
      kinds_are = same;
      left = subst (λ (bs : List (Option (ℕ × ChainState))). Left (length bs) first p items) (sym begins) (record { entries = places; answers = ap (answers home.parts p) places; beginnings = ap (beginnings home.parts p) places });
      leaves = (λ i. leaves i ++ map leaving (sends i).answers);
      rules = (λ i. rules i ++ (sends i).rules);
      begins = (λ i. begins i ++ (sends i).begins);
      ready = ap (λ (s : Sent). s.ready) sends;
    },
  )

  last_at : (w : WorkedAhead) (index : ℕ) (machine : Part) (items : List (ℕ × Proposal)) → At [] w index machine items → IsWorked before all w
  last_at w index machine [] at = record {
    leaves = sym (append-nil (map leaving_of w.leaves)) ∙ at.leaves;
    rules = sym (append-nil w.rules.items) ∙ at.rules;
    begins = sym (append-nil w.begins.items) ∙ at.begins;
    ready = at.ready;
  }
  last_at w index machine (d ∷ items) at = let same : [] ≡ kind_of (senders index) d.0 d.1 ∷ kinds_at senders (suc index) items = at.kinds_are in absurd cc

  pub along_last : (w : WorkedAhead) → Along [] w → IsWorked before all w
  along_last w along = last_at w along.0 along.1 along.2 along.3
