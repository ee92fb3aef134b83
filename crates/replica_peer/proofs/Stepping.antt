-- A step of the Raft peer that is made ahead: what becomes of the replica, and what leaves.
use Rattle.std.proofs.Common.{◌≡◌, ℕ, suc, ◌+◌, ◌-◌, ◌≤◌, Bool, true, false, List, [], ◌∷◌, ◌++◌, map, length, take, drop, Option, None, Some, refl, ap, sym, subst, ◌∙◌, arith}
use Rattle.std.specs.Prelude.{◌==◌, ◌&&◌, ◌||◌, not, if◌then◌else◌}
use Rattle.std.specs.List.{filter, list_any}
use Rattle.std.specs.Ordering.{nat_cmp}
use Rattle.std.specs.FinMap.{empty, contains_key, get-empty}
use Rattle.std.proofs.lemmas.Bool.{both_ways}
use Rattle.std.proofs.lemmas.List.{take-take, take-append-drop, map-append, length-take-le, length-map, length-drop}
use Rattle.maps.proofs.Keys.{nat_keys}
use Rattle.maps.proofs.Updates.{remove_absent}
use Rattle.kv_part.specs.Store.{Contents}
use Rattle.raft_log.specs.declared.entry.Entry.{Entry}
use Rattle.part_keys.specs.declared.entry.PartEntry.{PartEntry}
use Rattle.part_keys.specs.declared.proposal.Proposal.{Proposal}
use Rattle.part_keys.specs.declared.proposal.Proposal.TheVariants.{Start, Members, Made, Blank}
use Rattle.part_rules.specs.Folded.{folded, folded_from}
use Rattle.part_rules.specs.Machine.{applied}
use Rattle.part_rules.specs.Part.{Part, blank}
use Rattle.part_rules.proofs.FoldsLists.{folded_append}
use Rattle.part_store.specs.declared.setting.Setting.{Setting}
use Rattle.part_machine.specs.Playing.{behind, next_by}
use Rattle.raft_core.specs.Core.{Core, is_leading}
use Rattle.raft_core.specs.Durable.{durable, kept}
use Rattle.raft_core.specs.Step.{Stepped as RaftStepped}
use Rattle.chain_leader.specs.Leading.{Leading, chain_in, forgetting}
use Rattle.chain_leader.specs.Rules.{Table, forget}
use Rattle.replica_model.specs.declared.input.Input.{Input}
use Rattle.replica_model.specs.declared.packet.Place.{Place}
use Rattle.replica_model.specs.Asks.{are_entries}
use Rattle.replica_model.specs.Letters.{Worked, is_about, packets_of, works}
use Rattle.replica_model.specs.Replica.{Home, Row, Replica, no_senders, no_hints, machine_of}
use Rattle.replica_model.specs.Spelling.{valued, values_of}
use Rattle.replica_model.specs.Stepped.{Leaving as Left, Stepped, Viewed, Led, leaving, leads_on, led_by, led_of, policy_behind, senders_with, rows_with, is_confirmed, answer_row, message_of, again_of, works_at, replica_behind, raft_behind, raft_step}
use Rattle.replica_state.specs.Asked.{ruled, ruled_table}
use Rattle.replica_state.specs.Leaving.{leaving_of}
use Rattle.replica_state.specs.declared.asked.Rule.{Rule}
use Rattle.replica_state.specs.declared.leaving.Leaving.{Leaving}
use Rattle.replica_peer.specs.Next.{core_behind, table_left, hints_left, senders_left, reads_left, table_by, steps_to, FitsSteps}
use Rattle.replica_peer.specs.Peer.{home_of, replica_of, IsReplica}
use Rattle.replica_peer.specs.Room.{HoldsEntries, IsRoomOf}
use Rattle.replica_peer.specs.Worked.{and_entry, entries_at, Sent, sent_where, tabled, worked_by}
use Rattle.replica_peer.specs.declared.next.Next.TheVariants as next
use Rattle.replica_peer.specs.declared.next.Steps.{Steps}
use Rattle.replica_peer.specs.declared.peer.Peer.{Peer}
use Rattle.replica_peer.proofs.EntriesAt.{folded_entries}
use Rattle.replica_peer.proofs.Working.{works_is}

-- where a machine stands behind entries
one_upto : (x : Proposal) (items : List (ℕ × Proposal)) (index before bound : ℕ) → ((from : ℕ) → from ≤ bound → next_by from (entries_at (suc index) items) ≤ bound) → suc index ≤ bound → before ≤ bound
    → next_by before (and_entry index x (entries_at (suc index) items)) ≤ bound
one_upto (Made x) items index before bound rest inside low = rest (suc index) inside
one_upto Start items index before bound rest inside low = rest before low
one_upto (Members config) items index before bound rest inside low = rest before low
one_upto Blank items index before bound rest inside low = rest before low

upto : (items : List (ℕ × Proposal)) (index bound : ℕ) → index + length items ≤ bound → (before : ℕ) → before ≤ bound → next_by before (entries_at index items) ≤ bound
upto [] index bound inside before low = low
upto (d ∷ items) index bound inside before low = one_upto d.1 items index before bound (upto items (suc index) bound (omega arith)) (omega arith) low

-- no chain of an empty table is forgotten
forgets_none : (behind : Part) (ended : Option ℕ) → forgetting empty behind ended ≡ empty
forgets_none behind None = refl
forgets_none behind (Some v) = by (contains_key behind.chains v)
  where
    by : (b : Bool) → (if b then empty else forget empty v) ≡ empty
    by true = refl
    by false = remove_absent nat_keys empty v (get-empty nat_cmp v)

tabled_empty : (parts : ℕ) (p : Part) (entries : List (ℕ × PartEntry)) → tabled parts p empty entries [] ≡ empty
tabled_empty parts p [] = refl
tabled_empty parts p (x ∷ entries) =
    ap (λ (t : Table). tabled parts (applied parts x.0 x.1 p).0 t entries []) (forgets_none (applied parts x.0 x.1 p).0 (chain_in x.1))
    ∙ tabled_empty parts (applied parts x.0 x.1 p).0 entries

-- who doesn't lead behind a step doesn't lead on
off_where : (a b c : Bool) → b ≡ false → (a && b && c) ≡ false
off_where true true c e = absurd (both_ways true e refl)
off_where true false c e = refl
off_where false b c e = refl

module _ (home : Home) (r : Replica) (st : RaftStepped) where
  -- what a step commits stands behind what was committed
  pub record IsOnward : Type 0 where
    pub inside : r.core.commit ≤ length r.core.log
    pub rises : r.core.commit ≤ st.core.commit
    pub within : st.core.commit ≤ length st.core.log
    pub between : st.committed ≡ drop r.core.commit (take st.core.commit st.core.log)
    pub decided : take r.core.commit st.core.log ≡ take r.core.commit r.core.log

  abbrev pub items : List (ℕ × Proposal)
  items = values_of home.spelling st.committed

  abbrev pub first : ℕ
  first = suc r.core.commit

  behind_log : IsOnward → take st.core.commit st.core.log ≡ take r.core.commit r.core.log ++ st.committed
  behind_log o =
      let front : take r.core.commit (take st.core.commit st.core.log) ≡ take r.core.commit r.core.log = take-take r.core.commit st.core.commit st.core.log o.rises ∙ o.decided in
      let back : drop r.core.commit (take st.core.commit st.core.log) ≡ st.committed = sym o.between in
      sym (take-append-drop r.core.commit (take st.core.commit st.core.log)) ∙ (λ j. front j ++ back j)

  pub machine_behind : IsOnward → (s : Setting) → s.parts ≡ home.parts → (b : Replica) → b.core ≡ st.core → machine_of home b ≡ behind s (machine_of home r) (entries_at first items)
  machine_behind o s parts b is =
      let old = values_of home.spelling (take r.core.commit r.core.log) in
      let count : length old ≡ r.core.commit = length-map (take r.core.commit r.core.log) (valued home.spelling) ∙ length-take-le r.core.commit r.core.log o.inside in
      let start : 1 + length old ≡ first = omega arith in
      ap (λ (c : Core). folded home.parts (values_of home.spelling (take c.commit c.log))) is
      ∙ ap (λ (es : List Entry). folded home.parts (values_of home.spelling es)) (behind_log o)
      ∙ ap (folded home.parts) (map-append (valued home.spelling) (take r.core.commit r.core.log) st.committed)
      ∙ folded_append home.parts 1 blank old items
      ∙ ap (λ n. folded_from home.parts n (machine_of home r) items) start
      ∙ ap (λ n. folded_from n first (machine_of home r) items) (sym parts)
      ∙ folded_entries s first (machine_of home r) items

  pub next_upto : IsOnward → (before : ℕ) → before ≤ first → next_by before (entries_at first items) ≤ suc st.core.commit
  next_upto o before low =
      let count : length items ≡ st.core.commit - r.core.commit =
      length-map st.committed (valued home.spelling) ∙ ap length o.between ∙ length-drop r.core.commit (take st.core.commit st.core.log)
      ∙ ap (λ n. n - r.core.commit) (length-take-le st.core.commit st.core.log o.within) in
      let rises = o.rises in
      upto items first (suc st.core.commit) (omega arith) before (omega arith)

  -- what a leader makes of what is committed, and nothing at another role
  abbrev pub sent_by : (ℕ → Option Place) → Bool → Sent
  sent_by senders ready = sent_where (is_leading st.core.role) home r.core.me st.core.term senders (machine_of home r) ready first items

  abbrev pub worked_from : (ℕ → Option Place) → Leading → Worked
  worked_from senders lead = worked_by home.parts (machine_of home r) lead (entries_at first items) (sent_by senders lead.ready)

  pub worked_is : (senders : ℕ → Option Place) (lead : Leading) → (is_leading st.core.role ≡ false → lead.table ≡ empty) → works_at home r st senders lead ≡ worked_from senders lead
  worked_is senders lead bare = by (is_leading st.core.role) bare
    where
      stays : lead.table ≡ empty → lead.table ≡ tabled home.parts (machine_of home r) lead.table (entries_at first items) []
      stays e = e ∙ sym (tabled_empty home.parts (machine_of home r) (entries_at first items)) ∙ ap (λ (t : Table). tabled home.parts (machine_of home r) t (entries_at first items) []) (sym e)

      by : (b : Bool) → (b ≡ false → lead.table ≡ empty)
          → (if b then works home r.core.me st.core.term senders (machine_of home r) lead first items else record { leading = lead; answers = []; rules = [] })
          ≡ worked_by home.parts (machine_of home r) lead (entries_at first items) (sent_where b home r.core.me st.core.term senders (machine_of home r) lead.ready first items)
      by true none = works_is home r.core.me st.core.term senders first items (machine_of home r) lead
      by false none = λ j. record { leading = record { ready = lead.ready; policy = lead.policy; table = stays (none refl) j }; answers = []; rules = [] }

  module _ (i : Input) (rule : Rule) (sender : Option Place) (viewed : Option Viewed) where
    abbrev pub on : Bool
    on = leads_on r.core st.core

    abbrev pub lead_left : Leading
    lead_left = led_by on (ruled rule r.lead) (policy_behind r.lead.policy st.began i)

    abbrev pub senders_now : ℕ → Option Place
    senders_now = if on then senders_with sender (length st.core.log) r.senders else no_senders

    abbrev pub says : Sent
    says = sent_by senders_now lead_left.ready

    abbrev pub rows_now : List Row
    rows_now = rows_with r.rows viewed r.core st.core

    -- what leaves
    abbrev pub leaves_now : List Left
    leaves_now =
        map leaving (map (message_of home.part r.core.me) st.sends)
        ++ map leaving says.answers
        ++ map (answer_row home.part r.core.me) (filter (is_confirmed st.confirmed) rows_now)
        ++ map leaving (packets_of home.part r.core.me st.core.term (if on then r.hints else no_hints) None (says.rules ++ again_of on r.lead i))

    bare : is_leading st.core.role ≡ false → lead_left.table ≡ empty
    bare off = ap (λ (b : Bool). (led_by b (ruled rule r.lead) (policy_behind r.lead.policy st.began i)).table) (off_where (is_leading r.core.role) (is_leading st.core.role) (st.core.term == r.core.term) off)

    abbrev pub led_now : Led
    led_now = record (led_of home r i st (ruled rule r.lead) sender viewed on) { worked = worked_from senders_now lead_left }

    pub step_is : raft_behind home r.core.me st led_now ≡ raft_step home r i st (ruled rule r.lead) sender viewed
    step_is = ap (λ (w : Worked). raft_behind home r.core.me st (record (led_of home r i st (ruled rule r.lead) sender viewed on) { worked = w })) (sym (worked_is senders_now lead_left bare))

    -- what a program makes ahead
    pub record IsAhead (s : Steps) (leaves : List Leaving) : Type 0 where
      pub core : core_behind r.core s.core ≡ st.core
      pub leads : s.on ≡ on
      pub rules : s.rule ≡ rule
      pub policy : s.policy ≡ lead_left.policy
      pub ready : s.ready ≡ says.ready
      pub senders : senders_left s.on s.sender r.senders ≡ senders_now
      pub rows : reads_left s.reads r.rows ≡ rows_now
      pub confirmed : s.confirmed ≡ st.confirmed
      pub placed : s.placed ≡ entries_at first items
      pub begins : s.begins.items ≡ says.begins
      pub told : (v : ℕ) → list_any (λ w. v == w) s.told.items ≡ list_any (is_about v) says.rules
      pub left : map leaving_of leaves ≡ leaves_now

    left_table : (b : Bool) (t : Table) → t ≡ r.lead.table → table_left b rule t ≡ (led_by b (ruled rule r.lead) (policy_behind r.lead.policy st.began i)).table
    left_table true t e = ap (ruled_table rule) e
    left_table false t e = refl

    pub goes_by : (s : Steps) (leaves : List Leaving) → IsAhead s leaves → steps_to home r s ≡ replica_behind st led_now
    goes_by s leaves is =
        let table : table_by home r s ≡ led_now.worked.leading.table =
        (λ j. tabled home.parts (machine_of home r) (table_left (is.leads j) (is.rules j) r.lead.table) (is.placed j) (is.begins j))
        ∙ ap (λ (t : Table). tabled home.parts (machine_of home r) t (entries_at first items) says.begins) (left_table on r.lead.table refl) in
        λ j. record {
          core = is.core j;
          lead = record { ready = is.ready j; policy = is.policy j; table = table j };
          senders = is.senders j;
          hints = λ v. if is.told v j || not (contains_key (table j) v) then 0 else hints_left (is.leads j) r.hints v;
          rows = filter (λ (row : Row). not (is_confirmed (is.confirmed j) row)) (is.rows j);
        }

-- A room is the step's where it holds what was made ahead.
pub step_room : {S : Type 0} (meaning : S → Contents) (has_at : S → List ℕ → Bool) (a : Peer S) → IsReplica meaning has_at a → (st : RaftStepped) → IsOnward (home_of a) (replica_of a) st
    → durable st.core ≡ kept (durable (replica_of a).core) st.kept → HoldsEntries st.kept → are_entries (home_of a) st.core.log ≡ true
    → (i : Input) (rule : Rule) (sender : Option Place) (viewed : Option Viewed) (s : Steps) (leaves : List Leaving) → IsAhead (home_of a) (replica_of a) st i rule sender viewed s leaves → FitsSteps meaning has_at a s
    → IsRoomOf meaning has_at a (raft_step (home_of a) (replica_of a) i st (ruled rule (replica_of a).lead) sender viewed) (record { kept = st.kept; leaves = leaves; change = st.change; next = next.Steps s })
step_room meaning has_at a sound st onward lasts holds entries i rule sender viewed s leaves is fits =
    let home = home_of a in
    let r = replica_of a in
    let parts : a.machine.setting.parts ≡ home.parts = ap (λ (x : Setting). x.parts) sound.setting in
    subst (λ (x : Stepped). IsRoomOf meaning has_at a x (record { kept = st.kept; leaves = leaves; change = st.change; next = next.Steps s })) (step_is home r st i rule sender viewed)
    (record {
      kept = refl;
      leaves = is.left;
      change = refl;
      items = holds;
      durable = lasts;
      next = goes_by home r st i rule sender viewed s leaves is;
      fits = fits;
      machine = (
        machine_behind home r st onward a.machine.setting parts (replica_behind st (led_now home r st i rule sender viewed)) refl ∙ ap (behind a.machine.setting (machine_of home r)) (sym is.placed),
        subst (λ (xs : List (ℕ × PartEntry)). next_by a.machine.next xs ≤ suc st.core.commit) (sym is.placed) (next_upto home r st onward a.machine.next sound.next),
      );
      entries = entries;
    })
