use Rattle.std.proofs.Common.{◌≡◌, ℕ, List, [], ◌∷◌, ◌+◌, drop, ap, sym, subst, ◌∙◌, arith}
use Rattle.std.proofs.lemmas.List.{drop_more, drop_all}
use Rattle.part_keys.specs.declared.entry.PartEntry.{PartEntry}
use Rattle.part_rules.specs.Machine.{applied}
use Rattle.part_rules.specs.Part.{Part}
use Rattle.part_store.specs.declared.setting.Setting.{Setting}
use Rattle.part_machine.specs.Machine.{IsMachine}
use Rattle.part_machine.specs.Playing.{behind, next_by}
use Rattle.chain_leader.specs.Leading.{chain_in, forgetting}
use Rattle.replica_peer.specs.Next.{rows_in, first_row, rows_behind}
use Rattle.replica_peer.specs.Worked.{with_row, tabled}
use Rattle.replica_peer.proofs.Follows.{tabled_next, rows_split}
use Rattle.replica_peer.proofs.applying.apply_all.Goals as goal

pub apply_one-requires-clause-shows : goal.apply_one-requires-clause-shows
apply_one-requires-clause-shows g c =
    let at = c.loop-placed in
    let i = at.placed-index in
    let x = c.placed-item.result in
    let rest = drop (i + 1) c.args.entries.now in
    let e : drop i c.args.entries.now ≡ x ∷ rest = drop_more c.args.entries.now i x c.loop-placed-test.true ∙ ap (λ y. y ∷ rest) (sym c.placed-item.is) in
    let was = at.invariant.applied c.requires.shows.0 c.requires.shows.1 in
    (was.part, rest, subst (λ (xs : List (ℕ × PartEntry)). IsMachine g.S.KeyStore.meaning g.S.KeyStore.has_place was.part xs at.machine) e was.shows)

pub apply_one-requires-clause-room : goal.apply_one-requires-clause-room
apply_one-requires-clause-room g c =
    let at = c.loop-placed in
    let room = at.invariant.room in
    let split = rows_split at.begins.items in
    rw (c.next_row-row.ensures.row) (omega arith)

pub loop-placed-preserved : goal.loop-placed-preserved
loop-placed-preserved g c =
    let at = c.loop-placed in
    let i = at.placed-index in
    let x = c.placed-item.result in
    let rest = drop (i + 1) c.args.entries.now in
    let e : drop i c.args.entries.now ≡ x ∷ rest = drop_more c.args.entries.now i x c.loop-placed-test.true ∙ ap (λ y. y ∷ rest) (sym c.placed-item.is) in
    let m = at.machine.setting in
    let parts = m.parts in
    let row : c.next_row-row.result ≡ first_row at.begins.items = c.next_row-row.ensures.row in
    let rows : c.next_row-row.new.rows.items ≡ rows_behind at.begins.items = c.next_row-row.ensures.rest in
    record {
      applied = λ p shows.
          let was = at.invariant.applied p shows in
          let now = (applied parts x.0 x.1 was.part).0 in
          let here = subst (λ (xs : List (ℕ × PartEntry)). IsMachine g.S.KeyStore.meaning g.S.KeyStore.has_place was.part xs at.machine) e was.shows in
          record {
            part = now;
            shows = c.apply_one.ensures.shows was.part rest here;
            left = ap (λ (s : Setting). behind s now rest) c.apply_one.ensures.setting ∙ ap (behind m was.part) (sym e) ∙ was.left;
            follows =
                ap (λ (s : Setting). tabled s.parts now c.apply_one.new.table.0 rest c.next_row-row.new.rows.items) c.apply_one.ensures.setting
                ∙ ap (λ t. tabled parts now t rest c.next_row-row.new.rows.items) (c.apply_one.ensures.table was.part rest here)
                ∙ (λ j. tabled parts now (with_row (forgetting at.table.0 now (chain_in x.1)) (row j)) rest (rows j))
                ∙ sym (tabled_next parts was.part at.table.0 x rest at.begins.items)
                ∙ ap (λ (xs : List (ℕ × PartEntry)). tabled parts was.part at.table.0 xs at.begins.items) (sym e)
                ∙ was.follows;
          };
      room =
          let room = at.invariant.room in
          let split = rows_split at.begins.items in
          let left = c.apply_one.ensures.room in
          let one = ap (λ r. rows_in (r ∷ [])) row in
          rw rows (omega arith);
      setting = c.apply_one.ensures.setting ∙ at.invariant.setting;
      next = ap (λ n. next_by n rest) (c.apply_one.ensures.next ∙ omega arith) ∙ ap (next_by at.machine.next) (sym e) ∙ at.invariant.next;
    }

pub returns-clause-shows : goal.returns-clause-shows
returns-clause-shows g c = λ p shows.
    let at = c.loop-placed in
    let was = at.invariant.applied p shows in
    let e : drop at.placed-index c.args.entries.now ≡ [] = drop_all at.placed-index c.args.entries.now (omega (arith, c.loop-placed-test.false)) in
    let left = ap (behind at.machine.setting was.part) (sym e) ∙ was.left in
    subst (λ (q : Part). IsMachine g.S.KeyStore.meaning g.S.KeyStore.has_place q [] at.machine) left
    (subst (λ (xs : List (ℕ × PartEntry)). IsMachine g.S.KeyStore.meaning g.S.KeyStore.has_place was.part xs at.machine) e was.shows)

pub returns-clause-table : goal.returns-clause-table
returns-clause-table g c = λ p shows.
    let at = c.loop-placed in
    let was = at.invariant.applied p shows in
    let e : drop at.placed-index c.args.entries.now ≡ [] = drop_all at.placed-index c.args.entries.now (omega (arith, c.loop-placed-test.false)) in
    ap (λ (xs : List (ℕ × PartEntry)). tabled at.machine.setting.parts was.part at.table.0 xs at.begins.items) (sym e) ∙ was.follows

pub returns-clause-next : goal.returns-clause-next
returns-clause-next g c =
    let at = c.loop-placed in
    let e : drop at.placed-index c.args.entries.now ≡ [] = drop_all at.placed-index c.args.entries.now (omega (arith, c.loop-placed-test.false)) in
    ap (next_by at.machine.next) (sym e) ∙ at.invariant.next
