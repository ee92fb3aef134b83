use Rattle.std.proofs.Common.{rules, ◌≡◌, ◌<◌, ◌^◌, ◌++◌, List, ℕ, length, sym, ap, ◌∙◌, append_assoc, subst}
use Rattle.byte_fields.specs.Fields.{number}
use Rattle.byte_fields.proofs.Filling.{filled, length-filled}
use Rattle.wal_frames.specs.Spelling.{item}
use Rattle.wal_frames.proofs.writing.put_entry.Goals as goal

pub fill_length-requires : goal.fill_length-requires
fill_length-requires c =
    let is : c.put_item.new.out ≡ c.put_u64.new.self ++ number 4 0 ++ item c.args.made.now.item = rw (← c.in_ok-put_u32.ensures.ok) c.in_ok-put_item.ensures.ok in
    (length-filled c.put_item.new.out c.put_u64.new.self (item c.args.made.now.item) c.len-at.result is (sym c.len-at.ensures)).0

pub returns-clause-ok : goal.returns-clause-ok
returns-clause-ok c =
    let is : c.put_item.new.out ≡ c.put_u64.new.self ++ number 4 0 ++ item c.args.made.now.item = rw (← c.in_ok-put_u32.ensures.ok) c.in_ok-put_item.ensures.ok in
    c.in_ok-fill_length.ensures.ok
    ∙ filled c.put_item.new.out c.put_u64.new.self (item c.args.made.now.item) c.len-at.result is (sym c.len-at.ensures)
    ∙ ap (λ (front : List ℕ). front ++ number 4 (length (item c.args.made.now.item)) ++ item c.args.made.now.item) c.in_ok-put_u64.ensures.ok
    ∙ simp append_assoc

pub returns-clause-fits : goal.returns-clause-fits
returns-clause-fits c =
    let is : c.put_item.new.out ≡ c.put_u64.new.self ++ number 4 0 ++ item c.args.made.now.item = rw (← c.in_ok-put_u32.ensures.ok) c.in_ok-put_item.ensures.ok in
    let size = (length-filled c.put_item.new.out c.put_u64.new.self (item c.args.made.now.item) c.len-at.result is (sym c.len-at.ensures)).1 in
    record { term = search rules; len = subst (λ (n : ℕ). n < 2 ^ 32) size c.in_ok-fill_length.ensures.fits; item_fits = c.in_ok-put_item.ensures.fits }
