use Rattle.std.proofs.Common.{◌≡◌, ◌+◌, ◌++◌, length, ap, sym, ◌∙◌, arith}
use Rattle.raft_log.specs.declared.entry.Entry.{Entry}
use Rattle.raft_log.specs.declared.mark.Mark.{Mark}
use Rattle.raft_log.specs.Config.{IsItem}
use Rattle.raft_log.specs.Log.{last_of}
use Rattle.raft_log.specs.Places.{config_places, noted}
use Rattle.raft_log.specs.Rising.{risen, rising}
use Rattle.raft_log.proofs.PlaceLemmas.{append_kept, all_behind}
use Rattle.raft_log.proofs.RisingLemmas.{risen_is, within}
use Rattle.raft_log.proofs.log.RaftLog.append.Goals as goal

pub risen-rising-requires : goal.risen-rising-requires
risen-rising-requires c = let w = within c.self.inside.entries.items in omega (arith, w, c.self.invariant.2)

pub invariant_of-self : goal.invariant_of-self
invariant_of-self c =
    let log = c.self.inside.entries.items in
    let last = c.last-last.ensures ∙ ap (λ v. last_of v.0) (sym c.self.view_is) in
    let place : c.last-last.result.index + 1 ≡ length log + 1 = ap (λ (m : Mark). m.index + 1) last in
    let behind = c.risen-rising.ensures ∙ ap (λ m. risen c.self.inside.rising m c.args.entry.term) last ∙ ap (λ n. risen n (last_of log) c.args.entry.term) c.self.invariant.2 ∙ risen_is log c.args.entry in (
      c.note.ensures.places ∙ ap (λ xs. xs ++ noted c.args.entry.item (c.last-last.result.index + 1)) c.self.invariant.0
          ∙ ap (λ n. config_places log ++ noted c.args.entry.item n) place ∙ sym (append_kept log c.args.entry) ∙ ap config_places (sym c.in-Ok.ensures.items),
      rw c.in-Ok.ensures.items (all_behind (λ (entry : Entry). IsItem entry.item) log c.args.entry c.self.invariant.1 c.requires.item),
      behind ∙ ap rising (sym c.in-Ok.ensures.items),
    )

pub returns-clause-room : goal.returns-clause-room
returns-clause-room c = let e = ap (λ v. v.1) c.self.view_is in omega (arith, e, c.note.ensures.room, c.push.ensures.capacity, c.in-Ok.ensures.len)
