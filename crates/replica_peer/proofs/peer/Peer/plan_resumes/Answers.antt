use Rattle.std.proofs.Common.{◌≡◌, ◌≤◌, ◌++◌, map, length, None, refl, ap, ◌∙◌, arith}
use Rattle.chain_leader.specs.declared.resuming.TakenUp.{TakenUp}
use Rattle.chain_leader.specs.Leading.{Taken, resuming, standing_behind}
use Rattle.replica_model.specs.Letters.{packets_of}
use Rattle.replica_model.specs.Replica.{Replica, machine_of}
use Rattle.replica_model.specs.Stepped.{Stepped, leaving, rules_behind}
use Rattle.replica_state.specs.Leaving.{leaving_of}
use Rattle.replica_peer.specs.Next.{goes_to}
use Rattle.replica_peer.specs.Peer.{home_of, replica_of}
use Rattle.replica_peer.specs.Stages.{told_by}
use Rattle.replica_peer.specs.declared.next.Next.{Next}
use Rattle.replica_peer.specs.declared.next.Next.TheVariants as next
use Rattle.replica_peer.proofs.Planned.{room_beside, same_sound}
use Rattle.replica_peer.proofs.Resumed.{resumes_to, table_same}
use Rattle.replica_peer.proofs.peer.Peer.plan_resumes.Goals as goal

pub returns-clause-room : goal.returns-clause-room
returns-clause-room g c = λ input.
    let a = c.args.self.now in
    let home = home_of a in
    let r : Replica = replica_of a in
    let tk : Taken = resuming r.core.term r.lead (standing_behind (machine_of home r) c.args.after) in
    let st : Stepped = rules_behind home r tk in
    let rows = c.in_ok-letters.field-0.rows in
    let told = c.in_ok-told.told in
    let made : TakenUp = record { letters = c.new.result; rows = rows } in
    let n : Next = next.Resumes made told in
    let same = table_same g.S.KeyStore.meaning g.S.KeyStore.has_place a c.reserve.new.self c.reserve.ensures.same in
    let sent : c.into_vec.result.items ≡ tk.letters = c.into_vec.ensures ∙ c.in_ok-letters.ensures.letters in
    let about : told.items ≡ told_by tk.letters = c.in_ok-told.ensures ∙ ap told_by (c.as_slice.ensures ∙ c.in_ok-letters.ensures.letters) in
    let left : map leaving_of c.post_all.new.leaves ≡ st.leaves =
    c.in_ok-post_all.ensures
    ∙ (λ j. map leaving_of (c.new-leaves.ensures j) ++ map leaving (packets_of (c.writer.ensures j).part (c.writer.ensures j).me (c.writer.ensures j).term r.hints None (sent j))) in
    let goes : goes_to home (replica_of (record a { state = record a.state { leader = record a.state.leader { table = c.reserve.new.self } } })) n ≡ st.replica =
    ap (λ (q : Replica). goes_to home q n) same.replica
    ∙ resumes_to r c.requires.sound.hints rows.items told.items tk.letters tk.leading.table c.in_ok-letters.ensures.table about in
    let count : c.len.result ≡ length rows.items = let len = c.len.ensures in let ok = rows.ok in omega arith in
    let room : length rows.items ≤ c.reserve.new.self.1 = let fits = c.in_ok-reserve.ensures.room in omega arith in
    room_beside g.S.KeyStore.meaning g.S.KeyStore.has_place (record a { state = record a.state { leader = record a.state.leader { table = c.reserve.new.self } } })
    (same_sound g.S.KeyStore.meaning g.S.KeyStore.has_place a _ c.requires.sound same) st _ _ refl refl left goes refl room tt
