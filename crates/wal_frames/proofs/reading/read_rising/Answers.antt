use Rattle.std.proofs.Common.{◌∷◌, [], arith, length-append}
use Rattle.std.proofs.lemmas.Result.{err_from_is_err_and}
use Rattle.byte_fields.specs.Reading.{rising_at}
use Rattle.byte_fields.proofs.Loops.{rising_goes_on, rising_ends, rising_done}
use Rattle.wal_frames.specs.Reading.{peer_at}
use Rattle.wal_frames.proofs.Peers.{peer_above, rising_push}
use Rattle.wal_frames.proofs.reading.read_rising.Goals as goal

pub returns-in_err-id : goal.returns-in_err-id
returns-in_err-id c =
    let p = err_from_is_err_and c.from_residual.result c.from_residual.ensures.1 in
    rw (p.1, p.2) (rising_ends (peer_at c.args.others.now) c.in_err-id.field-0.0 c.loop.peers c.args.count c.loop.counter c.loop.last c.loop.rest.now (rising_at (peer_at c.args.others.now) c.args.count 0 c.args.bytes.now) c.loop-test.true c.in_err-id.ensures c.loop.invariant.read)

pub push-requires : goal.push-requires
push-requires c =
    let is = peer_above c.args.others.now c.loop.last c.loop.rest.now c.in_ok-id.id c.in_ok-id.after.now c.in_ok-id.ensures in
    (c.loop.invariant.next c.in_ok-id.id is.above is.fits, omega (arith, c.requires, c.loop.invariant.len, length-append c.loop.peers (c.in_ok-id.id ∷ [])))

pub loop-preserved : goal.loop-preserved
loop-preserved c =
    let is = peer_above c.args.others.now c.loop.last c.loop.rest.now c.in_ok-id.id c.in_ok-id.after.now c.in_ok-id.ensures in
    let so_far = c.loop.invariant.next c.in_ok-id.id is.above is.fits in
    rw c.push.ensures (record {
      next = λ id above fits. rising_push 0 c.loop.peers c.in_ok-id.id id so_far above fits;
      len = omega (arith, c.loop.invariant.len, length-append c.loop.peers (c.in_ok-id.id ∷ []));
      read = rising_goes_on (peer_at c.args.others.now) c.loop.peers c.args.count c.loop.counter c.loop.last c.loop.rest.now c.in_ok-id.id c.in_ok-id.after.now (rising_at (peer_at c.args.others.now) c.args.count 0 c.args.bytes.now) c.loop-test.true c.in_ok-id.ensures c.loop.invariant.read;
    })

pub returns : goal.returns
returns c =
    rising_done (peer_at c.args.others.now) c.loop.peers c.args.count c.loop.counter c.loop.last c.loop.rest.now (rising_at (peer_at c.args.others.now) c.args.count 0 c.args.bytes.now) c.loop-test.false c.loop.invariant.read
