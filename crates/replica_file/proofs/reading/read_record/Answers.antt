use Rattle.std.proofs.Common.{arith}
use Rattle.replica_file.proofs.AsRead.{items_of, own_of}
use Rattle.replica_file.proofs.reading.read_record.Goals as goal

pub returns-clause-items : goal.returns-clause-items
returns-clause-items g c = items_of (g.P.Payloads.allowed c.args.payloads.now) c.args.body.now c.read_fields.result (λ i. omega (arith, c.type_inv.body i)) c.read_fields.ensures

pub returns-clause-own : goal.returns-clause-own
returns-clause-own g c = own_of (g.P.Payloads.allowed c.args.payloads.now) c.args.body.now c.read_fields.result (λ i. omega (arith, c.type_inv.body i)) c.read_fields.ensures
