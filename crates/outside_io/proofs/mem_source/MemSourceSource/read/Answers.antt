use Rattle.std.proofs.Common.{ap, Some, rules}
use Rattle.outside_io.proofs.Told.{front_and_rest}
use Rattle.outside_io.proofs.mem_source.MemSourceSource.read.Goals as goal

pub returns-clause-given : goal.returns-clause-given
returns-clause-given c =
    ap Some (front_and_rest c.args.self.now.bytes c.copy_from_slice.new.self _ c.args.self.now.at c.min-read.result (search rules) (search rules))
