use Rattle.std.proofs.Common.{[]}
use Rattle.store_tests.proofs.part_file.append_to.Goals as goal

pub append-requires-clause-sound : goal.append-requires-clause-sound
append-requires-clause-sound g c = (c.args.version, [], c.reserve.ensures.sound c.args.version [] c.in-Ok.ensures.ok)
