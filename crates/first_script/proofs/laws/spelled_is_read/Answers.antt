use Rattle.first_script.proofs.Spelled.{insert_read, out_read, in_read}
use Rattle.first_script.proofs.laws.spelled_is_read.Goals as goal

pub returns : goal.returns
returns c = record { insert = insert_read; out = out_read; inward = in_read }
