-- the calls so far
use Rattle.std.proofs.Common.{◌≡◌, ◌+◌, take, map}
use Rattle.schema_book.specs.Ids.{vid_of}
use Rattle.schema_book.specs.Rows.{row_of}
use Rattle.graph_model.specs.declared.op.Op.TheVariants.{PutVertex}
use Rattle.schema_book.proofs.puts.vertex_calls.Given as goal

abbrev pub invariant-loop-row : goal.invariant-loop-row
invariant-loop-row l = l.calls ≡ map (λ r. PutVertex (vid_of r.id.val) (l.place + 1) (row_of l.columns l.words.columns r.values.list) l.words.absent) (take l.row-index l.words.rows)
