use Rattle.ngql_parser.proofs.CondLemmas.{begins, fresh_within}
use Rattle.ngql_parser.proofs.cond.read_cond.Goals as goal

pub conditions-init : goal.conditions-init
conditions-init c =
    let n = c.new-reader.result in
    record {
      same = begins c.args.d c.args.tokens.now n.level n.outer.items n.made c.new-reader.ensures.level c.new-reader.ensures.outer c.new-reader.ensures.made;
      left = fresh_within c.args.d n.level c.new-reader.ensures.level;
    }
