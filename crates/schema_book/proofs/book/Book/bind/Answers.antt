use Rattle.schema_book.proofs.BoundLemmas.{fitting}
use Rattle.schema_book.proofs.book.Book.bind.Goals as goal

pub returns-in-Ok-clause-fits : goal.returns-in-Ok-clause-fits
returns-in-Ok-clause-fits c = fitting c.args.self.now c.args.statement.now c.in-Ok.made c.bound.ensures.sound c.in-Ok.ensures.bound
