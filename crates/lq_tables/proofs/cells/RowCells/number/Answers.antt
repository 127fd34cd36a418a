use Rattle.std.proofs.Common.{rules}
use Rattle.lq_tables.proofs.cells.RowCells.number.Goals as goal

pub returns-in-Some-clause-value : goal.returns-in-Some-clause-value
returns-in-Some-clause-value c = λ view. search (c.number.ensures.value c.args.self.now.state view, rules)
