use Rattle.std.proofs.Common.{rules}
use Rattle.lq_tables.proofs.cells.row_text.Goals as goal

pub returns-in_default : goal.returns-in_default
returns-in_default c = search (c.text-in_default.ensures.value c.args.view.now, rules)
