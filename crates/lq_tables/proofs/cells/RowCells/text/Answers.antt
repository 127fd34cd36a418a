use Rattle.std.proofs.Common.{rules}
use Rattle.lq_tables.proofs.cells.RowCells.text.Goals as goal

pub returns-in-HostGroup-clause-value : goal.returns-in-HostGroup-clause-value
returns-in-HostGroup-clause-value c = λ view. search (c.host_group_text.ensures.value view, rules)

pub returns-in-ServiceGroup-clause-value : goal.returns-in-ServiceGroup-clause-value
returns-in-ServiceGroup-clause-value c = λ view. search (c.service_group_text.ensures.value view, rules)
