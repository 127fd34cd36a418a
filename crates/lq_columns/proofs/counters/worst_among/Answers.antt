use Rattle.std.proofs.Common.{filter}
use Rattle.lq_auth.specs.Rights.{sees_host}
use Rattle.lq_columns.proofs.Worst.{greatest_is_worst_host}
use Rattle.lq_columns.proofs.counters.worst_among.Goals as goal

pub returns : goal.returns
returns c = greatest_is_worst_host c.args.statuses.now (filter (sees_host c.args.view.now) c.args.members.now) _ _ c.severity_among.ensures c.host_state_by.ensures
