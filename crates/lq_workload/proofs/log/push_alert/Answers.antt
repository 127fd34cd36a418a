use Rattle.lq_workload.specs.Checks.{check_alert_line}
use Rattle.lq_workload.proofs.log.push_alert.Goals as goal

pub returns : goal.returns
unfolding check_alert_line
returns c = rw c.state_name-state.ensures at c.write.ensures.bytes
