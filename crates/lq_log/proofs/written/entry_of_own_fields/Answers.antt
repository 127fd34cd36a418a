use Rattle.std.proofs.Common.{rules}
use Rattle.lq_log.proofs.FormLemmas.{alert_said, downtime_said, external_says}
use Rattle.lq_log.proofs.written.entry_of_own_fields.Goals as goal

pub returns-in-External : goal.returns-in-External
returns-in-External c = rw (c.in-External.is, c.blank.ensures) (external_says _)

pub returns-in_ok-entry-in-Alert-3 : goal.returns-in_ok-entry-in-Alert-3
returns-in_ok-entry-in-Alert-3 c =
    let it = c.in-Alert in
    rw it.is (alert_said it.host it.service _ it.output _ it.state _ it.hard it.attempt c.in_ok-entry-in-Alert.entry (rw it.is at c.requires)
    (search rules) (search rules) (search rules) (search rules))

pub returns-in_ok-entry-in-Downtime-3 : goal.returns-in_ok-entry-in-Downtime-3
returns-in_ok-entry-in-Downtime-3 c =
    let it = c.in-Downtime in
    rw it.is (downtime_said it.host it.service _ _ it.change c.in_ok-entry-in-Downtime.entry (rw it.is at c.requires) (search rules) (search rules) (search rules))
