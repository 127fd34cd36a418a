use Rattle.lq_columns.proofs.Scopes.{greatest_in_group, greatest_of_group}
use Rattle.lq_columns.proofs.seen.SeenServices.severity.Goals as goal

pub returns-in-HostGroup : goal.returns-in-HostGroup
returns-in-HostGroup c =
    rw c.in-HostGroup.is
    (greatest_of_group c.args.self.now.base.now c.args.self.now.statuses.now c.args.self.now.view.now c.in-HostGroup.group _ _ c.requires c.members_of_hosts.ensures c.severity_of_hosts-in-HostGroup.ensures)

pub returns-in-ServiceGroup : goal.returns-in-ServiceGroup
returns-in-ServiceGroup c =
    rw c.in-ServiceGroup.is
    (greatest_in_group c.args.self.now.base.now c.args.self.now.statuses.now c.args.self.now.view.now c.in-ServiceGroup.group _ _ c.requires c.members_of_services.ensures c.severity_among.ensures)
