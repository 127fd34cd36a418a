use Rattle.lq_columns.proofs.Scopes.{counted_in_group, counted_of_group, few_of_group}
use Rattle.lq_columns.proofs.seen.SeenServices.count.Goals as goal

pub count_of_hosts-requires : goal.count_of_hosts-requires
count_of_hosts-requires c =
    few_of_group c.args.self.now.base.now c.args.self.now.statuses.now c.args.self.now.view.now c.in-HostGroup.group c.args.which _ c.requires c.members_of_hosts.ensures

pub returns-in-HostGroup : goal.returns-in-HostGroup
returns-in-HostGroup c =
    rw c.in-HostGroup.is
    (counted_of_group c.args.self.now.base.now c.args.self.now.statuses.now c.args.self.now.view.now c.in-HostGroup.group c.args.which _ _ c.requires c.members_of_hosts.ensures c.count_of_hosts.ensures)

pub returns-in-ServiceGroup : goal.returns-in-ServiceGroup
returns-in-ServiceGroup c =
    rw c.in-ServiceGroup.is
    (counted_in_group c.args.self.now.base.now c.args.self.now.statuses.now c.args.self.now.view.now c.in-ServiceGroup.group c.args.which _ _ c.requires c.members_of_services.ensures c.count_members.ensures)
