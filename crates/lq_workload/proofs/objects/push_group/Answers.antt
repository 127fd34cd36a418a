use Rattle.lq_workload.specs.Objects.{group_block}
use Rattle.lq_workload.proofs.objects.push_group.Goals as goal

pub returns : goal.returns
unfolding group_block
returns c = rw c.in_ok-members.ensures at c.write.ensures.bytes
