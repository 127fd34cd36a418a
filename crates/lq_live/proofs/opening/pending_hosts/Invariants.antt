use Rattle.std.proofs.Common.{◌≡◌, take, map}
use Rattle.lq_live.specs.State.{pending}
use Rattle.lq_live.proofs.opening.pending_hosts.Given as goal

abbrev pub invariant-loop-host : goal.invariant-loop-host
invariant-loop-host l = l.list.items ≡ map (λ host. pending host.fields.notifications_enabled) (take l.host-index l.hosts)
