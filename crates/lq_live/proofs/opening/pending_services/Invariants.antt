use Rattle.std.proofs.Common.{◌≡◌, take, map}
use Rattle.lq_live.specs.State.{pending}
use Rattle.lq_live.proofs.opening.pending_services.Given as goal

abbrev pub invariant-loop-service : goal.invariant-loop-service
invariant-loop-service l = l.list.items ≡ map (λ service. pending service.fields.notifications_enabled) (take l.service-index l.services)
