-- The statuses of the hosts of a state, and those of its services.
use Rattle.std.specs.Prelude.{◌≡◌, List, length}
use Rattle.lq_events.specs.declared.status.Status.{Status}
use Rattle.lq_live.specs.State.{State}

-- all of the hosts, in the order of the base
pub record AreOfHosts (s : State) (statuses : List Status) : Type 0 where
  pub all : statuses ≡ s.host_status
  pub count : length statuses ≡ length s.base.hosts

-- all of the services, in the order of the base
pub record AreOfServices (s : State) (statuses : List Status) : Type 0 where
  pub all : statuses ≡ s.service_status
  pub count : length statuses ≡ length s.base.services
