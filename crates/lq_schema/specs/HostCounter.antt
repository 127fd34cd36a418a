-- The columns that count hosts.
use Rattle.std.specs.Prelude.{List, codes, [], ◌∷◌}
use Rattle.lq_schema.specs.Heading.{Heading, heading}
use Rattle.lq_schema.specs.declared.host_counter.HostCounter.{HostCounter}
use Rattle.lq_schema.specs.declared.host_counter.HostCounter.TheVariants as counter
use Rattle.lq_schema.specs.declared.columns.ColKind.TheVariants as kind

abbrev pub host_counter_heading : HostCounter → Heading
host_counter_heading counter.NumHosts = heading (codes "num_hosts") kind.Int
host_counter_heading counter.NumHostsUp = heading (codes "num_hosts_up") kind.Int
host_counter_heading counter.NumHostsDown = heading (codes "num_hosts_down") kind.Int
host_counter_heading counter.NumHostsUnreach = heading (codes "num_hosts_unreach") kind.Int
host_counter_heading counter.NumHostsPending = heading (codes "num_hosts_pending") kind.Int
host_counter_heading counter.WorstHostState = heading (codes "worst_host_state") kind.Int

-- in order
abbrev pub host_counters : List HostCounter
host_counters =
    counter.NumHosts ∷ counter.NumHostsUp ∷ counter.NumHostsDown ∷ counter.NumHostsUnreach
    ∷ counter.NumHostsPending ∷ counter.WorstHostState ∷ []
