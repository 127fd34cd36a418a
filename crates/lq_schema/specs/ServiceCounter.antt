-- The columns that count services.
use Rattle.std.specs.Prelude.{List, codes, [], ◌∷◌}
use Rattle.lq_schema.specs.Heading.{Heading, heading}
use Rattle.lq_schema.specs.declared.service_counter.ServiceCounter.{ServiceCounter}
use Rattle.lq_schema.specs.declared.service_counter.ServiceCounter.TheVariants as counter
use Rattle.lq_schema.specs.declared.columns.ColKind.TheVariants as kind

abbrev pub service_counter_heading : ServiceCounter → Heading
service_counter_heading counter.NumServices = heading (codes "num_services") kind.Int
service_counter_heading counter.NumServicesOk = heading (codes "num_services_ok") kind.Int
service_counter_heading counter.NumServicesWarn = heading (codes "num_services_warn") kind.Int
service_counter_heading counter.NumServicesCrit = heading (codes "num_services_crit") kind.Int
service_counter_heading counter.NumServicesUnknown = heading (codes "num_services_unknown") kind.Int
service_counter_heading counter.NumServicesPending = heading (codes "num_services_pending") kind.Int
service_counter_heading counter.WorstServiceState = heading (codes "worst_service_state") kind.Int

-- in order
abbrev pub service_counters : List ServiceCounter
service_counters =
    counter.NumServices ∷ counter.NumServicesOk ∷ counter.NumServicesWarn
    ∷ counter.NumServicesCrit ∷ counter.NumServicesUnknown ∷ counter.NumServicesPending
    ∷ counter.WorstServiceState ∷ []
