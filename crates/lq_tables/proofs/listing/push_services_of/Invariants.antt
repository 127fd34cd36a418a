use Rattle.std.proofs.Common.{◌≡◌, ◌++◌, drop}
use Rattle.std.specs.List.{flat_map}
use Rattle.lq_tables.specs.Rows.{service_rows}
use Rattle.lq_tables.proofs.listing.push_services_of.Given as goal

abbrev pub invariant-loop-host : goal.invariant-loop-host
invariant-loop-host l =
    l.rows.items ++ flat_map (service_rows l.services l.group) (drop l.host-index l.members) ≡ l.fn.rows.items ++ flat_map (service_rows l.services l.group) l.members
