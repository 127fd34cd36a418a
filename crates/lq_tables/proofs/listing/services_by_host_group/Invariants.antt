use Rattle.std.proofs.Common.{◌≡◌, ◌++◌, drop}
use Rattle.std.specs.List.{enumerate_from, flat_map}
use Rattle.lq_tables.specs.Rows.{group_service_rows, with_places}
use Rattle.lq_tables.proofs.listing.services_by_host_group.Given as goal

abbrev pub invariant-loop-place : goal.invariant-loop-place
invariant-loop-place l =
    l.rows.items ++ flat_map (group_service_rows l.services) (enumerate_from l.place (drop l.place l.groups)) ≡ flat_map (group_service_rows l.services) (with_places l.groups)
