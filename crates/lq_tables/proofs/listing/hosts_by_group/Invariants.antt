use Rattle.std.proofs.Common.{◌≡◌, ◌++◌, drop}
use Rattle.std.specs.List.{enumerate_from, flat_map}
use Rattle.lq_tables.specs.Rows.{host_group_rows, with_places}
use Rattle.lq_tables.proofs.listing.hosts_by_group.Given as goal

abbrev pub invariant-loop-place : goal.invariant-loop-place
invariant-loop-place l =
    l.rows.items ++ flat_map host_group_rows (enumerate_from l.place (drop l.place l.groups)) ≡ flat_map host_group_rows (with_places l.groups)
