use Rattle.std.proofs.Common.{◌≡◌, ◌++◌, map, drop}
use Rattle.lq_tables.specs.declared.row.Row.TheVariants as row
use Rattle.lq_tables.proofs.listing.push_hosts.Given as goal

abbrev pub invariant-loop-host : goal.invariant-loop-host
invariant-loop-host l = l.rows.items ++ map (row.HostOf l.group) (drop l.host-index l.members) ≡ l.fn.rows.items ++ map (row.HostOf l.group) l.members
