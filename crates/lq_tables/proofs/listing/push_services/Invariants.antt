use Rattle.std.proofs.Common.{◌≡◌, ◌++◌, map, drop}
use Rattle.lq_tables.specs.declared.row.Row.TheVariants as row
use Rattle.lq_tables.proofs.listing.push_services.Given as goal

abbrev pub invariant-loop-service : goal.invariant-loop-service
invariant-loop-service l = l.rows.items ++ map (row.ServiceOf l.group) (drop l.service-index l.members) ≡ l.fn.rows.items ++ map (row.ServiceOf l.group) l.members
