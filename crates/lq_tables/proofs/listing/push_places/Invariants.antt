use Rattle.std.proofs.Common.{◌≡◌, ◌++◌, map, drop}
use Rattle.lq_tables.specs.declared.row.Row.TheVariants as row
use Rattle.lq_tables.proofs.listing.push_places.Given as goal

abbrev pub invariant-loop-place : goal.invariant-loop-place
invariant-loop-place l =
    l.rows.items ++ map (λ place. row.GroupService l.group (record { 0 = place })) (drop l.place-index l.places) ≡ l.fn.rows.items ++ map (λ place. row.GroupService l.group (record { 0 = place })) l.places
