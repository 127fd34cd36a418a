use Rattle.std.proofs.Common.{◌++◌, Some, map, ap, sym, ◌∙◌}
use Rattle.std.specs.List.{flat_map}
use Rattle.std.proofs.lemmas.Option.{slice_get-get_or}
use Rattle.lq_tables.specs.Rows.{service_group_rows, with_places}
use Rattle.lq_tables.specs.declared.row.Row.TheVariants as row
use Rattle.lq_tables.proofs.Numbered.{numbered_next}
use Rattle.lq_tables.proofs.listing.services_by_group.Goals as goal

pub loop-place-preserved : goal.loop-place-preserved
loop-place-preserved c =
    numbered_next service_group_rows c.loop-place.rows.items c.push_services.new.rows.items (flat_map service_group_rows (with_places c.args.groups.now)) c.args.groups.now c.loop-place.place c.index-groups-place.result
    (slice_get-get_or c.args.groups.now c.loop-place.place c.index-groups-place.result c.loop-place-test.true ∙ ap Some (sym c.index-groups-place.is))
    (c.in_ok-push_services.ensures
    ∙ ap (λ members. c.loop-place.rows.items ++ map (row.ServiceOf (record { 0 = c.loop-place.place })) members) c.as_slice.ensures)
    c.loop-place.invariant
