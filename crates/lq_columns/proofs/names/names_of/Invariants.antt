use Rattle.std.proofs.Common.{◌≡◌, ◌++◌, drop}
use Rattle.std.specs.List.{filter_map}
use Rattle.lq_columns.proofs.names.names_of.Given as goal

abbrev pub invariant-loop-id : goal.invariant-loop-id
invariant-loop-id g l =
    l.names ++ filter_map (g.I.Named.name_of l.base) (drop l.id-index l.ids) ≡ filter_map (g.I.Named.name_of l.base) l.ids
