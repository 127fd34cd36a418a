use Rattle.std.proofs.Common.{◌≡◌, ◌++◌, drop}
use Rattle.std.specs.List.{filter_map}
use Rattle.lq_columns.specs.Names.{name_with_service}
use Rattle.lq_columns.proofs.names.names_with_service.Given as goal

abbrev pub invariant-loop-group : goal.invariant-loop-group
invariant-loop-group l = l.names ++ filter_map (name_with_service l.id) (drop l.group-index l.groups) ≡ filter_map (name_with_service l.id) l.groups
