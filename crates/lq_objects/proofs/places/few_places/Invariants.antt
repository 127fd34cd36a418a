use Rattle.std.proofs.Common.{◌≡◌, take}
use Rattle.std.specs.List.{filter_map}
use Rattle.lq_names.specs.Names.{place_of}
use Rattle.lq_objects.specs.Objects.{distinct}
use Rattle.lq_objects.proofs.places.few_places.Given as goal

abbrev pub invariant-loop-name : goal.invariant-loop-name
invariant-loop-name l = l.places.items ≡ distinct (filter_map (place_of l.index) (take l.name-index l.names))
