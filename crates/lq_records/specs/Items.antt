-- The items of a list that has no vector until its first item is added.
use Rattle.std.specs.Prelude.{Option, None, Some, List, [], Vec}
use Rattle.std.specs.declared.alloc.Global.{Global}

-- the items of the vector, and none where there is no vector
abbrev pub items_in : {T : Type 0} → Option (Vec T Global) → List T
items_in None = []
items_in (Some vector) = vector.items
