use Rattle.std.proofs.Common.{◌≡◌, drop}
use Rattle.lq_columns.specs.Distinct.{with_new}
use Rattle.std.specs.List.{flat_map}
use Rattle.lq_columns.specs.Names.{members_of}
use Rattle.lq_columns.proofs.contacts.add_members.Given as goal

abbrev pub invariant-loop-group : goal.invariant-loop-group
invariant-loop-group l = with_new l.found.items (flat_map (members_of l.base) (drop l.group-index l.groups)) ≡ with_new l.fn.found.items (flat_map (members_of l.base) l.groups)
