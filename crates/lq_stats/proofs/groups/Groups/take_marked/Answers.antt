use Rattle.std.proofs.Common.{length, map, ◌∙◌}
use Rattle.lq_stats.specs.Columns.{column_cells}
use Rattle.lq_stats.specs.contracts.groups.Groups.{the_view}
use Rattle.lq_stats.proofs.BoundLemmas.{room_in_totals, totals_as_many}
use Rattle.lq_stats.proofs.MarkLemmas.{columns_as_many, columns_long, columns_sized, marked_groups, marked_has}
use Rattle.lq_stats.proofs.groups.Groups.take_marked.Goals as goal

pub add_marked-requires-clause-count : goal.add_marked-requires-clause-count
add_marked-requires-clause-count c = λ k d below.
    columns_as_many (length c.args.marks.now) c.self.inside.spec.entries c.args.columns.now (rw (← c.self.view_is) at c.requires.columns)
    ∙ totals_as_many (the_view c.self.inside) c.self.invariant k d below

pub add_marked-requires-clause-room : goal.add_marked-requires-clause-room
add_marked-requires-clause-room c = room_in_totals (length c.args.marks.now) (the_view c.self.inside) c.self.invariant (rw (← c.self.view_is) at c.requires.few)

pub add_marked-requires-clause-long : goal.add_marked-requires-clause-long
add_marked-requires-clause-long c = columns_long (length c.args.marks.now) c.self.inside.spec.entries c.args.columns.now (rw (← c.self.view_is) at c.requires.columns)

pub add_marked-requires-clause-sized : goal.add_marked-requires-clause-sized
add_marked-requires-clause-sized c = columns_sized (length c.args.marks.now) c.self.inside.spec.entries c.args.columns.now (rw (← c.self.view_is) at c.requires.columns)

pub invariant_of-self : goal.invariant_of-self
invariant_of-self c =
    rw (c.add_marked.ensures, c.count_of.ensures)
    (marked_has (the_view c.self.inside) c.args.marks.now (map column_cells c.args.columns.now) c.self.invariant
    (rw (← c.self.view_is) at c.requires.keys) (rw (← c.self.view_is) at c.requires.columns) (rw (← c.self.view_is) at c.requires.few))

pub returns-clause-groups : goal.returns-clause-groups
returns-clause-groups c = λ rows are.
    rw (c.add_marked.ensures, c.count_of.ensures)
    (marked_groups (the_view c.self.inside) c.args.marks.now (map column_cells c.args.columns.now) rows
    (rw (← c.self.view_is) at c.requires.keys) (rw (← c.self.view_is) at c.requires.columns) (rw (← c.self.view_is) at are))
