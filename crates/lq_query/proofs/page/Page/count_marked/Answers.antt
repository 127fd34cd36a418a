use Rattle.std.proofs.Common.{◌≡◌, length, map, sym, ◌∙◌}
use Rattle.std.proofs.lemmas.Bool.{eqb-true}
use Rattle.lq_stats.specs.Columns.{column_cells}
use Rattle.lq_stats.specs.Groups.{Key}
use Rattle.lq_query.specs.Lines.{seen_cells}
use Rattle.lq_tables.specs.declared.row.Row.{Row}
use Rattle.lq_query.specs.Rows.{row_cells}
use Rattle.lq_query.proofs.CountLemmas.{cells_of_each, counts_marked, no_key}
use Rattle.lq_query.proofs.page.Page.count_marked.Goals as goal

pub count_each-requires-clause-taken : goal.count_each-requires-clause-taken
count_each-requires-clause-taken c = cells_of_each _ _ _ c.requires.taken

pub returns-then-is_empty : goal.returns-then-is_empty
returns-then-is_empty c =
    let row_of = seen_cells c.args.self.now.sight in
    let columns = c.args.self.now.columns.now in
    let none : length columns ≡ 0 = eqb-true (length columns) 0 (sym c.is_empty.ensures ∙ c.if-is_empty.true) in
    let key : Row → Key = λ row. row_cells columns (row_of row) in
    counts_marked c.args.groups.now c.take_marked.new.self key (λ row. no_key columns none (row_of row)) (map column_cells c.args.cells.now) c.args.marks.now c.args.rows.now c.requires.marks
    c.take_marked.ensures.spec c.take_marked.ensures.next c.take_marked.ensures.count c.take_marked.ensures.groups
