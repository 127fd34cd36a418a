use Rattle.std.proofs.Common.{Bool, List, length, map, subst, sym, ap, ◌∙◌}
use Rattle.std.proofs.lemmas.Result.{on_ok_weaker}
use Rattle.std.specs.List.{AllZip}
use Rattle.lq_filter.specs.Trees.{holds, truth_on}
use Rattle.lq_request.specs.declared.entry.StatEntry.{StatEntry}
use Rattle.lq_stats.specs.Columns.{IsColumnOf, column_cells}
use Rattle.lq_stats.specs.Groups.{Key}
use Rattle.lq_stats.specs.Groups.{Row as StatsRow}
use Rattle.lq_stats.specs.declared.cell.StatCell.{StatCell}
use Rattle.lq_stats.specs.declared.kind.StatKind.{StatKind}
use Rattle.lq_stats.specs.declared.spec.StatsSpec.{StatsSpec}
use Rattle.lq_query.specs.Lines.{seen_cells}
use Rattle.lq_tables.specs.declared.row.Row.{Row}
use Rattle.lq_query.specs.Counting.{Counts, counted_from, entry_of_ready}
use Rattle.lq_query.specs.Groups.{stat_cell, stat_kind}
use Rattle.lq_query.specs.Rows.{row_cells}
use Rattle.lq_query.proofs.CountLemmas.{are_columns, chosen_counted, counts_none, none_counted}
use Rattle.lq_query.proofs.page.Page.count_block.Goals as goal

pub returns-then-not-has_mark-clause-counts : goal.returns-then-not-has_mark-clause-counts
returns-then-not-has_mark-clause-counts c =
    let row_of = seen_cells c.args.self.now.sight in
    let columns = c.args.self.now.columns.now in
    let stats : List StatEntry = map entry_of_ready c.args.tally.now.entries.items in
    let cells = map (λ (entry : StatEntry). map (λ (row : Row). stat_cell (row_of row) entry) c.args.rows.now) stats in
    let key : Row → Key = λ row. row_cells columns (row_of row) in
    subst (λ (rows : List StatsRow). Counts c.args.groups.now c.args.groups.now rows)
    (sym (none_counted key cells 0 c.deref.result.now c.args.rows.now (sym c.has_mark.ensures ∙ c.if-not-has_mark.true))
    ∙ ap (λ (marks : List Bool). counted_from key 0 marks c.args.rows.now cells) (c.deref.ensures.value ∙ c.in_ok-marks.ensures.marks)
    ∙ chosen_counted columns stats c.args.tally.now.filter row_of c.args.rows.now)
    (counts_none c.args.groups.now c.requires.next)

pub count_marked-requires-clause-taken : goal.count_marked-requires-clause-taken
count_marked-requires-clause-taken c =
    let row_of = seen_cells c.args.self.now.sight in
    let count = length c.args.rows.now in
    let stats : List StatEntry = map entry_of_ready c.args.tally.now.entries.items in
    let cells = ap (map column_cells) c.deref-3.ensures.value ∙ c.in_ok-cells.ensures.cells
    ∙ ap (λ entries. map (λ (entry : StatEntry). map (λ (each : Row). stat_cell (row_of each) entry) c.args.rows.now) (map entry_of_ready entries)) c.deref_mut.ensures.value in
    subst (λ (kinds : List StatKind). AllZip (IsColumnOf count) kinds (map column_cells c.deref-3.result.now)) (sym (ap (λ (spec : StatsSpec). spec.entries) c.requires.spec))
    (subst (λ (those : List (List StatCell)). AllZip (IsColumnOf count) (map stat_kind stats) those) (sym cells) (are_columns row_of c.args.rows.now stats c.requires.stats))

pub returns-clause-counts : goal.returns-clause-counts
returns-clause-counts c =
    let row_of = seen_cells c.args.self.now.sight in
    let columns = c.args.self.now.columns.now in
    let stats : List StatEntry = map entry_of_ready c.args.tally.now.entries.items in
    let key : Row → Key = λ row. row_cells columns (row_of row) in
    let cells = ap (map column_cells) c.deref-3.ensures.value ∙ c.in_ok-cells.ensures.cells
    ∙ ap (λ entries. map (λ (entry : StatEntry). map (λ (each : Row). stat_cell (row_of each) entry) c.args.rows.now) (map entry_of_ready entries)) c.deref_mut.ensures.value in
    on_ok_weaker c.count_marked.result
    (subst (λ (rows : List StatsRow). Counts c.args.groups.now c.count_marked.new.groups rows)
    (ap (λ (marks : List Bool). counted_from key 0 marks c.args.rows.now (map column_cells c.deref-3.result.now)) (c.deref-2.ensures.value ∙ c.in_ok-marks.ensures.marks)
    ∙ ap (λ (those : List (List StatCell)). counted_from key 0 (map (λ (each : Row). holds (truth_on (row_of each)) c.args.tally.now.filter) c.args.rows.now) c.args.rows.now those) cells
    ∙ chosen_counted columns stats c.args.tally.now.filter row_of c.args.rows.now))
    c.count_marked.ensures
