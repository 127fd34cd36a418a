use Rattle.std.proofs.lemmas.Result.{on_ok_weaker}
use Rattle.lq_query.specs.Lines.{seen_cells}
use Rattle.lq_query.specs.Rows.{row_cells}
use Rattle.lq_tables.specs.declared.row.Row.{Row}
use Rattle.lq_query.proofs.RowLemmas.{rest_added, rest_large}
use Rattle.lq_query.proofs.page.Page.push_each.Goals as goal

pub returns-clause-lines : goal.returns-clause-lines
returns-clause-lines c =
    on_ok_weaker c.push_lines.result
    (rest_added (λ (row : Row). row_cells c.args.self.now.columns.now (seen_cells c.args.self.now.sight row)) c.args.rows.now c.in_ok-count.count
    _ _ c.in_ok-count.ensures.lines _)
    c.push_lines.ensures.lines

pub returns-clause-large : goal.returns-clause-large
returns-clause-large c = λ large.
    rest_large (λ (row : Row). row_cells c.args.self.now.columns.now (seen_cells c.args.self.now.sight row)) c.args.rows.now c.in_ok-count.count
    _ _ c.in_ok-count.ensures.lines (c.push_lines.ensures.large large)
