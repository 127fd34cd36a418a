use Rattle.std.proofs.Common.{IfOk, List, map, subst, sym, take}
use Rattle.lq_schema.specs.declared.columns.Col.{Col}
use Rattle.lq_query.specs.Lines.{HasLines, seen_cells}
use Rattle.lq_query.specs.Rows.{row_cells}
use Rattle.lq_tables.specs.declared.row.Row.{Row}
use Rattle.lq_query.proofs.page.Page.push_texts.Goals as goal

pub returns-in-Some-clause-lines : goal.returns-in-Some-clause-lines
returns-in-Some-clause-lines c =
    subst (λ (columns : List Col). IfOk c.push_text_lines.result (λ count. HasLines c.args.writer.now c.push_text_lines.new.writer
    (map (λ (row : Row). row_cells columns (seen_cells c.args.self.now.sight row)) (take count c.args.rows.now))))
    (sym c.in-Some.ensures) c.push_text_lines.ensures.lines
