use Rattle.std.proofs.Common.{◌≡◌, ◌-◌, List, length, map, subst, sym, ap, ◌∙◌, arith, OnOk}
use Rattle.std.proofs.lemmas.List.{length-map}
use Rattle.lq_schema.specs.Value.{Value}
use Rattle.lq_schema.specs.declared.columns.Col.{Col}
use Rattle.lq_query.specs.Lines.{seen_cells}
use Rattle.lq_query.specs.Lines.{HasLines, IsTooLarge, first_rows, rows_with_marks}
use Rattle.lq_query.specs.declared.selection.Selection.{Selection}
use Rattle.lq_query.proofs.RowLemmas.{chosen_marked, no_lines, none_marked, no_first_rows}
use Rattle.lq_query.proofs.page.Page.push_block.Goals as goal

pub returns-then-not-has_mark-clause-lines : goal.returns-then-not-has_mark-clause-lines
returns-then-not-has_mark-clause-lines c =
    let row_of = seen_cells c.args.self.now.sight in
    let none = none_marked c.deref.result.now c.args.rows.now (sym c.has_mark.ensures ∙ c.if-not-has_mark.true) in
    let rows = ap (λ marks. map row_of (rows_with_marks marks c.args.rows.now)) (c.deref.ensures.value ∙ c.in_ok-marks.ensures.marks)
    ∙ chosen_marked c.args.selection.now.filter row_of c.args.rows.now in
    subst (λ lines. HasLines c.args.writer.now c.args.writer.now lines)
    (no_first_rows c.args.self.now.columns.now c.args.selection.now.left _ (ap (map row_of) (sym none) ∙ rows)) (no_lines c.args.writer.now)

pub returns-then-not-has_mark-clause-left : goal.returns-then-not-has_mark-clause-left
returns-then-not-has_mark-clause-left c =
    let row_of = seen_cells c.args.self.now.sight in
    let none = none_marked c.deref.result.now c.args.rows.now (sym c.has_mark.ensures ∙ c.if-not-has_mark.true) in
    let rows = ap (λ marks. map row_of (rows_with_marks marks c.args.rows.now)) (c.deref.ensures.value ∙ c.in_ok-marks.ensures.marks)
    ∙ chosen_marked c.args.selection.now.filter row_of c.args.rows.now in
    omega (arith, ap (λ (selection : Selection). selection.left) c.in_ok-marks.ensures.same, ap length (ap (map row_of) (sym none) ∙ rows))

pub returns-clause-lines : goal.returns-clause-lines
returns-clause-lines c =
    let row_of = seen_cells c.args.self.now.sight in
    let rows = ap (λ marks. map row_of (rows_with_marks marks c.args.rows.now)) (c.deref-2.ensures.value ∙ c.in_ok-marks.ensures.marks)
    ∙ chosen_marked c.args.selection.now.filter row_of c.args.rows.now in
    let lines = subst (λ (selection : Selection). OnOk c.push_marked.result (HasLines c.args.writer.now c.push_marked.new.writer
    (first_rows c.args.self.now.columns.now selection.left (map row_of (rows_with_marks c.deref-2.result.now c.args.rows.now)))))
    c.in_ok-marks.ensures.same c.push_marked.ensures.lines in
    subst (λ (those : List (Col → Value)). OnOk c.push_marked.result (HasLines c.args.writer.now c.push_marked.new.writer
    (first_rows c.args.self.now.columns.now c.args.selection.now.left those))) rows lines

pub returns-clause-large : goal.returns-clause-large
returns-clause-large c = λ large.
    let row_of = seen_cells c.args.self.now.sight in
    let rows = ap (λ marks. map row_of (rows_with_marks marks c.args.rows.now)) (c.deref-2.ensures.value ∙ c.in_ok-marks.ensures.marks)
    ∙ chosen_marked c.args.selection.now.filter row_of c.args.rows.now in
    let lines = subst (λ (selection : Selection). IsTooLarge c.args.writer.now
    (first_rows c.args.self.now.columns.now selection.left (map row_of (rows_with_marks c.deref-2.result.now c.args.rows.now))))
    c.in_ok-marks.ensures.same (c.push_marked.ensures.large large) in
    subst (λ (those : List (Col → Value)). IsTooLarge c.args.writer.now
    (first_rows c.args.self.now.columns.now c.args.selection.now.left those)) rows lines

pub returns-clause-left : goal.returns-clause-left
returns-clause-left c =
    let row_of = seen_cells c.args.self.now.sight in
    let rows = ap (λ marks. map row_of (rows_with_marks marks c.args.rows.now)) (c.deref-2.ensures.value ∙ c.in_ok-marks.ensures.marks)
    ∙ chosen_marked c.args.selection.now.filter row_of c.args.rows.now in
    let count = sym (length-map (rows_with_marks c.deref-2.result.now c.args.rows.now) row_of) ∙ ap length rows in
    let left = subst (λ (selection : Selection). OnOk c.push_marked.result (c.push_marked.new.selection.left
    ≡ selection.left - length (rows_with_marks c.deref-2.result.now c.args.rows.now))) c.in_ok-marks.ensures.same c.push_marked.ensures.left in
    subst (λ n. OnOk c.push_marked.result (c.push_marked.new.selection.left ≡ c.args.selection.now.left - n)) count left
