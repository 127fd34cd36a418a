use Rattle.std.proofs.Common.{rules, ◌≡◌, Err, [], ◌∷◌, subst, ◌∙◌}
use Rattle.lq_output.specs.declared.error.WriteErr.TheVariants.{TooLarge}
use Rattle.lq_query.specs.Lines.{HasLines, IsTooLarge, first_rows, seen_cells}
use Rattle.lq_tables.specs.declared.row.Row.{Row}
use Rattle.lq_tables.specs.declared.row.Row.TheVariants.{Host}
use Rattle.lq_query.proofs.RowLemmas.{marked_added, marked_large, marked_left, not_marked_more}
use Rattle.lq_query.proofs.page.Page.push_marked.Goals.{then-marks-place+in_ok-push_next, else-marks-place}
use Rattle.lq_query.proofs.page.Page.push_marked.Goals as goal

pub returns-in_err-push_next-clause-large : goal.returns-in_err-push_next-clause-large
returns-in_err-push_next-clause-large c = λ large.
    let failed : c.push_next.result ≡ Err TooLarge = search (rules, large) in
    marked_large c.args.marks.now c.args.rows.now c.loop-place.place c.index-rows-place.result c.requires.marks c.loop-place-test.true c.args.self.now.columns.now (seen_cells c.args.self.now.sight)
    _ _ c.args.selection.now.left c.loop-place.selection.left c.loop-place.invariant.lines c.loop-place.invariant.left c.if-marks-place.true
    (subst (λ (row : Row). IsTooLarge c.loop-place.writer (first_rows c.args.self.now.columns.now c.loop-place.selection.left (seen_cells c.args.self.now.sight row ∷ [])))
    c.index-rows-place.is (c.push_next.ensures.large failed))

pub loop-place-preserved : goal.loop-place-preserved
loop-place-preserved c = elim c.if-marks-place.branch [
  | then-marks-place+in_ok-push_next w ↦ record {
    same = rw (w.selection-is) (w.push_next.ensures.same ∙ c.loop-place.invariant.same);
    lines = rw (w.writer-is)
        (marked_added c.args.marks.now c.args.rows.now c.loop-place.place w.index-rows-place.result c.requires.marks c.loop-place-test.true c.args.self.now.columns.now (seen_cells c.args.self.now.sight)
        _ _ c.args.selection.now.left c.loop-place.selection.left c.loop-place.invariant.lines c.loop-place.invariant.left w.if-marks-place.true _
        (subst (λ (row : Row). HasLines c.loop-place.writer w.push_next.new.writer (first_rows c.args.self.now.columns.now c.loop-place.selection.left (seen_cells c.args.self.now.sight row ∷ [])))
        w.index-rows-place.is w.in_ok-push_next.ensures.lines));
    left = rw (w.selection-is)
        (marked_left c.args.marks.now c.args.rows.now c.loop-place.place (Host (record { 0 = 0 })) c.requires.marks c.loop-place-test.true
        c.args.selection.now.left c.loop-place.selection.left _ c.loop-place.invariant.left w.if-marks-place.true w.push_next.ensures.left);
  }
  | else-marks-place w ↦ record {
    same = rw (w.selection-is) c.loop-place.invariant.same;
    lines = rw (w.writer-is, not_marked_more c.args.marks.now c.args.rows.now c.loop-place.place (Host (record { 0 = 0 })) c.requires.marks c.loop-place-test.true w.if-marks-place.false) c.loop-place.invariant.lines;
    left = rw (w.selection-is, not_marked_more c.args.marks.now c.args.rows.now c.loop-place.place (Host (record { 0 = 0 })) c.requires.marks c.loop-place-test.true w.if-marks-place.false) c.loop-place.invariant.left;
  }
]
