use Rattle.std.proofs.Common.{◌++◌, ◌∷◌, [], Bool, List, map, take, get_or, subst, sym, ap, ◌∙◌, arith}
use Rattle.std.proofs.lemmas.List.{append-nil, length-take, take_all}
use Rattle.lq_stats.specs.Groups.{Key}
use Rattle.lq_stats.specs.declared.cell.StatCell.{StatCell}
use Rattle.lq_stats.specs.Groups.{Row as StatsRow}
use Rattle.lq_stats.specs.Columns.{column_cells}
use Rattle.lq_query.specs.Lines.{seen_cells}
use Rattle.lq_tables.specs.declared.row.Row.{Row}
use Rattle.lq_tables.specs.declared.row.Row.TheVariants.{Host}
use Rattle.lq_query.specs.Counting.{Counts, counted_from}
use Rattle.lq_query.specs.Rows.{row_cells}
use Rattle.lq_query.proofs.CountLemmas.{counted_more, counts_then, few_counted}
use Rattle.lq_query.proofs.page.Page.count_each.Goals.{then-marks-place+in_ok-take_cells+in_ok-count_row, else-marks-place}
use Rattle.lq_query.proofs.page.Page.count_each.Goals as goal

pub count_row-requires-clause-few : goal.count_row-requires-clause-few
count_row-requires-clause-few c =
    let key : Row → Key = λ row. row_cells c.args.self.now.columns.now (seen_cells c.args.self.now.sight row) in
    omega (
      arith,
      c.loop-place.invariant.count,
      c.requires.few,
      c.loop-place-test.true,
      length-take c.loop-place.place c.args.rows.now,
      few_counted key (map column_cells c.args.cells.now) 0 (take c.loop-place.place c.args.marks.now) (take c.loop-place.place c.args.rows.now),
    )

pub loop-place-preserved : goal.loop-place-preserved
loop-place-preserved c =
    let key : Row → Key = λ row. row_cells c.args.self.now.columns.now (seen_cells c.args.self.now.sight row) in
    let columns : List (List StatCell) = map column_cells c.args.cells.now in
    let more = λ (row : Row). counted_more key columns c.args.marks.now c.args.rows.now c.loop-place.place row c.requires.marks c.loop-place-test.true in
    elim c.if-marks-place.branch [
      | then-marks-place+in_ok-take_cells+in_ok-count_row w ↦
          let row : Row = w.index-rows-place.result in
          let marked = ap (λ mark. counted_from key c.loop-place.place (mark ∷ []) (get_or c.args.rows.now c.loop-place.place row ∷ []) columns) w.if-marks-place.true in
          let taken = w.deref.ensures.value ∙ w.in_ok-take_cells.ensures in
          rw (w.groups-is)
          (subst (λ (rows : List StatsRow). Counts c.args.groups.now w.count_row.new.groups rows)
          (ap (λ (taken : Row). counted_from key 0 (take c.loop-place.place c.args.marks.now) (take c.loop-place.place c.args.rows.now) columns
          ++ record { key = key taken; cells = w.deref.result.now } ∷ []) w.index-rows-place.is
          ∙ ap (λ (cells : List StatCell). counted_from key 0 (take c.loop-place.place c.args.marks.now) (take c.loop-place.place c.args.rows.now) columns
          ++ record { key = key (get_or c.args.rows.now c.loop-place.place row); cells = cells } ∷ []) taken
          ∙ ap (λ (rows : List StatsRow). counted_from key 0 (take c.loop-place.place c.args.marks.now) (take c.loop-place.place c.args.rows.now) columns ++ rows) (sym marked)
          ∙ sym (more row))
          (counts_then _ _ _ _ _ c.loop-place.invariant w.in_ok-count_row.ensures))
      | else-marks-place w ↦
          let row : Row = Host (record { 0 = 0 }) in
          let marked = ap (λ mark. counted_from key c.loop-place.place (mark ∷ []) (get_or c.args.rows.now c.loop-place.place row ∷ []) columns) w.if-marks-place.false in
          rw (w.groups-is)
          (subst (λ (rows : List StatsRow). Counts c.args.groups.now c.loop-place.groups rows)
          (sym (append-nil (counted_from key 0 (take c.loop-place.place c.args.marks.now) (take c.loop-place.place c.args.rows.now) columns))
          ∙ ap (λ (rows : List StatsRow). counted_from key 0 (take c.loop-place.place c.args.marks.now) (take c.loop-place.place c.args.rows.now) columns ++ rows) (sym marked)
          ∙ sym (more row)) c.loop-place.invariant)
    ]

pub returns : goal.returns
returns c =
    let key : Row → Key = λ row. row_cells c.args.self.now.columns.now (seen_cells c.args.self.now.sight row) in
    let columns : List (List StatCell) = map column_cells c.args.cells.now in
    let all = c.loop-place-test.false in
    subst (λ (rows : List StatsRow). Counts c.args.groups.now c.loop-place.groups rows)
    (ap (λ (marks : List Bool). counted_from key 0 marks (take c.loop-place.place c.args.rows.now) columns) (take_all c.loop-place.place c.args.marks.now (omega (arith, all, c.requires.marks)))
    ∙ ap (λ (rows : List Row). counted_from key 0 c.args.marks.now rows columns) (take_all c.loop-place.place c.args.rows.now all)) c.loop-place.invariant
