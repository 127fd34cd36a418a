use Rattle.std.proofs.Common.{◌<◌, List, length, map, get_or, sym, ap, ◌∙◌, arith}
use Rattle.std.proofs.Math.Seq.{map-set_same}
use Rattle.std.proofs.lemmas.List.{get_or-map, length-map, map-append}
use Rattle.lq_request.specs.declared.entry.StatEntry.{StatEntry}
use Rattle.lq_stats.specs.declared.cell.StatCell.{StatCell}
use Rattle.lq_stats.specs.Columns.{column_cells}
use Rattle.lq_query.specs.Lines.{seen_cells}
use Rattle.lq_tables.specs.declared.row.Row.{Row}
use Rattle.lq_query.specs.Counting.{entry_of_ready}
use Rattle.lq_query.specs.Groups.{stat_cell}
use Rattle.lq_query.proofs.CountLemmas.{columns_more}
use Rattle.lq_query.proofs.page.Page.cells.Goals as goal

pub loop-place-preserved : goal.loop-place-preserved
loop-place-preserved c =
    let place = c.loop-place.place in
    let entries = c.loop-place.entries in
    let other = c.index-entries-place.result in
    let item = get_or entries place other in
    let stats : List StatEntry = map entry_of_ready c.args.entries.now in
    let column_of : StatEntry → List StatCell = λ entry. map (λ (row : Row). stat_cell (seen_cells c.args.self.now.sight row) entry) c.args.rows.now in
    let within : place < length stats = omega (arith, c.loop-place-test.true, ap length c.loop-place.invariant.same, length-map entries entry_of_ready, length-map c.args.entries.now entry_of_ready) in
    let bound : place < length entries = omega (arith, c.loop-place-test.true, ap length c.loop-place.invariant.same, length-map entries entry_of_ready, length-map c.args.entries.now entry_of_ready) in
    let asked = sym (get_or-map entry_of_ready entries place other (entry_of_ready item) bound)
    ∙ ap (λ (those : List StatEntry). get_or those place (entry_of_ready item)) c.loop-place.invariant.same in
    record {
      same = map-set_same entry_of_ready entries place c.cells.new.self other c.cells.ensures.same ∙ c.loop-place.invariant.same;
      cells = ap (map column_cells) c.in_ok-push.ensures.items
          ∙ map-append column_cells c.loop-place.cells.items _
          ∙ columns_more column_of stats place (entry_of_ready item) _ _ within c.loop-place.invariant.cells asked c.in_ok-cells-2.ensures.cells;
    }
