use Rattle.std.proofs.Common.{◌-◌, List, drop, map, take, length-drop, subst, sym, ap, ◌∙◌, arith}
use Rattle.std.proofs.lemmas.List.{length-map, length-take, map-append}
use Rattle.lq_filter.specs.declared.header.Header.{Header}
use Rattle.lq_request.specs.declared.entry.StatEntry.{StatEntry}
use Rattle.lq_schema.specs.Value.{Value}
use Rattle.lq_schema.specs.declared.columns.Col.{Col}
use Rattle.lq_stats.specs.Groups.{Row as StatsRow}
use Rattle.lq_query.specs.Lines.{seen_cells}
use Rattle.lq_query.specs.Counting.{Counts, entry_of_ready}
use Rattle.lq_query.specs.Groups.{stats_row}
use Rattle.lq_query.specs.Rows.{chosen_rows}
use Rattle.lq_query.proofs.CountLemmas.{counts_then}
use Rattle.lq_query.proofs.RowLemmas.{few_chosen, up_to}
use Rattle.lq_query.proofs.page.Page.count.Goals as goal

pub count_block-requires-clause-few : goal.count_block-requires-clause-few
count_block-requires-clause-few c =
    let row_of = seen_cells c.args.self.now.sight in
    let headers = c.args.tally.now.filter in
    let at = c.blocks-2.at in
    let rows = c.args.rows.now in
    let stats : List StatEntry = map entry_of_ready c.args.tally.now.entries.items in
    omega (
      arith,
      c.blocks-2.invariant.counts.count,
      length-map (chosen_rows headers (map row_of (take at rows))) (stats_row c.args.self.now.columns.now stats),
      few_chosen headers row_of (take at rows),
      length-take at rows,
      length-take (c.block_end-end.result - at) (drop at rows),
      length-drop at rows,
      c.block_end-end.ensures.within,
      c.block_end-end.ensures.some,
      c.requires.few,
    )

pub blocks-2-preserved : goal.blocks-2-preserved
blocks-2-preserved c =
    let row_of = seen_cells c.args.self.now.sight in
    let columns = c.args.self.now.columns.now in
    let headers = c.args.tally.now.filter in
    let stats : List StatEntry = map entry_of_ready c.args.tally.now.entries.items in
    let rows = c.args.rows.now in
    let at = c.blocks-2.at in
    let end = c.block_end-end.result in
    let front : List (Col → Value) = chosen_rows headers (map row_of (take at rows)) in
    let block : List (Col → Value) = chosen_rows headers (map row_of (take (end - at) (drop at rows))) in
    let counts = subst (λ (those : List Header). Counts c.blocks-2.groups c.count_block.new.groups (map (stats_row columns stats) (chosen_rows those (map row_of (take (end - at) (drop at rows)))))) c.blocks-2.invariant.filter
    (subst (λ (those : List StatEntry). Counts c.blocks-2.groups c.count_block.new.groups (map (stats_row columns those) (chosen_rows c.blocks-2.tally.filter (map row_of (take (end - at) (drop at rows))))))
    c.blocks-2.invariant.entries c.in_ok-count_block.ensures.counts) in
    record {
      within = c.block_end-end.ensures.within;
      filter = c.count_block.ensures.filter ∙ c.blocks-2.invariant.filter;
      entries = c.count_block.ensures.entries ∙ c.blocks-2.invariant.entries;
      counts = subst (λ (those : List StatsRow). Counts c.args.groups.now c.count_block.new.groups those)
          (sym (map-append (stats_row columns stats) front block) ∙ ap (map (stats_row columns stats)) (sym (up_to headers row_of rows at end c.block_end-end.ensures.some)))
          (counts_then _ _ _ _ _ c.blocks-2.invariant.counts counts);
    }
