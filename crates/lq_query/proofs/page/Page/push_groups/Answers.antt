use Rattle.std.proofs.Common.{◌<◌, List, length, map, subst, sym, ap, ◌∙◌, arith, OnOk, slice_index_or, ℕ}
use Rattle.std.proofs.lemmas.List.{length-map}
use Rattle.lq_stats.specs.Groups.{stat_lines, shown_line}
use Rattle.lq_stats.specs.declared.spec.StatLine.{StatLine}
use Rattle.lq_stats.specs.declared.spec.StatsSpec.{StatsSpec}
use Rattle.lq_query.specs.Lines.{seen_cells}
use Rattle.lq_schema.specs.Value.{Value}
use Rattle.lq_query.specs.Answer.{first_lines}
use Rattle.lq_query.specs.Groups.{line_cells, stat_kind, stats_row, stats_spec}
use Rattle.lq_query.specs.Lines.{HasLines, IsTooLarge}
use Rattle.lq_query.specs.Rows.{chosen_rows}
use Rattle.lq_query.proofs.CountLemmas.{all_of_limit, first_of_limit, have_values}
use Rattle.lq_query.proofs.RowLemmas.{map-map}
use Rattle.lq_query.proofs.page.Page.push_groups.Goals as goal

pub push_group_lines-requires : goal.push_group_lines-requires
push_group_lines-requires c =
    let request = c.args.request.now in
    let rows = map (stats_row request.columns request.stats) (chosen_rows request.filter (map (seen_cells c.args.self.now.sight) c.args.rows.now)) in
    let shown = c.in_ok-lines.ensures rows c.in_ok-groups.ensures.groups ∙ ap (λ (spec : StatsSpec). stat_lines spec rows) c.in_ok-groups.ensures.spec in
    let some : 0 < length (stats_spec request.columns request.stats).entries = omega (arith, c.requires.some, length-map request.stats stat_kind) in
    all_of_limit (λ (line : StatLine). 0 < length line.values) request.limit c.first_of_lines.result.now c.as_slice.result.now c.first_of_lines.ensures.none c.first_of_lines.ensures.some
    (subst (λ (lines : List StatLine). (k : ℕ) (d : StatLine) → k < length lines → 0 < length (slice_index_or lines k d).values) (sym c.as_slice.ensures)
    (have_values (stats_spec request.columns request.stats) rows _ shown some))

pub returns-clause-lines : goal.returns-clause-lines
returns-clause-lines c =
    let request = c.args.request.now in
    let rows = map (stats_row request.columns request.stats) (chosen_rows request.filter (map (seen_cells c.args.self.now.sight) c.args.rows.now)) in
    let line : StatLine → List Value = λ line. line_cells (shown_line line) in
    let shown = c.in_ok-lines.ensures rows c.in_ok-groups.ensures.groups ∙ ap (λ (spec : StatsSpec). stat_lines spec rows) c.in_ok-groups.ensures.spec in
    let all = ap (map line) c.as_slice.ensures ∙ sym (map-map line_cells shown_line c.in_ok-lines.lines) ∙ ap (map line_cells) shown in
    subst (λ (lines : List (List Value)). OnOk c.push_group_lines.result (HasLines c.args.writer.now c.push_group_lines.new.writer lines))
    (first_of_limit line request.limit c.first_of_lines.result.now c.as_slice.result.now c.first_of_lines.ensures.none c.first_of_lines.ensures.some ∙ ap (first_lines request.limit) all)
    c.push_group_lines.ensures.lines

pub returns-clause-large : goal.returns-clause-large
returns-clause-large c = λ large.
    let request = c.args.request.now in
    let rows = map (stats_row request.columns request.stats) (chosen_rows request.filter (map (seen_cells c.args.self.now.sight) c.args.rows.now)) in
    let line : StatLine → List Value = λ line. line_cells (shown_line line) in
    let shown = c.in_ok-lines.ensures rows c.in_ok-groups.ensures.groups ∙ ap (λ (spec : StatsSpec). stat_lines spec rows) c.in_ok-groups.ensures.spec in
    let all = ap (map line) c.as_slice.ensures ∙ sym (map-map line_cells shown_line c.in_ok-lines.lines) ∙ ap (map line_cells) shown in
    subst (λ (lines : List (List Value)). IsTooLarge c.args.writer.now lines)
    (first_of_limit line request.limit c.first_of_lines.result.now c.as_slice.result.now c.first_of_lines.ensures.none c.first_of_lines.ensures.some ∙ ap (first_lines request.limit) all)
    (c.push_group_lines.ensures.large large)
