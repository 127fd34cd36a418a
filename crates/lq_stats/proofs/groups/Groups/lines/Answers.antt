use Rattle.std.proofs.Common.{All, IfOk, ap, ◌≡◌, ◌∙◌, map, subst, sym}
use Rattle.lq_stats.specs.Grouped.{Grouped, kept_lines}
use Rattle.lq_stats.specs.Groups.{stat_lines, shown_line}
use Rattle.lq_stats.specs.Totals.{IsSmall}
use Rattle.lq_stats.specs.contracts.groups.Groups.{the_view}
use Rattle.lq_stats.proofs.BoundLemmas.{lines_are, small_totals}
use Rattle.lq_stats.proofs.groups.Groups.lines.Goals as goal

pub kept_lines-requires-clause-small : goal.kept_lines-requires-clause-small
kept_lines-requires-clause-small c = subst (All (All IsSmall)) (sym c.deref.ensures.value) (small_totals _ c.self.invariant)

pub returns : goal.returns
returns c = λ rows are.
    let here : kept_lines c.self.inside.keys c.deref.result.now ≡ stat_lines c.args.self.now.spec rows =
    ap (kept_lines c.self.inside.keys) c.deref.ensures.value
    ∙ lines_are (the_view c.self.inside) rows (rw (← c.self.view_is) at are)
    ∙ ap (λ (groups : Grouped). stat_lines groups.spec rows) c.self.view_is in
    subst (λ all. IfOk c.kept_lines.result (λ lines. map shown_line lines ≡ all)) here c.kept_lines.ensures
