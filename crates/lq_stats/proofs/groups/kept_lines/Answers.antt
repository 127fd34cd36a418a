use Rattle.std.proofs.Common.{◌∙◌, arith, ap, ◌++◌, drop, ◌+◌, map, ◌<◌, length}
use Rattle.lq_stats.specs.Groups.{shown_line}
use Rattle.lq_stats.specs.Grouped.{kept_lines}
use Rattle.lq_stats.proofs.BoundLemmas.{one_line_more}
use Rattle.lq_stats.proofs.groups.kept_lines.Goals as goal

pub loop-place-preserved : goal.loop-place-preserved
loop-place-preserved c =
    let below : c.loop-place.place < length c.args.totals.now = omega arith in
    let within : c.loop-place.place < length c.args.keys.now = omega arith in
    ap (λ lines. map shown_line lines ++ kept_lines (drop (c.loop-place.place + 1) c.args.keys.now) (drop (c.loop-place.place + 1) c.args.totals.now)) c.in_ok-push.ensures.ok
    ∙ one_line_more c.loop-place.lines _ c.args.keys.now c.args.totals.now c.loop-place.place _ _ within below c.get.ensures c.index-totals-place.is c.in_ok-values_of.ensures c.in_ok-values.ensures
    ∙ c.loop-place.invariant
