use Rattle.std.proofs.Common.{◌<◌, ◌∙◌, Err, ap, map, subst}
use Rattle.lq_tables.specs.Rows.{history_row}
use Rattle.lq_tables.proofs.HistoryLemmas.{history_count, history_seen}
use Rattle.lq_tables.proofs.history.history_rows.Goals as goal

pub returns-in_ok-slice_rows-in-Ok-clause-all : goal.returns-in_ok-slice_rows-in-Ok-clause-all
returns-in_ok-slice_rows-in-Ok-clause-all g c =
    c.in_ok-slice_rows-in-Ok.ensures ∙ ap (map (history_row c.args.window.now)) (c.deref.ensures.value ∙ c.in-Ok.ensures.all)
    ∙ history_seen c.args.live.now.state c.args.view.now c.args.window.now

pub returns-in-Err-TooMany-clause-many : goal.returns-in-Err-TooMany-clause-many
returns-in-Err-TooMany-clause-many g c = λ many.
    subst (λ count. 1000000 < count) (history_count c.args.live.now.state c.args.view.now c.args.window.now)
    (c.slices.ensures.many (c.in-Err-TooMany.is ∙ ap Err c.in-Err-TooMany.field-0-is))
