use Rattle.std.proofs.Common.{Some, sym, ap, ◌∙◌}
use Rattle.std.specs.Arc.{arc_value}
use Rattle.lq_live.specs.LastTold.{periods_with}
use Rattle.lq_live.proofs.ToldLemmas.{told_period}
use Rattle.lq_live.proofs.last_told.LastTold.add_line.Goals as goal

pub returns-in-Some-Period : goal.returns-in-Some-Period
returns-in-Some-Period c = λ log are.
    told_period c.args.self.now c.set_period.new.self c.args.base.now c.args.entry.now c.in-Some-Period.on log are (sym c.told_by.ensures ∙ c.in-Some-Period.is ∙ ap Some c.in-Some-Period.field-0-is)
    c.set_period.ensures.hosts c.set_period.ensures.services c.set_period.ensures.names
    (c.set_period.ensures.periods ∙ ap (λ name. periods_with (arc_value c.args.self.now.names).keys name c.in-Some-Period.on c.args.self.now.periods.items) c.period_of.ensures)
