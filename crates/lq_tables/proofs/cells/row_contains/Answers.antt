use Rattle.std.proofs.Common.{rules, sym}
use Rattle.lq_tables.proofs.cells.row_contains.Goals as goal

pub returns-in-Some-clause-value : goal.returns-in-Some-clause-value
returns-in-Some-clause-value c = λ view. search (c.contains.ensures.value c.args.live.now.state view (sym c.base-base.ensures.all), rules)

pub returns-in-None-clause-value : goal.returns-in-None-clause-value
returns-in-None-clause-value c = λ view. search (c.empty_contains.ensures.value c.args.text.now, rules)

pub returns-in-Some-service_of-clause-value : goal.returns-in-Some-service_of-clause-value
returns-in-Some-service_of-clause-value c = λ view. search (c.contains-in-Some-service_of.ensures.value c.args.live.now.state (sym c.base-base.ensures.all), rules)

pub returns-in-None-service_of-clause-value : goal.returns-in-None-service_of-clause-value
returns-in-None-service_of-clause-value c = λ view. search (c.empty_contains-in-None-service_of.ensures.value c.args.text.now, rules)
