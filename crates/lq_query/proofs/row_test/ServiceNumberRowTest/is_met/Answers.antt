use Rattle.std.proofs.Common.{rules}
use Rattle.lq_query.proofs.row_test.ServiceNumberRowTest.is_met.Goals as goal

pub returns-in-Some : goal.returns-in-Some
returns-in-Some c = search (c.service_number.ensures.value c.args.self.now.sight.view.now, rules)
