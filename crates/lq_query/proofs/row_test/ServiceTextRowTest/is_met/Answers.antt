use Rattle.std.proofs.Common.{rules}
use Rattle.lq_query.proofs.row_test.ServiceTextRowTest.is_met.Goals as goal

pub returns-in-Some : goal.returns-in-Some
returns-in-Some c = search (c.service_text.ensures.value c.args.self.now.sight.view.now, rules)
