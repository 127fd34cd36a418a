use Rattle.std.proofs.Common.{rules}
use Rattle.lq_query.proofs.sight.Sight.own_number.Goals as goal

pub returns-in-Host : goal.returns-in-Host
returns-in-Host c = search (c.host_number.ensures.value c.args.self.now.view.now, rules)

pub returns-in-Service : goal.returns-in-Service
returns-in-Service c = search (c.service_number.ensures.value c.args.self.now.view.now, rules)
