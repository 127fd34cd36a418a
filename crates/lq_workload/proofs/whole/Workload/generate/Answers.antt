use Rattle.lq_workload.proofs.AcceptLemmas.{accepted}
use Rattle.lq_workload.proofs.whole.Workload.generate.Goals as goal

pub returns-in_err-objects-clause-accepted : goal.returns-in_err-objects-clause-accepted
returns-in_err-objects-clause-accepted c = accepted c.args.number

pub returns-in_err-log-clause-accepted : goal.returns-in_err-log-clause-accepted
returns-in_err-log-clause-accepted c = accepted c.args.number

pub returns-in_err-stream-clause-accepted : goal.returns-in_err-stream-clause-accepted
returns-in_err-stream-clause-accepted c = accepted c.args.number

pub returns-clause-accepted : goal.returns-clause-accepted
returns-clause-accepted c = accepted c.args.number
