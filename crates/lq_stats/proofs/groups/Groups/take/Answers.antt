use Rattle.std.proofs.Common.{sym}
use Rattle.std.proofs.lemmas.Result.{on_ok_weaker}
use Rattle.lq_stats.proofs.StatsLemmas.{added_are, raised_are}
use Rattle.lq_stats.proofs.groups.Groups.take.Goals as goal

pub returns-in-Some-clause-groups : goal.returns-in-Some-clause-groups
returns-in-Some-clause-groups c = λ rows are.
    rw c.raise.ensures (raised_are c.args.self.now c.in-Some.place c.args.cells.now rows (sym c.in-Some.ensures.value) are)

pub returns-in-None-clause-groups : goal.returns-in-None-clause-groups
returns-in-None-clause-groups c = λ rows are.
    on_ok_weaker c.add.result
    (λ is. rw is (added_are c.args.self.now c.args.cells.now rows (sym c.in-None.ensures.value) are))
    c.add.ensures.ok
