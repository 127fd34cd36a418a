use Rattle.lq_filter.proofs.ready.Step.keep_met.Goals as goal

pub keep_met-requires-clause-columns : goal.keep_met-requires-clause-columns
keep_met-requires-clause-columns g c = λ place row below. rw (← c.self.view_is, c.in-Test.is) at (c.requires.columns place row below)
