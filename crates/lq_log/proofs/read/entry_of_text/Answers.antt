use Rattle.std.proofs.Common.{sym, ◌∙◌}
use Rattle.lq_log.proofs.ReadLemmas.{said_by_form, said_without_form}
use Rattle.lq_log.proofs.read.entry_of_text.Goals as goal

pub returns-in-Some : goal.returns-in-Some
returns-in-Some c = said_by_form _ _ (sym c.in-Some.is ∙ c.in_ok-entry.ensures {u = tt})

pub returns-in-None : goal.returns-in-None
returns-in-None c = said_without_form _ _ (sym c.in-None.is ∙ c.in_ok-entry.ensures {u = tt}) c.other.ensures
