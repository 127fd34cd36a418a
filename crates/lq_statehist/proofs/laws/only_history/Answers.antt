use Rattle.lq_statehist.proofs.HistoryLemmas.{only_history}
use Rattle.lq_statehist.proofs.laws.only_history.Goals as goal

pub returns : goal.returns
returns c = only_history
