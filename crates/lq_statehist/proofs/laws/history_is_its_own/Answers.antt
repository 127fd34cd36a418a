use Rattle.lq_statehist.proofs.OwnLemmas.{own_history}
use Rattle.lq_statehist.proofs.laws.history_is_its_own.Goals as goal

pub returns : goal.returns
returns c = own_history
