use Rattle.lq_query.proofs.IsolationLemmas.{isolated}
use Rattle.lq_query.proofs.isolation.replies_are_isolated.Goals as goal

pub returns : goal.returns
returns c = isolated c.history_is_its_own.ensures c.slices_have_outputs.ensures
