use Rattle.lq_statehist.proofs.OutputLemmas.{have_outputs}
use Rattle.lq_statehist.proofs.laws.slices_have_outputs.Goals as goal

pub returns : goal.returns
returns c = have_outputs
