use Rattle.lq_live.proofs.ToldLemmas.{nothing_told}
use Rattle.lq_live.proofs.last_told.LastTold.new.Goals as goal

pub returns : goal.returns
returns c = nothing_told _ c.args.base.now _ _ _ (c.in_ok-marks.ensures {u = tt}) (c.in_ok-marks-2.ensures {u = tt}) (c.in_ok-marks-3.ensures {u = tt})
