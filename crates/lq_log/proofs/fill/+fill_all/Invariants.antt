use Rattle.std.specs.Prelude.{length}
use Rattle.lq_log.proofs.fill.+fill_all.Given as goal

abbrev pub decreases-fill_all : goal.decreases-fill_all
decreases-fill_all l = length l.fields.now
