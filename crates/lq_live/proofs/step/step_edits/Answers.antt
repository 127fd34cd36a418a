use Rattle.lq_live.specs.Kept.{state_of}
use Rattle.lq_live.proofs.Played.{edits_played}
use Rattle.lq_live.proofs.step.step_edits.Goals as goal

pub returns-clause-plays : goal.returns-clause-plays
returns-clause-plays c =
    rw (c.in_ok-edits.ensures, c.max-second.ensures, c.min.ensures) (edits_played (state_of c.args.live.now) c.args.update.now c.requires.kept.ids c.requires.kept.order)
