use Rattle.std.proofs.Common.{◌∙◌, ◌++◌, append_assoc}
use Rattle.lq_live.proofs.context.StepContext.push_known.Goals as goal

pub returns : goal.returns
returns c =
    rw (
      c.in_ok-push.ensures.items,
      c.in_ok-push_end.ensures,
      c.in_ok-push_alert.ensures,
      c.in_ok-status.ensures,
      c.outcome.ensures.second,
      c.outcome.ensures.attempt,
      c.outcome.ensures.state,
      c.outcome.ensures.output,
    )
    (append_assoc (c.args.edits.now.items ++ _) _ _ ∙ append_assoc c.args.edits.now.items _ _)
