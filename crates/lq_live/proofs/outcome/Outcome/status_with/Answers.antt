use Rattle.std.proofs.Common.{refl, rules, w64}
use Rattle.std.proofs.Math.Facts.{to_z-of_z}
use Rattle.lq_live.specs.Results.{status_after}
use Rattle.lq_live.proofs.outcome.Outcome.status_with.Goals as goal

pub returns : goal.returns
unfolding status_after
returns c =
    rw (
      c.status_of.ensures,
      c.flag_if.ensures,
      c.attempt_if.ensures,
      c.second_if.ensures,
      c.second_if-2.ensures,
      c.flag_if-2.ensures,
      c.flag_if-3.ensures,
      c.type_number.ensures,
      c.is_ok-ok.ensures,
      c.ends_acknowledgement-ends.ensures,
      c.changes_state-changed.ensures,
      c.changes_hard-hard_changed.ensures,
      to_z-of_z {w = w64} {z = c.args.self.state} (search rules),
    ) refl
