use Rattle.std.proofs.Common.{ap, ◌∙◌}
use Rattle.std.specs.Prelude.{is_some}
use Rattle.lq_objects.specs.Needed.{is_known}
use Rattle.lq_objects.proofs.KnownLemmas.{known-some}
use Rattle.lq_objects.proofs.line.Line.is_known.Goals as goal

pub returns : goal.returns
returns c =
    c.is_some.ensures
    ∙ ap is_some c.self.invariant
    ∙ known-some c.self.inside.text.now
    ∙ ap (λ line. is_known line.text) c.self.view_is
