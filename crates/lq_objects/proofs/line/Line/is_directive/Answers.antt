use Rattle.std.proofs.Common.{ap, ◌∙◌}
use Rattle.lq_objects.specs.Blocks.{is_named}
use Rattle.lq_objects.specs.Needed.{directive_word}
use Rattle.lq_objects.proofs.KnownLemmas.{known-equal}
use Rattle.lq_objects.proofs.line.Line.is_directive.Goals as goal

pub returns : goal.returns
returns c =
    c.eq.ensures
    ∙ known-equal c.self.inside.text.now c.args.directive c.self.inside.directive c.self.invariant
    ∙ ap (λ line. is_named (directive_word c.args.directive) line.text) c.self.view_is
