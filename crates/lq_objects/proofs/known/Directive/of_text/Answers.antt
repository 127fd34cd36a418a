use Rattle.std.proofs.Common.{◌∙◌}
use Rattle.lq_objects.proofs.KnownLemmas.{known-by_first, known-empty}
use Rattle.lq_objects.proofs.known.Directive.of_text.Goals as goal

pub returns-in-Some : goal.returns-in-Some
returns-in-Some c = c.told_by.ensures ∙ known-by_first c.in-Some.first.now c.args.text.now c.in-Some.ensures.value

pub returns-in-None : goal.returns-in-None
returns-in-None c = known-empty c.args.text.now c.in-None.ensures.value
