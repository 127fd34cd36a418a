use Rattle.std.proofs.Common.{ap, ◌∙◌, subst}
use Rattle.lq_objects.specs.Blocks.{parts_of}
use Rattle.lq_objects.specs.Objects.{base_of_parts}
use Rattle.lq_objects.specs.Reading.{Reads}
use Rattle.lq_objects.proofs.SoundLemmas.{reads_sound}
use Rattle.lq_objects.proofs.read.read_objects.Goals as goal

pub returns-in-Ok-clause-reads : goal.returns-in-Ok-clause-reads
returns-in-Ok-clause-reads c =
    subst (Reads c.read_lines.result)
    (ap (λ lines. base_of_parts c.args.rules (parts_of lines)) c.deref.ensures.value ∙ c.in-Ok.ensures c.args.rules) c.read_lines.ensures

pub returns-in-Ok-clause-sound : goal.returns-in-Ok-clause-sound
returns-in-Ok-clause-sound c = reads_sound c.args.b.now c.args.rules c.read_lines.result (returns-in-Ok-clause-reads c)
