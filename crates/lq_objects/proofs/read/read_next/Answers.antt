use Rattle.std.proofs.Common.{sym, ap, ◌∙◌}
use Rattle.std.specs.Option.{option_copied}
use Rattle.lq_objects.specs.Faults.{part_fault}
use Rattle.lq_objects.proofs.DirectoryLemmas.{known-directory}
use Rattle.lq_objects.proofs.read.read_next.Goals as goal

pub returns-in_ok-map_err-clause-fault : goal.returns-in_ok-map_err-clause-fault
returns-in_ok-map_err-clause-fault c =
    ap (λ earlier. part_fault earlier c.args.part.now.lines.now (option_copied c.args.part.now.closing))
    (sym (known-directory c.args.directory.now c.args.blocks.now.items c.requires))
    ∙ c.in_ok-block.ensures.fault
