use Rattle.std.proofs.Common.{sym, subst}
use Rattle.lq_objects.specs.Directories.{AreNamesOf, names_in}
use Rattle.lq_objects.specs.Objects.{objects_of}
use Rattle.lq_objects.proofs.DirectoryLemmas.{names_of-blocks}
use Rattle.lq_objects.proofs.objects.objects_of.Goals as goal

pub finish-requires : goal.finish-requires
finish-requires c =
    subst (AreNamesOf c.args.directory) (sym c.in_ok-draft.ensures.draft)
    (subst (λ names. AreNamesOf names (objects_of (names_in c.args.directory) c.args.rules c.args.blocks.now)) (sym c.requires)
    (names_of-blocks (names_in c.args.directory) c.args.rules c.args.blocks.now))
