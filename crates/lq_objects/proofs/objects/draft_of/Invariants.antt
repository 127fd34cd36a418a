use Rattle.std.proofs.Common.{◌≡◌, drop, take}
use Rattle.lq_objects.specs.Directories.{names_in}
use Rattle.lq_objects.specs.Drafts.{base_of_draft}
use Rattle.lq_objects.specs.Faults.{first_of, unknown_in_block}
use Rattle.lq_objects.specs.Objects.{objects_of}
use Rattle.lq_objects.proofs.objects.draft_of.Given as goal

abbrev pub invariant-loop-block : goal.invariant-loop-block
invariant-loop-block l = record {
  draft : base_of_draft l.draft ≡ objects_of (names_in l.directory) l.fn.rules (take l.block-index l.blocks);
  fault : first_of (unknown_in_block (names_in l.directory)) (drop l.block-index l.blocks) ≡ first_of (unknown_in_block (names_in l.directory)) l.blocks;
}
