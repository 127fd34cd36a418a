use Rattle.std.proofs.Common.{◌≡◌, ◌++◌, [], length}
use Rattle.lq_objects.specs.Blocks.{parts_of}
use Rattle.lq_objects.specs.Directories.{directory_of}
use Rattle.lq_objects.specs.Faults.{blocks_of, parts_fault}
use Rattle.lq_objects.proofs.read.read_blocks.Given as goal

abbrev pub invariant-parts : goal.invariant-parts
invariant-parts l = record {
  fault : parts_fault l.blocks.items (parts_of l.rest) ≡ parts_fault [] (parts_of l.lines);
  blocks : l.blocks.items ++ blocks_of (parts_of l.rest) ≡ blocks_of (parts_of l.lines);
  directory : l.directory ≡ directory_of l.blocks.items;
}

abbrev pub decreases-parts : goal.decreases-parts
decreases-parts l = length l.rest
