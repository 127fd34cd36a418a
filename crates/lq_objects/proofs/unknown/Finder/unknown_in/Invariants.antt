use Rattle.std.proofs.Common.{◌≡◌, drop}
use Rattle.lq_objects.specs.Directories.{names_in}
use Rattle.lq_objects.specs.Faults.{unknown_in}
use Rattle.lq_objects.proofs.unknown.Finder.unknown_in.Given as goal

abbrev pub invariant-loop-i : goal.invariant-loop-i
invariant-loop-i l = unknown_in (names_in l.self.directory.now) l.kind (drop l.i l.lines) ≡ unknown_in (names_in l.self.directory.now) l.kind l.lines
