use Rattle.std.proofs.Common.{◌≡◌, drop}
use Rattle.std.specs.List.{list_any}
use Rattle.lq_objects.specs.Directories.{names_in}
use Rattle.lq_objects.specs.Faults.{names_unknown}
use Rattle.lq_objects.proofs.unknown.Finder.any_unknown.Given as goal

abbrev pub invariant-loop-reference : goal.invariant-loop-reference
invariant-loop-reference l =
    list_any (names_unknown (names_in l.self.directory.now) l.line l.later) (drop l.reference-index l.references)
    ≡ list_any (names_unknown (names_in l.self.directory.now) l.line l.later) l.references
