use Rattle.std.proofs.Common.{◌≡◌, drop}
use Rattle.lq_objects.specs.Faults.{first_of, inner_fault}
use Rattle.lq_objects.proofs.check.lines_fault.Given as goal

abbrev pub invariant-loop-line : goal.invariant-loop-line
invariant-loop-line l = first_of (inner_fault l.opening l.kind) (drop l.line-index l.lines) ≡ first_of (inner_fault l.opening l.kind) l.lines
