use Rattle.std.proofs.Common.{◌≡◌, drop}
use Rattle.std.specs.List.{list_any}
use Rattle.lq_filter.specs.Patterns.{is_found}
use Rattle.lq_filter.proofs.ready_check.is_found_in.Given as goal

abbrev pub invariant-loop-element : goal.invariant-loop-element
invariant-loop-element l = record {
  same : l.pattern ≡ l.fn.pattern;
  left : list_any (is_found l.fn.pattern) (drop l.element-index l.elements) ≡ list_any (is_found l.fn.pattern) l.elements;
}
