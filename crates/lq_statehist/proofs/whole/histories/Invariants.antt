use Rattle.std.proofs.Common.{◌≡◌, ◌≤◌, ◌++◌, length, map, drop, flat_map}
use Rattle.std.specs.List.{AllByRecursion}
use Rattle.lq_statehist.specs.History.{history}
use Rattle.lq_statehist.specs.Notes.{notes_of}
use Rattle.lq_statehist.specs.Pass.{subject_of_lines}
use Rattle.lq_statehist.specs.Sorted.{IsHosted}
use Rattle.lq_statehist.proofs.whole.histories.Given as goal

abbrev pub invariant-loop-about : goal.invariant-loop-about
invariant-loop-about l = record {
  all : l.slices.items ++ flat_map (λ about. history about (notes_of l.live.state.base l.live.state.log) l.span.from l.span.until) (drop l.about-index (map subject_of_lines l.subjects))
      ≡ flat_map (λ about. history about (notes_of l.live.state.base l.live.state.log) l.span.from l.span.until) (map subject_of_lines l.subjects);
  hosted : AllByRecursion (IsHosted l.live.state.base) (drop l.about-index (map subject_of_lines l.subjects));
  few : length l.slices.items ≤ 1000000;
}
