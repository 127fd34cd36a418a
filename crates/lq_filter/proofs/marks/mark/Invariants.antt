use Rattle.std.proofs.Common.{◌≡◌, ◌<◌, ◌≤◌, ◌||◌, ℕ, false, get_or}
use Rattle.lq_filter.proofs.marks.mark.Given as goal

abbrev pub invariant-loop-place : goal.invariant-loop-place
invariant-loop-place l = record {
  done : (place : ℕ) → place < l.place → get_or l.marks place false ≡ (get_or l.fn.marks place false || get_or l.others place false);
  left : (place : ℕ) → l.place ≤ place → get_or l.marks place false ≡ get_or l.fn.marks place false;
}
