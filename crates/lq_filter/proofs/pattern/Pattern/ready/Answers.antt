use Rattle.lq_filter.proofs.PatternLemmas.{found_alike}
use Rattle.lq_filter.proofs.pattern.Pattern.ready.Goals as goal

pub invariant_of-result : goal.invariant_of-result
invariant_of-result c = λ text bytes.
    rw (c.in_ok-new.ensures.ok, c.in_ok-matcher.ensures.pattern, c.deref.ensures, ← c.self.view_is) (found_alike c.self.inside.folded c.self.inside.regex.value c.self.invariant text bytes)
