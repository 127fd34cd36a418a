use Rattle.lq_log.proofs.SplitLemmas.{after_colon}
use Rattle.lq_log.proofs.split.parts_at_colon.Goals as goal

pub range_from-requires : goal.range_from-requires
range_from-requires c = λ some.
    let found = c.in_ok-place.ensures {u = tt} in
    rw c.as_bytes.ensures.value at (after_colon _ _ c.as_bytes.ensures.utf8 found.within found.blank)
