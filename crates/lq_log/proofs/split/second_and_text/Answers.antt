use Rattle.lq_log.proofs.TextLemmas.{text_boundary}
use Rattle.lq_log.proofs.split.second_and_text.Goals as goal

pub range_from-requires : goal.range_from-requires
range_from-requires c = λ some.
    let found = c.in_ok-second.ensures {u = tt} in
    rw c.as_bytes.ensures.value at (text_boundary _ _ _ c.as_bytes.ensures.utf8 found.within found.second found.text)
