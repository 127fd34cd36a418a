use Rattle.lq_log.proofs.NumberLemmas.{attempt_not_read, attempt_read, attempt_small}
use Rattle.lq_log.proofs.words.attempt.Goals as goal

pub overflow_cast-result : goal.overflow_cast-result
overflow_cast-result c =
    let read = c.in-Some.ensures {u = tt} in
    attempt_small _ _ c.if-digits-gt-MOST_ATTEMPT_DIGITS.false read.0 read.1

pub returns-in-Some : goal.returns-in-Some
returns-in-Some c =
    let read = c.in-Some.ensures {u = tt} in
    rw c.as_bytes-digits.ensures.value at (attempt_read _ _ c.if-digits-gt-MOST_ATTEMPT_DIGITS.false read.0 read.1)

pub returns-in-None : goal.returns-in-None
returns-in-None c = rw c.as_bytes-digits.ensures.value at (attempt_not_read _ c.if-digits-gt-MOST_ATTEMPT_DIGITS.false (c.in-None.ensures {u = tt}))
