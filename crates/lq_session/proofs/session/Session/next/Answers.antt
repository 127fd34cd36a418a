use Rattle.std.proofs.Common.{◌∙◌, sym, rules}
use Rattle.std.proofs.KnownBytes.{Appends-nil}
use Rattle.lq_session.proofs.MessageLemmas.{last_query_served, query_broken, command_broken, too_long_served, too_long_broken, none_found}
use Rattle.lq_session.proofs.session.Session.next.Goals as goal

pub returns-in-Ok-false-clause-ok : goal.returns-in-Ok-false-clause-ok
returns-in-Ok-false-clause-ok g c = last_query_served _ _ _ _ _ _ _ c.in-Query.ensures.order (sym c.in-Ok-false.field-0-test ∙ c.in-Ok-false.ensures.keep) c.in-Ok-false.ensures.ok

pub returns-in-Err-clause-err : goal.returns-in-Err-clause-err
returns-in-Err-clause-err g c = query_broken _ _ _ _ _ _ _ _ _ _ c.in-Query.ensures.order c.in-Err.ensures.broken

pub returns-in-Ok-clause-ok : goal.returns-in-Ok-clause-ok
returns-in-Ok-clause-ok g c = search (rules, Appends-nil)

pub returns-in-Err-command-clause-err : goal.returns-in-Err-command-clause-err
returns-in-Err-command-clause-err g c = command_broken _ _ _ _ _ _ _ c.in-Command.ensures.order

pub returns-in-Ok-refuse-clause-ok : goal.returns-in-Ok-refuse-clause-ok
returns-in-Ok-refuse-clause-ok g c = too_long_served _ _ _ _ _ _ c.in-TooLong.ensures.order.1 c.in-Ok-refuse.ensures.ok

pub returns-in-Err-refuse-clause-err : goal.returns-in-Err-refuse-clause-err
returns-in-Err-refuse-clause-err g c = too_long_broken _ _ _ _ _ _ _ _ _ c.in-TooLong.ensures.order.1 c.in-Err-refuse.ensures.broken

pub returns-in-Empty-clause-ok : goal.returns-in-Empty-clause-ok
returns-in-Empty-clause-ok g c = none_found _ _ _ c.in-Empty.ensures.next.is c.in-Empty.ensures.order
