use Rattle.lq_request.proofs.CutLemmas.{shows_unfed}
use Rattle.lq_request.proofs.cut.first_found.Goals as goal

pub returns-then-not-sees_feed-clause-shows : goal.returns-then-not-sees_feed-clause-shows
returns-then-not-sees_feed-clause-shows c = shows_unfed c.args.ended c.args.held.now c.if-not-sees_feed.ensures.none c.if-held-gt-MESSAGE_LIMIT.false c.if-ended.false
