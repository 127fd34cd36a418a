use Rattle.lq_tables.proofs.OwnLemmas.{has_rising}
use Rattle.lq_tables.proofs.listing.listed_rows.Goals as goal

pub returns-clause-ids : goal.returns-clause-ids
returns-clause-ids c =
    has_rising _ _ _ c.downtimes-downtimes.ensures.all c.comments-comments.ensures.all c.downtimes-downtimes.ensures.ids c.comments-comments.ensures.ids
