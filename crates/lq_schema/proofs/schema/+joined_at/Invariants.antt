use Rattle.std.proofs.Common.{length}
use Rattle.lq_schema.proofs.schema.+joined_at.Given as goal

-- a part less in each call
abbrev pub decreases-joined_at : goal.decreases-joined_at
decreases-joined_at l = length l.parts.now
