use Rattle.std.proofs.Common.{◌≡◌, ◌+◌, ◌-◌, ◌++◌, map}
use Rattle.lq_schema.specs.Value.{meaning_of}
use Rattle.lq_query.specs.Answer.{stat_names}
use Rattle.lq_query.proofs.line.names_of_stats.Given as goal

abbrev pub invariant-loop-place : goal.invariant-loop-place
invariant-loop-place l = map meaning_of l.names.items ++ stat_names (l.place + 1) (l.count - l.place) ≡ stat_names 1 l.count
