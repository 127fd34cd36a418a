use Rattle.std.proofs.Common.{◌≡◌, ◌++◌, drop}
use Rattle.lq_tables.specs.Parts.{pairs_of}
use Rattle.lq_tables.proofs.pairs.pairs_of.Given as goal

abbrev pub invariant-loop-id : goal.invariant-loop-id
invariant-loop-id l = l.pairs ++ pairs_of l.base (drop l.id-index l.ids) ≡ pairs_of l.base l.ids
