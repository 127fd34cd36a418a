use Rattle.std.proofs.Common.{◌++◌, arith}
use Rattle.lq_objects.proofs.PairLemmas.{pairs_of-odd}
use Rattle.lq_objects.proofs.names.pairs.Goals as goal

pub returns-then-at-pieces : goal.returns-then-at-pieces
returns-then-at-pieces c =
    pairs_of-odd (λ rest. c.pairs.names.items ++ rest) c.args.pieces.now c.pairs.at _ c.if-at-pieces.true (omega (arith, c.pairs-test.false)) c.pairs.invariant.pairs
