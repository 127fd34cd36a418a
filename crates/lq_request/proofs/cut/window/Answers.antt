use Rattle.std.proofs.Common.{arith, sym, length-take}
use Rattle.lq_request.proofs.ListLemmas.{take_whole}
use Rattle.lq_request.proofs.cut.window.Goals as goal

pub slice_bounds-result-end : goal.slice_bounds-result-end
slice_bounds-result-end c = omega (arith, length-take 65536 c.args.held.now)

pub returns-else-held-gt-MESSAGE_LIMIT : goal.returns-else-held-gt-MESSAGE_LIMIT
returns-else-held-gt-MESSAGE_LIMIT c = sym (take_whole 65536 c.args.held.now (omega arith))
