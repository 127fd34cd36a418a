use Rattle.lq_request.proofs.NumberLemmas.{read_is_natural}
use Rattle.lq_request.proofs.number.natural.Goals as goal

pub returns : goal.returns
returns c = read_is_natural c.args.digits.now c.read_u64.result c.read_u64.ensures
