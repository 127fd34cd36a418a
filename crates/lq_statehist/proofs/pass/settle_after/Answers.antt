use Rattle.std.proofs.Common.{sym, ◌∙◌}
use Rattle.lq_statehist.specs.Pass.{piece_of_stretch}
use Rattle.lq_statehist.proofs.PassLemmas.{many_apart, on_ok, settled_apart, settled_same}
use Rattle.lq_statehist.proofs.pass.settle_after.Goals as goal

pub returns-then-is_same-clause-ok : goal.returns-then-is_same-clause-ok
returns-then-is_same-clause-ok c = λ later.
    settled_same c.args.about c.args.slices.now.items c.args.slices.now.items (piece_of_stretch c.args.pair.last) (piece_of_stretch c.args.pair.next) later
    (sym c.is_same.ensures ∙ c.if-is_same.true)

pub returns-clause-ok : goal.returns-clause-ok
returns-clause-ok c =
    on_ok c.push.result (λ added later.
    settled_apart c.args.about c.args.slices.now.items c.push.new.slices.items (piece_of_stretch c.args.pair.last) (piece_of_stretch c.args.pair.next) later
    (sym c.is_same.ensures ∙ c.if-is_same.false) added) c.push.ensures.ok

pub returns-clause-many : goal.returns-clause-many
returns-clause-many c = λ large later.
    many_apart c.args.about c.args.slices.now.items c.push.new.slices.items (piece_of_stretch c.args.pair.last) (piece_of_stretch c.args.pair.next) later
    (sym c.is_same.ensures ∙ c.if-is_same.false) (c.push.ensures.many large)
