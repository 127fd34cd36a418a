use Rattle.std.specs.Option.{option_map}
use Rattle.lq_statehist.specs.Pass.{known_of, piece_of_stretch}
use Rattle.lq_statehist.specs.Tiling.{pieces_between}
use Rattle.lq_statehist.proofs.PassLemmas.{advanced, advanced_many, on_ok}
use Rattle.lq_statehist.proofs.pass.advance.Goals as goal

pub returns-clause-ok : goal.returns-clause-ok
returns-clause-ok c =
    on_ok c.settle.result (λ settled until at within held.
    advanced c.args.about at c.args.slices.now.items c.settle.new.slices.items (option_map piece_of_stretch c.args.pass.now.growing) (known_of c.args.pass.now.known)
    c.args.pass.now.since c.args.to until c.if-to-pass.false within held (option_map piece_of_stretch c.settle.new.growing) (settled (pieces_between at c.args.to until)))
    c.settle.ensures.ok

pub returns-clause-many : goal.returns-clause-many
returns-clause-many c = λ large until at within held.
    advanced_many c.args.about at c.args.slices.now.items c.settle.new.slices.items (option_map piece_of_stretch c.args.pass.now.growing) (known_of c.args.pass.now.known)
    c.args.pass.now.since c.args.to until c.if-to-pass.false within held (c.settle.ensures.many large (pieces_between at c.args.to until))
