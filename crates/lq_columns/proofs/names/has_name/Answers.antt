use Rattle.std.proofs.Common.{◌∙◌, rules, sym, tests}
use Rattle.std.proofs.lemmas.Iterator.{YieldsList-from_slice}
use Rattle.std.proofs.lemmas.Iterator.Search.{any_from_yields_List}
use Rattle.lq_columns.specs.Names.{has_own_name}
use Rattle.lq_columns.proofs.Found.{found_by_name}
use Rattle.lq_columns.proofs.names.has_name.Goals as goal

pub returns : goal.returns
returns g c =
    let name_of = g.I.Named.name_of c.args.base.now in
    any_from_yields_List (λ id. has_own_name c.args.name.now (name_of id)) _ _ _ c.any.ensures.ran
    (YieldsList-from_slice c.args.ids.now c.iter.ensures.rest) (λ x b q k. search (rules, tests))
    ∙ sym (found_by_name name_of c.args.name.now c.args.ids.now)
