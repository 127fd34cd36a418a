use Rattle.std.proofs.Common.{map, sym, ap, ◌∙◌}
use Rattle.std.specs.Prelude.{slice_get}
use Rattle.lq_names.specs.Names.{both_parts}
use Rattle.lq_names.proofs.NameLemmas.{parts-of_keys}
use Rattle.lq_names.proofs.name_index.NameIndex.parts_at.Goals as goal

pub returns : goal.returns
returns c =
    let same = sym (ap (map both_parts) c.self.view_is) ∙ parts-of_keys c.self.inside.names.keys in
    ap (λ keys. slice_get keys c.args.place) same ∙ c.index.ensures
