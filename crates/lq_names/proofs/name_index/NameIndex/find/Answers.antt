use Rattle.std.proofs.Common.{◌∙◌, ap}
use Rattle.lq_names.specs.Names.{place_of}
use Rattle.lq_names.proofs.NameLemmas.{place_of-key}
use Rattle.lq_names.proofs.name_index.NameIndex.find.Goals as goal

pub returns-in-Some-clause-value : goal.returns-in-Some-clause-value
returns-in-Some-clause-value c =
    c.in-Some.ensures.index
    ∙ place_of-key _ c.parts.result.now c.args.name.now c.parts.ensures.first c.parts.ensures.second
    ∙ ap (λ names. place_of names c.args.name.now) c.self.view_is

pub returns-in-None-clause-value : goal.returns-in-None-clause-value
returns-in-None-clause-value c =
    c.in-None.ensures.index
    ∙ place_of-key _ c.parts.result.now c.args.name.now c.parts.ensures.first c.parts.ensures.second
    ∙ ap (λ names. place_of names c.args.name.now) c.self.view_is
