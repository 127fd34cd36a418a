use Rattle.std.proofs.Common.{sym, ◌∙◌, arith}
use Rattle.lq_log.proofs.ReadLemmas.{field_missing}
use Rattle.lq_log.proofs.SeparatorLemmas.{lacks_separator}
use Rattle.lq_log.proofs.fill.+fill_all.Goals as goal

pub returns-in_default-split_once : goal.returns-in_default-split_once
returns-in_default-split_once t c =
    field_missing _ _ _ _ _ c.in-Some.ensures.cases.0 (sym c.is_empty.ensures ∙ c.if-is_empty.false)
    (lacks_separator _ (c.in_default-split_once.ensures.byte (omega arith) (λ w o found. found)))
