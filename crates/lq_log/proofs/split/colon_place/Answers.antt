use Rattle.std.proofs.Common.{sym, ◌∙◌, arith}
use Rattle.lq_log.proofs.SplitLemmas.{parts_found, parts_further, parts_none}
use Rattle.lq_log.proofs.split.colon_place.Goals as goal

pub returns-then-is_colon-clause-parts : goal.returns-then-is_colon-clause-parts
returns-then-is_colon-clause-parts c =
    parts_found _ _ c.places-test.true (sym c.is_colon.ensures ∙ c.if-is_colon.true) c.places.invariant.parts

pub places-preserved : goal.places-preserved
places-preserved c = record {
  within = omega (arith, c.places-test.true);
  parts = parts_further _ _ c.places-test.true (sym c.is_colon.ensures ∙ c.if-is_colon.false) c.places.invariant.parts;
}

pub returns-clause-parts : goal.returns-clause-parts
returns-clause-parts c = parts_none _ _ c.places-test.false c.places.invariant.parts
