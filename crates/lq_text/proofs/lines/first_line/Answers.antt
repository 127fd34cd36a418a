use Rattle.std.proofs.Common.{eq-eqb, arith}
use Rattle.std.proofs.lemmas.Bool.{eqb-true}
use Rattle.lq_text.proofs.LineLemmas.{line_to_feed, line_to_end}
use Rattle.lq_text.proofs.lines.first_line.Goals as goal

pub returns-in-Some-clause-some : goal.returns-in-Some-clause-some
returns-in-Some-clause-some c =
    let found = c.in-Some.ensures in
    line_to_feed _ _ _ found.0.high (λ k low is. found.0.before k (omega arith) low (eq-eqb _ _ is)) (eqb-true _ _ found.1) c.text_length.ensures.within c.text_length.ensures.text

pub returns-in-None-2-clause-some : goal.returns-in-None-2-clause-some
returns-in-None-2-clause-some c = line_to_end _ (grind (arith, c.if-is_empty.ensures)) (λ k low is. c.in-None.ensures k (omega arith) low (eq-eqb _ _ is))
