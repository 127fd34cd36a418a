use Rattle.std.proofs.Common.{rules, ◌≤◌, length, subst}
use Rattle.lq_output.specs.Body.{body_limit}
use Rattle.lq_output.specs.Writing.{Writing, whole_body}
use Rattle.lq_output.proofs.WritingLemmas.{ends_line_of, line_within_limit}
use Rattle.lq_output.proofs.writer.Writer.end_line.Goals as goal

pub returns-clause-lines : goal.returns-clause-lines
returns-clause-lines c = ends_line_of c.args.self.now _ c.requires (search rules)

pub returns-clause-fits : goal.returns-clause-fits
returns-clause-fits c =
    line_within_limit c.args.self.now _ c.requires (search rules)
    (subst (λ (w : Writing). length (whole_body w) ≤ body_limit) c.self.view_is c.self.invariant)
