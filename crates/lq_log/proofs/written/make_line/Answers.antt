use Rattle.std.proofs.Common.{subst, rules}
use Rattle.lq_log.specs.Entries.{IsOfLine}
use Rattle.lq_log.proofs.LineLemmas.{written_of_line}
use Rattle.lq_log.proofs.StampLemmas.{own_text}
use Rattle.lq_log.proofs.written.make_line.Goals as goal

pub returns-clause-own_text : goal.returns-clause-own_text
returns-clause-own_text c = λ below. own_text c.args.time c.args.form.now _ below (search rules)

pub returns-clause-line : goal.returns-clause-line
returns-clause-line c = λ below. subst IsOfLine (search rules) (written_of_line c.args.time c.args.form.now below)
