use Rattle.std.proofs.lemmas.Result.{IfOk-weaker}
use Rattle.lq_query.proofs.text_lines.push_hosts.Goals as goal

pub returns-clause-lines : goal.returns-clause-lines
returns-clause-lines c =
    IfOk-weaker c.text_lines.result _ _ (λ count written. record {
      layout = c.text_lines.ensures.layout;
      written = written;
    })
    c.text_lines.ensures.lines
