use Rattle.std.proofs.Common.{ap, ◌∙◌}
use Rattle.lq_query.specs.Answer.{answer_of}
use Rattle.lq_session.proofs.session.Session.answer_to.Goals as goal

pub returns-clause-bytes : goal.returns-clause-bytes
returns-clause-bytes c =
    ap (λ reply. reply.bytes) (c.in_ok-reply.ensures {u = tt})
    ∙ ap (λ session. (answer_of c.args.request.now session.state).bytes) c.self.view_is
