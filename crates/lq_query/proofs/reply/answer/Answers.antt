use Rattle.std.proofs.Common.{◌≡◌, IfOk, subst}
use Rattle.lq_query.specs.Answer.{reply_with, window_of}
use Rattle.lq_query.specs.Rows.{seen_rows}
use Rattle.lq_query.proofs.reply.answer.Goals as goal

pub returns : goal.returns
returns c =
    let request = c.args.request.now in
    let s = c.args.live.now.state in
    subst (λ view. IfOk c.seen_reply.result (λ reply. reply ≡ reply_with request (seen_rows s view (window_of request s) request.table)))
    (c.in_ok-view.ensures {u = tt}) c.seen_reply.ensures
