use Rattle.std.proofs.Common.{◌≡◌, true, ap, sym, subst, ◌∙◌}
use Rattle.std.specs.Fmt.{digits}
use Rattle.lq_output.specs.Header.{refusal_text}
use Rattle.lq_request.specs.Style.{style_of}
use Rattle.lq_session.specs.Reading.{AppendsOrFaults}
use Rattle.lq_session.specs.Replies.{out_of_memory}
use Rattle.lq_session.proofs.MessageLemmas.{written_or_faults}
use Rattle.lq_session.proofs.session.refuse_for_memory.Goals as goal

pub returns-then-reply_style-clause-written : goal.returns-then-reply_style-clause-written
unfolding digits
returns-then-reply_style-clause-written g c =
    let on : (style_of c.args.text.now).fixed16 ≡ true = ap (λ style. style.fixed16) (sym c.reply_style.ensures) ∙ c.if-reply_style.true in
    subst (λ fixed16. AppendsOrFaults (g.K.Sink.faults c.args.output.now) (g.K.Sink.faults c.write_all.new.sink) (g.K.Sink.held c.args.output.now) (g.K.Sink.held c.write_all.new.sink) (refusal_text out_of_memory fixed16)) (sym on)
    (written_or_faults c.write_all.result _ _ _ _ (refusal_text out_of_memory true) c.write_all.ensures.ok c.write_all.ensures.err c.write_all.ensures.cause.failed)
