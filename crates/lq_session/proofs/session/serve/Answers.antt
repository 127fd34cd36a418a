use Rattle.std.proofs.Common.{[], subst}
use Rattle.std.specs.Prelude.{IfSome, OnOk}
use Rattle.std.specs.Io.KnownBytes.{Appends}
use Rattle.std.proofs.KnownBytes.{Consumes-nil}
use Rattle.lq_live.specs.State.{Counted}
use Rattle.lq_session.specs.Replies.{replies}
use Rattle.lq_session.proofs.session.serve.Goals as goal

pub returns-in_default-clause-stopped : goal.returns-in_default-clause-stopped
returns-in_default-clause-stopped g c = record { taken = []; consumed = Consumes-nil _ }

pub returns-clause-written : goal.returns-clause-written
returns-clause-written g c =
    subst (λ (live : Counted). OnOk c.serve_all-served.result (IfSome (g.S.Source.left c.args.input.now) (λ all.
    Appends (g.K.Sink.held c.args.output.now) (g.K.Sink.held c.serve_all-served.new.output) (replies live.state all))))
    c.in-Ok.ensures.session c.serve_all-served.ensures.written
