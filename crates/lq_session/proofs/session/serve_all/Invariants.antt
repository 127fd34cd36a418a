use Rattle.std.proofs.Common.{◌+◌, ◌-◌, ◌*◌, ◌≡◌, ◌≤◌, length, if◌then◌else◌}
use Rattle.lq_session.specs.Reading.{ReadsNoFurther}
use Rattle.lq_session.proofs.StreamLemmas.{Stands}
use Rattle.lq_session.proofs.session.serve_all.Given as goal

abbrev pub invariant-messages : goal.invariant-messages
invariant-messages g l = record {
  input_later : g.S.Source.faults l.initial.input ≤ g.S.Source.faults l.input;
  output_later : g.K.Sink.faults l.initial.output ≤ g.K.Sink.faults l.output;
  stands : Stands l.initial.session.state (g.S.Source.left l.initial.input) (g.S.Source.left l.input) (g.K.Sink.held l.initial.output) (g.K.Sink.held l.output) l.session l.ended l.cut l.left;
  small : length l.cut ≤ 65537;
  no_further : ReadsNoFurther g.S.Source.left g.S.Source.one_read l.initial.input l.input;
  size : length l.piece ≡ 65536;
}

abbrev pub decreases-messages : goal.decreases-messages
decreases-messages g l = l.left * 65539 + (65537 - length l.cut) + (if l.ended then 0 else 1)
