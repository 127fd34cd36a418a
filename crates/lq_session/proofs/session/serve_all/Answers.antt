use Rattle.std.proofs.Common.{◌≡◌, [], length, arith, ap}
use Rattle.lq_session.specs.Session.{Serves, WantsMore}
use Rattle.lq_session.proofs.StreamLemmas.{stands_first, stands_next, stands_read, last_replied, none_replied, full_replied, last_read, none_read, full_read, going_on, none_further, one_further, next_stopped, next_refused, read_stopped}
use Rattle.lq_session.specs.declared.session.ServeErr.TheVariants as error
use Rattle.lq_session.proofs.session.serve_all.Goals as goal

pub messages-init : goal.messages-init
messages-init g c =
    let none : c.args.cut.now ≡ [] = c.requires.none in
    record {
      input_later = omega arith;
      output_later = omega arith;
      stands = stands_first _ _ _ _ _ c.requires.opened none;
      small = omega (arith, ap length none);
      no_further = none_further _ _ _;
      size = c.requires.size;
    }

pub messages-preserved-in-Ok-On : goal.messages-preserved-in-Ok-On
messages-preserved-in-Ok-On g c =
    let serves : Serves c.messages.ended c.messages.cut c.next.new.cut c.messages.session c.next.new.self (g.K.Sink.held c.messages.output) (g.K.Sink.held c.next.new.output) =
    rw c.in-Ok-On.field-0-is at c.in-Ok-On.ensures.ok in
    record {
      input_later = c.messages.invariant.input_later;
      output_later = omega (arith, c.messages.invariant.output_later, c.in-Ok-On.ensures.later);
      stands = stands_next _ _ _ _ _ _ _ _ _ _ _ _ _ c.messages.invariant.stands serves (omega (arith, c.messages-test.true));
      small = omega (arith, serves.cut.fewer, c.messages.invariant.small);
      no_further = c.messages.invariant.no_further;
      size = c.messages.invariant.size;
    }

pub messages-preserved : goal.messages-preserved
messages-preserved g c =
    let wants : WantsMore c.messages.ended c.messages.cut c.next.new.cut c.messages.session c.next.new.self (g.K.Sink.held c.messages.output) (g.K.Sink.held c.next.new.output) =
    rw c.in-Ok-More.field-0-is at c.in-Ok-More.ensures.ok in
    record {
      input_later = omega (arith, c.messages.invariant.input_later, c.in-Ok.ensures.cause.later);
      output_later = omega (arith, c.messages.invariant.output_later, c.in-Ok-More.ensures.later);
      stands = stands_read _ _ _ _ _ _ _ _ _ _ _ _ _ _ _ c.messages.invariant.stands wants c.in-Ok.ensures.ok;
      small = c.in-Ok.ensures.ok.small;
      no_further = one_further _ _ _ _ _ (going_on _ _ _ _ _ _ _ _ _ _ _ _ c.messages.invariant.stands wants c.messages-test.true) _ _ _ c.in-Ok.ensures.ok c.in-Ok.ensures.once;
      size = omega (arith, c.fill.auto.piece, c.messages.invariant.size);
    }

pub returns-in-Err-fill-clause-stopped : goal.returns-in-Err-fill-clause-stopped
returns-in-Err-fill-clause-stopped g c =
    read_stopped _ _ _ _ _ _ _ _ _ _ _ _ _ _ c.messages.invariant.stands (rw c.in-Ok-More.field-0-is at c.in-Ok-More.ensures.ok) c.in-Err-fill.ensures.err c.messages-test.true c.in-Err-fill.ensures.read

pub returns-in-Ok-Last-clause-written : goal.returns-in-Ok-Last-clause-written
returns-in-Ok-Last-clause-written g c =
    last_replied _ _ _ _ _ _ _ _ _ _ c.messages.invariant.stands (rw c.in-Ok-Last.field-0-is at c.in-Ok-Last.ensures.ok) c.messages-test.true

pub returns-in-Ok-Last-clause-read : goal.returns-in-Ok-Last-clause-read
returns-in-Ok-Last-clause-read g c = last_read _ _ _ _ _ _ _ _ _ _ c.messages.invariant.stands (rw c.in-Ok-Last.field-0-is at c.in-Ok-Last.ensures.ok)

pub returns-in-Ok-Closed-clause-written : goal.returns-in-Ok-Closed-clause-written
returns-in-Ok-Closed-clause-written g c =
    none_replied _ _ _ _ _ _ _ _ _ _ c.messages.invariant.stands (rw c.in-Ok-Closed.field-0-is at c.in-Ok-Closed.ensures.ok)

pub returns-in-Ok-Closed-clause-read : goal.returns-in-Ok-Closed-clause-read
returns-in-Ok-Closed-clause-read g c = none_read _ _ _ _ _ _ _ _ _ _ c.messages.invariant.stands (rw c.in-Ok-Closed.field-0-is at c.in-Ok-Closed.ensures.ok)

pub returns-in-Err-clause-stopped : goal.returns-in-Err-clause-stopped
returns-in-Err-clause-stopped g c = next_stopped _ _ _ _ _ _ _ _ _ _ _ _ _ c.messages.invariant.stands c.in-Err.ensures.err c.messages-test.true

pub returns-in-Err-clause-refused : goal.returns-in-Err-clause-refused
returns-in-Err-clause-refused g c = λ is.
    let memory : c.in-Err.error ≡ error.Memory = cc in
    next_refused _ _ _ _ _ _ _ _ _ _ _ _ _ _ c.messages.invariant.stands c.in-Err.ensures.err c.messages-test.true c.messages.invariant.output_later memory

pub returns-clause-written : goal.returns-clause-written
returns-clause-written g c = full_replied _ _ _ _ _ _ _ _ _ c.messages.invariant.stands (omega (arith, c.messages-test.false))

pub returns-clause-read : goal.returns-clause-read
returns-clause-read g c = full_read _ _ _ _ _ _ _ _ _ c.messages.invariant.stands (omega (arith, c.messages-test.false))
