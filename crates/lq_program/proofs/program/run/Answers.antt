use Rattle.std.proofs.Common.{sym, subst, Some, IfSome}
use Rattle.lq_program.specs.CommandLine.{wanted_in}
use Rattle.lq_program.specs.Faults.{end_text}
use Rattle.lq_program.specs.Run.{IsReport, MustRefuse, MustRefuseLog, OnFile, Reports}
use Rattle.lq_program.specs.Words.{wanted_by}
use Rattle.lq_program.proofs.OpenLemmas.{must_refuse, must_refuse_log, reported}
use Rattle.lq_session.proofs.StreamLemmas.{none_further}
use Rattle.lq_program.proofs.program.run.Goals as goal

pub returns-in-Err-clause-exactly : goal.returns-in-Err-clause-exactly
returns-in-Err-clause-exactly g c =
    let wanted = wanted_by c.in-Some-Ask.asked in
    let files = g.F.Files.held_at c.args.files.now in
    subst (λ work. OnFile (wanted_in work) files (λ found file. MustRefuse found.rules c.end-in-Err.result file)) (rw c.in-Some-Ask.field-0-is at c.in-Some-Ask.ensures)
    (subst (λ status. MustRefuse wanted.rules status (files wanted.path)) (sym c.end-in-Err.ensures.code)
    (must_refuse wanted files _ _ c.in-Err.fault c.in-Err.ensures.err))

pub returns-in-Err-clause-log_exactly : goal.returns-in-Err-clause-log_exactly
returns-in-Err-clause-log_exactly g c =
    let wanted = wanted_by c.in-Some-Ask.asked in
    let files = g.F.Files.held_at c.args.files.now in
    subst (λ work. IfSome (wanted_in work) (λ found. IfSome found.log (λ path. MustRefuseLog c.end-in-Err.result (files path)))) (rw c.in-Some-Ask.field-0-is at c.in-Some-Ask.ensures)
    (subst (λ status. IfSome wanted.log (λ path. MustRefuseLog status (files path))) (sym c.end-in-Err.ensures.code)
    (must_refuse_log wanted files _ _ c.in-Err.fault c.in-Err.ensures.err))

pub returns-in-Err-clause-report : goal.returns-in-Err-clause-report
returns-in-Err-clause-report g c = λ still.
    let wanted = wanted_by c.in-Some-Ask.asked in
    let files = g.F.Files.held_at c.args.files.now in (
      end_text c.in-Err.fault,
      c.end-in-Err.ensures.told still,
      subst (λ work. IsReport (wanted_in work) files c.end-in-Err.result (end_text c.in-Err.fault)) (rw c.in-Some-Ask.field-0-is at c.in-Some-Ask.ensures)
          (subst (λ status. IsReport (Some wanted) files status (end_text c.in-Err.fault)) (sym c.end-in-Err.ensures.code)
          (reported wanted files _ _ c.in-Err.fault c.in-Err.ensures.err)),
    )

pub returns-in-Some-Load-clause-no_further : goal.returns-in-Some-Load-clause-no_further
returns-in-Some-Load-clause-no_further g c = λ done. none_further _ _ _

pub returns-in-Some-Load-clause-report : goal.returns-in-Some-Load-clause-report
returns-in-Some-Load-clause-report g c = λ still.
    subst (λ work. Reports (wanted_in work) (g.F.Files.held_at c.args.files.now) c.load_or_tell.result (g.K.Sink.held c.args.faults.now) (g.K.Sink.held c.load_or_tell.new.faults))
    (rw c.in-Some-Load.field-0-is at c.in-Some-Load.ensures) (c.load_or_tell.ensures.told (g.F.Files.held_at c.args.files.now) still)
