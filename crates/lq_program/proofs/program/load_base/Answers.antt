use Rattle.std.proofs.Common.{◌≡◌, Ok, Err, ap, sym, ◌∙◌}
use Rattle.lq_objects.specs.Objects.{base_of}
use Rattle.lq_program.proofs.LoadLemmas.{too_large, said_base, loaded_fault}
use Rattle.lq_program.proofs.program.load_base.Goals as goal

pub returns-in-Err-TooLarge-clause-err : goal.returns-in-Err-TooLarge-clause-err
returns-in-Err-TooLarge-clause-err g c = too_large _ _ (rw c.in-Err-TooLarge.field-0-is at c.in-Err-TooLarge.ensures.loads)

pub returns-in-Ok-read_objects-clause-ok : goal.returns-in-Ok-read_objects-clause-ok
returns-in-Ok-read_objects-clause-ok g c =
    let loads = c.in-Ok.ensures.loads in
    let read : base_of c.in-Ok.bytes.items c.args.asked.now.rules ≡ Ok c.in-Ok-read_objects.base =
    ap (λ bytes. base_of bytes c.args.asked.now.rules) (sym c.deref.ensures.value) ∙ c.in-Ok-read_objects.ensures.reads in
    said_base _ _ c.in-Ok.bytes.items _ loads.0 loads.1 read

pub returns-in-Err-At-clause-err : goal.returns-in-Err-At-clause-err
returns-in-Err-At-clause-err g c =
    let loads = c.in-Ok.ensures.loads in
    let read : base_of c.in-Ok.bytes.items c.args.asked.now.rules ≡ Err (record { line = c.in-Err-At.line; what = c.in-Err-At.what }) =
    ap (λ bytes. base_of bytes c.args.asked.now.rules) (sym c.deref.ensures.value) ∙ (rw c.in-Err-At.field-0-is at c.in-Err-At.ensures.reads) in
    loaded_fault _ _ c.in-Ok.bytes.items _ _ loads.0 loads.1 read
