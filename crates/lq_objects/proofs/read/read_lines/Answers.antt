use Rattle.std.proofs.Common.{sym, ap, ◌∙◌}
use Rattle.lq_objects.proofs.ReadLemmas.{reads_fault, reads_made, reads_passed}
use Rattle.lq_objects.specs.Blocks.{parts_of}
use Rattle.lq_objects.specs.Directories.{directory_of}
use Rattle.lq_objects.specs.Objects.{base_of_parts}
use Rattle.lq_objects.proofs.read.read_lines.Goals as goal

pub returns-in_err-found : goal.returns-in_err-found
returns-in_err-found c =
    reads_passed c.from_residual-in_err-found.result c.in_err-found.field-0.0 (base_of_parts c.args.rules (parts_of c.args.lines.now)) c.from_residual-in_err-found.ensures.1
    (reads_fault c.args.rules (parts_of c.args.lines.now) c.in_err-found.field-0.0 c.in_err-found.ensures.fault)

pub returns : goal.returns
returns c =
    let read = c.in_ok-found.ensures in
    let lent = c.deref.ensures.value in
    reads_made c.args.rules (parts_of c.args.lines.now) c.read_blocks.new.directory c.deref.result.now read.fault (lent ∙ read.all)
    (read.directory ∙ ap directory_of (sym lent)) c.objects_of.result c.objects_of.ensures.fault c.objects_of.ensures.base
