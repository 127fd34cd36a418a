use Rattle.std.proofs.Common.{◌≡◌, IfOk, subst}
use Rattle.lq_objects.specs.Directories.{names_in}
use Rattle.lq_objects.specs.Faults.{unknown_in}
use Rattle.lq_objects.proofs.unknown.Finder.unknown_in_block.Goals as goal

pub returns : goal.returns
returns c =
    subst (λ kind. IfOk c.unknown_in.result (λ fault. fault ≡ unknown_in (names_in c.args.self.now.directory.now) kind c.args.block.now.lines)) c.kind.ensures
    (subst (λ lines. IfOk c.unknown_in.result (λ fault. fault ≡ unknown_in (names_in c.args.self.now.directory.now) c.kind.result lines)) c.lines.ensures
    c.unknown_in.ensures)
