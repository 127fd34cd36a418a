use Rattle.std.proofs.Common.{ap, ◌∙◌}
use Rattle.lq_objects.specs.Directories.{names_in}
use Rattle.lq_objects.specs.Drafts.{with_lists, with_texts}
use Rattle.lq_objects.proofs.objects.Reader.fields.Goals as goal

pub returns-clause-fields : goal.returns-clause-fields
returns-clause-fields c =
    let lines = c.args.self.now.lines.now in
    c.in_ok-fill_lists.ensures.lists
    ∙ ap (with_lists (names_in c.args.self.now.directory.now) lines)
    (c.in_ok-fill_texts.ensures ∙ ap (with_texts c.args.own_name.now lines) c.numbers-fields.ensures)
