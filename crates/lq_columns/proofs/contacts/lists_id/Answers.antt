use Rattle.std.proofs.Common.{◌==◌, ap, ◌∙◌}
use Rattle.std.specs.List.{list_any}
use Rattle.lq_records.specs.declared.ids.ContactGroupId.{ContactGroupId}
use Rattle.lq_records.specs.declared.ids.ContactId.{ContactId}
use Rattle.lq_columns.specs.Names.{members_of}
use Rattle.lq_columns.proofs.Sought.{listed_once}
use Rattle.lq_columns.proofs.contacts.lists_id.Goals as goal

pub returns-then-lists : goal.returns-then-lists
returns-then-lists c =
    let first = c.lists.ensures ∙ ap (list_any (λ (id : ContactId). id.0 == c.args.contact.0)) c.as_slice.ensures in
    c.if-lists.true ∙ rw (← first, c.if-lists.true) at (listed_once c.args.base.now c.args.fields.now c.args.contact)

pub returns-else-lists : goal.returns-else-lists
returns-else-lists c =
    let first = c.lists.ensures ∙ ap (list_any (λ (id : ContactId). id.0 == c.args.contact.0)) c.as_slice.ensures in
    let member = λ (group : ContactGroupId). list_any (λ (id : ContactId). id.0 == c.args.contact.0) (members_of c.args.base.now group) in
    c.lists_member.ensures ∙ ap (list_any member) c.as_slice-else-lists.ensures ∙ rw (← first, c.if-lists.false) at (listed_once c.args.base.now c.args.fields.now c.args.contact)
