use Rattle.std.proofs.Common.{ap, ◌∙◌, ◌||◌}
use Rattle.std.specs.List.{list_any}
use Rattle.lq_auth.specs.Lists.{is_in_lists}
use Rattle.lq_auth.specs.Rights.{has_contact}
use Rattle.lq_auth.proofs.MarkLemmas.{by_marks}
use Rattle.lq_auth.proofs.contacts.Viewer.is_in_lists.Goals as goal

pub returns : goal.returns
returns c =
    let contact = c.self.inside.contact in
    let lists = c.args.lists.now in
    c.is_contact.ensures
    ∙ ap (λ test. has_contact contact lists.contacts || list_any test lists.contact_groups)
    (by_marks (λ group. has_contact contact group.members) c.self.inside.base.now.contact_groups (λ id. id.0) c.deref.result.now (c.deref.ensures.value ∙ c.self.invariant))
    ∙ ap (λ viewer. is_in_lists viewer.base viewer.contact lists) c.self.view_is
