use Rattle.std.proofs.Common.{Some, ap, map, ◌∙◌}
use Rattle.std.proofs.lemmas.Result.{IfOk-weaker}
use Rattle.lq_records.specs.Contacts.{lists_of}
use Rattle.lq_records.specs.declared.base.Host.{Host}
use Rattle.lq_auth.specs.Lists.{is_in_lists}
use Rattle.lq_auth.proofs.MarkLemmas.{marks_of_items}
use Rattle.lq_auth.proofs.contacts.Viewer.hosts.Goals as goal

-- src/contacts.rt
pub returns : goal.returns
returns c =
    let viewer = c.args.self.now in
    let index = c.contact_index.result in
    let listed = c.contact_index.ensures.listed ∙ ap (λ seen. map Some (map (λ (host : Host). lists_of host.fields) seen.base.hosts)) c.self.view_is in
    IfOk-weaker c.marks.result _ _
    (λ marks is. is ∙ marks_of_items (is_in_lists viewer.base viewer.contact) (λ (host : Host). lists_of host.fields) index.lists.now index.places.now viewer.base.hosts listed)
    c.marks.ensures
