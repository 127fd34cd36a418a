use Rattle.std.proofs.Common.{Some, ap, map, ◌∙◌}
use Rattle.std.proofs.lemmas.Result.{IfOk-weaker}
use Rattle.lq_records.specs.Contacts.{lists_of}
use Rattle.lq_records.specs.declared.base.Service.{Service}
use Rattle.lq_auth.specs.Lists.{is_in_lists}
use Rattle.lq_auth.proofs.MarkLemmas.{marks_of_items}
use Rattle.lq_auth.proofs.ServiceLemmas.{seen_loosely, seen_strictly}
use Rattle.lq_auth.proofs.contacts.Viewer.services.Goals as goal

pub returns-then-self : goal.returns-then-self
returns-then-self c =
    let viewer = c.args.self.now in
    let index = c.contact_index-index.result in
    let listed = c.contact_index-index.ensures.listed ∙ ap (λ seen. map Some (map (λ (service : Service). lists_of service.fields) seen.base.services)) c.self.view_is in
    c.in_ok-marks.ensures {u = tt}
    ∙ marks_of_items (is_in_lists viewer.base viewer.contact) (λ (service : Service). lists_of service.fields) index.lists.now index.places.now viewer.base.services listed
    ∙ seen_strictly viewer.base viewer.contact (rw (← c.self.view_is) c.if-self.true)

pub returns : goal.returns
returns c =
    let viewer = c.args.self.now in
    let index = c.contact_index-index.result in
    let listed = c.contact_index-index.ensures.listed ∙ ap (λ seen. map Some (map (λ (service : Service). lists_of service.fields) seen.base.services)) c.self.view_is in
    let marked = c.deref.ensures.value ∙ c.in_ok-marks.ensures {u = tt}
    ∙ marks_of_items (is_in_lists viewer.base viewer.contact) (λ (service : Service). lists_of service.fields) index.lists.now index.places.now viewer.base.services listed in
    let owned = c.contact_index-index.ensures.owned ∙ ap (λ seen. map (λ (service : Service). service.host.0) seen.base.services) c.self.view_is in
    IfOk-weaker c.or_of_hosts.result _ _
    (λ seen is. is ∙ seen_loosely viewer.base viewer.contact c.args.hosts.now c.deref.result.now index.owners.now (rw (← c.self.view_is) c.if-self.false) c.requires marked owned)
    c.or_of_hosts.ensures
