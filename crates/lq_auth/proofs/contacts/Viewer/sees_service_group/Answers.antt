use Rattle.std.proofs.Common.{◌≡◌, ap, map, subst, sym, ◌∙◌}
use Rattle.lq_auth.specs.Rights.{is_group_seen, is_service_group_seen, is_service_seen, is_service_seen_at}
use Rattle.lq_auth.proofs.MarkLemmas.{by_marks}
use Rattle.lq_auth.proofs.contacts.Viewer.sees_service_group.Goals as goal

pub returns : goal.returns
returns c =
    let base = c.self.inside.base.now in
    let contact = c.self.inside.contact in
    c.is_group_seen.ensures
    ∙ ap (λ test. is_group_seen base.rules.group_strict test c.as_slice.result.now)
    (by_marks (is_service_seen base contact) base.services _ _
    (subst (λ viewer. c.args.services.now ≡ map (is_service_seen viewer.base viewer.contact) viewer.base.services) (sym c.self.view_is) c.requires))
    ∙ ap (λ members. is_group_seen base.rules.group_strict (is_service_seen_at base contact) members) c.as_slice.ensures
    ∙ ap (λ viewer. is_service_group_seen viewer.base viewer.contact c.args.group.now) c.self.view_is
