-- Who may see what. A query without a user sees all of it; the user of a query is the name of a
-- contact, which may be unknown.
use Rattle.std.specs.Prelude.{ℕ, ◌==◌, ◌&&◌, ◌||◌, not, Bool, true, false, Option, Some, None, List}
use Rattle.std.specs.Prelude.{length, map, slice_index_or}
use Rattle.std.specs.List.{list_all, list_any}
use Rattle.std.specs.Option.{is_some}
use Rattle.lq_records.specs.Named.{contact_named}
use Rattle.lq_records.specs.Places.{holds_at}
use Rattle.lq_records.specs.declared.base.Base.{Base}
use Rattle.lq_records.specs.declared.base.Host.{Host}
use Rattle.lq_records.specs.declared.base.HostGroup.{HostGroup}
use Rattle.lq_records.specs.declared.base.ObjectFields.{ObjectFields}
use Rattle.lq_records.specs.declared.base.Service.{Service}
use Rattle.lq_records.specs.declared.base.ServiceGroup.{ServiceGroup}
use Rattle.lq_records.specs.declared.ids.ContactGroupId.{ContactGroupId}
use Rattle.lq_records.specs.declared.ids.ContactId.{ContactId}
use Rattle.lq_records.specs.declared.ids.HostGroupId.{HostGroupId}
use Rattle.lq_records.specs.declared.ids.HostId.{HostId}
use Rattle.lq_records.specs.declared.ids.ServiceGroupId.{ServiceGroupId}
use Rattle.lq_records.specs.declared.ids.ServiceId.{ServiceId}
use Rattle.lq_records.specs.declared.object.Object.{Object}
use Rattle.lq_records.specs.declared.object.Object.TheVariants as object
use Rattle.lq_auth.specs.declared.view.Seen.{Seen}
use Rattle.lq_auth.specs.declared.view.View.{View}
use Rattle.lq_auth.specs.declared.view.View.TheVariants as view

-- ---- contacts

-- whether a list of contacts has one; an unknown contact is in no list
abbrev pub has_contact : Option ContactId → List ContactId → Bool
has_contact None ids = false
has_contact (Some contact) ids = list_any (λ id. id.0 == contact.0) ids

-- whether a contact group has one
abbrev pub group_has : Base → Option ContactId → ContactGroupId → Bool
group_has base contact id =
    holds_at (λ group. has_contact contact group.members) base.contact_groups id.0

-- the contacts of an object are those that are named at it, and those of its contact groups
abbrev pub is_contact_of : Base → Option ContactId → ObjectFields → Bool
is_contact_of base contact fields =
    has_contact contact fields.contacts || list_any (group_has base contact) fields.contact_groups

-- ---- hosts and services

-- a host is seen by its contacts
abbrev pub is_host_seen : Base → Option ContactId → Host → Bool
is_host_seen base contact host = is_contact_of base contact host.fields

-- the host with an id
abbrev pub is_host_seen_at : Base → Option ContactId → HostId → Bool
is_host_seen_at base contact id = holds_at (is_host_seen base contact) base.hosts id.0

-- a service is seen by its contacts, and under loose rules also by those of its host
abbrev pub is_service_seen : Base → Option ContactId → Service → Bool
is_service_seen base contact service =
    is_contact_of base contact service.fields
    || (not base.rules.service_strict && is_host_seen_at base contact service.host)

-- the service with an id
abbrev pub is_service_seen_at : Base → Option ContactId → ServiceId → Bool
is_service_seen_at base contact id = holds_at (is_service_seen base contact) base.services id.0

-- ---- groups

-- under strict rules a group is seen where it has members and all of them are seen, under loose
-- rules where one of them is
abbrev pub is_group_seen : {A : Type 0} → Bool → (A → Bool) → List A → Bool
is_group_seen true is_seen members = not (length members == 0) && list_all is_seen members
is_group_seen false is_seen members = list_any is_seen members

abbrev pub is_host_group_seen : Base → Option ContactId → HostGroup → Bool
is_host_group_seen base contact group =
    is_group_seen base.rules.group_strict (is_host_seen_at base contact) group.members

abbrev pub is_service_group_seen : Base → Option ContactId → ServiceGroup → Bool
is_service_group_seen base contact group =
    is_group_seen base.rules.group_strict (is_service_seen_at base contact) group.members

-- ---- what a query sees

-- a base, and a contact of it by whom its objects are seen
pub record BaseContact : Type 0 where
  pub base : Base
  pub contact : Option ContactId

-- of each object of a base, whether a contact sees it, and whether the base has the contact
abbrev pub seen_by : Base → Option ContactId → Seen
seen_by base contact = record {
  known = is_some contact;
  hosts = map (is_host_seen base contact) base.hosts;
  services = map (is_service_seen base contact) base.services;
  host_groups = map (is_host_group_seen base contact) base.host_groups;
  service_groups = map (is_service_group_seen base contact) base.service_groups;
}

-- a query without a user sees all; the user of a query is the name of a contact
abbrev pub view_of : Base → Option (List ℕ) → View
view_of base None = view.All
view_of base (Some user) = view.Only (seen_by base (contact_named base.contacts user))

-- by their places in the lists of the base
abbrev pub sees_host_at : View → ℕ → Bool
sees_host_at view.All place = true
sees_host_at (view.Only seen) place = slice_index_or seen.hosts place false

abbrev pub sees_service_at : View → ℕ → Bool
sees_service_at view.All place = true
sees_service_at (view.Only seen) place = slice_index_or seen.services place false

-- by their ids
abbrev pub sees_host : View → HostId → Bool
sees_host view id = sees_host_at view id.0

abbrev pub sees_service : View → ServiceId → Bool
sees_service view id = sees_service_at view id.0

abbrev pub sees_object : View → Object → Bool
sees_object view (object.Host id) = sees_host view id
sees_object view (object.Service id) = sees_service view id

abbrev pub sees_host_group : View → HostGroupId → Bool
sees_host_group view.All id = true
sees_host_group (view.Only seen) id = slice_index_or seen.host_groups id.0 false

abbrev pub sees_service_group : View → ServiceGroupId → Bool
sees_service_group view.All id = true
sees_service_group (view.Only seen) id = slice_index_or seen.service_groups id.0 false
