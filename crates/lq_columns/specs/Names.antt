-- The names that an object goes with.
use Rattle.std.specs.Prelude.{◌≡◌, ℕ, ◌==◌, Bool, false, Option, Some, None, List, [], ◌∷◌, ◌++◌}
use Rattle.std.specs.Prelude.{bytes_eq, nat_eq, map, filter, length, drop, if◌then◌else◌}
use Rattle.std.specs.List.{filter_map, flat_map, list_any, range_with_len, starts_with}
use Rattle.std.specs.Option.{option_map_or}
use Rattle.lq_records.specs.Places.{field_at, fields_at, holds_at, list_at}
use Rattle.lq_records.specs.declared.base.Base.{Base}
use Rattle.lq_records.specs.declared.base.ObjectFields.{ObjectFields}
use Rattle.lq_records.specs.declared.base.Host.{Host}
use Rattle.lq_records.specs.declared.base.HostGroup.{HostGroup}
use Rattle.lq_records.specs.declared.base.ServiceGroup.{ServiceGroup}
use Rattle.lq_records.specs.declared.ids.HostId.{HostId}
use Rattle.lq_records.specs.declared.ids.ServiceId.{ServiceId}
use Rattle.lq_records.specs.declared.ids.ContactId.{ContactId}
use Rattle.lq_records.specs.declared.ids.ContactGroupId.{ContactGroupId}
use Rattle.lq_records.specs.declared.object.Object.{Object}
use Rattle.lq_records.specs.declared.object.Object.TheVariants as object
use Rattle.lq_auth.specs.Rights.{sees_host, sees_service}
use Rattle.lq_auth.specs.declared.view.View.{View}
use Rattle.lq_columns.specs.Distinct.{first_of_each}

-- ---- by their ids

abbrev pub host_names_of : Base → List HostId → List (List ℕ)
host_names_of base ids = fields_at (λ host. host.host_name) base.hosts (λ id. id.0) ids

abbrev pub contact_names_of : Base → List ContactId → List (List ℕ)
contact_names_of base ids =
    fields_at (λ contact. contact.contact_name) base.contacts (λ id. id.0) ids

abbrev pub contact_group_names_of : Base → List ContactGroupId → List (List ℕ)
contact_group_names_of base ids =
    fields_at (λ group. group.contactgroup_name) base.contact_groups (λ id. id.0) ids

-- ---- names that are looked for

-- whether a list of texts has one
abbrev pub has_text : List ℕ → List (List ℕ) → Bool
has_text text texts = list_any (λ element. bytes_eq element text) texts

-- whether there is a name, and it is this one
abbrev pub has_own_name : List ℕ → Option (List ℕ) → Bool
has_own_name text name = option_map_or (λ own. bytes_eq own text) name false

-- ---- contacts

abbrev pub members_of : Base → ContactGroupId → List ContactId
members_of base id = list_at (λ group. group.members) base.contact_groups id.0

-- the contacts at the object itself, then those of its contact groups, repeats dropped
abbrev pub contacts_of : Base → ObjectFields → List ContactId
contacts_of base fields =
    first_of_each (fields.contacts ++ flat_map (members_of base) fields.contact_groups)

-- whether an id is that of a contact; no id is that of none
abbrev pub is_contact : Option ContactId → ContactId → Bool
is_contact None id = false
is_contact (Some contact) id = id.0 == contact.0

abbrev pub name_of_contact : Base → ContactId → Option (List ℕ)
name_of_contact base id = field_at (λ contact. contact.contact_name) base.contacts id.0

-- the contact with a name, None where there is none: no other id is that of a contact so named
pub record IsContactNamed (base : Base) (name : List ℕ) (contact : Option ContactId) : Type 0 where
  pub same : (id : ContactId) → has_own_name name (name_of_contact base id) ≡ is_contact contact id

-- ---- groups that list an object

abbrev pub has_host : List HostId → HostId → Bool
has_host members id = list_any (λ member. member.0 == id.0) members

abbrev pub has_service : List ServiceId → ServiceId → Bool
has_service members id = list_any (λ member. member.0 == id.0) members

abbrev pub name_with_host : HostId → HostGroup → Option (List ℕ)
name_with_host id group = if has_host group.members id then Some group.hostgroup_name else None

abbrev pub name_with_service : ServiceId → ServiceGroup → Option (List ℕ)
name_with_service id group =
    if has_service group.members id then Some group.servicegroup_name else None

-- the groups of hosts that list a host, the groups of services that list a service
abbrev pub group_names_of : Base → Object → List (List ℕ)
group_names_of base (object.Host id) = filter_map (name_with_host id) base.host_groups
group_names_of base (object.Service id) = filter_map (name_with_service id) base.service_groups

-- ---- hosts and services below a host

-- whether a host names another one as parent
abbrev pub is_child_of : Base → HostId → HostId → Bool
is_child_of base id child = holds_at (λ host. has_host host.parents id) base.hosts child.0

abbrev pub host_ids : Base → List HostId
host_ids base = map (λ place. record { 0 = place }) (range_with_len 0 (length base.hosts))

-- the hosts that name a host as parent, and that are seen
abbrev pub seen_children : Base → View → HostId → List HostId
seen_children base view id = filter (sees_host view) (filter (is_child_of base id) (host_ids base))

abbrev pub child_names_of : Base → View → HostId → List (List ℕ)
child_names_of base view id = host_names_of base (seen_children base view id)

-- the hosts that a host names as parents, and that are seen
abbrev pub parent_names_of : Base → View → Host → List (List ℕ)
parent_names_of base view host = host_names_of base (filter (sees_host view) host.parents)

-- the service at a place is one of a host
abbrev pub is_service_of : Base → HostId → ℕ → Bool
is_service_of base id place = holds_at (λ service. service.host.0 == id.0) base.services place

abbrev pub service_ids : Base → List ServiceId
service_ids base = map (λ place. record { 0 = place }) (range_with_len 0 (length base.services))

-- the services of a host that are seen
abbrev pub seen_services : Base → View → HostId → List ServiceId
seen_services base view id =
    filter (sees_service view)
    (filter (λ service. is_service_of base id service.0) (service_ids base))

abbrev pub descriptions_of : Base → View → HostId → List (List ℕ)
descriptions_of base view id =
    fields_at (λ service. service.service_description) base.services (λ id. id.0)
    (seen_services base view id)

-- ---- custom variables

-- a name without the underscore that it begins with
abbrev pub without_underscore : List ℕ → List ℕ
without_underscore name = if starts_with nat_eq name (95 ∷ []) then drop 1 name else name

abbrev pub variable_names_of : ObjectFields → List (List ℕ)
variable_names_of fields = map (λ variable. without_underscore variable.0) fields.custom_variables

abbrev pub variable_values_of : ObjectFields → List (List ℕ)
variable_values_of fields = map (λ variable. variable.1) fields.custom_variables
