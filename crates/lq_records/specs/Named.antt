-- The objects of a base by their names. Where several have one name, the first of them is meant.
use Rattle.std.specs.Prelude.{ℕ, ◌&&◌, Bool, Option, List, bytes_eq}
use Rattle.std.specs.List.{position}
use Rattle.std.specs.Option.{option_map}
use Rattle.lq_records.specs.declared.base.Contact.{Contact}
use Rattle.lq_records.specs.declared.base.ContactGroup.{ContactGroup}
use Rattle.lq_records.specs.declared.base.Host.{Host}
use Rattle.lq_records.specs.declared.base.HostGroup.{HostGroup}
use Rattle.lq_records.specs.declared.base.Service.{Service}
use Rattle.lq_records.specs.declared.base.ServiceGroup.{ServiceGroup}
use Rattle.lq_records.specs.declared.ids.ContactGroupId.{ContactGroupId}
use Rattle.lq_records.specs.declared.ids.ContactId.{ContactId}
use Rattle.lq_records.specs.declared.ids.HostGroupId.{HostGroupId}
use Rattle.lq_records.specs.declared.ids.HostId.{HostId}
use Rattle.lq_records.specs.declared.ids.ServiceGroupId.{ServiceGroupId}
use Rattle.lq_records.specs.declared.ids.ServiceId.{ServiceId}

-- the host that has a name
abbrev pub host_named : List Host → List ℕ → Option HostId
host_named hosts name =
    option_map (λ place. record { 0 = place })
    (position (λ host. bytes_eq host.host_name name) hosts)

-- the service that has a description on the host that has a name
abbrev pub service_named : List Service → List ℕ → List ℕ → Option ServiceId
service_named services host_name description =
    option_map (λ place. record { 0 = place })
    (position
    (λ service. bytes_eq service.host_name host_name
    && bytes_eq service.service_description description)
    services)

-- the host group that has a name
abbrev pub host_group_named : List HostGroup → List ℕ → Option HostGroupId
host_group_named groups name =
    option_map (λ place. record { 0 = place })
    (position (λ group. bytes_eq group.hostgroup_name name) groups)

-- the service group that has a name
abbrev pub service_group_named : List ServiceGroup → List ℕ → Option ServiceGroupId
service_group_named groups name =
    option_map (λ place. record { 0 = place })
    (position (λ group. bytes_eq group.servicegroup_name name) groups)

-- the contact that has a name
abbrev pub contact_named : List Contact → List ℕ → Option ContactId
contact_named contacts name =
    option_map (λ place. record { 0 = place })
    (position (λ contact. bytes_eq contact.contact_name name) contacts)

-- the contact group that has a name
abbrev pub contact_group_named : List ContactGroup → List ℕ → Option ContactGroupId
contact_group_named groups name =
    option_map (λ place. record { 0 = place })
    (position (λ group. bytes_eq group.contactgroup_name name) groups)

-- whether a name of two parts has these
abbrev pub has_name : List ℕ → List ℕ → List ℕ × List ℕ → Bool
has_name first second name = bytes_eq name.0 first && bytes_eq name.1 second
