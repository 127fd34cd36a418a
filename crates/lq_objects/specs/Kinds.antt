-- The kinds of objects, the directives that name an object, and those that name others.
use Rattle.std.specs.Prelude.{ℕ, Option, Some, None, List, [], ◌∷◌, find, bytes_eq, codes}
use Rattle.lq_objects.specs.declared.kind.BlockKind.{BlockKind}
use Rattle.lq_objects.specs.declared.kind.BlockKind.TheVariants.{Host, Service, HostGroup}
use Rattle.lq_objects.specs.declared.kind.BlockKind.TheVariants.{ServiceGroup, Contact}
use Rattle.lq_objects.specs.declared.kind.BlockKind.TheVariants.{ContactGroup, Period, Command}
use Rattle.lq_objects.specs.declared.kind.Reference.{Reference}
use Rattle.lq_objects.specs.declared.kind.Reference.TheVariants as reference

abbrev pub kinds : List BlockKind
kinds = Host ∷ Service ∷ HostGroup ∷ ServiceGroup ∷ Contact ∷ ContactGroup ∷ Period ∷ Command ∷ []

-- the word after `define`
abbrev pub kind_word : BlockKind → List ℕ
kind_word Host = codes "host"
kind_word Service = codes "service"
kind_word HostGroup = codes "hostgroup"
kind_word ServiceGroup = codes "servicegroup"
kind_word Contact = codes "contact"
kind_word ContactGroup = codes "contactgroup"
kind_word Period = codes "timeperiod"
kind_word Command = codes "command"

-- the kind that a word names; other kinds are skipped
abbrev pub kind_named : List ℕ → Option BlockKind
kind_named word = find (λ kind. bytes_eq word (kind_word kind)) kinds

-- how many objects of a kind there may be
abbrev pub limit : BlockKind → ℕ
limit Host = 10000
limit Service = 60000
limit HostGroup = 1000
limit ServiceGroup = 1000
limit Contact = 10000
limit ContactGroup = 1000
limit Period = 1000
limit Command = 10000

-- ---- the directives that name an object

abbrev pub name_directive : BlockKind → List ℕ
name_directive Host = codes "host_name"
name_directive Service = codes "host_name"
name_directive HostGroup = codes "hostgroup_name"
name_directive ServiceGroup = codes "servicegroup_name"
name_directive Contact = codes "contact_name"
name_directive ContactGroup = codes "contactgroup_name"
name_directive Period = codes "timeperiod_name"
name_directive Command = codes "command_name"

-- a service's name has a second part
abbrev pub second_directive : BlockKind → Option (List ℕ)
second_directive Host = None
second_directive Service = Some (codes "service_description")
second_directive HostGroup = None
second_directive ServiceGroup = None
second_directive Contact = None
second_directive ContactGroup = None
second_directive Period = None
second_directive Command = None

-- ---- the directives that name others

-- those that hosts and services share
abbrev pub fields_references : List Reference
fields_references = reference.Contacts ∷ reference.ContactGroups ∷ []

abbrev pub references : BlockKind → List Reference
references Host = reference.Parents ∷ fields_references
references Service = reference.ServiceHost ∷ fields_references
references HostGroup = reference.MemberHosts ∷ []
references ServiceGroup = reference.MemberServices ∷ []
references Contact = []
references ContactGroup = reference.MemberContacts ∷ []
references Period = []
references Command = []

abbrev pub reference_directive : Reference → List ℕ
reference_directive reference.Parents = codes "parents"
reference_directive reference.ServiceHost = codes "host_name"
reference_directive reference.Contacts = codes "contacts"
reference_directive reference.ContactGroups = codes "contact_groups"
reference_directive reference.MemberHosts = codes "members"
reference_directive reference.MemberServices = codes "members"
reference_directive reference.MemberContacts = codes "members"

-- what the names are of
abbrev pub target : Reference → BlockKind
target reference.Parents = Host
target reference.ServiceHost = Host
target reference.Contacts = Contact
target reference.ContactGroups = ContactGroup
target reference.MemberHosts = Host
target reference.MemberServices = Service
target reference.MemberContacts = Contact
