-- The names of the objects so far, by kind.
use Rattle.std.specs.Prelude.{◌≡◌, List, [], ◌∷◌, ◌++◌, map}
use Rattle.lq_names.specs.Names.{ObjectName, both_parts}
use Rattle.lq_records.specs.declared.base.Base.{Base}
use Rattle.lq_objects.specs.Names.{Block, block_names}
use Rattle.lq_objects.specs.declared.kind.BlockKind.{BlockKind}
use Rattle.lq_objects.specs.declared.kind.BlockKind.TheVariants.{Host, Service, HostGroup}
use Rattle.lq_objects.specs.declared.kind.BlockKind.TheVariants.{ServiceGroup, Contact}
use Rattle.lq_objects.specs.declared.kind.BlockKind.TheVariants.{ContactGroup, Period, Command}
use Rattle.lq_objects.specs.declared.directory.Directory.{Directory}

abbrev pub empty : Directory
empty = record {
  hosts = [];
  services = [];
  host_groups = [];
  service_groups = [];
  contacts = [];
  contact_groups = [];
  periods = [];
  commands = [];
}

-- the names of a kind
abbrev pub names_in : Directory → BlockKind → List ObjectName
names_in directory Host = directory.hosts
names_in directory Service = directory.services
names_in directory HostGroup = directory.host_groups
names_in directory ServiceGroup = directory.service_groups
names_in directory Contact = directory.contacts
names_in directory ContactGroup = directory.contact_groups
names_in directory Period = directory.periods
names_in directory Command = directory.commands

abbrev pub with_name : Directory → BlockKind → ObjectName → Directory
with_name directory Host name = record directory { hosts = directory.hosts ++ name ∷ [] }
with_name directory Service name = record directory { services = directory.services ++ name ∷ [] }
with_name directory HostGroup name =
    record directory { host_groups = directory.host_groups ++ name ∷ [] }
with_name directory ServiceGroup name =
    record directory { service_groups = directory.service_groups ++ name ∷ [] }
with_name directory Contact name = record directory { contacts = directory.contacts ++ name ∷ [] }
with_name directory ContactGroup name =
    record directory { contact_groups = directory.contact_groups ++ name ∷ [] }
with_name directory Period name = record directory { periods = directory.periods ++ name ∷ [] }
with_name directory Command name = record directory { commands = directory.commands ++ name ∷ [] }

-- the names that the objects of blocks have
abbrev pub directory_of : List Block → Directory
directory_of blocks = record {
  hosts = block_names blocks Host;
  services = block_names blocks Service;
  host_groups = block_names blocks HostGroup;
  service_groups = block_names blocks ServiceGroup;
  contacts = block_names blocks Contact;
  contact_groups = block_names blocks ContactGroup;
  periods = block_names blocks Period;
  commands = block_names blocks Command;
}

-- the names are those of the objects of a base by which these are found, each at its object's place
pub record AreNamesOf (directory : Directory) (base : Base) : Type 0 where
  pub hosts : map both_parts directory.hosts ≡ map (λ host. (host.host_name, [])) base.hosts
  pub services :
      map both_parts directory.services
      ≡ map (λ service. (service.host_name, service.service_description)) base.services
  pub host_groups :
      map both_parts directory.host_groups
      ≡ map (λ group. (group.hostgroup_name, [])) base.host_groups
  pub service_groups :
      map both_parts directory.service_groups
      ≡ map (λ group. (group.servicegroup_name, [])) base.service_groups
  pub contacts :
      map both_parts directory.contacts ≡ map (λ contact. (contact.contact_name, [])) base.contacts
  pub contact_groups :
      map both_parts directory.contact_groups
      ≡ map (λ group. (group.contactgroup_name, [])) base.contact_groups
