-- The objects that are gathered while a file is read.
use Rattle.std.specs.Prelude.{ℕ, List, [], codes, length}
use Rattle.lq_names.specs.Names.{ObjectName, both_parts}
use Rattle.lq_records.specs.declared.base.Base.{Base}
use Rattle.lq_records.specs.declared.base.ObjectFields.{ObjectFields}
use Rattle.lq_objects.specs.Blocks.{Line}
use Rattle.lq_objects.specs.Names.{name_of, text_or}
use Rattle.lq_objects.specs.Objects.{custom_variables, ids, number_or}
use Rattle.lq_objects.specs.declared.draft.Draft.{Draft}
use Rattle.lq_objects.specs.declared.kind.BlockKind.{BlockKind}
use Rattle.lq_objects.specs.declared.kind.BlockKind.TheVariants as kind
use Rattle.lq_objects.specs.declared.kind.Reference.TheVariants as reference

-- the base of the objects so far
abbrev pub base_of_draft : Draft → Base
base_of_draft draft = record {
  hosts = draft.hosts;
  services = draft.services;
  host_groups = draft.host_groups;
  service_groups = draft.service_groups;
  contacts = draft.contacts;
  contact_groups = draft.contact_groups;
  periods = draft.periods;
  commands = draft.commands;
  rules = draft.rules;
}

-- how many objects of a kind there are
abbrev pub count_of_kind : Base → BlockKind → ℕ
count_of_kind base kind.Host = length base.hosts
count_of_kind base kind.Service = length base.services
count_of_kind base kind.HostGroup = length base.host_groups
count_of_kind base kind.ServiceGroup = length base.service_groups
count_of_kind base kind.Contact = length base.contacts
count_of_kind base kind.ContactGroup = length base.contact_groups
count_of_kind base kind.Period = length base.periods
count_of_kind base kind.Command = length base.commands

-- both parts of the name that a block of a kind gives its object
abbrev pub own_name_of : BlockKind → List Line → List ℕ × List ℕ
own_name_of kind lines = both_parts (name_of kind lines)

-- ---- what hosts and services share, field by field

-- the numbers, and nothing else yet
abbrev pub numbers_of : List Line → ObjectFields
numbers_of lines = record {
  display_name = [];
  check_command = [];
  check_period = [];
  notification_period = [];
  max_check_attempts = number_or 1 1 1000000 (codes "max_check_attempts") lines;
  notifications_enabled = number_or 1 0 1 (codes "notifications_enabled") lines;
  contacts = [];
  contact_groups = [];
  notes = [];
  notes_url = [];
  action_url = [];
  icon_image = [];
  custom_variables = [];
}

-- the same with their texts
abbrev pub with_texts : List ℕ → List Line → ObjectFields → ObjectFields
with_texts own_name lines fields = record fields {
  display_name = text_or own_name (codes "display_name") lines;
  check_command = text_or [] (codes "check_command") lines;
  check_period = text_or [] (codes "check_period") lines;
  notification_period = text_or [] (codes "notification_period") lines;
  notes = text_or [] (codes "notes") lines;
  notes_url = text_or [] (codes "notes_url") lines;
  action_url = text_or [] (codes "action_url") lines;
  icon_image = text_or [] (codes "icon_image") lines;
}

-- the same with their lists
abbrev pub with_lists : (BlockKind → List ObjectName) → List Line → ObjectFields → ObjectFields
with_lists known lines fields = record fields {
  contacts = ids (λ place. record { 0 = place }) known reference.Contacts lines;
  contact_groups = ids (λ place. record { 0 = place }) known reference.ContactGroups lines;
  custom_variables = custom_variables lines;
}
