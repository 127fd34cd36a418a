-- The objects that the blocks of an object file say.
use Rattle.std.specs.Prelude.{ℕ, nat_eq, Bool, not, Option, Some, None, Result, Ok, Err, List, []}
use Rattle.std.specs.Prelude.{◌∷◌, ◌++◌, map, filter, take, reverse, find, unwrap_or, bytes_eq}
use Rattle.std.specs.Prelude.{codes}
use Rattle.std.specs.List.{filter_map, prefix_len, starts_with}
use Rattle.std.specs.Option.{option_map_or, option_and_then}
use Rattle.lq_text.specs.Blanks.{is_blank}
use Rattle.lq_records.specs.Clean.{text_of_bytes}
use Rattle.lq_records.specs.declared.base.Rules.{Rules}
use Rattle.lq_records.specs.declared.base.Base.{Base}
use Rattle.lq_records.specs.declared.base.ObjectFields.{ObjectFields}
use Rattle.lq_records.specs.declared.base.Host.{Host}
use Rattle.lq_records.specs.declared.base.Service.{Service}
use Rattle.lq_records.specs.declared.base.HostGroup.{HostGroup}
use Rattle.lq_records.specs.declared.base.ServiceGroup.{ServiceGroup}
use Rattle.lq_records.specs.declared.base.Contact.{Contact}
use Rattle.lq_records.specs.declared.base.ContactGroup.{ContactGroup}
use Rattle.lq_records.specs.declared.base.Period.{Period}
use Rattle.lq_records.specs.declared.base.Command.{Command}
use Rattle.lq_objects.specs.Blocks.{Line, Part, directive, parts_of, telling_lines, value_of}
use Rattle.lq_objects.specs.Kinds.{reference_directive, target}
use Rattle.lq_names.specs.Names.{ObjectName, place_of}
use Rattle.lq_objects.specs.Names.{Block, is_of, named_in, block_names, text_or}
use Rattle.lq_objects.specs.Faults.{blocks_of, fault_of, number_between}
use Rattle.lq_objects.specs.declared.fault.FaultyLine.{FaultyLine}
use Rattle.lq_objects.specs.declared.kind.BlockKind.{BlockKind}
use Rattle.lq_objects.specs.declared.kind.BlockKind.TheVariants as kind
use Rattle.lq_objects.specs.declared.kind.Reference.{Reference}
use Rattle.lq_objects.specs.declared.kind.Reference.TheVariants as reference

-- ---- places of named objects

-- a list without its repeats
abbrev pub distinct : List ℕ → List ℕ
distinct [] = []
distinct (x ∷ xs) = x ∷ filter (λ y. not (nat_eq x y)) (distinct xs)

-- the places of the objects that a value names, without repeats
abbrev pub places_in : (BlockKind → List ObjectName) → Reference → List ℕ → List ℕ
places_in known reference value =
    distinct (filter_map (place_of (known (target reference)))
    (unwrap_or (named_in reference value) []))

-- the places of the objects that a block's directive names
abbrev pub places : (BlockKind → List ObjectName) → Reference → List Line → List ℕ
places known reference lines =
    option_map_or (places_in known reference) (directive (reference_directive reference) lines) []

-- the ids of the objects at those places, each made of its place by `id_at`
abbrev pub ids : {Id : Type 0} → (ℕ → Id) → (BlockKind → List ObjectName) → Reference
    → List Line → List Id
ids id_at known reference lines = map id_at (places known reference lines)

-- ---- fields

-- the number of a directive
abbrev pub number_or : ℕ → ℕ → ℕ → List ℕ → List Line → ℕ
number_or absent least most name lines =
    unwrap_or (option_and_then (number_between least most) (directive name lines)) absent

-- a custom variable is a directive that begins with `_`; its name goes up to the first blank
abbrev pub is_variable : List ℕ → Bool
is_variable text = starts_with nat_eq text (codes "_")

abbrev pub variable_name : List ℕ → List ℕ
variable_name text = take (prefix_len (λ byte. not (is_blank byte)) text) text

abbrev pub variable_of : Line → List ℕ × List ℕ
variable_of line = (
  text_of_bytes (variable_name line.text),
  text_of_bytes (value_of (variable_name line.text) line.text),
)

-- the value of the last variable with a name
abbrev pub last_value : List ℕ × List ℕ → List (List ℕ × List ℕ) → List ℕ
last_value first later =
    option_map_or (λ other. other.1)
    (find (λ other. bytes_eq first.0 other.0) (reverse later)) first.1

-- each name once, where it first comes, with its last value
abbrev pub merged_variables : List (List ℕ × List ℕ) → List (List ℕ × List ℕ)
merged_variables [] = []
merged_variables (first ∷ later) =
    (first.0, last_value first later)
    ∷ filter (λ other. not (bytes_eq first.0 other.0)) (merged_variables later)

abbrev pub custom_variables : List Line → List (List ℕ × List ℕ)
custom_variables lines =
    merged_variables (map variable_of (filter (λ line. is_variable line.text) lines))

-- what hosts and services share; the display name is the object's own where it is absent
abbrev pub fields_of : (BlockKind → List ObjectName) → List ℕ → List Line → ObjectFields
fields_of known own_name lines = record {
  display_name = text_or own_name (codes "display_name") lines;
  check_command = text_or [] (codes "check_command") lines;
  check_period = text_or [] (codes "check_period") lines;
  notification_period = text_or [] (codes "notification_period") lines;
  max_check_attempts = number_or 1 1 1000000 (codes "max_check_attempts") lines;
  notifications_enabled = number_or 1 0 1 (codes "notifications_enabled") lines;
  contacts = ids (λ place. record { 0 = place }) known reference.Contacts lines;
  contact_groups = ids (λ place. record { 0 = place }) known reference.ContactGroups lines;
  notes = text_or [] (codes "notes") lines;
  notes_url = text_or [] (codes "notes_url") lines;
  action_url = text_or [] (codes "action_url") lines;
  icon_image = text_or [] (codes "icon_image") lines;
  custom_variables = custom_variables lines;
}

-- ---- objects

abbrev pub host_of : (BlockKind → List ObjectName) → List Line → Host
host_of known lines =
    let name : List ℕ = text_or [] (codes "host_name") lines in
    record {
      host_name = name;
      alias = text_or name (codes "alias") lines;
      address = text_or [] (codes "address") lines;
      parents = ids (λ place. record { 0 = place }) known reference.Parents lines;
      fields = fields_of known name lines;
    }

-- the place of the host that a service names; a service that names none isn't in a file without
-- faults
abbrev pub host_place : List ℕ → ℕ
host_place [] = 0
host_place (place ∷ places) = place

abbrev pub service_of : (BlockKind → List ObjectName) → List Line → Service
service_of known lines =
    let name : List ℕ = text_or [] (codes "service_description") lines in
    record {
      host = record { 0 = host_place (places known reference.ServiceHost lines) };
      host_name = text_or [] (codes "host_name") lines;
      service_description = name;
      fields = fields_of known name lines;
    }

abbrev pub host_group_of : (BlockKind → List ObjectName) → List Line → HostGroup
host_group_of known lines =
    let name : List ℕ = text_or [] (codes "hostgroup_name") lines in
    record {
      hostgroup_name = name;
      alias = text_or name (codes "alias") lines;
      members = ids (λ place. record { 0 = place }) known reference.MemberHosts lines;
      notes = text_or [] (codes "notes") lines;
      notes_url = text_or [] (codes "notes_url") lines;
      action_url = text_or [] (codes "action_url") lines;
    }

abbrev pub service_group_of : (BlockKind → List ObjectName) → List Line → ServiceGroup
service_group_of known lines =
    let name : List ℕ = text_or [] (codes "servicegroup_name") lines in
    record {
      servicegroup_name = name;
      alias = text_or name (codes "alias") lines;
      members = ids (λ place. record { 0 = place }) known reference.MemberServices lines;
      notes = text_or [] (codes "notes") lines;
      notes_url = text_or [] (codes "notes_url") lines;
      action_url = text_or [] (codes "action_url") lines;
    }

abbrev pub contact_of : List Line → Contact
contact_of lines =
    let name : List ℕ = text_or [] (codes "contact_name") lines in
    record {
      contact_name = name;
      alias = text_or name (codes "alias") lines;
      email = text_or [] (codes "email") lines;
      pager = text_or [] (codes "pager") lines;
      host_notification_period = text_or [] (codes "host_notification_period") lines;
      service_notification_period = text_or [] (codes "service_notification_period") lines;
    }

abbrev pub contact_group_of : (BlockKind → List ObjectName) → List Line → ContactGroup
contact_group_of known lines =
    let name : List ℕ = text_or [] (codes "contactgroup_name") lines in
    record {
      contactgroup_name = name;
      alias = text_or name (codes "alias") lines;
      members = ids (λ place. record { 0 = place }) known reference.MemberContacts lines;
    }

abbrev pub period_of : List Line → Period
period_of lines =
    let name : List ℕ = text_or [] (codes "timeperiod_name") lines in
    record { timeperiod_name = name; alias = text_or name (codes "alias") lines }

abbrev pub command_of : List Line → Command
command_of lines = record {
  command_name = text_or [] (codes "command_name") lines;
  command_line = text_or [] (codes "command_line") lines;
}

-- ---- the base

-- the lines of the blocks of a kind
abbrev pub lines_of_kind : BlockKind → List Block → List (List Line)
lines_of_kind kind blocks = map (λ block. block.lines) (filter (is_of kind) blocks)

-- the objects of blocks, by the names of all
abbrev pub objects_of : (BlockKind → List ObjectName) → Rules → List Block → Base
objects_of known rules blocks = record {
  hosts = map (host_of known) (lines_of_kind kind.Host blocks);
  services = map (service_of known) (lines_of_kind kind.Service blocks);
  host_groups = map (host_group_of known) (lines_of_kind kind.HostGroup blocks);
  service_groups = map (service_group_of known) (lines_of_kind kind.ServiceGroup blocks);
  contacts = map contact_of (lines_of_kind kind.Contact blocks);
  contact_groups = map (contact_group_of known) (lines_of_kind kind.ContactGroup blocks);
  periods = map period_of (lines_of_kind kind.Period blocks);
  commands = map command_of (lines_of_kind kind.Command blocks);
  rules = rules;
}

-- the objects with the one of a further block
abbrev pub with_object : (BlockKind → List ObjectName) → Base → BlockKind → List Line → Base
with_object known base kind.Host lines =
    record base { hosts = base.hosts ++ host_of known lines ∷ [] }
with_object known base kind.Service lines =
    record base { services = base.services ++ service_of known lines ∷ [] }
with_object known base kind.HostGroup lines =
    record base { host_groups = base.host_groups ++ host_group_of known lines ∷ [] }
with_object known base kind.ServiceGroup lines =
    record base { service_groups = base.service_groups ++ service_group_of known lines ∷ [] }
with_object known base kind.Contact lines =
    record base { contacts = base.contacts ++ contact_of lines ∷ [] }
with_object known base kind.ContactGroup lines =
    record base { contact_groups = base.contact_groups ++ contact_group_of known lines ∷ [] }
with_object known base kind.Period lines =
    record base { periods = base.periods ++ period_of lines ∷ [] }
with_object known base kind.Command lines =
    record base { commands = base.commands ++ command_of lines ∷ [] }

abbrev pub base_or : Option FaultyLine → Base → Result Base FaultyLine
base_or None base = Ok base
base_or (Some fault) base = Err fault

abbrev pub base_of_blocks : Rules → List Block → Base
base_of_blocks rules blocks = objects_of (block_names blocks) rules blocks

-- the base that the parts of a file say, or the first fault in them
abbrev pub base_of_parts : Rules → List Part → Result Base FaultyLine
base_of_parts rules parts = base_or (fault_of parts) (base_of_blocks rules (blocks_of parts))

-- the base that the bytes of an object file say, or the first fault in them
unfoldable pub base_of : List ℕ → Rules → Result Base FaultyLine
base_of bytes rules = base_of_parts rules (parts_of (telling_lines bytes))
