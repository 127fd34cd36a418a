-- A file says the same by the lines of each block that are needed.
use Rattle.std.proofs.Common.{◌≡◌, ℕ, Bool, true, false, not, ◌&&◌, Option, Some, None, List, [], ◌∷◌, map, refl, sym, ap, ap₂, ◌∙◌, ⊎_elim}
use Rattle.std.specs.Prelude.{codes, filter, is_some}
use Rattle.std.specs.List.{list_any}
use Rattle.std.specs.Option.{option_and_then, option_map, option_map_or, option_or}
use Rattle.std.specs.Prelude.{unwrap_or}
use Rattle.std.proofs.lemmas.Bool.{and_left, and_right, both_ways, cases_Bool, or_from, or_parts, true_from_ne_false}
use Rattle.std.proofs.lemmas.Map.Views.{any-filter_same}
use Rattle.lq_records.specs.Clean.{text_of_bytes}
use Rattle.lq_objects.specs.Blocks.{Line, directive, is_closing, is_named, opened_word, value_of}
use Rattle.lq_objects.specs.Kinds.{name_directive, reference_directive, references, second_directive}
use Rattle.lq_names.specs.Names.{ObjectName}
use Rattle.lq_objects.specs.Names.{name_of, text_or}
use Rattle.lq_objects.specs.Needed.{directives, is_known, is_needed}
use Rattle.lq_objects.specs.Faults.{directive_fault, fault_if, first_of, has_numbers, inner_fault, is_unknown, names_unknown, number_between, unknown_in}
use Rattle.lq_objects.specs.Objects.{command_of, contact_group_of, contact_of, custom_variables, fields_of, host_group_of, host_of, host_place, ids, is_variable, merged_variables, number_or, period_of, places, places_in, service_group_of, service_of, variable_of}
use Rattle.lq_objects.specs.declared.kind.BlockKind.{BlockKind}
use Rattle.lq_objects.specs.declared.kind.BlockKind.TheVariants.{Host, Service, HostGroup, ServiceGroup, Contact, ContactGroup, Period, Command}
use Rattle.lq_objects.specs.declared.kind.Reference.{Reference}
use Rattle.lq_objects.specs.declared.kind.Reference.TheVariants as reference
use Rattle.lq_objects.specs.declared.fault.FaultyLine.{FaultyLine}
use Rattle.lq_objects.specs.declared.fault.ObjectsWhat.TheVariants.{NotFlattened, BadNumber, Unclosed, UnknownName}
use Rattle.lq_objects.proofs.KnownLemmas.{IsKnownName, known_named}
use Rattle.lq_objects.proofs.ListLemmas.{filter-filter, find-filter}

-- the lines of a block that are needed
abbrev pub needed : List Line → List Line
needed lines = filter is_needed lines

-- a line that isn't needed is none of these
pub record SaysNothing (line : Line) : Type 0 where
  pub known : is_known line.text ≡ false
  pub variable : is_variable line.text ≡ false
  pub closing : is_closing line ≡ false
  pub opening : is_some (opened_word line.text) ≡ false

pub says_nothing : (line : Line) → is_needed line ≡ false → SaysNothing line
says_nothing line unneeded =
    let both = or_parts (is_known line.text) _ unneeded in
    let later = or_parts (is_variable line.text) _ both.1 in
    let bounds = or_parts (is_closing line) (is_some (opened_word line.text)) later.1 in
    record { known = both.0; variable = later.0; closing = bounds.0; opening = bounds.1 }

not_named : (name : List ℕ) → IsKnownName name → (line : Line) → is_needed line ≡ false → is_named name line.text ≡ false
not_named name known line unneeded = known_named name line.text known (says_nothing line unneeded).known

-- ---- directives

directive-needed : (name : List ℕ) → IsKnownName name → (lines : List Line) → directive name (needed lines) ≡ directive name lines
directive-needed name known lines =
    ap (option_map (λ line. value_of name line.text)) (find-filter is_needed (λ line. is_named name line.text) (not_named name known) lines)

text-needed : (absent name : List ℕ) → IsKnownName name → (lines : List Line) → text_or absent name (needed lines) ≡ text_or absent name lines
text-needed absent name known lines = ap (λ found. option_map_or text_of_bytes found absent) (directive-needed name known lines)

-- a text that is the object's name where it is absent
own-needed : (own name : List ℕ) → IsKnownName own → IsKnownName name → (lines : List Line)
    → text_or (text_or [] own (needed lines)) name (needed lines) ≡ text_or (text_or [] own lines) name lines
own-needed own name known known' lines =
    text-needed _ name known' lines ∙ ap (λ absent. text_or absent name lines) (text-needed [] own known lines)

number-needed : (absent least most : ℕ) (name : List ℕ) → IsKnownName name → (lines : List Line)
    → number_or absent least most name (needed lines) ≡ number_or absent least most name lines
number-needed absent least most name known lines =
    ap (λ found. unwrap_or (option_and_then (number_between least most) found) absent) (directive-needed name known lines)

variables-needed : (lines : List Line) → custom_variables (needed lines) ≡ custom_variables lines
variables-needed lines =
    ap (λ kept. merged_variables (map variable_of kept))
    (filter-filter is_needed (λ line. is_variable line.text) (λ line unneeded. (says_nothing line unneeded).variable) lines)

-- ---- names and references

name_known : (kind : BlockKind) → IsKnownName (name_directive kind)
unfolding directives
name_known Host = refl
name_known Service = refl
name_known HostGroup = refl
name_known ServiceGroup = refl
name_known Contact = refl
name_known ContactGroup = refl
name_known Period = refl
name_known Command = refl

second-needed : (kind : BlockKind) (lines : List Line)
    → option_map_or (λ name. text_or [] name (needed lines)) (second_directive kind) []
    ≡ option_map_or (λ name. text_or [] name lines) (second_directive kind) []
unfolding directives
second-needed Host lines = refl
second-needed Service lines = text-needed [] (codes "service_description") refl lines
second-needed HostGroup lines = refl
second-needed ServiceGroup lines = refl
second-needed Contact lines = refl
second-needed ContactGroup lines = refl
second-needed Period lines = refl
second-needed Command lines = refl

pub name-needed : (kind : BlockKind) (lines : List Line) → name_of kind (needed lines) ≡ name_of kind lines
name-needed kind lines =
    λ i. record { first = text-needed [] (name_directive kind) (name_known kind) lines i; second = second-needed kind lines i }

reference_known : (reference : Reference) → IsKnownName (reference_directive reference)
unfolding directives
reference_known reference.Parents = refl
reference_known reference.ServiceHost = refl
reference_known reference.Contacts = refl
reference_known reference.ContactGroups = refl
reference_known reference.MemberHosts = refl
reference_known reference.MemberServices = refl
reference_known reference.MemberContacts = refl

places-needed : (known : BlockKind → List ObjectName) (reference : Reference) (lines : List Line)
    → places known reference (needed lines) ≡ places known reference lines
places-needed known reference lines =
    ap (λ found. option_map_or (places_in known reference) found [])
    (directive-needed (reference_directive reference) (reference_known reference) lines)

ids-needed : {Id : Type 0} (id_at : ℕ → Id) (known : BlockKind → List ObjectName) (reference : Reference) (lines : List Line)
    → ids id_at known reference (needed lines) ≡ ids id_at known reference lines
ids-needed id_at known reference lines = ap (map id_at) (places-needed known reference lines)

-- ---- objects

fields-needed : (known : BlockKind → List ObjectName) (own : List ℕ) (lines : List Line) → fields_of known own (needed lines) ≡ fields_of known own lines
unfolding directives
fields-needed known own lines =
    λ i. record {
      display_name = text-needed own (codes "display_name") refl lines i;
      check_command = text-needed [] (codes "check_command") refl lines i;
      check_period = text-needed [] (codes "check_period") refl lines i;
      notification_period = text-needed [] (codes "notification_period") refl lines i;
      max_check_attempts = number-needed 1 1 1000000 (codes "max_check_attempts") refl lines i;
      notifications_enabled = number-needed 1 0 1 (codes "notifications_enabled") refl lines i;
      contacts = ids-needed (λ place. record { 0 = place }) known reference.Contacts lines i;
      contact_groups = ids-needed (λ place. record { 0 = place }) known reference.ContactGroups lines i;
      notes = text-needed [] (codes "notes") refl lines i;
      notes_url = text-needed [] (codes "notes_url") refl lines i;
      action_url = text-needed [] (codes "action_url") refl lines i;
      icon_image = text-needed [] (codes "icon_image") refl lines i;
      custom_variables = variables-needed lines i;
    }

-- those of an object with its own name
own_fields-needed : (known : BlockKind → List ObjectName) (own : List ℕ) → IsKnownName own → (lines : List Line)
    → fields_of known (text_or [] own (needed lines)) (needed lines) ≡ fields_of known (text_or [] own lines) lines
own_fields-needed known own is lines =
    fields-needed known _ lines ∙ ap (λ name. fields_of known name lines) (text-needed [] own is lines)

pub host-needed : (known : BlockKind → List ObjectName) (lines : List Line) → host_of known (needed lines) ≡ host_of known lines
unfolding directives
host-needed known lines =
    λ i. record {
      host_name = text-needed [] (codes "host_name") refl lines i;
      alias = own-needed (codes "host_name") (codes "alias") refl refl lines i;
      address = text-needed [] (codes "address") refl lines i;
      parents = ids-needed (λ place. record { 0 = place }) known reference.Parents lines i;
      fields = own_fields-needed known (codes "host_name") refl lines i;
    }

pub service-needed : (known : BlockKind → List ObjectName) (lines : List Line) → service_of known (needed lines) ≡ service_of known lines
unfolding directives
service-needed known lines =
    λ i. record {
      host = record { 0 = host_place (places-needed known reference.ServiceHost lines i) };
      host_name = text-needed [] (codes "host_name") refl lines i;
      service_description = text-needed [] (codes "service_description") refl lines i;
      fields = own_fields-needed known (codes "service_description") refl lines i;
    }

pub host_group-needed : (known : BlockKind → List ObjectName) (lines : List Line) → host_group_of known (needed lines) ≡ host_group_of known lines
unfolding directives
host_group-needed known lines =
    λ i. record {
      hostgroup_name = text-needed [] (codes "hostgroup_name") refl lines i;
      alias = own-needed (codes "hostgroup_name") (codes "alias") refl refl lines i;
      members = ids-needed (λ place. record { 0 = place }) known reference.MemberHosts lines i;
      notes = text-needed [] (codes "notes") refl lines i;
      notes_url = text-needed [] (codes "notes_url") refl lines i;
      action_url = text-needed [] (codes "action_url") refl lines i;
    }

pub service_group-needed : (known : BlockKind → List ObjectName) (lines : List Line) → service_group_of known (needed lines) ≡ service_group_of known lines
unfolding directives
service_group-needed known lines =
    λ i. record {
      servicegroup_name = text-needed [] (codes "servicegroup_name") refl lines i;
      alias = own-needed (codes "servicegroup_name") (codes "alias") refl refl lines i;
      members = ids-needed (λ place. record { 0 = place }) known reference.MemberServices lines i;
      notes = text-needed [] (codes "notes") refl lines i;
      notes_url = text-needed [] (codes "notes_url") refl lines i;
      action_url = text-needed [] (codes "action_url") refl lines i;
    }

pub contact-needed : (lines : List Line) → contact_of (needed lines) ≡ contact_of lines
unfolding directives
contact-needed lines =
    λ i. record {
      contact_name = text-needed [] (codes "contact_name") refl lines i;
      alias = own-needed (codes "contact_name") (codes "alias") refl refl lines i;
      email = text-needed [] (codes "email") refl lines i;
      pager = text-needed [] (codes "pager") refl lines i;
      host_notification_period = text-needed [] (codes "host_notification_period") refl lines i;
      service_notification_period = text-needed [] (codes "service_notification_period") refl lines i;
    }

pub contact_group-needed : (known : BlockKind → List ObjectName) (lines : List Line) → contact_group_of known (needed lines) ≡ contact_group_of known lines
unfolding directives
contact_group-needed known lines =
    λ i. record {
      contactgroup_name = text-needed [] (codes "contactgroup_name") refl lines i;
      alias = own-needed (codes "contactgroup_name") (codes "alias") refl refl lines i;
      members = ids-needed (λ place. record { 0 = place }) known reference.MemberContacts lines i;
    }

pub period-needed : (lines : List Line) → period_of (needed lines) ≡ period_of lines
unfolding directives
period-needed lines =
    λ i. record {
      timeperiod_name = text-needed [] (codes "timeperiod_name") refl lines i;
      alias = own-needed (codes "timeperiod_name") (codes "alias") refl refl lines i;
    }

pub command-needed : (lines : List Line) → command_of (needed lines) ≡ command_of lines
unfolding directives
command-needed lines =
    λ i. record {
      command_name = text-needed [] (codes "command_name") refl lines i;
      command_line = text-needed [] (codes "command_line") refl lines i;
    }

-- ---- faults of lines

directive-none : (kind : BlockKind) (line : Line) → is_needed line ≡ false → directive_fault kind line ≡ None
unfolding directives
directive-none kind line unneeded =
    ap₂ option_or
    (ap (λ test. fault_if test line.number NotFlattened)
    (or_from _ _ (not_named (codes "use") refl line unneeded) (not_named (codes "register") refl line unneeded)))
    (ap (λ test. fault_if test line.number BadNumber)
    (and_right (has_numbers kind) _
    (or_from _ _ (and_left _ _ (not_named (codes "max_check_attempts") refl line unneeded))
    (and_left _ _ (not_named (codes "notifications_enabled") refl line unneeded)))))

pub inner-none : (opening : ℕ) (kind : Option BlockKind) (line : Line) → is_needed line ≡ false → inner_fault opening kind line ≡ None
inner-none opening None line unneeded = ap (λ opens. fault_if opens opening Unclosed) (says_nothing line unneeded).opening
inner-none opening (Some kind) line unneeded =
    ap₂ option_or (ap (λ opens. fault_if opens opening Unclosed) (says_nothing line unneeded).opening) (directive-none kind line unneeded)

pub first_of-needed : (fault : Line → Option FaultyLine) → ((line : Line) → is_needed line ≡ false → fault line ≡ None) → (lines : List Line)
    → first_of fault (needed lines) ≡ first_of fault lines
first_of-needed fault none [] = refl
first_of-needed fault none (line ∷ lines) =
    let rest = first_of-needed fault none lines in
    ⊎_elim
    (λ passes. rw passes (ap (option_or (fault line)) rest))
    (λ fails. rw fails (rest ∙ sym (ap (λ found. option_or found (first_of fault lines)) (none line fails))))
    (cases_Bool (is_needed line))

-- ---- names that aren't there

needed_when_named : (name : List ℕ) → IsKnownName name → (line : Line) → is_named name line.text ≡ true → is_needed line ≡ true
needed_when_named name known line named =
    true_from_ne_false (is_needed line) (λ unneeded. both_ways (is_named name line.text) (not_named name known line unneeded) named)

-- a needed line decides the same
names_unknown-needed : (known : BlockKind → List ObjectName) (line : Line) (later : List Line) (reference : Reference)
    → names_unknown known line (needed later) reference ≡ names_unknown known line later reference
names_unknown-needed known line later reference =
    let name : List ℕ = reference_directive reference in
    ap (λ found. (is_named name line.text && not found) && is_unknown known reference (value_of name line.text))
    (any-filter_same (λ other. is_named name other.text) is_needed true
    (needed_when_named name (reference_known reference)) later)

list_any-false : {X : Type 0} (test : X → Bool) → ((x : X) → test x ≡ false) → (xs : List X) → list_any test xs ≡ false
list_any-false test none [] = refl
list_any-false test none (x ∷ xs) = or_from (test x) (list_any test xs) (none x) (list_any-false test none xs)

-- another line decides nothing
no_unknown : (known : BlockKind → List ObjectName) (kind : BlockKind) (line : Line) (later : List Line) → is_needed line ≡ false
    → list_any (names_unknown known line later) (references kind) ≡ false
no_unknown known kind line later unneeded =
    list_any-false (names_unknown known line later)
    (λ reference. and_left _ _ (and_left _ _ (not_named (reference_directive reference) (reference_known reference) line unneeded)))
    (references kind)

pub unknown_in-needed : (known : BlockKind → List ObjectName) (kind : BlockKind) (lines : List Line) → unknown_in known kind (needed lines) ≡ unknown_in known kind lines
unknown_in-needed known kind [] = refl
unknown_in-needed known kind (line ∷ later) =
    let rest = unknown_in-needed known kind later in
    ⊎_elim
    (λ passes. rw passes
    (ap₂ option_or
    (ap (λ test. fault_if (list_any test (references kind)) line.number UnknownName) (λ i reference. names_unknown-needed known line later reference i))
    rest))
    (λ fails. rw fails
    (rest
    ∙ sym (ap (λ test. option_or (fault_if test line.number UnknownName) (unknown_in known kind later)) (no_unknown known kind line later fails))))
    (cases_Bool (is_needed line))
