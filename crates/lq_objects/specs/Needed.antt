-- Which lines in a block an object is read from.
use Rattle.std.specs.Prelude.{ℕ, ◌||◌, Bool, Option, List, [], ◌∷◌, find, is_some, map, codes}
use Rattle.std.specs.List.{list_any}
use Rattle.lq_objects.specs.Blocks.{Line, is_closing, is_named, opened_word}
use Rattle.lq_objects.specs.Objects.{is_variable}
use Rattle.lq_objects.specs.declared.known.Directive.{Directive}
use Rattle.lq_objects.specs.declared.known.Directive.TheVariants as known

-- the word of a known directive, which says something of an object of some kind
abbrev pub directive_word : Directive → List ℕ
directive_word known.ActionUrl = codes "action_url"
directive_word known.Address = codes "address"
directive_word known.Alias = codes "alias"
directive_word known.CheckCommand = codes "check_command"
directive_word known.CheckPeriod = codes "check_period"
directive_word known.CommandLine = codes "command_line"
directive_word known.CommandName = codes "command_name"
directive_word known.ContactGroups = codes "contact_groups"
directive_word known.ContactName = codes "contact_name"
directive_word known.Contacts = codes "contacts"
directive_word known.ContactGroupName = codes "contactgroup_name"
directive_word known.DisplayName = codes "display_name"
directive_word known.Email = codes "email"
directive_word known.HostName = codes "host_name"
directive_word known.HostNotificationPeriod = codes "host_notification_period"
directive_word known.HostGroupName = codes "hostgroup_name"
directive_word known.IconImage = codes "icon_image"
directive_word known.MaxCheckAttempts = codes "max_check_attempts"
directive_word known.Members = codes "members"
directive_word known.Notes = codes "notes"
directive_word known.NotesUrl = codes "notes_url"
directive_word known.NotificationPeriod = codes "notification_period"
directive_word known.NotificationsEnabled = codes "notifications_enabled"
directive_word known.Pager = codes "pager"
directive_word known.Parents = codes "parents"
directive_word known.Register = codes "register"
directive_word known.ServiceDescription = codes "service_description"
directive_word known.ServiceNotificationPeriod = codes "service_notification_period"
directive_word known.ServiceGroupName = codes "servicegroup_name"
directive_word known.TimePeriodName = codes "timeperiod_name"
directive_word known.Use = codes "use"

-- the known directives; others say nothing
unfoldable pub directives : List Directive
directives =
    known.ActionUrl ∷ known.Address ∷ known.Alias ∷ known.CheckCommand ∷ known.CheckPeriod
    ∷ known.CommandLine ∷ known.CommandName ∷ known.ContactGroups ∷ known.ContactName
    ∷ known.Contacts ∷ known.ContactGroupName ∷ known.DisplayName ∷ known.Email ∷ known.HostName
    ∷ known.HostNotificationPeriod ∷ known.HostGroupName ∷ known.IconImage ∷ known.MaxCheckAttempts
    ∷ known.Members ∷ known.Notes ∷ known.NotesUrl ∷ known.NotificationPeriod
    ∷ known.NotificationsEnabled ∷ known.Pager ∷ known.Parents ∷ known.Register
    ∷ known.ServiceDescription ∷ known.ServiceNotificationPeriod ∷ known.ServiceGroupName
    ∷ known.TimePeriodName ∷ known.Use ∷ []

-- the directive that a line's text is, where it is a known one
abbrev pub known_directive : List ℕ → Option Directive
known_directive text = find (λ one. is_named (directive_word one) text) directives

-- the words of the known directives
abbrev pub known_directives : List (List ℕ)
known_directives = map directive_word directives

-- whether a line's text is a known directive
abbrev pub is_known : List ℕ → Bool
is_known text = list_any (λ name. is_named name text) known_directives

-- a line `}`, or one that opens a block
abbrev pub is_bound : Line → Bool
is_bound line = is_closing line || is_some (opened_word line.text)

-- a line in a block is needed where it bounds a block, is a known directive or a custom variable
abbrev pub is_needed : Line → Bool
is_needed line = is_known line.text || (is_variable line.text || is_bound line)
