-- The columns on what hosts and services share as objects.
use Rattle.std.specs.Prelude.{List, codes, [], ◌∷◌}
use Rattle.lq_schema.specs.Heading.{Heading, heading}
use Rattle.lq_schema.specs.declared.object.ObjectColumn.{ObjectColumn}
use Rattle.lq_schema.specs.declared.object.ObjectColumn.TheVariants as object
use Rattle.lq_schema.specs.declared.columns.ColKind.TheVariants as kind

abbrev pub object_heading : ObjectColumn → Heading
object_heading object.DisplayName = heading (codes "display_name") kind.Str
object_heading object.CheckCommand = heading (codes "check_command") kind.Str
object_heading object.CheckPeriod = heading (codes "check_period") kind.Str
object_heading object.NotificationPeriod = heading (codes "notification_period") kind.Str
object_heading object.MaxCheckAttempts = heading (codes "max_check_attempts") kind.Int
object_heading object.Notes = heading (codes "notes") kind.Str
object_heading object.NotesUrl = heading (codes "notes_url") kind.Str
object_heading object.ActionUrl = heading (codes "action_url") kind.Str
object_heading object.IconImage = heading (codes "icon_image") kind.Str
object_heading object.Contacts = heading (codes "contacts") kind.List
object_heading object.ContactGroups = heading (codes "contact_groups") kind.List
object_heading object.Groups = heading (codes "groups") kind.List
object_heading object.CustomVariableNames = heading (codes "custom_variable_names") kind.List
object_heading object.CustomVariableValues = heading (codes "custom_variable_values") kind.List

-- in order
abbrev pub object_columns : List ObjectColumn
object_columns =
    object.DisplayName ∷ object.CheckCommand ∷ object.CheckPeriod ∷ object.NotificationPeriod
    ∷ object.MaxCheckAttempts ∷ object.Notes ∷ object.NotesUrl ∷ object.ActionUrl
    ∷ object.IconImage ∷ object.Contacts ∷ object.ContactGroups ∷ object.Groups
    ∷ object.CustomVariableNames ∷ object.CustomVariableValues ∷ []
