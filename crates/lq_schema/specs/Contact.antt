-- The columns on a contact.
use Rattle.std.specs.Prelude.{List, codes, [], ◌∷◌}
use Rattle.lq_schema.specs.Heading.{Heading, heading}
use Rattle.lq_schema.specs.declared.contact.ContactColumn.{ContactColumn}
use Rattle.lq_schema.specs.declared.contact.ContactColumn.TheVariants as contact
use Rattle.lq_schema.specs.declared.columns.ColKind.TheVariants as kind

abbrev pub contact_heading : ContactColumn → Heading
contact_heading contact.Name = heading (codes "name") kind.Str
contact_heading contact.Alias = heading (codes "alias") kind.Str
contact_heading contact.Email = heading (codes "email") kind.Str
contact_heading contact.Pager = heading (codes "pager") kind.Str
contact_heading contact.HostNotificationPeriod = heading (codes "host_notification_period") kind.Str
contact_heading contact.ServiceNotificationPeriod =
    heading (codes "service_notification_period") kind.Str

-- in order
abbrev pub contact_columns : List ContactColumn
contact_columns =
    contact.Name ∷ contact.Alias ∷ contact.Email ∷ contact.Pager
    ∷ contact.HostNotificationPeriod ∷ contact.ServiceNotificationPeriod ∷ []
