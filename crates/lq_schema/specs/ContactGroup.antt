-- The columns on a group of contacts.
use Rattle.std.specs.Prelude.{List, codes, [], ◌∷◌}
use Rattle.lq_schema.specs.Heading.{Heading, heading}
use Rattle.lq_schema.specs.declared.contact_group.ContactGroupColumn.{ContactGroupColumn}
use Rattle.lq_schema.specs.declared.contact_group.ContactGroupColumn.TheVariants as contact_group
use Rattle.lq_schema.specs.declared.columns.ColKind.TheVariants as kind

abbrev pub contact_group_heading : ContactGroupColumn → Heading
contact_group_heading contact_group.Name = heading (codes "name") kind.Str
contact_group_heading contact_group.Alias = heading (codes "alias") kind.Str
contact_group_heading contact_group.Members = heading (codes "members") kind.List

-- in order
abbrev pub contact_group_columns : List ContactGroupColumn
contact_group_columns =
    contact_group.Name ∷ contact_group.Alias ∷ contact_group.Members ∷ []
