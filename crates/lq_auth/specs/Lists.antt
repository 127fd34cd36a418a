-- Rights by the lists of contacts that objects have, which are kept beside the objects.
use Rattle.std.specs.Prelude.{◌||◌, Bool, Option}
use Rattle.std.specs.List.{list_any}
use Rattle.lq_records.specs.declared.base.Base.{Base}
use Rattle.lq_records.specs.declared.ids.ContactId.{ContactId}
use Rattle.lq_records.specs.declared.monitored.ContactLists.{ContactLists}
use Rattle.lq_auth.specs.Rights.{group_has, has_contact}

-- whether a contact stands in lists of contacts, or in a group that they name; it does so exactly
-- in those of the objects whose contact it is
abbrev pub is_in_lists : Base → Option ContactId → ContactLists → Bool
is_in_lists base contact lists =
    has_contact contact lists.contacts || list_any (group_has base contact) lists.contact_groups
