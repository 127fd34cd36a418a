-- The contacts of hosts and services, kept beside them.
use Rattle.std.specs.Prelude.{◌≡◌, ℕ, Some, List, map}
use Rattle.std.specs.List.{slice_get}
use Rattle.lq_records.specs.declared.base.ObjectFields.{ObjectFields}
use Rattle.lq_records.specs.declared.monitored.ContactIndex.{ContactIndex}
use Rattle.lq_records.specs.declared.monitored.ContactLists.{ContactLists}

-- the contacts and the contact groups that an object names
abbrev pub lists_of : ObjectFields → ContactLists
lists_of fields = record { contacts = fields.contacts; contact_groups = fields.contact_groups }

-- among some lists, those of each object stand at its place
abbrev pub AreListsOf : List ContactLists → List ℕ → List ContactLists → Type 0
AreListsOf lists places objects = map (slice_get lists) places ≡ map Some objects

-- the contacts of each object, and the place of its owner
pub record IsIndexOf (index : ContactIndex) (objects : List ContactLists) (owners : List ℕ)
    : Type 0 where
  pub listed : AreListsOf index.lists.now index.places.now objects
  pub owned : index.owners.now ≡ owners
