-- The kinds of objects that a workload has. They have no names outside of the crate that reads them, but words.
use Rattle.std.proofs.Common.{◌≡◌, ◌⊎◌, true, true≢false, sym, [], codes, refl}
use Rattle.std.specs.Prelude.{Option, Some, None, slice_get}
use Rattle.std.specs.Option.{is_some}
use Rattle.lq_objects.specs.Kinds.{kind_named, references}

-- what is found
abbrev pub from_some : {X : Type 0} (found : Option X) → is_some found ≡ true → X
from_some None is = absurd (true≢false (sym is))
from_some (Some x) is = x

abbrev type_of : {X : Type 0} → Option X → Type 0
type_of {X} found = X

abbrev pub BlockKind : Type 0
BlockKind = type_of (kind_named [])

abbrev pub contact_kind : BlockKind
contact_kind = from_some (kind_named (codes "contact")) refl

abbrev pub host_kind : BlockKind
host_kind = from_some (kind_named (codes "host")) refl

abbrev pub service_kind : BlockKind
service_kind = from_some (kind_named (codes "service")) refl

abbrev pub group_kind : BlockKind
group_kind = from_some (kind_named (codes "hostgroup")) refl

abbrev pub Reference : Type 0
Reference = type_of (slice_get (references host_kind) 0)

-- the directives that name others: a service's host, the contacts, and the members of a group
abbrev pub host_reference : Reference
host_reference = from_some (slice_get (references service_kind) 0) refl

abbrev pub contacts_reference : Reference
contacts_reference = from_some (slice_get (references host_kind) 1) refl

abbrev pub members_reference : Reference
members_reference = from_some (slice_get (references group_kind) 0) refl

-- the kinds of a workload's objects
abbrev pub IsUsed : BlockKind → Type 0
IsUsed kind = (kind ≡ contact_kind) ⊎ ((kind ≡ host_kind) ⊎ ((kind ≡ service_kind) ⊎ (kind ≡ group_kind)))
