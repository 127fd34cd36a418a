-- Hosts and services under one name.
use Rattle.std.specs.Prelude.{Bool, true, false, ◌==◌}
use Rattle.lq_records.specs.declared.object.Object.{Object}
use Rattle.lq_records.specs.declared.object.Object.TheVariants as object
use Rattle.lq_records.specs.declared.object.ObjectKind.{ObjectKind}
use Rattle.lq_records.specs.declared.object.ObjectKind.TheVariants as kind

-- whether an object is a host or a service
abbrev pub kind_of : Object → ObjectKind
kind_of (object.Host id) = kind.Host
kind_of (object.Service id) = kind.Service

abbrev pub is_same_kind : ObjectKind → ObjectKind → Bool
is_same_kind kind.Host kind.Host = true
is_same_kind kind.Service kind.Service = true
is_same_kind kind.Host kind.Service = false
is_same_kind kind.Service kind.Host = false

-- two objects are one where they are of one kind and have one place
abbrev pub is_same_object : Object → Object → Bool
is_same_object (object.Host a) (object.Host b) = a.0 == b.0
is_same_object (object.Service a) (object.Service b) = a.0 == b.0
is_same_object (object.Host a) (object.Service b) = false
is_same_object (object.Service a) (object.Host b) = false
