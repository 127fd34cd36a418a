-- Contacts without repeats.
use Rattle.std.specs.Prelude.{◌==◌, Bool, not, List, [], ◌∷◌, ◌++◌, filter, if◌then◌else◌}
use Rattle.std.specs.List.{list_any}
use Rattle.lq_records.specs.declared.ids.ContactId.{ContactId}

-- each contact where it first comes
abbrev pub first_of_each : List ContactId → List ContactId
first_of_each [] = []
first_of_each (id ∷ ids) = id ∷ filter (λ other. not (id.0 == other.0)) (first_of_each ids)

abbrev pub stands_in : List ContactId → ContactId → Bool
stands_in found id = list_any (λ other. other.0 == id.0) found

-- a contact after others, unless it stands there
abbrev pub with_one : List ContactId → ContactId → List ContactId
with_one found id = if stands_in found id then found else found ++ id ∷ []

-- contacts after others, as far as they don't stand there
abbrev pub with_new : List ContactId → List ContactId → List ContactId
with_new found ids = found ++ filter (λ id. not (stands_in found id)) (first_of_each ids)
