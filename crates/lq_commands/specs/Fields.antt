-- The fields of a command: what stands between semicolons. They are read in turn, the word first.
use Rattle.std.specs.Prelude.{ℕ, zero, suc, ◌^◌, ◌==◌, ◌&&◌, nat_lt, nat_le, Bool, Option, Some}
use Rattle.std.specs.Prelude.{None, List, length, if◌then◌else◌}
use Rattle.std.specs.Char.{is_ascii_digit}
use Rattle.std.specs.List.{after_first, before_first, list_all, position_or_len}
use Rattle.std.specs.Option.{option_and_then, option_map}
use Rattle.lq_text.specs.Numbers.{number_of}
use Rattle.lq_records.specs.Named.{host_named, service_named}
use Rattle.lq_records.specs.declared.base.Base.{Base}
use Rattle.lq_records.specs.declared.ids.HostId.{HostId}
use Rattle.lq_records.specs.declared.ids.ServiceId.{ServiceId}

-- The fields that are still to be read: the text from the next one on, which is None after the last
-- one, and the base whose hosts and services they name.
pub record Fields : Type 0 where
  pub base : Base
  pub rest : Option (List ℕ)

-- all fields of a command's text
abbrev pub all_fields : Base → List ℕ → Fields
all_fields base text = record { base = base; rest = Some text }

-- the character `;`
abbrev pub is_semicolon : ℕ → Bool
is_semicolon byte = byte == 59

-- what follows the first `;`; None where there is none
unfoldable pub after_semicolon : List ℕ → Option (List ℕ)
after_semicolon text =
    if nat_lt (position_or_len is_semicolon text) (length text)
    then Some (after_first is_semicolon text)
    else None

-- the fields without the first one, and without the first so many
abbrev pub later : Fields → Fields
later fields = record fields { rest = option_and_then after_semicolon fields.rest }

abbrev pub fields_after : ℕ → Fields → Fields
fields_after zero fields = fields
fields_after (suc count) fields = later (fields_after count fields)

-- ---- the first of some fields

-- it ends at its `;`
unfoldable pub field : Fields → Option (List ℕ)
field fields = option_map (before_first is_semicolon) fields.rest

-- the number that one or more digits say, where it is below 2 ^ 64
unfoldable pub number : List ℕ → Option ℕ
number digits =
    if nat_lt 0 (length digits) && list_all is_ascii_digit digits
    && nat_lt (number_of digits) (2 ^ 64)
    then Some (number_of digits)
    else None

unfoldable pub number_in : Fields → Option ℕ
number_in fields = option_and_then number (field fields)

-- a second has at most 12 digits
unfoldable pub second : List ℕ → Option ℕ
second digits = if nat_le (length digits) 12 then number digits else None

unfoldable pub second_in : Fields → Option ℕ
second_in fields = option_and_then second (field fields)

-- ---- hosts and services

unfoldable pub host_in : Fields → Option HostId
host_in fields = option_and_then (host_named fields.base.hosts) (field fields)

abbrev pub service_of_two : Base → Option (List ℕ) → Option (List ℕ) → Option ServiceId
service_of_two base (Some host) (Some description) = service_named base.services host description
service_of_two base _ _ = None

-- a service takes two fields: its host's name and its description
unfoldable pub service_in : Fields → Option ServiceId
service_in fields = service_of_two fields.base (field fields) (field (later fields))
