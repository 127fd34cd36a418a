-- The fields of a log line, and what each says.
use Rattle.std.specs.Prelude.{ℕ, ℤ, pos, ◌-◌, ◌==◌, ◌&&◌, nat_lt, nat_le, Bool, Option, Some, None}
use Rattle.std.specs.Prelude.{List, [], ◌∷◌, length, find, unwrap_or, bytes_eq, codes, slice_index}
use Rattle.std.specs.Prelude.{if◌then◌else◌}
use Rattle.std.specs.Char.{is_ascii_digit}
use Rattle.std.specs.List.{list_any, list_all, before_first, after_first}
use Rattle.std.specs.Option.{option_map, option_and_then}
use Rattle.std.specs.Ordering.{int_eq}
use Rattle.lq_text.specs.Numbers.{integer_read, number_of}
use Rattle.lq_events.specs.declared.log_entry.Kind.{Kind}
use Rattle.lq_events.specs.declared.log_entry.Kind.TheVariants as kind
use Rattle.lq_events.specs.declared.log_entry.LogEntry.{LogEntry}
use Rattle.lq_log.specs.declared.field.Field.{Field}
use Rattle.lq_log.specs.declared.field.Field.TheVariants as field

-- ---- words

-- each state's name with its number, of hosts and of services
abbrev pub host_states : List (List ℕ × ℤ)
host_states = (codes "UP", pos 0) ∷ (codes "DOWN", pos 1) ∷ (codes "UNREACHABLE", pos 2) ∷ []

abbrev pub service_states : List (List ℕ × ℤ)
service_states =
    (codes "OK", pos 0) ∷ (codes "WARNING", pos 1) ∷ (codes "CRITICAL", pos 2)
    ∷ (codes "UNKNOWN", pos 3) ∷ []

-- the number of a state's name, and the name of a state's number
abbrev pub state_named : List (List ℕ × ℤ) → List ℕ → Option ℤ
state_named states name = option_map (λ row. row.1) (find (λ row. bytes_eq name row.0) states)

abbrev pub name_of_state : List (List ℕ × ℤ) → ℤ → Option (List ℕ)
name_of_state states state = option_map (λ row. row.0) (find (λ row. int_eq state row.1) states)

abbrev pub state_types : List (List ℕ)
state_types = codes "SOFT" ∷ codes "HARD" ∷ []

abbrev pub downtime_words : List (List ℕ)
downtime_words = codes "STARTED" ∷ codes "STOPPED" ∷ codes "CANCELLED" ∷ []

abbrev pub flapping_words : List (List ℕ)
flapping_words = codes "STARTED" ∷ codes "STOPPED" ∷ codes "DISABLED" ∷ []

abbrev pub is_one_of : List (List ℕ) → List ℕ → Bool
is_one_of words word = list_any (bytes_eq word) words

-- ---- numbers

-- an attempt has 1 to 9 digits
abbrev pub is_attempt : List ℕ → Bool
is_attempt text =
    list_all is_ascii_digit text && nat_lt 0 (length text) && nat_le (length text) 9

-- the characters `0` and `3`
abbrev digit_0 : ℕ
digit_0 = 48

abbrev digit_3 : ℕ
digit_3 = 51

-- a check's code is one digit, 0 to 3
abbrev pub is_code : List ℕ → Bool
is_code text =
    (length text == 1) && nat_le digit_0 (slice_index text 0) && nat_le (slice_index text 0) digit_3

abbrev pub code_of : List ℕ → ℤ
code_of text = pos (slice_index text 0 - digit_0)

-- ---- a field goes into the entry; None where it hasn't its form

abbrev pub entry_where : Bool → LogEntry → Option LogEntry
entry_where test entry = if test then Some entry else None

-- a transition keeps its fields in its kind
abbrev pub with_from : ℤ → Kind → Kind
with_from from (kind.TimeperiodTransition name _ to) = kind.TimeperiodTransition name from to
with_from from other = other

abbrev pub with_to : ℤ → Kind → Kind
with_to to (kind.TimeperiodTransition name from _) = kind.TimeperiodTransition name from to
with_to to other = other

abbrev pub with_state : Option ℤ → LogEntry → Option LogEntry
with_state state entry = option_map (λ number. record entry { state = number }) state

abbrev pub with_field : LogEntry → Field → List ℕ → Option LogEntry
with_field entry field.HostName text = Some (record entry { host = text })
with_field entry field.ServiceDescription text = Some (record entry { service = text })
with_field entry field.HostState text = with_state (state_named host_states text) entry
with_field entry field.ServiceState text = with_state (state_named service_states text) entry
with_field entry field.StateType text =
    entry_where (is_one_of state_types text) (record entry { word = text })
with_field entry field.Attempt text =
    entry_where (is_attempt text) (record entry { attempt = number_of text })
with_field entry field.Code text =
    entry_where (is_code text) (record entry { state = code_of text })
with_field entry field.DowntimeWord text =
    entry_where (is_one_of downtime_words text) (record entry { word = text })
with_field entry field.FlappingWord text =
    entry_where (is_one_of flapping_words text) (record entry { word = text })
with_field entry field.HostWord text =
    Some (record entry { word = text; state = unwrap_or (state_named host_states text) (pos 0) })
with_field entry field.ServiceWord text =
    Some (record entry { word = text; state = unwrap_or (state_named service_states text) (pos 0) })
with_field entry field.PluginOutput text = Some (record entry { output = text })
with_field entry field.Comment text = Some (record entry { comment = text })
with_field entry field.ContactName text = Some (record entry { contact = text })
with_field entry field.CommandName text = Some (record entry { command = text })
with_field entry field.PeriodName text =
    Some (record entry { kind = kind.TimeperiodTransition text (pos 0) (pos 0) })
with_field entry field.From text =
    option_map (λ from. record entry { kind = with_from from entry.kind }) (integer_read text)
with_field entry field.To text =
    option_map (λ to. record entry { kind = with_to to entry.kind }) (integer_read text)

-- ---- the fields of a text

-- the character `;`
abbrev pub is_separator : ℕ → Bool
is_separator byte = byte == 59

abbrev pub has_semicolon : List ℕ → Bool
has_semicolon text = list_any is_separator text

-- The fields of a text go into the entry in turn: each goes up to its first `;`, the last one takes
-- the rest. None where one is missing, or hasn't its form.
abbrev pub with_fields : List Field → List ℕ → LogEntry → Option LogEntry
with_fields [] text entry = Some entry
with_fields (field ∷ []) text entry = with_field entry field text
with_fields (field ∷ next ∷ fields) text entry =
    if has_semicolon text
    then option_and_then (with_fields (next ∷ fields) (after_first is_separator text))
    (with_field entry field (before_first is_separator text))
    else None
