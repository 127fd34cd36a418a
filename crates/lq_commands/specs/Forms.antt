-- The groups of fields that several commands share.
use Rattle.std.specs.Prelude.{ℕ, nat_le, Option, Some, None, List, [], if◌then◌else◌}
use Rattle.std.specs.Option.{option_and_then, option_map, unwrap_or}
use Rattle.lq_records.specs.declared.object.Object.{Object}
use Rattle.lq_records.specs.declared.object.Object.TheVariants as object
use Rattle.lq_records.specs.declared.object.ObjectKind.{ObjectKind}
use Rattle.lq_records.specs.declared.object.ObjectKind.TheVariants.{Host, Service}
use Rattle.lq_commands.specs.Fields.{Fields, fields_after, field, host_in, later, number_in}
use Rattle.lq_commands.specs.Fields.{second_in, service_in}
use Rattle.lq_commands.specs.declared.form.AcknowledgementFields.{AcknowledgementFields}
use Rattle.lq_commands.specs.declared.form.CheckResultFields.{CheckResultFields}
use Rattle.lq_commands.specs.declared.form.CommentFields.{CommentFields}
use Rattle.lq_commands.specs.declared.form.DowntimeFields.{DowntimeFields}

-- the host or the service that fields begin with, and the fields after it
unfoldable pub object_in : ObjectKind → Fields → Option Object
object_in Host fields = option_map object.Host (host_in fields)
object_in Service fields = option_map object.Service (service_in fields)

abbrev pub after_object : ObjectKind → Fields → Fields
after_object Host fields = fields_after 1 fields
after_object Service fields = fields_after 2 fields

-- the largest code of a check's result
abbrev pub most_code_of_kind : ObjectKind → ℕ
most_code_of_kind Host = 2
most_code_of_kind Service = 3

unfoldable pub code_in : ObjectKind → Fields → Option ℕ
code_in kind fields =
    option_and_then (λ code. if nat_le code (most_code_of_kind kind) then Some code else None)
    (number_in fields)

-- `code;output`, of which the output may be missing
unfoldable pub check_result_in : ObjectKind → Fields → Option CheckResultFields
check_result_in kind fields =
    option_map (λ code. record { code = code; output = unwrap_or (later fields).rest [] })
    (code_in kind fields)

abbrev pub comment_form : Option ℕ → Option (List ℕ) → Option (List ℕ) → Option CommentFields
comment_form (Some persistent) (Some author) (Some text) =
    Some (record { persistent = persistent; author = author; text = text })
comment_form _ _ _ = None

-- `persistent;author;text`
unfoldable pub comment_in : Fields → Option CommentFields
comment_in fields =
    comment_form (number_in fields) (field (fields_after 1 fields)) (fields_after 2 fields).rest

abbrev pub acknowledgement_form : Option ℕ → Option ℕ → Option CommentFields
    → Option AcknowledgementFields
acknowledgement_form (Some sticky) (Some notify) (Some comment) =
    Some (record { sticky = sticky; notify = notify; comment = comment })
acknowledgement_form _ _ _ = None

-- `sticky;notify;persistent;author;text`
unfoldable pub acknowledgement_in : Fields → Option AcknowledgementFields
acknowledgement_in fields =
    acknowledgement_form (number_in fields) (number_in (fields_after 1 fields))
    (comment_in (fields_after 2 fields))

abbrev pub downtime_form : Option ℕ → Option ℕ → Option ℕ → Option ℕ → Option ℕ → Option (List ℕ)
    → Option (List ℕ) → Option DowntimeFields
downtime_form (Some start) (Some end) (Some fixed) (Some trigger_id) (Some duration) (Some author)
    (Some text) =
    Some (record {
      start = start;
      end = end;
      fixed = fixed;
      trigger_id = trigger_id;
      duration = duration;
      author = author;
      text = text;
    })
downtime_form _ _ _ _ _ _ _ = None

-- `start;end;fixed;trigger_id;duration;author;text`
unfoldable pub downtime_in : Fields → Option DowntimeFields
downtime_in fields =
    downtime_form (second_in fields) (second_in (fields_after 1 fields))
    (number_in (fields_after 2 fields))
    (number_in (fields_after 3 fields)) (number_in (fields_after 4 fields))
    (field (fields_after 5 fields))
    (fields_after 6 fields).rest
