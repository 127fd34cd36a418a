-- The commands, and what each does with its fields.
use Rattle.std.specs.Prelude.{ℕ, Option, Some, None, List, [], ◌∷◌, ◌++◌, find, bytes_eq, codes}
use Rattle.std.specs.Option.{option_and_then, option_map, unwrap_or}
use Rattle.lq_records.specs.declared.base.Base.{Base}
use Rattle.lq_records.specs.declared.ids.HostId.{HostId}
use Rattle.lq_records.specs.declared.ids.ServiceId.{ServiceId}
use Rattle.lq_records.specs.declared.object.Object.{Object}
use Rattle.lq_records.specs.declared.object.Object.TheVariants as object
use Rattle.lq_records.specs.declared.object.ObjectKind.{ObjectKind}
use Rattle.lq_records.specs.declared.object.ObjectKind.TheVariants as kind
use Rattle.lq_events.specs.declared.update.Act.{Act}
use Rattle.lq_events.specs.declared.update.Act.TheVariants as act
use Rattle.lq_commands.specs.Fields.{Fields, all_fields, field, host_in, later, number_in}
use Rattle.lq_commands.specs.Fields.{service_in}
use Rattle.lq_commands.specs.Forms.{acknowledgement_in, after_object, check_result_in, comment_in}
use Rattle.lq_commands.specs.Forms.{downtime_in, object_in}
use Rattle.lq_commands.specs.declared.form.AcknowledgementFields.{AcknowledgementFields}
use Rattle.lq_commands.specs.declared.form.CheckResultFields.{CheckResultFields}
use Rattle.lq_commands.specs.declared.form.CommentFields.{CommentFields}
use Rattle.lq_commands.specs.declared.form.DowntimeFields.{DowntimeFields}

-- ---- what an object and a group of fields make

abbrev pub check_result_act : Object → CheckResultFields → Act
check_result_act (object.Host host) result =
    act.ProcessHostCheckResult host result.code result.output
check_result_act (object.Service service) result =
    act.ProcessServiceCheckResult service result.code result.output

abbrev pub comment_act : Object → CommentFields → Act
comment_act (object.Host host) comment =
    act.AddHostComment host comment.persistent comment.author comment.text
comment_act (object.Service service) comment =
    act.AddSvcComment service comment.persistent comment.author comment.text

abbrev pub acknowledgement_act : Object → AcknowledgementFields → Act
acknowledgement_act (object.Host host) given =
    act.AcknowledgeHostProblem host given.sticky given.notify given.comment.persistent
    given.comment.author given.comment.text
acknowledgement_act (object.Service service) given =
    act.AcknowledgeSvcProblem service given.sticky given.notify given.comment.persistent
    given.comment.author given.comment.text

abbrev pub downtime_act : Object → DowntimeFields → Act
downtime_act (object.Host host) downtime =
    act.ScheduleHostDowntime host downtime.start downtime.end downtime.fixed downtime.trigger_id
    downtime.duration downtime.author downtime.text
downtime_act (object.Service service) downtime =
    act.ScheduleSvcDowntime service downtime.start downtime.end downtime.fixed downtime.trigger_id
    downtime.duration downtime.author downtime.text

-- what is made of two things, where both are there
abbrev pub of_both : {X Y Z : Type 0} → (X → Y → Z) → Option X → Option Y → Option Z
of_both make (Some first) (Some second) = Some (make first second)
of_both make _ _ = None

-- ---- what a command reads of the fields after its word

unfoldable pub check_result : ObjectKind → Fields → Option Act
check_result kind fields =
    of_both check_result_act (object_in kind fields)
    (check_result_in kind (after_object kind fields))

unfoldable pub comment : ObjectKind → Fields → Option Act
comment kind fields =
    of_both comment_act (object_in kind fields) (comment_in (after_object kind fields))

unfoldable pub acknowledgement : ObjectKind → Fields → Option Act
acknowledgement kind fields =
    of_both acknowledgement_act (object_in kind fields)
    (acknowledgement_in (after_object kind fields))

unfoldable pub downtime : ObjectKind → Fields → Option Act
downtime kind fields =
    of_both downtime_act (object_in kind fields) (downtime_in (after_object kind fields))

-- What follows the last field of the others is ignored.
abbrev pub of_host : (HostId → Act) → Fields → Option Act
of_host make fields = option_map make (host_in fields)

abbrev pub of_service : (ServiceId → Act) → Fields → Option Act
of_service make fields = option_map make (service_in fields)

abbrev pub of_number : (ℕ → Act) → Fields → Option Act
of_number make fields = option_map make (number_in fields)

abbrev pub without_fields : Act → Fields → Option Act
without_fields act fields = Some act

-- ---- the table

-- A command's word, with what it reads of the fields after it. These have texts among their fields,
abbrev pub text_commands : List (List ℕ × (Fields → Option Act))
text_commands =
    (codes "PROCESS_HOST_CHECK_RESULT", check_result kind.Host)
    ∷ (codes "PROCESS_SERVICE_CHECK_RESULT", check_result kind.Service)
    ∷ (codes "ADD_HOST_COMMENT", comment kind.Host)
    ∷ (codes "ADD_SVC_COMMENT", comment kind.Service)
    ∷ (codes "ACKNOWLEDGE_HOST_PROBLEM", acknowledgement kind.Host)
    ∷ (codes "ACKNOWLEDGE_SVC_PROBLEM", acknowledgement kind.Service)
    ∷ (codes "SCHEDULE_HOST_DOWNTIME", downtime kind.Host)
    ∷ (codes "SCHEDULE_SVC_DOWNTIME", downtime kind.Service)
    ∷ []

-- and these have a number or the name of an object, or no field.
abbrev pub short_commands : List (List ℕ × (Fields → Option Act))
short_commands =
    (codes "DEL_HOST_COMMENT", of_number act.DelHostComment)
    ∷ (codes "DEL_SVC_COMMENT", of_number act.DelSvcComment)
    ∷ (codes "REMOVE_HOST_ACKNOWLEDGEMENT", of_host act.RemoveHostAcknowledgement)
    ∷ (codes "REMOVE_SVC_ACKNOWLEDGEMENT", of_service act.RemoveSvcAcknowledgement)
    ∷ (codes "DEL_HOST_DOWNTIME", of_number act.DelHostDowntime)
    ∷ (codes "DEL_SVC_DOWNTIME", of_number act.DelSvcDowntime)
    ∷ (codes "ENABLE_HOST_NOTIFICATIONS", of_host act.EnableHostNotifications)
    ∷ (codes "ENABLE_SVC_NOTIFICATIONS", of_service act.EnableSvcNotifications)
    ∷ (codes "DISABLE_HOST_NOTIFICATIONS", of_host act.DisableHostNotifications)
    ∷ (codes "DISABLE_SVC_NOTIFICATIONS", of_service act.DisableSvcNotifications)
    ∷ (codes "ENABLE_NOTIFICATIONS", without_fields act.EnableNotifications)
    ∷ (codes "DISABLE_NOTIFICATIONS", without_fields act.DisableNotifications)
    ∷ []

abbrev pub commands : List (List ℕ × (Fields → Option Act))
commands = text_commands ++ short_commands

-- what the one of some commands that has a word reads; None where none has it
abbrev pub command_named :
    List (List ℕ × (Fields → Option Act)) → List ℕ → Option (Fields → Option Act)
command_named rows word = option_map (λ row. row.1) (find (λ row. bytes_eq word row.0) rows)

-- ---- what a command does

-- by its word and the fields after it; None where no command has the word, or a field is faulty
unfoldable pub act_by : List ℕ → Fields → Option Act
act_by word fields = option_and_then (λ command. command fields) (command_named commands word)

-- the same of the commands without texts alone
unfoldable pub short_act_by : List ℕ → Fields → Option Act
short_act_by word fields =
    option_and_then (λ command. command fields) (command_named short_commands word)

unfoldable pub act_in : Fields → Option Act
act_in fields = option_and_then (λ word. act_by word (later fields)) (field fields)

-- an unknown word and a faulty field have no effect
unfoldable pub act_of : Base → List ℕ → Act
act_of base text = unwrap_or (act_in (all_fields base text)) act.Unknown
