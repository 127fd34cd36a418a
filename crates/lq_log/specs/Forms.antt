-- The forms of a log line: each has a name, a class, a kind and fields.
use Rattle.std.specs.Prelude.{ℕ, pos, Option, List, [], ◌∷◌, find, bytes_eq, codes}
use Rattle.std.specs.Option.{option_map}
use Rattle.lq_events.specs.declared.log_entry.Kind.{Kind}
use Rattle.lq_events.specs.declared.log_entry.Kind.TheVariants as kind
use Rattle.lq_log.specs.declared.field.Field.{Field}
use Rattle.lq_log.specs.declared.field.Field.TheVariants as field

pub record LineForm : Type 0 where
  pub class : ℕ
  pub kind : Kind
  pub fields : List Field

abbrev form : ℕ → Kind → List Field → LineForm
form class kind fields = record { class = class; kind = kind; fields = fields }

-- ---- fields

-- the fields of a host's state, and of a service's
abbrev pub host_state : List Field
host_state =
    field.HostName ∷ field.HostState ∷ field.StateType ∷ field.Attempt ∷ field.PluginOutput ∷ []

abbrev pub service_state : List Field
service_state =
    field.HostName ∷ field.ServiceDescription ∷ field.ServiceState ∷ field.StateType ∷ field.Attempt
    ∷ field.PluginOutput ∷ []

-- the fields of a host's downtime or flapping, and of a service's
abbrev pub host_change : Field → List Field
host_change word = field.HostName ∷ word ∷ field.Comment ∷ []

abbrev pub service_change : Field → List Field
service_change word = field.HostName ∷ field.ServiceDescription ∷ word ∷ field.Comment ∷ []

abbrev pub host_notification : List Field
host_notification =
    field.ContactName ∷ field.HostName ∷ field.HostWord ∷ field.CommandName
    ∷ field.PluginOutput ∷ []

abbrev pub service_notification : List Field
service_notification =
    field.ContactName ∷ field.HostName ∷ field.ServiceDescription ∷ field.ServiceWord
    ∷ field.CommandName ∷ field.PluginOutput ∷ []

abbrev pub host_check : List Field
host_check = field.HostName ∷ field.Code ∷ field.PluginOutput ∷ []

abbrev pub service_check : List Field
service_check = field.HostName ∷ field.ServiceDescription ∷ field.Code ∷ field.PluginOutput ∷ []

abbrev pub transition : List Field
transition = field.PeriodName ∷ field.From ∷ field.To ∷ []

-- a transition of which nothing is known yet
abbrev pub no_transition : Kind
no_transition = kind.TimeperiodTransition [] (pos 0) (pos 0)

-- ---- the table

-- Each name with its form. The classes: 1 alert, 3 notification, 4 passive check, 5 external
-- command, 6 state or transition.
abbrev pub forms : List (List ℕ × LineForm)
forms =
    (codes "HOST ALERT", form 1 kind.HostAlert host_state)
    ∷ (codes "SERVICE ALERT", form 1 kind.ServiceAlert service_state)
    ∷ (codes "CURRENT HOST STATE", form 6 kind.CurrentHostState host_state)
    ∷ (codes "INITIAL HOST STATE", form 6 kind.InitialHostState host_state)
    ∷ (codes "CURRENT SERVICE STATE", form 6 kind.CurrentServiceState service_state)
    ∷ (codes "INITIAL SERVICE STATE", form 6 kind.InitialServiceState service_state)
    ∷ (codes "HOST DOWNTIME ALERT", form 1 kind.HostDowntimeAlert (host_change field.DowntimeWord))
    ∷ (
      codes "SERVICE DOWNTIME ALERT",
      form 1 kind.ServiceDowntimeAlert (service_change field.DowntimeWord),
    )
    ∷ (codes "HOST FLAPPING ALERT", form 1 kind.HostFlappingAlert (host_change field.FlappingWord))
    ∷ (
      codes "SERVICE FLAPPING ALERT",
      form 1 kind.ServiceFlappingAlert (service_change field.FlappingWord),
    )
    ∷ (codes "HOST NOTIFICATION", form 3 kind.HostNotification host_notification)
    ∷ (codes "SERVICE NOTIFICATION", form 3 kind.ServiceNotification service_notification)
    ∷ (codes "EXTERNAL COMMAND", form 5 kind.ExternalCommand [])
    ∷ (codes "PASSIVE HOST CHECK", form 4 kind.PassiveHostCheck host_check)
    ∷ (codes "PASSIVE SERVICE CHECK", form 4 kind.PassiveServiceCheck service_check)
    ∷ (codes "TIMEPERIOD TRANSITION", form 6 no_transition transition)
    ∷ []

-- the form with a name
abbrev pub form_named : List ℕ → Option LineForm
form_named name = option_map (λ row. row.1) (find (λ row. bytes_eq name row.0) forms)
