-- The names of tables and columns.
use Rattle.std.specs.Prelude.{ℕ, List, codes, [], ◌++◌}
use Rattle.lq_schema.specs.Order.{own_heading}
use Rattle.lq_schema.specs.declared.columns.Table.{Table}
use Rattle.lq_schema.specs.declared.columns.Table.TheVariants as table
use Rattle.lq_schema.specs.declared.columns.Subject.{Subject}
use Rattle.lq_schema.specs.declared.columns.Subject.TheVariants as subject
use Rattle.lq_schema.specs.declared.columns.OwnColumn.{OwnColumn}
use Rattle.lq_schema.specs.declared.columns.Prefix.{Prefix}
use Rattle.lq_schema.specs.declared.columns.Prefix.TheVariants as prefix
use Rattle.lq_schema.specs.declared.columns.Col.{Col}

abbrev pub table_name : Table → List ℕ
table_name table.Hosts = codes "hosts"
table_name table.Services = codes "services"
table_name table.HostGroups = codes "hostgroups"
table_name table.ServiceGroups = codes "servicegroups"
table_name table.Contacts = codes "contacts"
table_name table.ContactGroups = codes "contactgroups"
table_name table.Commands = codes "commands"
table_name table.TimePeriods = codes "timeperiods"
table_name table.Downtimes = codes "downtimes"
table_name table.Comments = codes "comments"
table_name table.Log = codes "log"
table_name table.Status = codes "status"
table_name table.Columns = codes "columns"
table_name table.HostsByGroup = codes "hostsbygroup"
table_name table.ServicesByGroup = codes "servicesbygroup"
table_name table.ServicesByHostGroup = codes "servicesbyhostgroup"
table_name table.StateHist = codes "statehist"

-- what stands before the names of joined columns
abbrev pub prefix_text : Prefix → List ℕ
prefix_text prefix.Own = []
prefix_text prefix.Host = codes "host_"
prefix_text prefix.Service = codes "service_"
prefix_text prefix.HostGroup = codes "hostgroup_"
prefix_text prefix.ServiceGroup = codes "servicegroup_"
prefix_text prefix.CurrentHost = codes "current_host_"
prefix_text prefix.CurrentService = codes "current_service_"

-- what a table of a subject may have before the names of its own columns
abbrev pub own_prefix : Subject → List ℕ
own_prefix subject.Host = codes "host_"
own_prefix subject.Service = codes "service_"
own_prefix subject.HostGroup = codes "hostgroup_"
own_prefix subject.ServiceGroup = codes "servicegroup_"
own_prefix subject.Contact = codes "contact_"
own_prefix subject.ContactGroup = codes "contactgroup_"
own_prefix subject.Command = codes "command_"
own_prefix subject.Period = codes "timeperiod_"
own_prefix subject.Downtime = codes "downtime_"
own_prefix subject.Comment = codes "comment_"
own_prefix subject.Line = codes "log_"
own_prefix subject.Slice = codes "statehist_"
own_prefix subject.Program = codes "status_"
own_prefix subject.Schema = codes "column_"

-- the name of a column on its subject
abbrev pub own_name : OwnColumn → List ℕ
own_name column = (own_heading column).name

-- the whole name of a column
abbrev pub full_name : Col → List ℕ
full_name column = prefix_text column.prefix ++ own_name column.own
