-- Columns whose values take no memory, those whose values stand in the state as they are, and those
-- whose lists are searched without a copy.
use Rattle.lq_schema.specs.declared.columns.ColKind.{ColKind}
use Rattle.lq_schema.specs.declared.columns.ColKind.TheVariants as kind
use Rattle.lq_schema.specs.declared.host.HostColumn.{HostColumn}
use Rattle.lq_schema.specs.declared.host.HostColumn.TheVariants as host
use Rattle.lq_schema.specs.declared.object.ObjectColumn.{ObjectColumn}
use Rattle.lq_schema.specs.declared.object.ObjectColumn.TheVariants as object
use Rattle.lq_schema.specs.declared.service.ServiceColumn.{ServiceColumn}
use Rattle.lq_schema.specs.declared.service.ServiceColumn.TheVariants as service
use Rattle.lq_schema.specs.declared.status.StatusColumn.{StatusColumn}
use Rattle.lq_schema.specs.declared.status.StatusColumn.TheVariants as status

-- numbers and single texts
abbrev pub IsPlain : ColKind → Type 0
IsPlain kind.Int = Unit {0}
IsPlain kind.Str = Unit {0}
IsPlain kind.List = ⊥
IsPlain kind.Nums = ⊥
IsPlain kind.Pairs = ⊥

-- numbers
abbrev pub HasNumbers : ColKind → Type 0
HasNumbers kind.Int = Unit {0}
HasNumbers kind.Str = ⊥
HasNumbers kind.List = ⊥
HasNumbers kind.Nums = ⊥
HasNumbers kind.Pairs = ⊥

-- single texts
abbrev pub HasTexts : ColKind → Type 0
HasTexts kind.Int = ⊥
HasTexts kind.Str = Unit {0}
HasTexts kind.List = ⊥
HasTexts kind.Nums = ⊥
HasTexts kind.Pairs = ⊥

-- ---- columns that count nothing

-- the depth counts downtimes, and flapping and the period follow the log
abbrev pub IsHeldByStatus : StatusColumn → Type 0
IsHeldByStatus status.ScheduledDowntimeDepth = ⊥
IsHeldByStatus status.IsFlapping = ⊥
IsHeldByStatus status.InNotificationPeriod = ⊥
IsHeldByStatus column = Unit {0}

-- the counters count services
abbrev pub IsHeldByHost : HostColumn → Type 0
IsHeldByHost (host.Status column) = IsHeldByStatus column
IsHeldByHost (host.Counter column) = ⊥
IsHeldByHost column = Unit {0}

abbrev pub IsHeldByService : ServiceColumn → Type 0
IsHeldByService (service.Status column) = IsHeldByStatus column
IsHeldByService column = Unit {0}

-- ---- columns whose lists are searched where their texts stand

-- the contacts and the contact groups
abbrev pub IsSearchedColumn : ObjectColumn → Type 0
IsSearchedColumn object.Contacts = Unit {0}
IsSearchedColumn object.ContactGroups = Unit {0}
IsSearchedColumn column = ⊥

abbrev pub IsSearchedAtHost : HostColumn → Type 0
IsSearchedAtHost (host.Object column) = IsSearchedColumn column
IsSearchedAtHost column = ⊥

abbrev pub IsSearchedAtService : ServiceColumn → Type 0
IsSearchedAtService (service.Object column) = IsSearchedColumn column
IsSearchedAtService column = ⊥
