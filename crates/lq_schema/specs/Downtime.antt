-- The columns on a downtime.
use Rattle.std.specs.Prelude.{List, codes, [], ◌∷◌}
use Rattle.lq_schema.specs.Heading.{Heading, heading}
use Rattle.lq_schema.specs.declared.downtime.DowntimeColumn.{DowntimeColumn}
use Rattle.lq_schema.specs.declared.downtime.DowntimeColumn.TheVariants as downtime
use Rattle.lq_schema.specs.declared.columns.ColKind.TheVariants as kind

abbrev pub downtime_heading : DowntimeColumn → Heading
downtime_heading downtime.Id = heading (codes "id") kind.Int
downtime_heading downtime.Author = heading (codes "author") kind.Str
downtime_heading downtime.Comment = heading (codes "comment") kind.Str
downtime_heading downtime.EntryTime = heading (codes "entry_time") kind.Int
downtime_heading downtime.StartTime = heading (codes "start_time") kind.Int
downtime_heading downtime.EndTime = heading (codes "end_time") kind.Int
downtime_heading downtime.Fixed = heading (codes "fixed") kind.Int
downtime_heading downtime.Duration = heading (codes "duration") kind.Int
downtime_heading downtime.TriggeredBy = heading (codes "triggered_by") kind.Int
downtime_heading downtime.IsService = heading (codes "is_service") kind.Int

-- in order
abbrev pub downtime_columns : List DowntimeColumn
downtime_columns =
    downtime.Id ∷ downtime.Author ∷ downtime.Comment ∷ downtime.EntryTime ∷ downtime.StartTime
    ∷ downtime.EndTime ∷ downtime.Fixed ∷ downtime.Duration ∷ downtime.TriggeredBy
    ∷ downtime.IsService ∷ []
