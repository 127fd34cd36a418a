-- The columns on a time period.
use Rattle.std.specs.Prelude.{List, codes, [], ◌∷◌}
use Rattle.lq_schema.specs.Heading.{Heading, heading}
use Rattle.lq_schema.specs.declared.period.PeriodColumn.{PeriodColumn}
use Rattle.lq_schema.specs.declared.period.PeriodColumn.TheVariants as period
use Rattle.lq_schema.specs.declared.columns.ColKind.TheVariants as kind

abbrev pub period_heading : PeriodColumn → Heading
period_heading period.Name = heading (codes "name") kind.Str
period_heading period.Alias = heading (codes "alias") kind.Str
period_heading period.In = heading (codes "in") kind.Int

-- in order
abbrev pub period_columns : List PeriodColumn
period_columns =
    period.Name ∷ period.Alias ∷ period.In ∷ []
