-- Rows that are counted, block by block.
use Rattle.std.specs.Prelude.{◌≡◌, ◌+◌, ℕ, suc, Bool, List, [], ◌∷◌, ◌++◌, length, if◌then◌else◌}
use Rattle.lq_request.specs.declared.entry.StatEntry.{StatEntry}
use Rattle.lq_request.specs.declared.entry.StatEntry.TheVariants as entry
use Rattle.lq_stats.specs.Columns.{cells_at}
use Rattle.lq_stats.specs.Grouped.{AreGroupsOf, Grouped}
use Rattle.lq_stats.specs.Groups.{Key}
use Rattle.lq_stats.specs.Groups.{Row as StatsRow}
use Rattle.lq_tables.specs.declared.row.Row.{Row}
use Rattle.lq_stats.specs.declared.cell.StatCell.{StatCell}
use Rattle.lq_query.specs.declared.entry.ReadyEntry.{ReadyEntry}
use Rattle.lq_query.specs.declared.entry.ReadyEntry.TheVariants as ready

-- the entry that is made ready
abbrev pub entry_of_ready : ReadyEntry → StatEntry
entry_of_ready (ready.Count filter) = entry.Count filter
entry_of_ready (ready.Over kind column) = entry.Over kind column

-- the rows were counted beside those before, and no key is begun
pub record Counts (old new : Grouped) (rows : List StatsRow) : Type 0 where
  pub spec : new.spec ≡ old.spec
  pub next : new.next ≡ []
  pub count : new.count ≡ old.count + length rows
  pub groups : (before : List StatsRow) → AreGroupsOf old before → AreGroupsOf new (before ++ rows)

-- The rows that are marked, as statistics see them: the key of each, and its cells, of which each
-- statistic has a column. The first row stands in a place.
abbrev pub counted_from : (Row → Key) → ℕ → List Bool → List Row → List (List StatCell)
    → List StatsRow
counted_from key place [] rows columns = []
counted_from key place (mark ∷ marks) [] columns = []
counted_from key place (mark ∷ marks) (row ∷ rows) columns =
    if mark then record { key = key row; cells = cells_at place columns }
    ∷ counted_from key (suc place) marks rows columns
    else counted_from key (suc place) marks rows columns
