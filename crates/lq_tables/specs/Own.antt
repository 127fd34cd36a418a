-- The rows of downtimes, comments and lines of the log, each about its own, and the ids of the
-- first two.
use Rattle.std.specs.Prelude.{◌≡◌, ℕ, ◌&&◌, Some, List, map, filter}
use Rattle.lq_schema.specs.declared.columns.Table.{Table}
use Rattle.lq_schema.specs.declared.columns.Table.TheVariants as table
use Rattle.lq_live.specs.Ids.{IdsRise}
use Rattle.lq_live.specs.State.{State}
use Rattle.lq_auth.specs.Rights.{sees_object}
use Rattle.lq_auth.specs.declared.view.View.{View}
use Rattle.lq_tables.specs.About.{row_comment, row_downtime, row_line}
use Rattle.lq_tables.specs.Rows.{is_within, sees_entry}
use Rattle.lq_tables.specs.declared.row.Row.{Row}
use Rattle.lq_tables.specs.declared.row.Row.TheVariants as row
use Rattle.lq_tables.specs.declared.window.Window.{Window}

-- the rows of the downtimes are about those that are seen, one after the other, those of the
-- comments likewise, and those of the log about the lines within the window that are seen
abbrev pub IsOwn : State → View → Window → Table → List Row → Type 0
IsOwn s view window table.Downtimes rows =
    map (row_downtime s) rows
    ≡ map Some (filter (λ downtime. sees_object view downtime.object) s.downtimes)
IsOwn s view window table.Comments rows =
    map (row_comment s) rows
    ≡ map Some (filter (λ comment. sees_object view comment.object) s.comments)
IsOwn s view window table.Log rows =
    map (row_line s) rows
    ≡ map Some (filter (λ line. is_within window line && sees_entry s.base view line) s.log)
IsOwn s view window table rows = Unit {0}

-- the id of the downtime or of the comment that a row names
abbrev pub row_id : Row → ℕ
row_id (row.Downtime id) = id
row_id (row.Comment id) = id
row_id row = 0

-- the ids of the rows of the downtimes rise from row to row, below the next downtime's id, and
-- those of the comments below the next comment's; so no two rows have the same
abbrev pub HasIdsRising : State → Table → List Row → Type 0
HasIdsRising s table.Downtimes rows = IdsRise row_id 0 s.next_downtime rows
HasIdsRising s table.Comments rows = IdsRise row_id 0 s.next_comment rows
HasIdsRising s table rows = Unit {0}
