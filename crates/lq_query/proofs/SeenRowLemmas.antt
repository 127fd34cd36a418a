-- The rows of each table, at states that agree in what a view shows.
use Rattle.std.proofs.Common.{◌≡◌, ℕ, Bool, true, false, ◌&&◌, Option, Some, None, IfSome, List, [], ◌∷◌, ◌++◌, map, filter, refl, sym, ap, ◌∙◌}
use Rattle.std.specs.List.{flat_map}
use Rattle.std.specs.Option.{option_and_then, option_map}
use Rattle.lq_records.specs.declared.base.Base.{Base}
use Rattle.lq_records.specs.declared.base.HostGroup.{HostGroup}
use Rattle.lq_records.specs.declared.base.Period.{Period}
use Rattle.lq_records.specs.declared.base.Service.{Service}
use Rattle.lq_records.specs.declared.base.ServiceGroup.{ServiceGroup}
use Rattle.lq_records.specs.declared.ids.HostGroupId.{HostGroupId}
use Rattle.lq_records.specs.declared.ids.HostId.{HostId}
use Rattle.lq_records.specs.declared.object.Object.{Object}
use Rattle.lq_records.specs.declared.object.Object.TheVariants as object
use Rattle.lq_events.specs.declared.log_entry.LogEntry.{LogEntry}
use Rattle.lq_events.specs.declared.status.Comment.{Comment}
use Rattle.lq_events.specs.declared.status.Downtime.{Downtime}
use Rattle.lq_schema.specs.declared.columns.Col.{Col}
use Rattle.lq_schema.specs.declared.columns.OwnColumn.{OwnColumn}
use Rattle.lq_schema.specs.declared.columns.OwnColumn.TheVariants as own
use Rattle.lq_schema.specs.declared.columns.Table.{Table}
use Rattle.lq_schema.specs.declared.columns.Table.TheVariants as table
use Rattle.lq_schema.specs.declared.period.PeriodColumn.{PeriodColumn}
use Rattle.lq_schema.specs.declared.period.PeriodColumn.TheVariants as period
use Rattle.lq_schema.specs.declared.program.ProgramColumn.{ProgramColumn}
use Rattle.lq_schema.specs.declared.program.ProgramColumn.TheVariants as program
use Rattle.lq_schema.specs.Kinds.{program_kind}
use Rattle.lq_schema.specs.Value.{Value, empty_value}
use Rattle.lq_live.specs.Ids.{HasRisingIds}
use Rattle.lq_log.specs.Told.{object_of}
use Rattle.lq_live.specs.State.{State}
use Rattle.lq_auth.specs.Rights.{sees_host, sees_host_group, sees_object, sees_service, sees_service_group}
use Rattle.lq_auth.specs.Lines.{is_open, sees_line}
use Rattle.lq_auth.specs.declared.view.View.{View}
use Rattle.lq_auth.specs.declared.view.View.TheVariants.{All, Only}
use Rattle.lq_tables.specs.About.{host_of_object, row_comment, row_downtime, row_host_group, row_line, row_object, row_period, row_service_group, row_slice, service_of_object}
use Rattle.lq_columns.specs.Cells.{flag}
use Rattle.lq_tables.specs.Cells.{cell_of, contact_group_cell, host_group_part, host_part, own_cell, service_group_part, service_part}
use Rattle.lq_tables.specs.Parts.{command_cell, comment_cell, contact_cell, downtime_cell, line_cell, period_cell, program_cell, program_part, schema_cell}
use Rattle.lq_tables.specs.Rows.{group_service_rows, has_line_within, host_group_rows, is_within, with_places, places_of, rows_of, sees_entry, sees_row, service_group_rows, service_rows, table_rows}
use Rattle.lq_tables.specs.declared.row.Row.{Row}
use Rattle.lq_tables.specs.declared.row.Row.TheVariants as row
use Rattle.lq_tables.specs.declared.window.Window.{Window}
use Rattle.lq_statehist.specs.Laws.{HaveOutputs, IsOwnHistory}
use Rattle.lq_tables.specs.Slices.{slice_cell}
use Rattle.lq_tables.proofs.OwnLemmas.{own_of}
use Rattle.lq_query.specs.Rows.{seen_rows}
use Rattle.lq_query.specs.Isolation.{AgreesIn, is_line_shown, is_shown}
use Rattle.lq_query.proofs.KeptLemmas.{kept_of_same, made_of, twice_kept}
use Rattle.lq_query.proofs.SliceLemmas.{slices_same}
use Rattle.lq_query.proofs.ToldLemmas.{period_agrees}
use Rattle.lq_query.proofs.ShownLemmas.{and_right, host_column_same, host_group_same, like, seen_shown, service_column_same, service_group_same}

-- ---- rows that the base alone has

-- a row that is about no downtime, no comment, no line and no slice of a history
abbrev is_fixed : Row → Bool
is_fixed (row.Downtime id) = false
is_fixed (row.Comment id) = false
is_fixed (row.Line place) = false
is_fixed (row.Slice history) = false
is_fixed each = true

abbrev AreFixed : List Row → Type 0
AreFixed [] = Unit {0}
AreFixed (each ∷ rows) = (is_fixed each ≡ true) × AreFixed rows

fixed_map : {A : Type 0} (made : A → Row) → ((item : A) → is_fixed (made item) ≡ true) → (items : List A) → AreFixed (map made items)
fixed_map made fixed [] = tt
fixed_map made fixed (item ∷ items) = (fixed item, fixed_map made fixed items)

fixed_both : (front back : List Row) → AreFixed front → AreFixed back → AreFixed (front ++ back)
fixed_both [] back front_fixed back_fixed = back_fixed
fixed_both (each ∷ front) back front_fixed back_fixed = (front_fixed.0, fixed_both front back front_fixed.1 back_fixed)

fixed_flat : {A : Type 0} (made : A → List Row) → ((item : A) → AreFixed (made item)) → (items : List A) → AreFixed (flat_map made items)
fixed_flat made fixed [] = tt
fixed_flat made fixed (item ∷ items) = fixed_both (made item) (flat_map made items) (fixed item) (fixed_flat made fixed items)

hosts_fixed : (item : ℕ × HostGroup) → AreFixed (host_group_rows item)
hosts_fixed (place, group) = fixed_map (row.HostOf (record { 0 = place })) (λ id. refl) group.members

services_fixed : (item : ℕ × ServiceGroup) → AreFixed (service_group_rows item)
services_fixed (place, group) = fixed_map (row.ServiceOf (record { 0 = place })) (λ id. refl) group.members

host_services_fixed : (services : List Service) (group : HostGroupId) (host : HostId) → AreFixed (service_rows services group host)
host_services_fixed services group host = fixed_map (λ place. row.GroupService group (record { 0 = place })) (λ place. refl) _

group_services_fixed : (services : List Service) (item : ℕ × HostGroup) → AreFixed (group_service_rows services item)
group_services_fixed services (place, group) =
    fixed_flat (service_rows services (record { 0 = place })) (host_services_fixed services (record { 0 = place })) group.members

-- a line about an object is seen where the object is
object_seen : (view : View) (about : Object) (entry : LogEntry) → sees_line view (Some about) entry ≡ true → sees_object view about ≡ true
object_seen All (object.Host id) entry sees = refl
object_seen All (object.Service id) entry sees = refl
object_seen (Only seen) about entry sees = sees

known_line : (view : View) (base : Base) (entry : LogEntry) → ((about : Object) → sees_object view about ≡ true → is_shown base view about ≡ true)
    → (about : Option Object) → object_of base entry ≡ about → sees_line view about entry ≡ true → is_line_shown base view entry ≡ true
known_line All base entry shows about is sees = refl
known_line (Only seen) base entry shows None is sees = rw is (and_right seen.known (is_open entry) sees)
known_line (Only seen) base entry shows (Some about) is sees = rw is (shows about sees)

module _ (s t : State) (view : View) (agree : AgreesIn view s (like s t)) (window : Window) where
  program_cell_same : (column : ProgramColumn) → program_cell s column ≡ program_cell (like s t) column
  program_cell_same program.ProgramVersion = refl
  program_cell_same _ = refl

  program_same : (each : Row) (column : ProgramColumn) → program_part s each column ≡ program_part (like s t) each column
  program_same row.Status column = program_cell_same column
  program_same _ column = refl

  period_same : (found : Option Period) (column : PeriodColumn) → period_cell s found column ≡ period_cell (like s t) found column
  period_same None column = refl
  period_same (Some found) period.In = ap flag (period_agrees s.base view s.log t.log agree.lines found.timeperiod_name)
  period_same (Some found) _ = refl

  cells_of_row : (each : Row) (about : Option Object) → row_object s each ≡ about → row_object (like s t) each ≡ about
      → IfSome about (λ found. is_shown s.base view found ≡ true) → row_downtime s each ≡ row_downtime (like s t) each → row_comment s each ≡ row_comment (like s t) each
      → row_line s each ≡ row_line (like s t) each → row_slice each ≡ None → (column : OwnColumn) → own_cell s view each column ≡ own_cell (like s t) view each column
  cells_of_row each about here there shown downtime comment line slice (own.Host column) =
      ap (λ found. host_part s view (option_and_then (host_of_object s) found) column) here ∙ host_column_same s t view agree about shown column
      ∙ sym (ap (λ found. host_part (like s t) view (option_and_then (host_of_object (like s t)) found) column) there)
  cells_of_row each about here there shown downtime comment line slice (own.Service column) =
      ap (λ found. service_part s (option_and_then (service_of_object s) found) column) here ∙ service_column_same s t view agree about shown column
      ∙ sym (ap (λ found. service_part (like s t) (option_and_then (service_of_object (like s t)) found) column) there)
  cells_of_row each about here there shown downtime comment line slice (own.HostGroup column) = host_group_same s t view agree (row_host_group s.base each) column
  cells_of_row each about here there shown downtime comment line slice (own.ServiceGroup column) = service_group_same s t view agree (row_service_group s.base each) column
  cells_of_row each about here there shown downtime comment line slice (own.Downtime column) = ap (λ found. downtime_cell found column) downtime
  cells_of_row each about here there shown downtime comment line slice (own.Comment column) = ap (λ found. comment_cell found column) comment
  cells_of_row each about here there shown downtime comment line slice (own.Line column) = ap (λ found. line_cell found column) line
  cells_of_row each about here there shown downtime comment line slice (own.Program column) = program_same each column
  cells_of_row each about here there shown downtime comment line slice (own.Period column) = period_same (row_period s.base each) column
  cells_of_row each about here there shown downtime comment line slice (own.Slice column) =
      ap (λ found. slice_cell s found column) slice ∙ sym (ap (λ found. slice_cell (like s t) found column) slice)
  cells_of_row each about here there shown downtime comment line slice _ = refl

  row_same : (each : Row) → is_fixed each ≡ true → sees_row s view each ≡ true → cell_of s view each ≡ cell_of (like s t) view each
  row_same (row.Host id) fixed sees =
      λ i column. cells_of_row (row.Host id) (Some (object.Host id)) refl refl (seen_shown s t view agree (object.Host id) sees) refl refl refl refl column.own i
  row_same (row.Service id) fixed sees =
      λ i column. cells_of_row (row.Service id) (Some (object.Service id)) refl refl (seen_shown s t view agree (object.Service id) sees) refl refl refl refl column.own i
  row_same (row.HostOf group id) fixed sees =
      λ i column. cells_of_row (row.HostOf group id) (Some (object.Host id)) refl refl
      (seen_shown s t view agree (object.Host id) (and_right (sees_host_group view group) (sees_host view id) sees)) refl refl refl refl column.own i
  row_same (row.ServiceOf group id) fixed sees =
      λ i column. cells_of_row (row.ServiceOf group id) (Some (object.Service id)) refl refl
      (seen_shown s t view agree (object.Service id) (and_right (sees_service_group view group) (sees_service view id) sees)) refl refl refl refl column.own i
  row_same (row.GroupService group id) fixed sees =
      λ i column. cells_of_row (row.GroupService group id) (Some (object.Service id)) refl refl
      (seen_shown s t view agree (object.Service id) (and_right (sees_host_group view group) (sees_service view id) sees)) refl refl refl refl column.own i
  row_same (row.HostGroup id) fixed sees = λ i column. cells_of_row (row.HostGroup id) None refl refl tt refl refl refl refl column.own i
  row_same (row.ServiceGroup id) fixed sees = λ i column. cells_of_row (row.ServiceGroup id) None refl refl tt refl refl refl refl column.own i
  row_same (row.Contact id) fixed sees = λ i column. cells_of_row (row.Contact id) None refl refl tt refl refl refl refl column.own i
  row_same (row.ContactGroup id) fixed sees = λ i column. cells_of_row (row.ContactGroup id) None refl refl tt refl refl refl refl column.own i
  row_same (row.Command id) fixed sees = λ i column. cells_of_row (row.Command id) None refl refl tt refl refl refl refl column.own i
  row_same (row.Period id) fixed sees = λ i column. cells_of_row (row.Period id) None refl refl tt refl refl refl refl column.own i
  row_same row.Status fixed sees = λ i column. cells_of_row row.Status None refl refl tt refl refl refl refl column.own i
  row_same (row.Column place) fixed sees = λ i column. cells_of_row (row.Column place) None refl refl tt refl refl refl refl column.own i
  row_same (row.Downtime id) fixed sees = absurd (cc)
  row_same (row.Comment id) fixed sees = absurd (cc)
  row_same (row.Line place) fixed sees = absurd (cc)
  row_same (row.Slice history) fixed sees = absurd (cc)

  sees_same : (each : Row) → is_fixed each ≡ true → sees_row s view each ≡ sees_row (like s t) view each
  sees_same (row.Downtime id) fixed = absurd (cc)
  sees_same (row.Comment id) fixed = absurd (cc)
  sees_same (row.Line place) fixed = absurd (cc)
  sees_same _ fixed = refl

  fixed_first : (each : Row) (rows : List Row) (is : Bool) → sees_row s view each ≡ is → is_fixed each ≡ true
      → map (cell_of s view) (filter (sees_row s view) rows) ≡ map (cell_of (like s t) view) (filter (sees_row (like s t) view) rows)
      → map (cell_of s view) (filter (sees_row s view) (each ∷ rows)) ≡ map (cell_of (like s t) view) (filter (sees_row (like s t) view) (each ∷ rows))
  fixed_first each rows true is fixed rest =
      let there : sees_row (like s t) view each ≡ true = sym (sees_same each fixed) ∙ is in
      rw (is, there, row_same each fixed is, rest) refl
  fixed_first each rows false is fixed rest = let there : sees_row (like s t) view each ≡ false = sym (sees_same each fixed) ∙ is in rw (is, there) rest

  fixed_same : (rows : List Row) → AreFixed rows
      → map (cell_of s view) (filter (sees_row s view) rows) ≡ map (cell_of (like s t) view) (filter (sees_row (like s t) view) rows)
  fixed_same [] fixed = refl
  fixed_same (each ∷ rows) fixed = fixed_first each rows (sees_row s view each) refl fixed.0 (fixed_same rows fixed.1)

  -- ---- downtimes, comments and lines

  -- the cells of a downtime, of a comment or of a line about an object
  abbrev remark_cell : State → Option Object → Option Downtime → Option Comment → Option LogEntry → OwnColumn → Value
  remark_cell at about downtime comment line (own.Host column) = host_part at view (option_and_then (host_of_object at) about) column
  remark_cell at about downtime comment line (own.Service column) = service_part at (option_and_then (service_of_object at) about) column
  remark_cell at about downtime comment line (own.HostGroup column) = host_group_part at view None column
  remark_cell at about downtime comment line (own.ServiceGroup column) = service_group_part at view None column
  remark_cell at about downtime comment line (own.Contact column) = contact_cell None column
  remark_cell at about downtime comment line (own.ContactGroup column) = contact_group_cell at.base None column
  remark_cell at about downtime comment line (own.Command column) = command_cell None column
  remark_cell at about downtime comment line (own.Period column) = period_cell at None column
  remark_cell at about downtime comment line (own.Downtime column) = downtime_cell downtime column
  remark_cell at about downtime comment line (own.Comment column) = comment_cell comment column
  remark_cell at about downtime comment line (own.Line column) = line_cell line column
  remark_cell at about downtime comment line (own.Slice column) = slice_cell at None column
  remark_cell at about downtime comment line (own.Program column) = empty_value (program_kind column)
  remark_cell at about downtime comment line (own.Schema column) = schema_cell None column

  remark_same : (about : Option Object) (downtime : Option Downtime) (comment : Option Comment) (line : Option LogEntry) → IfSome about (λ found. is_shown s.base view found ≡ true)
      → (column : OwnColumn) → remark_cell s about downtime comment line column ≡ remark_cell (like s t) about downtime comment line column
  remark_same about downtime comment line shown (own.Host column) = host_column_same s t view agree about shown column
  remark_same about downtime comment line shown (own.Service column) = service_column_same s t view agree about shown column
  remark_same about downtime comment line shown (own.ContactGroup column) = refl
  remark_same about downtime comment line shown _ = refl

  abbrev by_downtime : State → Option Downtime → Col → Value
  by_downtime at found column = remark_cell at (option_map (λ downtime. downtime.object) found) found None None column.own

  abbrev by_comment : State → Option Comment → Col → Value
  by_comment at found column = remark_cell at (option_map (λ comment. comment.object) found) None found None column.own

  abbrev by_line : State → Option LogEntry → Col → Value
  by_line at found column = remark_cell at (option_and_then (object_of at.base) found) None None found column.own

  downtime_cells : (at : State) (id : ℕ) (column : OwnColumn) → own_cell at view (row.Downtime id) column
      ≡ remark_cell at (option_map (λ downtime. downtime.object) (row_downtime at (row.Downtime id))) (row_downtime at (row.Downtime id)) None None column
  downtime_cells at id (own.Host column) = refl
  downtime_cells at id _ = refl

  comment_cells : (at : State) (id : ℕ) (column : OwnColumn) → own_cell at view (row.Comment id) column
      ≡ remark_cell at (option_map (λ comment. comment.object) (row_comment at (row.Comment id))) None (row_comment at (row.Comment id)) None column
  comment_cells at id (own.Host column) = refl
  comment_cells at id _ = refl

  line_cells : (at : State) (place : ℕ) (column : OwnColumn) → own_cell at view (row.Line place) column
      ≡ remark_cell at (option_and_then (object_of at.base) (row_line at (row.Line place))) None None (row_line at (row.Line place)) column
  line_cells at place (own.Host column) = refl
  line_cells at place _ = refl

  downtimes_are : (at : State) → HasRisingIds at
      → seen_rows at view window table.Downtimes ≡ map (by_downtime at) (map Some (filter (λ downtime. sees_object view downtime.object) at.downtimes))
  downtimes_are at rising =
      made_of (cell_of at view) (by_downtime at) (row_downtime at) (sees_row at view) (λ (downtime : Downtime). row.Downtime downtime.id)
      (λ downtime. λ i column. downtime_cells at downtime.id column.own i) at.downtimes
      ∙ ap (map (by_downtime at)) (own_of at view window table.Downtimes (rows_of at view window table.Downtimes) rising refl)

  comments_are : (at : State) → HasRisingIds at
      → seen_rows at view window table.Comments ≡ map (by_comment at) (map Some (filter (λ comment. sees_object view comment.object) at.comments))
  comments_are at rising =
      made_of (cell_of at view) (by_comment at) (row_comment at) (sees_row at view) (λ (comment : Comment). row.Comment comment.id)
      (λ comment. λ i column. comment_cells at comment.id column.own i) at.comments
      ∙ ap (map (by_comment at)) (own_of at view window table.Comments (rows_of at view window table.Comments) rising refl)

  lines_are : (at : State) → HasRisingIds at
      → seen_rows at view window table.Log ≡ map (by_line at) (map Some (filter (λ line. is_within window line && sees_entry at.base view line) at.log))
  lines_are at rising =
      made_of (cell_of at view) (by_line at) (row_line at) (sees_row at view) row.Line
      (λ place. λ i column. line_cells at place column.own i) (filter (has_line_within window at.log) (places_of at.log))
      ∙ ap (map (by_line at)) (own_of at view window table.Log (rows_of at view window table.Log) rising refl)

  downtimes_same : HasRisingIds s → HasRisingIds (like s t) → seen_rows s view window table.Downtimes ≡ seen_rows (like s t) view window table.Downtimes
  downtimes_same here there =
      downtimes_are s here
      ∙ ap (λ (found : List Downtime). map (by_downtime s) (map Some found))
      (kept_of_same (λ (downtime : Downtime). sees_object view downtime.object) (λ downtime. is_shown s.base view downtime.object)
      (λ downtime sees. seen_shown s t view agree downtime.object sees) s.downtimes t.downtimes agree.downtimes)
      ∙ twice_kept (by_downtime s) (by_downtime (like s t)) Some (λ (downtime : Downtime). sees_object view downtime.object)
      (λ downtime sees. λ i column. remark_same (Some downtime.object) (Some downtime) None None (seen_shown s t view agree downtime.object sees) column.own i) t.downtimes
      ∙ sym (downtimes_are (like s t) there)

  comments_same : HasRisingIds s → HasRisingIds (like s t) → seen_rows s view window table.Comments ≡ seen_rows (like s t) view window table.Comments
  comments_same here there =
      comments_are s here
      ∙ ap (λ (found : List Comment). map (by_comment s) (map Some found))
      (kept_of_same (λ (comment : Comment). sees_object view comment.object) (λ comment. is_shown s.base view comment.object)
      (λ comment sees. seen_shown s t view agree comment.object sees) s.comments t.comments agree.comments)
      ∙ twice_kept (by_comment s) (by_comment (like s t)) Some (λ (comment : Comment). sees_object view comment.object)
      (λ comment sees. λ i column. remark_same (Some comment.object) None (Some comment) None (seen_shown s t view agree comment.object sees) column.own i) t.comments
      ∙ sym (comments_are (like s t) there)

  -- a query learns of each line that it sees
  entry_shown : (entry : LogEntry) → sees_entry s.base view entry ≡ true → is_line_shown s.base view entry ≡ true
  entry_shown entry sees = known_line view s.base entry (λ about. seen_shown s t view agree about) (object_of s.base entry) refl sees

  -- an object that a line is about is shown where the line is seen
  line_shown : (about : Option Object) (entry : LogEntry) → sees_line view about entry ≡ true → IfSome about (λ found. is_shown s.base view found ≡ true)
  line_shown None entry sees = tt
  line_shown (Some about) entry sees = seen_shown s t view agree about (object_seen view about entry sees)

  lines_same : HasRisingIds s → HasRisingIds (like s t) → seen_rows s view window table.Log ≡ seen_rows (like s t) view window table.Log
  lines_same here there =
      lines_are s here
      ∙ ap (λ (found : List LogEntry). map (by_line s) (map Some found))
      (kept_of_same (λ entry. is_within window entry && sees_entry s.base view entry) (is_line_shown s.base view)
      (λ entry sees. entry_shown entry (and_right (is_within window entry) (sees_entry s.base view entry) sees)) s.log t.log agree.lines)
      ∙ twice_kept (by_line s) (by_line (like s t)) Some (λ entry. is_within window entry && sees_entry s.base view entry)
      (λ entry sees. λ i column. remark_same (object_of s.base entry) None None (Some entry)
      (line_shown (object_of s.base entry) entry (and_right (is_within window entry) (sees_entry s.base view entry) sees)) column.own i) t.log
      ∙ sym (lines_are (like s t) there)

  -- ---- all tables

  pub rows_same : IsOwnHistory → HaveOutputs → HasRisingIds s → HasRisingIds (like s t) → (asked : Table) → seen_rows s view window asked ≡ seen_rows (like s t) view window asked
  rows_same own_history have_outputs here there table.Downtimes = downtimes_same here there
  rows_same own_history have_outputs here there table.Comments = comments_same here there
  rows_same own_history have_outputs here there table.Log = lines_same here there
  rows_same own_history have_outputs here there table.Hosts = fixed_same (table_rows s window table.Hosts) (fixed_map _ (λ place. refl) _)
  rows_same own_history have_outputs here there table.Services = fixed_same (table_rows s window table.Services) (fixed_map _ (λ place. refl) _)
  rows_same own_history have_outputs here there table.HostGroups = fixed_same (table_rows s window table.HostGroups) (fixed_map _ (λ place. refl) _)
  rows_same own_history have_outputs here there table.ServiceGroups = fixed_same (table_rows s window table.ServiceGroups) (fixed_map _ (λ place. refl) _)
  rows_same own_history have_outputs here there table.Contacts = fixed_same (table_rows s window table.Contacts) (fixed_map _ (λ place. refl) _)
  rows_same own_history have_outputs here there table.ContactGroups = fixed_same (table_rows s window table.ContactGroups) (fixed_map _ (λ place. refl) _)
  rows_same own_history have_outputs here there table.Commands = fixed_same (table_rows s window table.Commands) (fixed_map _ (λ place. refl) _)
  rows_same own_history have_outputs here there table.TimePeriods = fixed_same (table_rows s window table.TimePeriods) (fixed_map _ (λ place. refl) _)
  rows_same own_history have_outputs here there table.Status = fixed_same (table_rows s window table.Status) (refl, tt)
  rows_same own_history have_outputs here there table.Columns = fixed_same (table_rows s window table.Columns) (fixed_map row.Column (λ place. refl) _)
  rows_same own_history have_outputs here there table.HostsByGroup = fixed_same (table_rows s window table.HostsByGroup) (fixed_flat host_group_rows hosts_fixed (with_places s.base.host_groups))
  rows_same own_history have_outputs here there table.ServicesByGroup =
      fixed_same (table_rows s window table.ServicesByGroup) (fixed_flat service_group_rows services_fixed (with_places s.base.service_groups))
  rows_same own_history have_outputs here there table.ServicesByHostGroup =
      fixed_same (table_rows s window table.ServicesByHostGroup)
      (fixed_flat (group_service_rows s.base.services) (group_services_fixed s.base.services) (with_places s.base.host_groups))
  rows_same own_history have_outputs here there table.StateHist = slices_same s t view agree window own_history have_outputs
