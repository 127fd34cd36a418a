-- The slices of histories, at states that agree in what a view shows.
use Rattle.std.proofs.Common.{◌≡◌, ℕ, suc, ◌+◌, Bool, true, false, ◌||◌, ◌==◌, Option, Some, None, List, [], ◌∷◌, ◌++◌, map, filter, flat_map, slice_get, refl, sym, ap, subst, ◌∙◌, true≢false, arith, cond}
use Rattle.std.specs.List.{AllByRecursion, enumerate_from}
use Rattle.std.specs.Option.{is_none, option_and_then, option_map, option_map_or, unwrap_or}
use Rattle.lq_records.specs.declared.base.Base.{Base}
use Rattle.lq_records.specs.declared.base.Host.{Host}
use Rattle.lq_records.specs.declared.base.Service.{Service}
use Rattle.lq_records.specs.declared.ids.HostId.{HostId}
use Rattle.lq_records.specs.declared.object.Object.{Object}
use Rattle.lq_records.specs.declared.object.Object.TheVariants as object
use Rattle.lq_events.specs.declared.log_entry.Kind.{Kind}
use Rattle.lq_events.specs.declared.log_entry.Kind.TheVariants as kind
use Rattle.lq_events.specs.declared.log_entry.LogEntry.{LogEntry}
use Rattle.lq_schema.specs.declared.columns.Col.{Col}
use Rattle.lq_schema.specs.declared.columns.OwnColumn.{OwnColumn}
use Rattle.lq_schema.specs.declared.columns.OwnColumn.TheVariants as own
use Rattle.lq_schema.specs.declared.columns.Table.TheVariants as table
use Rattle.lq_schema.specs.declared.slice.SliceColumn.{SliceColumn}
use Rattle.lq_schema.specs.declared.slice.SliceColumn.TheVariants as slice
use Rattle.lq_schema.specs.Kinds.{program_kind}
use Rattle.lq_schema.specs.Value.{Value, Words, empty_value}
use Rattle.lq_log.specs.Told.{object_named, object_of, form_subject}
use Rattle.lq_live.specs.State.{State}
use Rattle.lq_auth.specs.Rights.{sees_object}
use Rattle.lq_auth.specs.Lines.{is_open, is_transition}
use Rattle.lq_auth.specs.declared.view.View.{View}
use Rattle.lq_auth.specs.declared.view.View.TheVariants.{All, Only}
use Rattle.lq_statehist.specs.Facts.{Subject, known_at}
use Rattle.lq_statehist.specs.History.{history, slice_of}
use Rattle.lq_statehist.specs.Laws.{HaveOutputs, IsOwnHistory, Shown, concerns, is_about, output_of_line, shown_piece}
use Rattle.lq_statehist.specs.Notes.{notes_of}
use Rattle.lq_statehist.specs.Slices.{host_subject, seen_subjects, service_subject, subjects_of}
use Rattle.lq_statehist.specs.Sorted.{host_about}
use Rattle.lq_statehist.specs.Tiling.{HistoryPiece, pieces_between}
use Rattle.lq_tables.specs.About.{host_of_object, service_of_object}
use Rattle.lq_tables.specs.Cells.{cell_of, contact_group_cell, host_group_part, host_part, own_cell, service_group_part, service_part}
use Rattle.lq_tables.specs.Parts.{command_cell, comment_cell, contact_cell, downtime_cell, line_cell, period_cell, schema_cell}
use Rattle.lq_tables.specs.Rows.{history_row}
use Rattle.lq_tables.specs.Slices.{slice_cell}
use Rattle.lq_tables.specs.Slices.{output_at as line_output_at}
use Rattle.lq_tables.specs.declared.history_row.HistoryRow.{HistoryRow}
use Rattle.lq_tables.specs.declared.window.Window.{Window}
use Rattle.lq_tables.proofs.HistoryLemmas.{history_seen}
use Rattle.lq_query.specs.Isolation.{AgreesIn, is_line_shown, is_shown}
use Rattle.lq_query.specs.Rows.{seen_rows}
use Rattle.lq_query.proofs.KeptLemmas.{kept_of_same}
use Rattle.lq_query.proofs.ShownLemmas.{host_column_same, like, runs_on_shown, seen_shown, service_column_same}
use Rattle.lq_query.proofs.ToldLemmas.{hidden_about}

-- ---- lists

map_both : {A B : Type 0} (f : A → B) (xs ys : List A) → map f (xs ++ ys) ≡ map f xs ++ map f ys
map_both f [] ys = refl
map_both f (x ∷ xs) ys = ap (λ list. f x ∷ list) (map_both f xs ys)

map_twice : {A B C : Type 0} (f : B → C) (g : A → B) (xs : List A) → map f (map g xs) ≡ map (λ x. f (g x)) xs
map_twice f g [] = refl
map_twice f g (x ∷ xs) = ap (λ list. f (g x) ∷ list) (map_twice f g xs)

map_alike : {A B : Type 0} (f g : A → B) → ((x : A) → f x ≡ g x) → (xs : List A) → map f xs ≡ map g xs
map_alike f g same [] = refl
map_alike f g same (x ∷ xs) = ap (λ y. y ∷ map f xs) (same x) ∙ ap (λ list. g x ∷ list) (map_alike f g same xs)

-- ---- lines that concern an object are shown with it

or_last : (a b : Bool) → (a || b || true) ≡ true
or_last true true = refl
or_last true false = refl
or_last false true = refl
or_last false false = refl

transition_shown : (base : Base) (seen : View) (entry : LogEntry) (is : Kind)
    → option_map_or (is_shown base seen) (object_named base entry (form_subject is)) (entry.class == 0 || entry.class == 2 || is_transition is) ≡ false → is_transition is ≡ false
transition_shown base seen entry (kind.TimeperiodTransition name from to) hidden = absurd (true≢false (sym (or_last (entry.class == 0) (entry.class == 2)) ∙ hidden))
transition_shown base seen entry _ hidden = refl

none_of : (a b c : Bool) → a ≡ false → b ≡ false → c ≡ false → (a || b || c) ≡ false
none_of a b c first second third = rw (first, second, third) refl

-- a line that isn't shown doesn't concern an object that is, with its host
far_line : (base : Base) (view : View) (about : Subject) → is_shown base view about.object ≡ true → is_shown base view (object.Host about.host) ≡ true
    → (entry : LogEntry) → is_line_shown base view entry ≡ false → concerns base about entry ≡ false
far_line base All about own host entry hidden = absurd (true≢false hidden)
far_line base (Only seen) about own host entry hidden =
    none_of (is_about base about.object entry) (is_about base (object.Host about.host) entry) (is_transition entry.kind)
    (hidden_about base (Only seen) about.object (object_of base entry) (is_open entry) own hidden)
    (hidden_about base (Only seen) (object.Host about.host) (object_of base entry) (is_open entry) host hidden)
    (transition_shown base (Only seen) entry entry.kind hidden)

near_line : (base : Base) (view : View) (about : Subject) → is_shown base view about.object ≡ true → is_shown base view (object.Host about.host) ≡ true
    → (entry : LogEntry) → concerns base about entry ≡ true → is_line_shown base view entry ≡ true
near_line base view about own host entry near = by (is_line_shown base view entry) refl
  where
    by : (is : Bool) → is_line_shown base view entry ≡ is → is ≡ true
    by true is = refl
    by false is = absurd (true≢false (sym near ∙ far_line base view about own host entry is))

-- ---- each object has its host

abbrev HasHost : Base → Subject → Type 0
HasHost base about = host_about base about.object ≡ Some about.host

hosts_have : (base : Base) (hosts : List Host) (place : ℕ) → AllByRecursion (HasHost base) (map host_subject (enumerate_from place hosts))
hosts_have base [] place = tt
hosts_have base (host ∷ hosts) place = (refl, hosts_have base hosts (place + 1))

services_have : (base : Base) (services : List Service) (place : ℕ) → ((i : ℕ) → slice_get services i ≡ slice_get base.services (place + i))
    → AllByRecursion (HasHost base) (map service_subject (enumerate_from place services))
services_have base [] place same = tt
services_have base (service ∷ services) place same = (
  ap (option_map (λ (own : Service). own.host)) (ap (slice_get base.services) (omega arith) ∙ sym (same 0)),
  services_have base services (place + 1) (λ i. same (suc i) ∙ ap (slice_get base.services) (omega arith)),
)

both_have : (P : Subject → Type 0) (xs ys : List Subject) → AllByRecursion P xs → AllByRecursion P ys → AllByRecursion P (xs ++ ys)
both_have P [] ys all also = also
both_have P (x ∷ xs) ys all also = (all.0, both_have P xs ys all.1 also)

-- an object that is seen, with its host
record IsSeen (base : Base) (view : View) (about : Subject) : Type 0 where
  pub sees : sees_object view about.object ≡ true
  pub host : HasHost base about

seen_have : (base : Base) (view : View) (xs : List Subject) → AllByRecursion (HasHost base) xs → AllByRecursion (IsSeen base view) (filter (λ about. sees_object view about.object) xs)
seen_have base view [] all = tt
seen_have base view (x ∷ xs) all = either (sees_object view x.object) refl (seen_have base view xs all.1)
  where
    either : (is : Bool) → sees_object view x.object ≡ is → AllByRecursion (IsSeen base view) (filter (λ about. sees_object view about.object) xs)
        → AllByRecursion (IsSeen base view) (cond is (x ∷ filter (λ about. sees_object view about.object) xs) (filter (λ about. sees_object view about.object) xs))
    either true is rest = (record { sees = is; host = all.0 }, rest)
    either false is rest = rest

all_seen : (base : Base) (view : View) → AllByRecursion (IsSeen base view) (seen_subjects base view)
all_seen base view =
    seen_have base view (subjects_of base)
    (both_have (HasHost base) (map host_subject (enumerate_from 0 base.hosts)) (map service_subject (enumerate_from 0 base.services))
    (hosts_have base base.hosts 0) (services_have base base.services 0 (λ i. ap (slice_get base.services) (omega arith))))

-- ---- the cells of a slice

-- a slice of which the line isn't told
abbrev made_row : Window → Subject → Shown → HistoryRow
made_row window about part = record {
  slice = record {
    object = about.object;
    from = part.from;
    until = part.until;
    state = part.facts.state;
    host_down = part.facts.host_down;
    in_downtime = part.facts.in_downtime;
    in_host_downtime = part.facts.in_host_downtime;
    is_flapping = part.facts.is_flapping;
    in_period = part.facts.in_period;
    line = None;
  };
  from = window.from;
  until = window.until;
}

abbrev told_slice : State → HistoryRow → List ℕ → SliceColumn → Value
told_slice at part output slice.LogOutput = Words output
told_slice at part output column = slice_cell at (Some part) column

abbrev told_cell : State → View → Window → Subject → Shown → OwnColumn → Value
told_cell at view window about part (own.Host column) = host_part at view (option_and_then (host_of_object at) (Some about.object)) column
told_cell at view window about part (own.Service column) = service_part at (option_and_then (service_of_object at) (Some about.object)) column
told_cell at view window about part (own.HostGroup column) = host_group_part at view None column
told_cell at view window about part (own.ServiceGroup column) = service_group_part at view None column
told_cell at view window about part (own.Contact column) = contact_cell None column
told_cell at view window about part (own.ContactGroup column) = contact_group_cell at.base None column
told_cell at view window about part (own.Command column) = command_cell None column
told_cell at view window about part (own.Period column) = period_cell at None column
told_cell at view window about part (own.Downtime column) = downtime_cell None column
told_cell at view window about part (own.Comment column) = comment_cell None column
told_cell at view window about part (own.Line column) = line_cell None column
told_cell at view window about part (own.Slice column) = told_slice at (made_row window about part) part.facts.output column
told_cell at view window about part (own.Program column) = empty_value (program_kind column)
told_cell at view window about part (own.Schema column) = schema_cell None column

module _ (at : State) (view : View) (window : Window) (about : Subject) where
  slice_told : (piece : HistoryPiece) → output_of_line at.log piece.known.line ≡ piece.known.facts.output → (column : SliceColumn)
      → slice_cell at (Some (record { slice = slice_of about.object piece; from = window.from; until = window.until })) column
      ≡ told_slice at (made_row window about (shown_piece piece)) piece.known.facts.output column
  slice_told piece output slice.LogOutput = ap Words (line_output piece.known.line ∙ output)
    where
      line_output : (line : Option ℕ) → line_output_at at.log line ≡ output_of_line at.log line
      line_output None = refl
      line_output (Some place) = refl
  slice_told piece output _ = refl

  cell_told : (piece : HistoryPiece) → output_of_line at.log piece.known.line ≡ piece.known.facts.output → (column : OwnColumn)
      → own_cell at view (history_row window (slice_of about.object piece)) column ≡ told_cell at view window about (shown_piece piece) column
  cell_told piece output (own.Slice column) = slice_told piece output column
  cell_told piece output _ = refl

  -- the row of a piece as the values that it has in the columns
  abbrev row_told : Shown → Col → Value
  row_told part = λ column. told_cell at view window about part column.own

  pieces_told : (pieces : List HistoryPiece) → AllByRecursion (λ piece. output_of_line at.log piece.known.line ≡ piece.known.facts.output) pieces
      → map (λ piece. cell_of at view (history_row window (slice_of about.object piece))) pieces ≡ map row_told (map shown_piece pieces)
  pieces_told [] all = refl
  pieces_told (piece ∷ pieces) all =
      ap (λ first. first ∷ map (λ piece. cell_of at view (history_row window (slice_of about.object piece))) pieces) (λ i column. cell_told piece all.0 column.own i)
      ∙ ap (λ rest. row_told (shown_piece piece) ∷ rest) (pieces_told pieces all.1)

  abbrev pieces_at : List HistoryPiece
  pieces_at = pieces_between (known_at about (notes_of at.base at.log)) window.from window.until

  -- the rows of an object
  rows_told : HaveOutputs → map (cell_of at view) (map (history_row window) (history about (notes_of at.base at.log) window.from window.until)) ≡ map row_told (map shown_piece pieces_at)
  rows_told have_outputs =
      map_twice (cell_of at view) (history_row window) (map (slice_of about.object) pieces_at)
      ∙ map_twice (λ part. cell_of at view (history_row window part)) (slice_of about.object) pieces_at
      ∙ pieces_told pieces_at (have_outputs at.base about at.log window.from window.until)

module _ (s t : State) (view : View) (agree : AgreesIn view s (like s t)) (window : Window) where
  told_slice_same : (about : Subject) (part : Shown) (column : SliceColumn)
      → told_slice s (made_row window about part) part.facts.output column ≡ told_slice (like s t) (made_row window about part) part.facts.output column
  told_slice_same about part slice.LogOutput = refl
  told_slice_same about part _ = refl

  told_same : (about : Subject) → sees_object view about.object ≡ true → (part : Shown) (column : OwnColumn)
      → told_cell s view window about part column ≡ told_cell (like s t) view window about part column
  told_same about sees part (own.Host column) = host_column_same s t view agree (Some about.object) (seen_shown s t view agree about.object sees) column
  told_same about sees part (own.Service column) = service_column_same s t view agree (Some about.object) (seen_shown s t view agree about.object sees) column
  told_same about sees part (own.Slice column) = told_slice_same about part column
  told_same about sees part _ = refl

  host_is_shown : (about : Object) (host : HostId) → sees_object view about ≡ true → host_about s.base about ≡ Some host → is_shown s.base view (object.Host host) ≡ true
  host_is_shown (object.Host id) host sees is =
      subst (λ (found : HostId). is_shown s.base view (object.Host found) ≡ true) (ap (λ (found : Option HostId). unwrap_or found id) is) (seen_shown s t view agree (object.Host id) sees)
  host_is_shown (object.Service id) host sees is = by (slice_get s.base.services id.0) refl is
    where
      by : (found : Option Service) → slice_get s.base.services id.0 ≡ found → option_map (λ (service : Service). service.host) found ≡ Some host → is_shown s.base view (object.Host host) ≡ true
      by None found is = absurd (true≢false (ap is_none is))
      by (Some service) found is =
          subst (λ (other : HostId). is_shown s.base view (object.Host other) ≡ true) (ap (λ (found : Option HostId). unwrap_or found host) is)
          (runs_on_shown s t view agree id service sees found)

  own_lines : (about : Subject) → IsSeen s.base view about → filter (concerns s.base about) s.log ≡ filter (concerns s.base about) t.log
  own_lines about seen =
      kept_of_same (concerns s.base about) (is_line_shown s.base view)
      (near_line s.base view about (seen_shown s t view agree about.object seen.sees) (host_is_shown about.object about.host seen.sees seen.host))
      s.log t.log agree.lines

  object_same : IsOwnHistory → HaveOutputs → (about : Subject) → IsSeen s.base view about
      → map (cell_of s view) (map (history_row window) (history about (notes_of s.base s.log) window.from window.until))
      ≡ map (cell_of (like s t) view) (map (history_row window) (history about (notes_of s.base t.log) window.from window.until))
  object_same own_history have_outputs about seen =
      rows_told s view window about have_outputs
      ∙ ap (map (row_told s view window about)) (own_history s.base about s.log t.log (own_lines about seen) window.from window.until)
      ∙ map_alike (row_told s view window about) (row_told (like s t) view window about) (λ part. λ i column. told_same about seen.sees part column.own i)
      (map shown_piece (pieces_at (like s t) view window about))
      ∙ sym (rows_told (like s t) view window about have_outputs)

  objects_same : IsOwnHistory → HaveOutputs → (subjects : List Subject) → AllByRecursion (IsSeen s.base view) subjects
      → map (cell_of s view) (map (history_row window) (flat_map (λ about. history about (notes_of s.base s.log) window.from window.until) subjects))
      ≡ map (cell_of (like s t) view) (map (history_row window) (flat_map (λ about. history about (notes_of s.base t.log) window.from window.until) subjects))
  objects_same own_history have_outputs [] all = refl
  objects_same own_history have_outputs (about ∷ subjects) all =
      split s s.log about subjects
      ∙ ap (λ rows. rows ++ map (cell_of s view) (map (history_row window) (flat_map (λ about. history about (notes_of s.base s.log) window.from window.until) subjects))) (object_same own_history have_outputs about all.0)
      ∙ ap (λ rows. map (cell_of (like s t) view) (map (history_row window) (history about (notes_of s.base t.log) window.from window.until)) ++ rows) (objects_same own_history have_outputs subjects all.1)
      ∙ sym (split (like s t) t.log about subjects)
    where
      split : (at : State) (log : List LogEntry) (about : Subject) (subjects : List Subject)
          → map (cell_of at view) (map (history_row window) (history about (notes_of s.base log) window.from window.until ++ flat_map (λ about. history about (notes_of s.base log) window.from window.until) subjects))
          ≡ map (cell_of at view) (map (history_row window) (history about (notes_of s.base log) window.from window.until))
          ++ map (cell_of at view) (map (history_row window) (flat_map (λ about. history about (notes_of s.base log) window.from window.until) subjects))
      split at log about subjects =
          ap (map (cell_of at view)) (map_both (history_row window) (history about (notes_of s.base log) window.from window.until) (flat_map (λ about. history about (notes_of s.base log) window.from window.until) subjects))
          ∙ map_both (cell_of at view) (map (history_row window) (history about (notes_of s.base log) window.from window.until)) (map (history_row window) (flat_map (λ about. history about (notes_of s.base log) window.from window.until) subjects))

  pub slices_same : IsOwnHistory → HaveOutputs → seen_rows s view window table.StateHist ≡ seen_rows (like s t) view window table.StateHist
  slices_same own_history have_outputs =
      ap (map (cell_of s view)) (sym (history_seen s view window))
      ∙ objects_same own_history have_outputs (seen_subjects s.base view) (all_seen s.base view)
      ∙ ap (map (cell_of (like s t) view)) (history_seen (like s t) view window)
