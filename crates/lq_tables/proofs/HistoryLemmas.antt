-- The rows of the table of histories: those that are seen are the slices of the objects that are.
use Rattle.std.proofs.Common.{◌≡◌, Bool, true, false, List, [], ◌∷◌, ◌++◌, length, map, filter, refl, sym, ap, ◌∙◌, if◌then◌else◌}
use Rattle.std.specs.List.{flat_map}
use Rattle.std.proofs.lemmas.List.{length-map, map-append}
use Rattle.std.proofs.lemmas.List.Elements.{filter-append}
use Rattle.std.proofs.lemmas.Simd.{map-map}
use Rattle.lq_records.specs.declared.object.Object.{Object}
use Rattle.lq_records.specs.declared.object.Object.TheVariants as object
use Rattle.lq_schema.specs.declared.columns.Table.TheVariants as table
use Rattle.lq_auth.specs.Rights.{sees_object}
use Rattle.lq_auth.specs.declared.view.View.{View}
use Rattle.lq_auth.specs.declared.view.View.TheVariants.{All}
use Rattle.lq_live.specs.State.{State}
use Rattle.lq_statehist.specs.Facts.{Subject, known_at}
use Rattle.lq_statehist.specs.History.{history, slice_of}
use Rattle.lq_statehist.specs.Notes.{notes_of}
use Rattle.lq_statehist.specs.Slices.{slices_of, subjects_of}
use Rattle.lq_statehist.specs.Tiling.{HistoryPiece, pieces_between}
use Rattle.lq_statehist.specs.declared.slice.Slice.{Slice}
use Rattle.lq_tables.specs.Rows.{history_row, rows_of, sees_row}
use Rattle.lq_tables.specs.declared.row.Row.{Row}
use Rattle.lq_tables.specs.declared.window.Window.{Window}

-- each object is seen without a user
object_seen : (about : Object) → sees_object All about ≡ true
object_seen (object.Host id) = refl
object_seen (object.Service id) = refl

-- ---- rows that are made of parts, which are seen as what the parts are of is

-- of one of them all rows or none
kept_alike : {A B : Type 0} (row : A → B) (seen : B → Bool) (items : List A) (is : Bool) → ((item : A) → seen (row item) ≡ is)
    → filter seen (map row items) ≡ (if is then map row items else [])
kept_alike row seen [] true each = refl
kept_alike row seen [] false each = refl
kept_alike row seen (item ∷ items) true each = rw (each item) (ap (λ rows. row item ∷ rows) (kept_alike row seen items true each))
kept_alike row seen (item ∷ items) false each = rw (each item) (kept_alike row seen items false each)

kept_first : {A B C : Type 0} (made : A → List B) (row : B → C) (seen : C → Bool) (sees all : A → Bool) (item : A) (items : List A) (is : Bool)
    → sees item ≡ is → all item ≡ true → filter seen (map row (made item)) ≡ (if is then map row (made item) else [])
    → filter seen (map row (flat_map made (filter all items))) ≡ map row (flat_map made (filter sees items))
    → filter seen (map row (flat_map made (filter all (item ∷ items)))) ≡ map row (flat_map made (filter sees (item ∷ items)))
kept_first {B = B} made row seen sees all item items true item_is each own rest =
    let later : List B = flat_map made (filter all items) in
    rw (each, item_is) (
    ap (filter seen) (map-append row (made item) later) ∙ filter-append seen (map row (made item)) (map row later)
    ∙ ap (λ front. front ++ filter seen (map row later)) own ∙ ap (λ back. map row (made item) ++ back) rest
    ∙ sym (map-append row (made item) (flat_map made (filter sees items)))
    )
kept_first {B = B} made row seen sees all item items false item_is each own rest =
    let later : List B = flat_map made (filter all items) in
    rw (each, item_is) (
    ap (filter seen) (map-append row (made item) later) ∙ filter-append seen (map row (made item)) (map row later)
    ∙ ap (λ front. front ++ filter seen (map row later)) own ∙ rest
    )

kept_made : {A B C : Type 0} (made : A → List B) (row : B → C) (seen : C → Bool) (sees all : A → Bool) → ((item : A) → all item ≡ true)
    → ((item : A) → filter seen (map row (made item)) ≡ (if sees item then map row (made item) else [])) → (items : List A)
    → filter seen (map row (flat_map made (filter all items))) ≡ map row (flat_map made (filter sees items))
kept_made made row seen sees all each own [] = refl
kept_made made row seen sees all each own (item ∷ items) =
    kept_first made row seen sees all item items (sees item) refl (each item) (own item) (kept_made made row seen sees all each own items)

-- ---- slices

module _ (s : State) (view : View) (window : Window) where
  abbrev told : Subject → List Slice
  told about = history about (notes_of s.base s.log) window.from window.until

  -- the slices of an object are seen where it is
  told_kept : (about : Subject) → filter (sees_row s view) (map (history_row window) (told about))
      ≡ (if sees_object view about.object then map (history_row window) (told about) else [])
  told_kept about =
      let pieces : List HistoryPiece = pieces_between (known_at about (notes_of s.base s.log)) window.from window.until in
      let made : map (history_row window) (told about) ≡ map (λ (piece : HistoryPiece). history_row window (slice_of about.object piece)) pieces
      = map-map (history_row window) (slice_of about.object) pieces in
      ap (filter (sees_row s view)) made
      ∙ kept_alike (λ (piece : HistoryPiece). history_row window (slice_of about.object piece)) (sees_row s view) pieces (sees_object view about.object) (λ piece. refl)
      ∙ ap (λ (rows : List Row). if sees_object view about.object then rows else []) (sym made)

  pub history_seen : map (history_row window) (slices_of s.base view s.log window.from window.until) ≡ rows_of s view window table.StateHist
  history_seen =
      sym (kept_made told (history_row window) (sees_row s view) (λ about. sees_object view about.object) (λ about. sees_object All about.object)
      (λ about. object_seen about.object) told_kept (subjects_of s.base))

  -- as many as there are slices
  pub history_count : length (slices_of s.base view s.log window.from window.until) ≡ length (rows_of s view window table.StateHist)
  history_count = sym (length-map (slices_of s.base view s.log window.from window.until) (history_row window)) ∙ ap length history_seen
