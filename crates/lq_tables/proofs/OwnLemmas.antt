-- The only one with an id, in a list whose ids rise, and the one at a place.
use Rattle.std.proofs.Common.{◌≡◌, ◌≢◌, ℕ, zero, suc, ◌+◌, ◌<◌, ◌≤◌, ◌==◌, ◌&&◌, Bool, true, false, Option, Some, None, Result, Ok, Err, MatchResult, Equal, List, [], ◌∷◌, length, map, filter, get_or, slice_get, refl, sym, ap, subst, arith, ◌∙◌, if◌then◌else◌}
use Rattle.std.specs.List.{find, range_with_len}
use Rattle.std.specs.List.Sorted.{IsBinarySearchResult, IsNonDecreasingBy, IsSearchInRange}
use Rattle.std.specs.Option.{option_map, option_map_or}
use Rattle.std.specs.Ordering.{nat_cmp, ordering_index}
use Rattle.std.proofs.lemmas.Bool.{eq-eqb, ne_eqb}
use Rattle.std.proofs.lemmas.Bool.Decides.{nat_tests}
use Rattle.std.proofs.lemmas.Cmp.{ranked}
use Rattle.std.proofs.lemmas.Option.{slice_get-get_or}
use Rattle.lq_schema.specs.declared.columns.Table.{Table}
use Rattle.lq_schema.specs.declared.columns.Table.TheVariants as table
use Rattle.lq_events.specs.declared.log_entry.LogEntry.{LogEntry}
use Rattle.lq_events.specs.declared.status.Comment.{Comment}
use Rattle.lq_events.specs.declared.status.Downtime.{Downtime}
use Rattle.lq_live.specs.Ids.{HasRisingIds, IdsRise, comment_id, downtime_id}
use Rattle.lq_live.specs.State.{State}
use Rattle.lq_records.specs.declared.base.Base.{Base}
use Rattle.lq_records.specs.declared.object.Object.{Object}
use Rattle.lq_records.specs.declared.object.Object.TheVariants as object
use Rattle.lq_auth.specs.declared.view.View.{View}
use Rattle.lq_auth.specs.declared.view.View.TheVariants as view
use Rattle.lq_tables.specs.About.{row_comment, row_downtime, row_line, row_object}
use Rattle.lq_tables.specs.Own.{HasIdsRising, IsOwn, row_id}
use Rattle.lq_auth.specs.Rights.{sees_object}
use Rattle.lq_tables.specs.Rows.{has_line_within, is_within, rows_of, sees_entry, sees_row}
use Rattle.lq_tables.specs.declared.row.Row.{Row}
use Rattle.lq_tables.specs.declared.row.Row.TheVariants as row
use Rattle.lq_tables.specs.declared.window.Window.{Window}

-- the first with an id, after an item
found_first : {A : Type 0} (id : A → ℕ) (sought : ℕ) (item : A) (items : List A) (is : Bool) → (id item == sought) ≡ is
    → find (λ other. id other == sought) (item ∷ items) ≡ if is then Some item else find (λ other. id other == sought) items
found_first id sought item items true is = rw is refl
found_first id sought item items false is = rw is refl

-- ---- rows

-- a row before others, where a test of rows and one of what they are about agree
kept_first : {A B : Type 0} (about : B → Option A) (seen : B → Bool) (is_seen : A → Bool) (first : B) (item : A) (rows : List B) (items : List A) (is : Bool)
    → seen first ≡ is → is_seen item ≡ is → about first ≡ Some item → map about (filter seen rows) ≡ map Some (filter is_seen items)
    → map about (filter seen (first ∷ rows)) ≡ map Some (filter is_seen (item ∷ items))
kept_first about seen is_seen first item rows items true row_is item_is here rest = rw (row_is, item_is, here) (ap (λ list. Some item ∷ list) rest)
kept_first about seen is_seen first item rows items false row_is item_is here rest = rw (row_is, item_is) rest

kept_from : {A B : Type 0} (id : A → ℕ) (about : B → Option A) (row : A → B) (seen : B → Bool) (is_seen : A → Bool) (least next : ℕ) (whole items : List A)
    → IdsRise id least next items → ((item : A) → about (row item) ≡ find (λ other. id other == id item) whole)
    → ((sought : ℕ) → least ≤ sought → find (λ other. id other == sought) whole ≡ find (λ other. id other == sought) items)
    → ((item : A) → about (row item) ≡ Some item → seen (row item) ≡ is_seen item)
    → map about (filter seen (map row items)) ≡ map Some (filter is_seen items)
kept_from id about row seen is_seen least next whole [] rise finds same agree = refl
kept_from id about row seen is_seen least next whole (item ∷ items) rise finds same agree =
    let here : about (row item) ≡ Some item = finds item ∙ same (id item) rise.0 ∙ found_first id (id item) item items true (eq-eqb (id item) (id item) refl) in
    kept_first about seen is_seen (row item) item (map row items) items (is_seen item) (agree item here) refl here
    (kept_from id about row seen is_seen (id item + 1) next whole items rise.2 finds
    (λ sought more. same sought (omega (arith, more, rise.0))
    ∙ found_first id sought item items false (ne_eqb (id item) sought (λ equal. omega (arith, more, equal)))) agree)

-- a place before others, of which some are taken
taken_first : {A B : Type 0} (about : B → Option A) (row : ℕ → B) (seen : B → Bool) (is_seen : A → Bool) (taken : ℕ → Bool) (is_taken : A → Bool)
    (n : ℕ) (places : List ℕ) (item : A) (items : List A) (is : Bool)
    → taken n ≡ is → is_taken item ≡ is → about (row n) ≡ Some item → seen (row n) ≡ is_seen item
    → map about (filter seen (map row (filter taken places))) ≡ map Some (filter (λ other. is_taken other && is_seen other) items)
    → map about (filter seen (map row (filter taken (n ∷ places)))) ≡ map Some (filter (λ other. is_taken other && is_seen other) (item ∷ items))
taken_first about row seen is_seen taken is_taken n places item items true place_is item_is here seen_is rest =
    let both : (is_taken item && is_seen item) ≡ is_seen item = ap (λ holds. holds && is_seen item) item_is in
    rw place_is (kept_first about seen (λ other. is_taken other && is_seen other) (row n) item (map row (filter taken places)) items (is_seen item) seen_is both here rest)
taken_first about row seen is_seen taken is_taken n places item items false place_is item_is here seen_is rest = rw (place_is, item_is) rest

-- rows of the places that are taken, from a place on
placed_from : {A B : Type 0} (about : B → Option A) (row : ℕ → B) (seen : B → Bool) (is_seen : A → Bool) (taken : ℕ → Bool) (is_taken : A → Bool) (whole items : List A) (n : ℕ)
    → ((k : ℕ) → slice_get whole (n + k) ≡ slice_get items k) → ((place : ℕ) → about (row place) ≡ slice_get whole place)
    → ((place : ℕ) (item : A) → about (row place) ≡ Some item → seen (row place) ≡ is_seen item)
    → ((place : ℕ) (item : A) → slice_get whole place ≡ Some item → taken place ≡ is_taken item)
    → map about (filter seen (map row (filter taken (range_with_len n (length items))))) ≡ map Some (filter (λ item. is_taken item && is_seen item) items)
placed_from about row seen is_seen taken is_taken whole [] n same finds agree takes = refl
placed_from about row seen is_seen taken is_taken whole (item ∷ items) n same finds agree takes =
    let at_n : n ≡ n + 0 = omega arith in
    let there : slice_get whole n ≡ Some item = ap (slice_get whole) at_n ∙ same 0 in
    let here : about (row n) ≡ Some item = finds n ∙ there in
    taken_first about row seen is_seen taken is_taken n (range_with_len (n + 1) (length items)) item items (is_taken item) (takes n item there) refl here (agree n item here)
    (placed_from about row seen is_seen taken is_taken whole items (n + 1)
    (λ k. let later : n + 1 + k ≡ n + suc k = omega arith in ap (slice_get whole) later ∙ same (suc k)) finds agree takes)

pub own_of : (s : State) (view : View) (window : Window) (t : Table) (rows : List Row) → HasRisingIds s → rows ≡ rows_of s view window t → IsOwn s view window t rows
own_of s view window table.Downtimes rows has made =
    ap (map (row_downtime s)) made
    ∙ kept_from downtime_id (row_downtime s) (λ downtime. row.Downtime downtime.id) (sees_row s view) (λ downtime. sees_object view downtime.object)
    0 s.next_downtime s.downtimes s.downtimes has.downtimes (λ item. refl) (λ sought more. refl)
    (λ item here. ap (λ (found : Option Downtime). option_map_or (sees_object view) (option_map (λ downtime. downtime.object) found) true) here)
own_of s view window table.Comments rows has made =
    ap (map (row_comment s)) made
    ∙ kept_from comment_id (row_comment s) (λ comment. row.Comment comment.id) (sees_row s view) (λ comment. sees_object view comment.object)
    0 s.next_comment s.comments s.comments has.comments (λ item. refl) (λ sought more. refl)
    (λ item here. ap (λ (found : Option Comment). option_map_or (sees_object view) (option_map (λ comment. comment.object) found) true) here)
own_of s view window table.Log rows has made =
    ap (map (row_line s)) made
    ∙ placed_from (row_line s) row.Line (sees_row s view) (sees_entry s.base view) (has_line_within window s.log) (is_within window) s.log s.log 0
    (λ k. let from_start : 0 + k ≡ k = omega arith in ap (slice_get s.log) from_start) (λ place. refl)
    (λ place entry here. ap (λ (found : Option LogEntry). option_map_or (sees_entry s.base view) found true) here)
    (λ place entry there. ap (λ (found : Option LogEntry). option_map_or (is_within window) found false) there)
own_of s view window _ rows has made = tt

-- what a state says of its lists is so of lists that are the same
pub has_rising : (s : State) (downtimes : List Downtime) (comments : List Comment) → downtimes ≡ s.downtimes → comments ≡ s.comments
    → IdsRise downtime_id 0 s.next_downtime downtimes → IdsRise comment_id 0 s.next_comment comments → HasRisingIds s
has_rising s downtimes comments downtimes_same comments_same downtimes_rise comments_rise = record {
  downtimes = subst (IdsRise downtime_id 0 s.next_downtime) downtimes_same downtimes_rise;
  comments = subst (IdsRise comment_id 0 s.next_comment) comments_same comments_rise;
}

rows_rise : {A : Type 0} (row : A → Row) (least next : ℕ) (items : List A) → IdsRise (λ item. row_id (row item)) least next items
    → IdsRise row_id least next (map row items)
rows_rise row least next [] rise = tt
rows_rise row least next (item ∷ items) rise = (rise.0, rise.1, rows_rise row (row_id (row item) + 1) next items rise.2)

looser : {A : Type 0} (id : A → ℕ) (least more next : ℕ) (items : List A) → least ≤ more → IdsRise id more next items → IdsRise id least next items
looser id least more next [] less rise = tt
looser id least more next (item ∷ items) less rise = (omega (arith, less, rise.0), rise.1, rise.2)

kept_rise_first : {A : Type 0} (id : A → ℕ) (keeps : A → Bool) (least next : ℕ) (item : A) (items : List A) (is : Bool) → keeps item ≡ is → least ≤ id item → id item < next
    → IdsRise id (id item + 1) next (filter keeps items) → IdsRise id least next (filter keeps (item ∷ items))
kept_rise_first id keeps least next item items true same low below rest = rw same (low, below, rest)
kept_rise_first id keeps least next item items false same low below rest =
    rw same (looser id least (id item + 1) next (filter keeps items) (omega (arith, low)) rest)

-- ids that rise do so among those that are kept
kept_rise : {A : Type 0} (id : A → ℕ) (keeps : A → Bool) (least next : ℕ) (items : List A) → IdsRise id least next items → IdsRise id least next (filter keeps items)
kept_rise id keeps least next [] rise = tt
kept_rise id keeps least next (item ∷ items) rise =
    kept_rise_first id keeps least next item items (keeps item) refl rise.0 rise.1 (kept_rise id keeps (id item + 1) next items rise.2)

pub rising_of : (s : State) (view : View) (window : Window) (t : Table) (rows : List Row) → HasRisingIds s → rows ≡ rows_of s view window t → HasIdsRising s t rows
rising_of s view window table.Downtimes rows has made =
    subst (IdsRise row_id 0 s.next_downtime) (sym made)
    (kept_rise row_id (sees_row s view) 0 s.next_downtime (map (λ downtime. row.Downtime downtime.id) s.downtimes)
    (rows_rise (λ downtime. row.Downtime downtime.id) 0 s.next_downtime s.downtimes has.downtimes))
rising_of s view window table.Comments rows has made =
    subst (IdsRise row_id 0 s.next_comment) (sym made)
    (kept_rise row_id (sees_row s view) 0 s.next_comment (map (λ comment. row.Comment comment.id) s.comments)
    (rows_rise (λ comment. row.Comment comment.id) 0 s.next_comment s.comments has.comments))
rising_of s view window _ rows has made = tt

-- ---- all rows are seen without a user

object_seen_by_all : (found : Option Object) → option_map_or (sees_object view.All) found true ≡ true
object_seen_by_all None = refl
object_seen_by_all (Some (object.Host id)) = refl
object_seen_by_all (Some (object.Service id)) = refl

entry_seen_by_all : (base : Base) (found : Option LogEntry) → option_map_or (sees_entry base view.All) found true ≡ true
entry_seen_by_all base None = refl
entry_seen_by_all base (Some entry) = refl

seen_by_all : (s : State) (row : Row) → sees_row s view.All row ≡ true
seen_by_all s (row.Host id) = refl
seen_by_all s (row.Service id) = refl
seen_by_all s (row.HostGroup id) = refl
seen_by_all s (row.ServiceGroup id) = refl
seen_by_all s (row.HostOf group id) = refl
seen_by_all s (row.ServiceOf group id) = refl
seen_by_all s (row.GroupService group id) = refl
seen_by_all s (row.Downtime id) = object_seen_by_all (row_object s (row.Downtime id))
seen_by_all s (row.Comment id) = object_seen_by_all (row_object s (row.Comment id))
seen_by_all s (row.Line place) = entry_seen_by_all s.base (row_line s (row.Line place))
seen_by_all s (row.Slice history) = object_seen_by_all (Some history.slice.object)
seen_by_all s _ = refl

kept_all_first : {A : Type 0} (keeps : A → Bool) (item : A) (items : List A) → keeps item ≡ true → filter keeps items ≡ items → filter keeps (item ∷ items) ≡ item ∷ items
kept_all_first keeps item items is rest = rw is (ap (λ list. item ∷ list) rest)

pub all_rows_seen : (s : State) (rows : List Row) → filter (sees_row s view.All) rows ≡ rows
all_rows_seen s [] = refl
all_rows_seen s (row ∷ rows) = kept_all_first (sees_row s view.All) row rows (seen_by_all s row) (all_rows_seen s rows)

-- ---- the search by id

at_least : {A : Type 0} (id : A → ℕ) (least next : ℕ) (items : List A) → IdsRise id least next items → (j : ℕ) (d : A) → j < length items → least ≤ id (get_or items j d)
at_least id least next [] rise j d within = absurd (omega (arith, within))
at_least id least next (item ∷ items) rise zero d within = rise.0
at_least id least next (item ∷ items) rise (suc j) d within = omega (arith, rise.0, at_least id (id item + 1) next items rise.2 j d (omega (arith, within)))

rising : {A : Type 0} (id : A → ℕ) (least next : ℕ) (items : List A) → IdsRise id least next items
    → (i j : ℕ) (d : A) → i < j → j < length items → id (get_or items i d) < id (get_or items j d)
rising id least next [] rise i j d less within = absurd (omega (arith, within))
rising id least next (item ∷ items) rise i zero d less within = absurd (omega (arith, less))
rising id least next (item ∷ items) rise zero (suc j) d less within = omega (arith, at_least id (id item + 1) next items rise.2 j d (omega (arith, within)))
rising id least next (item ∷ items) rise (suc i) (suc j) d less within = rising id (id item + 1) next items rise.2 i j d (omega (arith, less)) (omega (arith, within))

found_at : {A : Type 0} (id : A → ℕ) (least next : ℕ) (items : List A) → IdsRise id least next items
    → (i : ℕ) (d : A) → i < length items → find (λ other. id other == id (get_or items i d)) items ≡ Some (get_or items i d)
found_at id least next [] rise i d within = absurd (omega (arith, within))
found_at id least next (item ∷ items) rise zero d within = found_first id (id item) item items true (eq-eqb (id item) (id item) refl)
found_at id least next (item ∷ items) rise (suc i) d within =
    let below : i < length items = omega (arith, within) in
    let more : id item + 1 ≤ id (get_or items i d) = at_least id (id item + 1) next items rise.2 i d below in
    found_first id (id (get_or items i d)) item items false (ne_eqb (id item) (id (get_or items i d)) (λ equal. omega (arith, more, equal)))
    ∙ found_at id (id item + 1) next items rise.2 i d below

not_found : {A : Type 0} (id : A → ℕ) (sought : ℕ) (items : List A) → ((j : ℕ) (d : A) → j < length items → id (get_or items j d) ≢ sought)
    → find (λ other. id other == sought) items ≡ None
not_found id sought [] others = refl
not_found id sought (item ∷ items) others =
    found_first id sought item items false (ne_eqb (id item) sought (others 0 item (omega arith)))
    ∙ not_found id sought items (λ j d within. others (suc j) d (omega (arith, within)))

module _ {A : Type 0} (id : A → ℕ) (next : ℕ) (items : List A) (rise : IdsRise id 0 next items) (sought : ℕ) where
  comparisons_rise : IsNonDecreasingBy (λ item. ordering_index (nat_cmp (id item) sought)) items
  comparisons_rise i j d le within =
      let up : id (get_or items i d) ≤ id (get_or items j d) = grind (arith, rising id 0 next items rise i j d, λ (same : i ≡ j). ap (λ k. id (get_or items k d)) same) in
      grind (arith, nat_tests)

  -- a binary search for an id finds the first that has it
  pub searched : (r : Result ℕ ℕ) → IsSearchInRange r (length items) → IsBinarySearchResult (λ item. nat_cmp (id item) sought) items r
      → MatchResult r (λ place. slice_get items place ≡ find (λ item. id item == sought) items) (λ gap. None ≡ find (λ item. id item == sought) items)
  searched (Ok place) within equal = found_place items rise within equal
    where
      found_place : (items : List A) → IdsRise id 0 next items → place < length items → ((d : A) → nat_cmp (id (get_or items place d)) sought ≡ Equal)
          → slice_get items place ≡ find (λ item. id item == sought) items
      found_place [] rise within equal = absurd (omega (arith, within))
      found_place (item ∷ items) rise within equal =
          slice_get-get_or (item ∷ items) place item within ∙ sym (found_at id 0 next (item ∷ items) rise place item within)
          ∙ ap (λ number. find (λ item. id item == number) (item ∷ items)) (ranked (id (get_or (item ∷ items) place item)) sought _ (sym (equal item)))
  searched (Err gap) within parted = sym (not_found id sought items (λ j d low same. grind (
    arith,
    λ (below : j < gap). ranked (id (get_or items j d)) sought _ (sym ((parted comparisons_rise).0 j d (omega arith) below)),
    λ (above : gap ≤ j). ranked (id (get_or items j d)) sought _ (sym ((parted comparisons_rise).1 j d above low)),
  )))
