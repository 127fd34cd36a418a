-- How many downtimes of an object are active, through the events that are due.
use Rattle.std.proofs.Common.{◌≡◌, ℕ, zero, suc, ◌^◌, ◌+◌, ◌-◌, ◌<◌, ◌≤◌, ◌==◌, ◌&&◌, nat_le, not, Bool, true, false, Option, Some, None, List, [], ◌∷◌, ◌++◌, length, map, filter, replicate, get_or, take, refl, sym, ap, ◌∙◌, subst, arith, if◌then◌else◌, IfSome}
use Rattle.std.proofs.lemmas.Bool.Decides.{nat_tests}
use Rattle.std.proofs.lemmas.List.{length-replicate, take_more}
use Rattle.std.specs.List.{slice_get}
use Rattle.std.specs.Option.{option_map}
use Rattle.lq_records.specs.declared.base.Base.{Base}
use Rattle.lq_records.specs.declared.object.Object.{Object}
use Rattle.lq_records.specs.declared.object.Object.TheVariants as object
use Rattle.lq_records.specs.Object.{is_same_object}
use Rattle.lq_events.specs.declared.status.Downtime.{Downtime}
use Rattle.lq_live.specs.Downtimes.{Event, downtimes_after, begin, depth, due, end_of, is_active_of, only_if, start_of}
use Rattle.lq_live.specs.Depths.{AreDepths, Depths, counted_depth, changed_depth, with_depth}
use Rattle.lq_live.specs.Ids.{IdsRise, downtime_id}
use Rattle.lq_live.specs.Kept.{AllOrdered}
use Rattle.lq_live.proofs.Changed.{changed_get, changed_length}
use Rattle.lq_live.proofs.DueEvents.{with_id}
use Rattle.lq_live.proofs.Fates.{absent, due_of, due_own, found_id, found_order, no_downtime, own, some_downtime}

-- ---- events that fit the downtimes: a start comes for one that isn't active, an end for one that is

abbrev pub next : Event → Downtime → Option Downtime
next event d = if event.starts then Some (record d { active = true }) else None

abbrev pub Fits : Option Downtime → List Event → Type 0
Fits found [] = Unit {0}
Fits None (event ∷ events) = ⊥
Fits (Some d) (event ∷ events) = (event.object ≡ d.object) × (d.active ≡ not event.starts) × Fits (next event d) events

-- of each id
abbrev pub Follow : List Event → List Downtime → Type 0
Follow events ds = (id : ℕ) → Fits (with_id id ds) (filter (own id) events)

fits_by : (second : ℕ) (d : Downtime) (active starts ends : Bool) → d.active ≡ active → nat_le d.start second ≡ starts → nat_le d.end second ≡ ends → d.start < d.end
    → Fits (Some d) (only_if (not active && starts) (start_of d) ++ only_if ends (end_of d))
fits_by second d true starts true active_is starts_is ends_is order = (refl, active_is, tt)
fits_by second d true starts false active_is starts_is ends_is order = tt
fits_by second d false true true active_is starts_is ends_is order = (refl, active_is, (refl, refl, tt))
fits_by second d false true false active_is starts_is ends_is order = (refl, active_is, tt)
fits_by second d false false true active_is starts_is ends_is order = absurd (grind (arith, nat_tests, starts_is, ends_is, order))
fits_by second d false false false active_is starts_is ends_is order = tt

pub due_follow : (second next_id : ℕ) (ds : List Downtime) → IdsRise downtime_id 0 next_id ds → AllOrdered ds → Follow (due second ds) ds
due_follow second next_id ds rise order = λ id. rw (due_own id second next_id ds rise order) (by id (with_id id ds) refl)
  where
    by : (id : ℕ) (found : Option Downtime) → with_id id ds ≡ found → Fits found (due_of second found)
    by id None is = tt
    by id (Some d) is = fits_by second d d.active (nat_le d.start second) (nat_le d.end second) refl refl refl (found_order id ds d is order)

-- ---- one event

-- an event meets its downtime
pub record Meets (event : Event) (ds : List Downtime) : Type 0 where
  pub found : Downtime
  pub is : with_id event.id ds ≡ Some found
  pub object : event.object ≡ found.object
  pub active : found.active ≡ not event.starts
  pub rest : (events : List Event) → Fits (with_id event.id ds) (event ∷ events) → Fits (next event found) events

pub first_meets : (event : Event) (events : List Event) (ds : List Downtime) → Follow (event ∷ events) ds → Meets event ds
first_meets event events ds follow =
    let is_own : (event.id == event.id) ≡ true = grind (arith, nat_tests) in
    by (with_id event.id ds) refl (rw is_own at (follow event.id))
  where
    by : (found : Option Downtime) → with_id event.id ds ≡ found → Fits (with_id event.id ds) (event ∷ filter (own event.id) events) → Meets event ds
    by None is fits = absurd (rw is at fits)
    by (Some d) is fits =
        let of : Fits (Some d) (event ∷ filter (own event.id) events) = rw is at fits in
        record { found = d; is = is; object = of.0; active = of.1; rest = λ events fits. (subst (λ found. Fits found (event ∷ events)) is fits).2 }

begun_found : (id other : ℕ) (ds : List Downtime) → with_id id (map (begin other) ds) ≡ option_map (begin other) (with_id id ds)
begun_found id other [] = refl
begun_found id other (d ∷ ds) = by (d.id == other) (d.id == id) refl refl (begun_found id other ds)
  where
    by : (begins found : Bool) → (d.id == other) ≡ begins → (d.id == id) ≡ found → with_id id (map (begin other) ds) ≡ option_map (begin other) (with_id id ds)
        → with_id id (map (begin other) (d ∷ ds)) ≡ option_map (begin other) (with_id id (d ∷ ds))
    by true true begins found rest = rw (begins, found, begins) refl
    by true false begins found rest = rw (begins, found) rest
    by false true begins found rest = rw (begins, found, begins) refl
    by false false begins found rest = rw (begins, found) rest

kept_found : (id other : ℕ) (ds : List Downtime) → (id == other) ≡ false → with_id id (filter (λ d. not (d.id == other)) ds) ≡ with_id id ds
kept_found id other [] apart = refl
kept_found id other (d ∷ ds) apart = by (d.id == other) (d.id == id) refl refl (kept_found id other ds apart)
  where
    by : (ends found : Bool) → (d.id == other) ≡ ends → (d.id == id) ≡ found → with_id id (filter (λ d. not (d.id == other)) ds) ≡ with_id id ds
        → with_id id (filter (λ d. not (d.id == other)) (d ∷ ds)) ≡ with_id id (d ∷ ds)
    by true true ends found rest = absurd (grind (arith, nat_tests, ends, found, apart))
    by true false ends found rest = rw (ends, found) rest
    by false true ends found rest = rw (ends, found) refl
    by false false ends found rest = rw (ends, found) rest

gone_found : (id : ℕ) (ds : List Downtime) → with_id id (filter (λ d. not (d.id == id)) ds) ≡ None
gone_found id [] = refl
gone_found id (d ∷ ds) = by (d.id == id) refl (gone_found id ds)
  where
    by : (ends : Bool) → (d.id == id) ≡ ends → with_id id (filter (λ d. not (d.id == id)) ds) ≡ None → with_id id (filter (λ d. not (d.id == id)) (d ∷ ds)) ≡ None
    by true ends rest = rw ends rest
    by false ends rest = rw (ends, ends) rest

-- what an event leaves of its own downtime, and of another one
own_after : (event : Event) (ds : List Downtime) (d : Downtime) (starts : Bool) → event.starts ≡ starts → with_id event.id ds ≡ Some d → with_id event.id (downtimes_after event ds) ≡ next event d
own_after event ds d true starts is =
    let same : (d.id == event.id) ≡ true = let id : d.id ≡ event.id = found_id event.id ds d is in grind (arith, nat_tests, id) in
    rw (starts, begun_found event.id event.id ds, is) (rw same refl)
own_after event ds d false starts is = rw (starts, gone_found event.id ds) refl

other_after : (event : Event) (id : ℕ) (ds : List Downtime) (starts : Bool) → event.starts ≡ starts → (event.id == id) ≡ false → with_id id (downtimes_after event ds) ≡ with_id id ds
other_after event id ds true starts other = rw (starts, begun_found id event.id ds) (by (with_id id ds) refl)
  where
    by : (found : Option Downtime) → with_id id ds ≡ found → option_map (begin event.id) found ≡ found
    by None is = refl
    by (Some d) is =
        let apart : (d.id == event.id) ≡ false = let same : d.id ≡ id = found_id id ds d is in grind (arith, nat_tests, same, other) in
        rw apart refl
other_after event id ds false starts other =
    let apart : (id == event.id) ≡ false = grind (arith, nat_tests, other) in
    rw (starts, kept_found id event.id ds apart) refl

pub rest_follow : (event : Event) (events : List Event) (ds : List Downtime) → Follow (event ∷ events) ds → Follow events (downtimes_after event ds)
rest_follow event events ds follow = λ id. by id (event.id == id) refl
  where
    meets : Meets event ds
    meets = first_meets event events ds follow

    by : (id : ℕ) (test : Bool) → (event.id == id) ≡ test → Fits (with_id id (downtimes_after event ds)) (filter (own id) events)
    by id true is =
        let same : event.id ≡ id = grind (arith, nat_tests, is) in
        let is_own : (event.id == event.id) ≡ true = grind (arith, nat_tests) in
        subst (λ id. Fits (with_id id (downtimes_after event ds)) (filter (own id) events)) same
        (rw (own_after event ds meets.found event.starts refl meets.is) (meets.rest (filter (own event.id) events) (rw is_own at (follow event.id))))
    by id false is = rw (other_after event id ds event.starts refl is) (rw is at (follow id))

-- ---- the number of active ones

depth_first : (o : Object) (d : Downtime) (ds : List Downtime) (active : Bool) → is_active_of o d ≡ active → depth o (d ∷ ds) ≡ (if active then depth o ds + 1 else depth o ds)
depth_first o d ds true is = rw is (omega arith)
depth_first o d ds false is = rw is refl

none_begun : (id : ℕ) (ds : List Downtime) → with_id id ds ≡ None → map (begin id) ds ≡ ds
none_begun id [] none = refl
none_begun id (d ∷ ds) none = by (d.id == id) refl (λ none. none_begun id ds none)
  where
    by : (test : Bool) → (d.id == id) ≡ test → (with_id id ds ≡ None → map (begin id) ds ≡ ds) → map (begin id) (d ∷ ds) ≡ d ∷ ds
    by true is rest = absurd (no_downtime d (sym (rw is at none)))
    by false is rest = rw is (ap (λ ds. d ∷ ds) (rest (rw is at none)))

none_ended : (id : ℕ) (ds : List Downtime) → with_id id ds ≡ None → filter (λ d. not (d.id == id)) ds ≡ ds
none_ended id [] none = refl
none_ended id (d ∷ ds) none = by (d.id == id) refl (λ none. none_ended id ds none)
  where
    by : (test : Bool) → (d.id == id) ≡ test → (with_id id ds ≡ None → filter (λ d. not (d.id == id)) ds ≡ ds) → filter (λ d. not (d.id == id)) (d ∷ ds) ≡ d ∷ ds
    by true is rest = absurd (no_downtime d (sym (rw is at none)))
    by false is rest = rw is (ap (λ ds. d ∷ ds) (rest (rw is at none)))

module _ (o : Object) (id next_id : ℕ) (found : Downtime) where
  abbrev same : Bool
  same = is_same_object found.object o

  begun_depth : (least : ℕ) (ds : List Downtime) → IdsRise downtime_id least next_id ds → with_id id ds ≡ Some found → found.active ≡ false
      → depth o (map (begin id) ds) ≡ (if same then depth o ds + 1 else depth o ds)
  begun_depth least [] rise is inactive = absurd (no_downtime found is)
  begun_depth least (d ∷ ds) rise is inactive = by (d.id == id) refl (λ more. begun_depth (d.id + 1) ds rise.2 more inactive)
    where
      here : (test : Bool) → same ≡ test → d ≡ found → (d.id == id) ≡ true → with_id id ds ≡ None
          → depth o (map (begin id) (d ∷ ds)) ≡ (if same then depth o (d ∷ ds) + 1 else depth o (d ∷ ds))
      here true is_same one is_it none = rw (is_it, none_begun id ds none, one, inactive, is_same) (omega arith)
      here false is_same one is_it none = rw (is_it, none_begun id ds none, one, inactive, is_same) refl

      other : (active is_same : Bool) → is_active_of o d ≡ active → same ≡ is_same → (d.id == id) ≡ false
          → depth o (map (begin id) ds) ≡ (if same then depth o ds + 1 else depth o ds)
          → depth o (map (begin id) (d ∷ ds)) ≡ (if same then depth o (d ∷ ds) + 1 else depth o (d ∷ ds))
      other true true active is_same apart rest = let more = rw is_same at rest in rw (apart, active, is_same) (omega (arith, more))
      other true false active is_same apart rest = let more = rw is_same at rest in rw (apart, active, is_same) (omega (arith, more))
      other false true active is_same apart rest = let more = rw is_same at rest in rw (apart, active, is_same) (omega (arith, more))
      other false false active is_same apart rest = let more = rw is_same at rest in rw (apart, active, is_same) (omega (arith, more))

      by : (test : Bool) → (d.id == id) ≡ test → (with_id id ds ≡ Some found → depth o (map (begin id) ds) ≡ (if same then depth o ds + 1 else depth o ds))
          → depth o (map (begin id) (d ∷ ds)) ≡ (if same then depth o (d ∷ ds) + 1 else depth o (d ∷ ds))
      by true is_it later = here same refl (some_downtime d found (rw is_it at is)) is_it (absent id (d.id + 1) next_id ds (grind (arith, nat_tests, is_it)) rise.2)
      by false is_it later = other (is_active_of o d) same refl refl is_it (later (rw is_it at is))

  ended_depth : (least : ℕ) (ds : List Downtime) → IdsRise downtime_id least next_id ds → with_id id ds ≡ Some found → found.active ≡ true
      → (if same then depth o (filter (λ d. not (d.id == id)) ds) + 1 else depth o (filter (λ d. not (d.id == id)) ds)) ≡ depth o ds
  ended_depth least [] rise is active = absurd (no_downtime found is)
  ended_depth least (d ∷ ds) rise is active = by (d.id == id) refl (λ more. ended_depth (d.id + 1) ds rise.2 more active)
    where
      here : (test : Bool) → same ≡ test → d ≡ found → (d.id == id) ≡ true → with_id id ds ≡ None
          → (if same then depth o (filter (λ d. not (d.id == id)) (d ∷ ds)) + 1 else depth o (filter (λ d. not (d.id == id)) (d ∷ ds))) ≡ depth o (d ∷ ds)
      here true is_same one is_it none = rw (is_it, none_ended id ds none, is_same, one, active, is_same) (omega arith)
      here false is_same one is_it none = rw (is_it, none_ended id ds none, is_same, one, active, is_same) refl

      other : (is_active is_same : Bool) → is_active_of o d ≡ is_active → same ≡ is_same → (d.id == id) ≡ false
          → (if same then depth o (filter (λ d. not (d.id == id)) ds) + 1 else depth o (filter (λ d. not (d.id == id)) ds)) ≡ depth o ds
          → (if same then depth o (filter (λ d. not (d.id == id)) (d ∷ ds)) + 1 else depth o (filter (λ d. not (d.id == id)) (d ∷ ds))) ≡ depth o (d ∷ ds)
      other true true is_active is_same apart rest = let more = rw is_same at rest in rw (is_same, apart, is_active) (omega (arith, more))
      other true false is_active is_same apart rest = let more = rw is_same at rest in rw (is_same, apart, is_active) (omega (arith, more))
      other false true is_active is_same apart rest = let more = rw is_same at rest in rw (is_same, apart, is_active) (omega (arith, more))
      other false false is_active is_same apart rest = let more = rw is_same at rest in rw (is_same, apart, is_active) (omega (arith, more))

      by : (test : Bool) → (d.id == id) ≡ test → (with_id id ds ≡ Some found → (if same then depth o (filter (λ d. not (d.id == id)) ds) + 1 else depth o (filter (λ d. not (d.id == id)) ds)) ≡ depth o ds)
          → (if same then depth o (filter (λ d. not (d.id == id)) (d ∷ ds)) + 1 else depth o (filter (λ d. not (d.id == id)) (d ∷ ds))) ≡ depth o (d ∷ ds)
      by true is_it later = here same refl (some_downtime d found (rw is_it at is)) is_it (absent id (d.id + 1) next_id ds (grind (arith, nat_tests, is_it)) rise.2)
      by false is_it later = other (is_active_of o d) same refl refl is_it (later (rw is_it at is))

pub depth_after : (event : Event) (next_id : ℕ) (ds : List Downtime) → IdsRise downtime_id 0 next_id ds → Meets event ds → (o : Object)
    → depth o (downtimes_after event ds) ≡ (if is_same_object event.object o then changed_depth event.starts (depth o ds) else depth o ds)
depth_after event next_id ds rise meets o = rw meets.object (by event.starts refl)
  where
    fewer : (test : Bool) (left all : ℕ) → (if test then left + 1 else left) ≡ all → left ≡ (if test then all - 1 else all)
    fewer true left all is = omega (arith, is)
    fewer false left all is = is

    by : (starts : Bool) → event.starts ≡ starts → depth o (downtimes_after event ds) ≡ (if is_same_object meets.found.object o then changed_depth event.starts (depth o ds) else depth o ds)
    by true starts = rw starts (begun_depth o event.id next_id meets.found 0 ds rise meets.is (rw starts at meets.active))
    by false starts = rw starts (fewer (is_same_object meets.found.object o) _ (depth o ds) (ended_depth o event.id next_id meets.found 0 ds rise meets.is (rw starts at meets.active)))

-- ---- the numbers of all objects

each_by : (test : Bool) (found : Option ℕ) (begins : Bool) (n later : ℕ) → IfSome found (λ m. m ≡ n) → later ≡ (if test then changed_depth begins n else n)
    → IfSome (if test then option_map (changed_depth begins) found else found) (λ m. m ≡ later)
each_by true None begins n later is changed = tt
each_by true (Some m) begins n later is changed = ap (changed_depth begins) is ∙ sym changed
each_by false None begins n later is changed = tt
each_by false (Some m) begins n later is changed = is ∙ sym changed

each_changed : (depths : Depths) (begins : Bool) (changed o : Object) (n later : ℕ) → IfSome (counted_depth depths o) (λ m. m ≡ n)
    → later ≡ (if is_same_object changed o then changed_depth begins n else n) → IfSome (counted_depth (with_depth begins changed depths) o) (λ m. m ≡ later)
each_changed depths begins (object.Host a) (object.Host b) n later is more = rw (changed_get (changed_depth begins) a.0 b.0 depths.hosts) (each_by (a.0 == b.0) _ begins n later is more)
each_changed depths begins (object.Host a) (object.Service b) n later is more = each_by false _ begins n later is more
each_changed depths begins (object.Service a) (object.Host b) n later is more = each_by false _ begins n later is more
each_changed depths begins (object.Service a) (object.Service b) n later is more = rw (changed_get (changed_depth begins) a.0 b.0 depths.services) (each_by (a.0 == b.0) _ begins n later is more)

pub depths_changed : (base : Base) (ds later : List Downtime) (depths : Depths) (begins : Bool) (changed : Object) → AreDepths base ds depths
    → ((o : Object) → depth o later ≡ (if is_same_object changed o then changed_depth begins (depth o ds) else depth o ds)) → AreDepths base later (with_depth begins changed depths)
depths_changed base ds later depths begins (object.Host id) are more = record {
  hosts = changed_length (changed_depth begins) id.0 depths.hosts ∙ are.hosts;
  services = are.services;
  each = λ o. each_changed depths begins (object.Host id) o (depth o ds) (depth o later) (are.each o) (more o);
}
depths_changed base ds later depths begins (object.Service id) are more = record {
  hosts = are.hosts;
  services = changed_length (changed_depth begins) id.0 depths.services ∙ are.services;
  each = λ o. each_changed depths begins (object.Service id) o (depth o ds) (depth o later) (are.each o) (more o);
}

-- ---- the numbers of some downtimes, and of one more

none_at : (n k : ℕ) → IfSome {T = ℕ} (slice_get (replicate n 0) k) (λ m. m ≡ 0)
none_at zero k = tt
none_at (suc n) zero = refl
none_at (suc n) (suc k) = none_at n k

pub no_depths : (base : Base) (depths : Depths) → depths.hosts ≡ replicate (length base.hosts) 0 → depths.services ≡ replicate (length base.services) 0 → AreDepths base [] depths
no_depths base depths hosts services = record {
  hosts = rw hosts (length-replicate (length base.hosts) 0);
  services = rw services (length-replicate (length base.services) 0);
  each = by;
}
  where
    by : (o : Object) → IfSome {T = ℕ} (counted_depth depths o) (λ m. m ≡ 0)
    by (object.Host id) = rw hosts (none_at (length base.hosts) id.0)
    by (object.Service id) = rw services (none_at (length base.services) id.0)

depth_last : (o : Object) (ds : List Downtime) (d : Downtime) (active : Bool) → is_active_of o d ≡ active → depth o (ds ++ d ∷ []) ≡ (if active then depth o ds + 1 else depth o ds)
depth_last o [] d active is = depth_first o d [] active is
depth_last o (first ∷ ds) d active is = by (is_active_of o first) active refl (depth_last o ds d active is)
  where
    by : (counts active : Bool) → is_active_of o first ≡ counts → depth o (ds ++ d ∷ []) ≡ (if active then depth o ds + 1 else depth o ds)
        → depth o (first ∷ ds ++ d ∷ []) ≡ (if active then depth o (first ∷ ds) + 1 else depth o (first ∷ ds))
    by true true counts rest = rw counts (omega (arith, rest))
    by true false counts rest = rw counts (omega (arith, rest))
    by false true counts rest = rw counts rest
    by false false counts rest = rw counts rest

pub counted : (base : Base) (ds : List Downtime) (d : Downtime) (depths : Depths) → AreDepths base ds depths
    → AreDepths base (ds ++ d ∷ []) (if d.active then with_depth true d.object depths else depths)
counted base ds d depths are = by d.active refl
  where
    by : (active : Bool) → d.active ≡ active → AreDepths base (ds ++ d ∷ []) (if active then with_depth true d.object depths else depths)
    by true active = depths_changed base ds (ds ++ d ∷ []) depths true d.object are (λ o. depth_last o ds d (is_same_object d.object o) (rw active refl))
    by false inactive = record {
      hosts = are.hosts;
      services = are.services;
      each = λ o. rw (depth_last o ds d false (rw inactive refl)) (are.each o);
    }

-- there are no more of them than downtimes
depth_few : (o : Object) (ds : List Downtime) → depth o ds ≤ length ds
depth_few o [] = omega arith
depth_few o (d ∷ ds) = by (is_active_of o d) refl (depth_few o ds)
  where
    by : (active : Bool) → is_active_of o d ≡ active → depth o ds ≤ length ds → depth o (d ∷ ds) ≤ length (d ∷ ds)
    by true is few = rw is (omega (arith, few))
    by false is few = rw is (omega (arith, few))

pub depth_fits : (base : Base) (ds : List Downtime) (depths : Depths) (o : Object) (most : ℕ) → AreDepths base ds depths → length ds ≤ most → most + 1 < 2 ^ 64
    → IfSome (counted_depth depths o) (λ n. n + 1 < 2 ^ 64)
depth_fits base ds depths o most are below small = by (counted_depth depths o) (are.each o)
  where
    by : (found : Option ℕ) → IfSome found (λ n. n ≡ depth o ds) → IfSome found (λ n. n + 1 < 2 ^ 64)
    by None is = tt
    by (Some n) is = let few : depth o ds ≤ length ds = depth_few o ds in grind (arith, is, few, below, small)

-- of the first ones of a list
length-take_le : {X : Type 0} (xs : List X) (n : ℕ) → length (take n xs) ≤ n
length-take_le xs zero = omega arith
length-take_le [] (suc n) = omega arith
length-take_le (x ∷ xs) (suc n) = let rest : length (take n xs) ≤ n = length-take_le xs n in omega (arith, rest)

pub counted_at : (base : Base) (ds : List Downtime) (place : ℕ) (d : Downtime) (depths : Depths) → place < length ds → d ≡ get_or ds place d → AreDepths base (take place ds) depths
    → AreDepths base (take (place + 1) ds) (if d.active then with_depth true d.object depths else depths)
counted_at base ds place d depths within is are = rw (take_more ds place d within, sym is) (counted base (take place ds) d depths are)

pub first_fits : (base : Base) (ds : List Downtime) (place : ℕ) (depths : Depths) (o : Object) → place < length ds → length ds < 2 ^ 64 → AreDepths base (take place ds) depths
    → IfSome (counted_depth depths o) (λ n. n + 1 < 2 ^ 64)
first_fits base ds place depths o within small are =
    depth_fits base (take place ds) depths o place are (omega (arith, length-take_le ds place)) (omega (arith, within, small))
