-- One more line is kept with those of its host.
use Rattle.std.proofs.Common.{◌≡◌, ◌≢◌, ℕ, zero, suc, ◌<◌, ◌≤◌, ◌==◌, Bool, true, false, Option, Some, None, is_none, IfSome, IsSomeAnd, List, [], ◌∷◌, ◌++◌, length, map, filter, slice_get, slice_set, get_or, refl, sym, ap, subst, ◌∙◌, true≢false, arith, cond, if◌then◌else◌}
use Rattle.std.specs.Option.{option_map_or}
use Rattle.std.proofs.lemmas.Bool.{eq-eqb, eqb-true}
use Rattle.std.proofs.lemmas.List.Elements.{filter-append}
use Rattle.lq_records.specs.declared.base.Base.{Base}
use Rattle.lq_records.specs.declared.ids.HostId.{HostId}
use Rattle.lq_records.specs.declared.object.Object.{Object}
use Rattle.lq_statehist.specs.Notes.{Note, Said, State, Downtime, Flapping, Period}
use Rattle.lq_statehist.specs.Pass.{note_of}
use Rattle.lq_statehist.specs.Sorted.{AreSorted, host_about, is_of_host, is_of_period, is_on, is_period, object_of_said, with_note}
use Rattle.lq_statehist.specs.declared.line.Line.{Line}
use Rattle.lq_statehist.specs.declared.notes.Notes.{Notes}

append_none : {A : Type 0} (xs : List A) → xs ≡ xs ++ []
append_none [] = refl
append_none (x ∷ xs) = ap (λ list. x ∷ list) (append_none xs)

more_where : {A : Type 0} (is : Bool) (xs : List A) (x : A) → (if is then xs ++ x ∷ [] else xs) ≡ xs ++ cond is (x ∷ []) []
more_where true xs x = refl
more_where false xs x = append_none xs

-- ---- what is kept at a place

on_place : {V : Type 0} (notes : V → List Note) (now old : Option V) (change : List Note → List Note) (before after : List Note)
    → IfSome now (λ value. IsSomeAnd old (λ kept. notes value ≡ change (notes kept))) → IfSome old (λ kept. notes kept ≡ before) → change before ≡ after
    → IfSome now (λ value. notes value ≡ after)
on_place notes None old change before after is kept same = is
on_place notes (Some value) None change before after is kept same = absurd is
on_place notes (Some value) (Some old) change before after is kept same = is ∙ ap change kept ∙ same

same_place : {V : Type 0} (notes : V → List Note) (at : Option V) → IfSome at (λ value. IsSomeAnd at (λ kept. notes value ≡ notes kept))
same_place notes None = tt
same_place notes (Some value) = refl

module _ {V : Type 0} (notes : V → List Note) (new : V) (note : Note) where
  set_with : (items : List V) (at place : ℕ) (is : Bool) → (is ≡ true → at ≡ place) → (is ≡ false → at ≢ place) → IfSome (slice_get items at) (λ old. notes new ≡ notes old ++ note ∷ [])
      → IfSome (slice_get (slice_set items at new) place) (λ now. IsSomeAnd (slice_get items place) (λ kept. notes now ≡ (if is then notes kept ++ note ∷ [] else notes kept)))
  set_with [] at place is same apart added = tt
  set_with (x ∷ items) zero zero true same apart added = added
  set_with (x ∷ items) zero zero false same apart added = absurd (apart refl refl)
  set_with (x ∷ items) zero (suc place) true same apart added = absurd (omega (arith, same refl))
  set_with (x ∷ items) zero (suc place) false same apart added = same_place notes (slice_get items place)
  set_with (x ∷ items) (suc at) zero true same apart added = absurd (omega (arith, same refl))
  set_with (x ∷ items) (suc at) zero false same apart added = refl
  set_with (x ∷ items) (suc at) (suc place) is same apart added =
      set_with items at place is (λ so. omega (arith, same so)) (λ so one. apart so (ap suc one)) added

  pub set_place : (items : List V) (at : ℕ) → IfSome (slice_get items at) (λ old. notes new ≡ notes old ++ note ∷ []) → (place : ℕ)
      → IfSome (slice_get (slice_set items at new) place) (λ now. IsSomeAnd (slice_get items place) (λ kept. notes now ≡ (if at == place then notes kept ++ note ∷ [] else notes kept)))
  set_place items at added place =
      set_with items at place (at == place) (eqb-true at place) (λ so same. true≢false (sym (eq-eqb at place same) ∙ so)) added

none_with : {V : Type 0} (notes : V → List Note) (note : Note) (items : List V) (at place : ℕ) (is : Bool) → (is ≡ true → at ≡ place) → length items ≤ at
    → IfSome (slice_get items place) (λ now. IsSomeAnd (slice_get items place) (λ kept. notes now ≡ (if is then notes kept ++ note ∷ [] else notes kept)))
none_with notes note [] at place is same out = tt
none_with notes note (x ∷ items) zero place is same out = absurd (omega (arith, out))
none_with notes note (x ∷ items) (suc at) zero true same out = absurd (omega (arith, same refl))
none_with notes note (x ∷ items) (suc at) zero false same out = refl
none_with notes note (x ∷ items) (suc at) (suc place) is same out = none_with notes note items at place is (λ so. omega (arith, same so)) (omega (arith, out))

pub none_set : {V : Type 0} (notes : V → List Note) (note : Note) (items : List V) (at : ℕ) → length items ≤ at → (place : ℕ)
    → IfSome (slice_get items place) (λ now. IsSomeAnd (slice_get items place) (λ kept. notes now ≡ (if at == place then notes kept ++ note ∷ [] else notes kept)))
none_set notes note items at out place = none_with notes note items at place (at == place) (eqb-true at place) out

is_of_none : (said : Said) → object_of_said said ≡ None → is_period said ≡ true
is_of_none (State found state output) none = absurd (true≢false (sym (ap is_none none)))
is_of_none (Downtime found on) none = absurd (true≢false (sym (ap is_none none)))
is_of_none (Flapping found on) none = absurd (true≢false (sym (ap is_none none)))
is_of_none (Period name on) none = refl

is_of_some : (said : Said) (about : Object) → object_of_said said ≡ Some about → is_period said ≡ false
is_of_some (State found state output) about some = refl
is_of_some (Downtime found on) about some = refl
is_of_some (Flapping found on) about some = refl
is_of_some (Period name on) about some = absurd (true≢false (ap is_none some))

-- ---- what is kept, with one more line

module _ (old new : Notes) (base : Base) (line : Line) (told : List Note) (are : AreSorted old base told) where
  -- what is filtered, with the line or without it
  more_filtered : (p : Note → Bool) (is : Bool) → p (note_of line) ≡ is → filter p (told ++ note_of line ∷ []) ≡ filter p told ++ cond is (note_of line ∷ []) []
  more_filtered p is so = filter-append p told (note_of line ∷ []) ∙ ap (λ b. filter p told ++ cond b (note_of line ∷ []) []) so

  none_filtered : (p : Note → Bool) → p (note_of line) ≡ false → filter p told ≡ filter p (told ++ note_of line ∷ [])
  none_filtered p so = append_none (filter p told) ∙ sym (more_filtered p false so)

  one_filtered : (p : Note → Bool) → p (note_of line) ≡ true → filter p told ++ note_of line ∷ [] ≡ filter p (told ++ note_of line ∷ [])
  one_filtered p so = sym (more_filtered p true so)

  kept_on : {V : Type 0} (notes : V → List Note) (p : Note → Bool) → p (note_of line) ≡ false → (at : Option V)
      → IfSome at (λ kept. notes kept ≡ filter p told) → IfSome at (λ kept. notes kept ≡ filter p (told ++ note_of line ∷ []))
  kept_on notes p none None is = is
  kept_on notes p none (Some value) is = is ∙ none_filtered p none

  -- a line about a time period
  pub period_added : object_of_said (note_of line).said ≡ None → new.hosts ≡ old.hosts
      → map note_of new.periods.items ≡ map note_of old.periods.items ++ note_of line ∷ [] → AreSorted new base (told ++ note_of line ∷ [])
  period_added none hosts periods = record {
    count = ap (λ kept. length kept.items) hosts ∙ are.count;
    hosts = λ place. subst (λ kept. IfSome (slice_get kept.items place) (λ value. map note_of value.items ≡ filter (is_of_host base (record { 0 = place })) (told ++ note_of line ∷ []))) (sym hosts)
        (kept_on (λ kept. map note_of kept.items) (is_of_host base (record { 0 = place })) (ap (λ found. option_map_or (is_on base (record { 0 = place })) found false) none)
        (slice_get old.hosts.items place) (are.hosts place));
    periods = periods ∙ ap (λ list. list ++ note_of line ∷ []) are.periods ∙ one_filtered is_of_period (is_of_none (note_of line).said none);
  }

  -- a line about an object of a host that the base has
  pub host_added : (about : Object) (host : HostId) → object_of_said (note_of line).said ≡ Some about → host_about base about ≡ Some host
      → length new.hosts.items ≡ length old.hosts.items
      → ((place : ℕ) → IfSome (slice_get new.hosts.items place) (λ now. IsSomeAnd (slice_get old.hosts.items place) (λ kept. map note_of now.items ≡ with_note host place line (map note_of kept.items))))
      → new.periods ≡ old.periods → AreSorted new base (told ++ note_of line ∷ [])
  host_added about host object on count hosts periods = record {
    count = count ∙ are.count;
    hosts = λ place. on_place (λ kept. map note_of kept.items) (slice_get new.hosts.items place) (slice_get old.hosts.items place) (with_note host place line)
        (filter (is_of_host base (record { 0 = place })) told) (filter (is_of_host base (record { 0 = place })) (told ++ note_of line ∷ [])) (hosts place) (are.hosts place)
        (more_where (host.0 == place) (filter (is_of_host base (record { 0 = place })) told) (note_of line)
        ∙ sym (more_filtered (is_of_host base (record { 0 = place })) (host.0 == place)
        (ap (λ found. option_map_or (is_on base (record { 0 = place })) found false) object ∙ ap (λ (own : Option HostId). option_map_or (λ own. own.0 == place) own false) on)));
    periods = ap (λ kept. map note_of kept.items) periods ∙ are.periods ∙ none_filtered is_of_period (is_of_some (note_of line).said about object);
  }

  -- a line about an object whose host isn't known
  pub nowhere_added : (about : Object) → object_of_said (note_of line).said ≡ Some about → host_about base about ≡ None
      → AreSorted old base (told ++ note_of line ∷ [])
  nowhere_added about object nowhere = record {
    count = are.count;
    hosts = λ place. kept_on (λ kept. map note_of kept.items) (is_of_host base (record { 0 = place }))
        (ap (λ found. option_map_or (is_on base (record { 0 = place })) found false) object ∙ ap (λ (own : Option HostId). option_map_or (λ own. own.0 == place) own false) nowhere)
        (slice_get old.hosts.items place) (are.hosts place);
    periods = are.periods ∙ none_filtered is_of_period (is_of_some (note_of line).said about object);
  }

-- ---- the list of a host

map_append : (xs ys : List Line) → map note_of (xs ++ ys) ≡ map note_of xs ++ map note_of ys
map_append [] ys = refl
map_append (x ∷ xs) ys = ap (λ list. note_of x ∷ list) (map_append xs ys)

-- a line after others
pub line_after : (all lines : List Line) (line : Line) → all ≡ lines ++ line ∷ [] → map note_of all ≡ map note_of lines ++ note_of line ∷ []
line_after all lines line is = ap (map note_of) is ∙ map_append lines (line ∷ [])

pub if_found : {V : Type 0} (items : List V) (at : ℕ) (P : V → Type 0) (d : V) → at < length items → P (get_or items at d) → IfSome (slice_get items at) P
if_found [] at P d within is = absurd (omega (arith, within))
if_found (x ∷ items) zero P d within is = is
if_found (x ∷ items) (suc at) P d within is = if_found items at P d (omega (arith, within)) is
