-- What logs last tell of what a view shows, where they agree in the lines that it shows.
use Rattle.std.proofs.Common.{◌≡◌, ℕ, ◌==◌, ◌&&◌, ◌||◌, not, Bool, true, false, Option, Some, None, List, [], ◌∷◌, length, filter, bytes_eq, refl, sym, ap, subst, ◌∙◌, true≢false, if◌then◌else◌}
use Rattle.std.specs.Option.{option_map_or, unwrap_or}
use Rattle.std.proofs.lemmas.Bool.{eqb-true}
use Rattle.lq_records.specs.Object.{is_same_object}
use Rattle.lq_records.specs.declared.base.Base.{Base}
use Rattle.lq_records.specs.declared.object.Object.{Object}
use Rattle.lq_records.specs.declared.object.Object.TheVariants as object
use Rattle.lq_events.specs.declared.log_entry.Kind.{Kind}
use Rattle.lq_events.specs.declared.log_entry.Kind.TheVariants as kind
use Rattle.lq_events.specs.declared.log_entry.LogEntry.{LogEntry}
use Rattle.lq_log.specs.LastTold.{flapping_told, is_flapping, is_period_on, last_told, period_in, period_of_kind, period_told}
use Rattle.lq_log.specs.Told.{object_named, object_of, form_subject, told_as, told_by}
use Rattle.lq_auth.specs.Lines.{is_open, is_transition}
use Rattle.lq_auth.specs.declared.view.View.{View}
use Rattle.lq_auth.specs.declared.view.View.TheVariants.{All, Only}
use Rattle.lq_query.specs.Isolation.{is_line_shown, is_shown}

-- ---- lines that tell nothing drop out

kept_first : (tells : LogEntry → Option Bool) (keeps : LogEntry → Bool) (known : Bool) (entry : LogEntry) (log : List LogEntry) (is : Bool) → keeps entry ≡ is
    → (keeps entry ≡ false → tells entry ≡ None) → ((next : Bool) → last_told tells next log ≡ last_told tells next (filter keeps log))
    → last_told tells known (entry ∷ log) ≡ last_told tells known (filter keeps (entry ∷ log))
kept_first tells keeps known entry log true is none rest = rw is (rest (unwrap_or (tells entry) known))
kept_first tells keeps known entry log false is none rest =
    rw is (ap (λ (found : Option Bool). last_told tells (unwrap_or found known) log) (none is) ∙ rest known)

told_kept : (tells : LogEntry → Option Bool) (keeps : LogEntry → Bool) → ((entry : LogEntry) → keeps entry ≡ false → tells entry ≡ None)
    → (log : List LogEntry) (known : Bool) → last_told tells known log ≡ last_told tells known (filter keeps log)
told_kept tells keeps none [] known = refl
told_kept tells keeps none (entry ∷ log) known = kept_first tells keeps known entry log (keeps entry) refl (none entry) (told_kept tells keeps none log)

told_same : (tells : LogEntry → Option Bool) (keeps : LogEntry → Bool) → ((entry : LogEntry) → keeps entry ≡ false → tells entry ≡ None)
    → (known : Bool) (xs ys : List LogEntry) → filter keeps xs ≡ filter keeps ys → last_told tells known xs ≡ last_told tells known ys
told_same tells keeps none known xs ys same = told_kept tells keeps none xs known ∙ ap (last_told tells known) same ∙ sym (told_kept tells keeps none ys known)

-- ---- a line that isn't shown

shown_as : (base : Base) (view : View) (a b : Object) → is_same_object a b ≡ true → is_shown base view a ≡ true → is_shown base view b ≡ true
shown_as base view (object.Host a) (object.Host b) same shown =
    subst (λ n. is_shown base view (object.Host (record { 0 = n })) ≡ true) (eqb-true a.0 b.0 same) shown
shown_as base view (object.Service a) (object.Service b) same shown =
    subst (λ n. is_shown base view (object.Service (record { 0 = n })) ≡ true) (eqb-true a.0 b.0 same) shown
shown_as base view (object.Host a) (object.Service b) same shown = absurd (cc)
shown_as base view (object.Service a) (object.Host b) same shown = absurd (cc)

-- such a line is about another object
other_object : (base : Base) (view : View) (about found : Object) (otherwise : Bool) (is : Bool) → is_same_object about found ≡ is → is_shown base view about ≡ true
    → is_shown base view found ≡ false → is_same_object about found ≡ false
other_object base view about found otherwise true is shown hidden = absurd (true≢false (sym (shown_as base view about found is shown) ∙ hidden))
other_object base view about found otherwise false is shown hidden = is

pub hidden_about : (base : Base) (view : View) (about : Object) (of : Option Object) (otherwise : Bool) → is_shown base view about ≡ true
    → option_map_or (is_shown base view) of otherwise ≡ false → option_map_or (is_same_object about) of false ≡ false
hidden_about base view about None otherwise shown hidden = refl
hidden_about base view about (Some found) otherwise shown hidden = other_object base view about found otherwise (is_same_object about found) refl shown hidden

hidden_flapping : (base : Base) (view : View) (about : Object) → is_shown base view about ≡ true → (entry : LogEntry) → is_line_shown base view entry ≡ false → flapping_told base about entry ≡ None
hidden_flapping base All about shown entry hidden = absurd (true≢false hidden)
hidden_flapping base (Only seen) about shown entry hidden =
    rw (hidden_about base (Only seen) about (object_of base entry) (is_open entry) shown hidden) refl

or_true : (a b : Bool) → (a || b || true) ≡ true
or_true true true = refl
or_true true false = refl
or_true false true = refl
or_true false false = refl

either_none : (test : Bool) (found : Option Bool) → found ≡ None → (if test then found else None) ≡ None
either_none true found none = none
either_none false found none = refl

-- a line by which no period goes over tells of none, and one by which one does is shown
hidden_kind : (base : Base) (seen : View) (entry : LogEntry) (is : Kind) → entry.kind ≡ is
    → option_map_or (is_shown base seen) (object_named base entry (form_subject is)) (entry.class == 0 || entry.class == 2 || is_transition is) ≡ false → period_in (told_as entry is) ≡ None
hidden_kind base seen entry (kind.TimeperiodTransition name from to) same hidden =
    absurd (true≢false (sym (or_true (entry.class == 0) (entry.class == 2)) ∙ hidden))
hidden_kind base seen entry _ same hidden = refl

hidden_period : (base : Base) (view : View) (name : List ℕ) (entry : LogEntry) → is_line_shown base view entry ≡ false → period_told name entry ≡ None
hidden_period base All name entry hidden = absurd (true≢false hidden)
hidden_period base (Only seen) name entry hidden =
    either_none (not (length name == 0) && bytes_eq name (period_of_kind entry.kind)) (period_in (told_by entry))
    (hidden_kind base (Only seen) entry entry.kind refl hidden)

-- ---- logs that agree

pub flapping_agrees : (base : Base) (view : View) (xs ys : List LogEntry) → filter (is_line_shown base view) xs ≡ filter (is_line_shown base view) ys
    → (about : Object) → is_shown base view about ≡ true → is_flapping base xs about ≡ is_flapping base ys about
flapping_agrees base view xs ys same about shown =
    told_same (flapping_told base about) (is_line_shown base view) (hidden_flapping base view about shown) false xs ys same

pub period_agrees : (base : Base) (view : View) (xs ys : List LogEntry) → filter (is_line_shown base view) xs ≡ filter (is_line_shown base view) ys
    → (name : List ℕ) → is_period_on xs name ≡ is_period_on ys name
period_agrees base view xs ys same name =
    told_same (period_told name) (is_line_shown base view) (hidden_period base view name) true xs ys same
