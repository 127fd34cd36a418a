-- The directives that are known, by the first byte of a line, and which of them a line is.
use Rattle.std.proofs.Common.{◌≡◌, ℕ, Bool, true, false, ◌&&◌, ◌||◌, Option, List, [], ◌∷◌, length, map, cond, Some, None, refl, sym, ap, ◌∙◌, subst, ⊎_elim}
use Rattle.std.specs.Prelude.{◌==◌, bytes_eq, find, is_some, nat_eq, nat_lt, slice_get, slice_index}
use Rattle.std.specs.List.{list_any, starts_with}
use Rattle.std.specs.Option.{option_eq}
use Rattle.std.proofs.lemmas.Bool.{cases_Bool, eq-eqb, eqb-true, or_parts}
use Rattle.std.proofs.lemmas.Slice.Eq.{bytes_eq-Decides}
use Rattle.lq_objects.specs.Blocks.{is_named}
use Rattle.lq_objects.specs.Needed.{directive_word, directives, is_known, known_directive, known_directives}
use Rattle.lq_objects.specs.declared.known.Directive.{Directive}
use Rattle.lq_objects.specs.declared.known.Directive.TheVariants as known
use denote.Enum.Declared.{tag_of}
use Rattle.lq_objects.specs.contracts.known.Directive.{the_type}
use Rattle.lq_objects.specs.contracts.known.DirectivePartialEq.TheImpl as equal
use Rattle.lq_text.specs.Blanks.{is_blank}
use Rattle.lq_objects.proofs.WordLemmas.{and-false, same_name}

-- the place of a directive among all
abbrev place : Directive → ℕ
place one = tag_of the_type one

-- what is known of a directive's word, and of its place
record IsWord (one : Directive) : Type 0 where
  pub some : nat_lt 0 (length (directive_word one)) ≡ true
  pub plain : list_any is_blank (directive_word one) ≡ false
  pub own : find (λ other. bytes_eq (directive_word one) (directive_word other)) directives ≡ Some one
  pub at : slice_get directives (place one) ≡ Some one

is_word : (one : Directive) → IsWord one
unfolding directives
is_word known.ActionUrl = record { some = refl; plain = refl; own = refl; at = refl }
is_word known.Address = record { some = refl; plain = refl; own = refl; at = refl }
is_word known.Alias = record { some = refl; plain = refl; own = refl; at = refl }
is_word known.CheckCommand = record { some = refl; plain = refl; own = refl; at = refl }
is_word known.CheckPeriod = record { some = refl; plain = refl; own = refl; at = refl }
is_word known.CommandLine = record { some = refl; plain = refl; own = refl; at = refl }
is_word known.CommandName = record { some = refl; plain = refl; own = refl; at = refl }
is_word known.ContactGroups = record { some = refl; plain = refl; own = refl; at = refl }
is_word known.ContactName = record { some = refl; plain = refl; own = refl; at = refl }
is_word known.Contacts = record { some = refl; plain = refl; own = refl; at = refl }
is_word known.ContactGroupName = record { some = refl; plain = refl; own = refl; at = refl }
is_word known.DisplayName = record { some = refl; plain = refl; own = refl; at = refl }
is_word known.Email = record { some = refl; plain = refl; own = refl; at = refl }
is_word known.HostName = record { some = refl; plain = refl; own = refl; at = refl }
is_word known.HostNotificationPeriod = record { some = refl; plain = refl; own = refl; at = refl }
is_word known.HostGroupName = record { some = refl; plain = refl; own = refl; at = refl }
is_word known.IconImage = record { some = refl; plain = refl; own = refl; at = refl }
is_word known.MaxCheckAttempts = record { some = refl; plain = refl; own = refl; at = refl }
is_word known.Members = record { some = refl; plain = refl; own = refl; at = refl }
is_word known.Notes = record { some = refl; plain = refl; own = refl; at = refl }
is_word known.NotesUrl = record { some = refl; plain = refl; own = refl; at = refl }
is_word known.NotificationPeriod = record { some = refl; plain = refl; own = refl; at = refl }
is_word known.NotificationsEnabled = record { some = refl; plain = refl; own = refl; at = refl }
is_word known.Pager = record { some = refl; plain = refl; own = refl; at = refl }
is_word known.Parents = record { some = refl; plain = refl; own = refl; at = refl }
is_word known.Register = record { some = refl; plain = refl; own = refl; at = refl }
is_word known.ServiceDescription = record { some = refl; plain = refl; own = refl; at = refl }
is_word known.ServiceNotificationPeriod = record { some = refl; plain = refl; own = refl; at = refl }
is_word known.ServiceGroupName = record { some = refl; plain = refl; own = refl; at = refl }
is_word known.TimePeriodName = record { some = refl; plain = refl; own = refl; at = refl }
is_word known.Use = record { some = refl; plain = refl; own = refl; at = refl }

-- ---- the first byte

-- the first byte of a word stands in a text that it names
same_first : (n b : ℕ) (starts ends : Bool) → ((b == n) && ((nat_eq n b && starts) && ends)) ≡ ((nat_eq n b && starts) && ends)
same_first n b starts ends = ⊎_elim
    (λ same. rw (eq-eqb b n (sym (eqb-true n b same))) refl)
    (λ other. rw other (and-false (b == n)))
    (cases_Bool (nat_eq n b))

by_word : (byte : ℕ) (text word : List ℕ) → nat_lt 0 (length word) ≡ true
    → ((byte == slice_index word 0) && is_named word (byte ∷ text)) ≡ is_named word (byte ∷ text)
by_word byte text [] some = absurd (cc)
by_word byte text (n ∷ word) some =
    same_first n byte (starts_with nat_eq text word) ((length (byte ∷ text) == length (n ∷ word)) || is_blank (slice_index (byte ∷ text) (length (n ∷ word))))

pub known-by_first : (byte : ℕ) (text : List ℕ) → Some byte ≡ slice_get text 0
    → find (λ one. (byte == slice_index (directive_word one) 0) && is_named (directive_word one) text) directives ≡ known_directive text
known-by_first byte [] first = absurd (cc)
known-by_first byte (b ∷ text) first =
    let same : byte ≡ b = cc in
    ap (λ byte. find (λ one. (byte == slice_index (directive_word one) 0) && is_named (directive_word one) (b ∷ text)) directives) same
    ∙ (λ i. find (λ one. by_word b text (directive_word one) (is_word one).some i) directives)

pub known-empty : (text : List ℕ) → None ≡ slice_get text 0 → None ≡ known_directive text
unfolding directives
known-empty [] none = refl
known-empty (b ∷ text) none = absurd (cc)

-- ---- a line is one directive alone

same_bool : (a b : Bool) → (a ≡ true → b ≡ true) → (b ≡ true → a ≡ true) → a ≡ b
same_bool true b first second = sym (first refl)
same_bool false true first second = second refl
same_bool false false first second = refl

is_same : (one other : Directive) (text : List ℕ) → is_named (directive_word one) text ≡ true
    → is_named (directive_word other) text ≡ bytes_eq (directive_word one) (directive_word other)
is_same one other text is =
    let words = bytes_eq-Decides (directive_word one) (directive_word other) in
    same_bool (is_named (directive_word other) text) (bytes_eq (directive_word one) (directive_word other))
    (λ too. words.1 (same_name (directive_word one) (directive_word other) text (is_word one).plain (is_word other).plain is too))
    (λ same. subst (λ word. is_named word text ≡ true) (words.0 same) is)

pub known-is : (one : Directive) (text : List ℕ) → is_named (directive_word one) text ≡ true → known_directive text ≡ Some one
known-is one text is = (λ i. find (λ other. is_same one other text is i) directives) ∙ (is_word one).own

-- directives are compared by their places
equal_by_place : (one other : Directive) → equal.eq-value.it one other ≡ (place one == place other)
equal_by_place one other = refl

same_directive : (one other : Directive) → equal.eq-value.it one other ≡ true → one ≡ other
same_directive one other same =
    let both : Some one ≡ Some other = sym (is_word one).at ∙ ap (slice_get directives) (eqb-true (place one) (place other) same) ∙ (is_word other).at in
    cc

found_passes : (test : Directive → Bool) (one : Directive) (some : List Directive) → find test some ≡ Some one → test one ≡ true
found_passes test one [] found = absurd (cc)
found_passes test one (other ∷ some) found = by (test other) refl found (found_passes test one some)
  where
    by : (passes : Bool) → test other ≡ passes → cond passes (Some other) (find test some) ≡ Some one
        → (find test some ≡ Some one → test one ≡ true) → test one ≡ true
    by true passes found later = let same : other ≡ one = cc in ap test (sym same) ∙ passes
    by false passes found later = later found

-- whether what a line is equals a directive
pub known-equal : (text : List ℕ) (one : Directive) (found : Option Directive) → found ≡ known_directive text
    → option_eq equal.eq-value.it found (Some one) ≡ is_named (directive_word one) text
known-equal text one None none = same_bool false (is_named (directive_word one) text) (λ no. absurd (cc))
    (λ is. let found : None ≡ Some one = none ∙ known-is one text is in absurd (cc))
known-equal text one (Some other) some = same_bool (equal.eq-value.it other one) (is_named (directive_word one) text)
    (λ same. found_passes (λ known. is_named (directive_word known) text) one directives (sym some ∙ ap Some (same_directive other one same)))
    (λ is. let both : Some other ≡ Some one = some ∙ known-is one text is in
    let same : other ≡ one = cc in
    eq-eqb (place other) (place one) (ap place same))

-- ---- a line that is known

some_found : (text : List ℕ) (some : List Directive)
    → is_some (find (λ one. is_named (directive_word one) text) some) ≡ list_any (λ name. is_named name text) (map directive_word some)
some_found text [] = refl
some_found text (one ∷ some) = by (is_named (directive_word one) text) (some_found text some)
  where
    by : (is : Bool) → is_some (find (λ one. is_named (directive_word one) text) some) ≡ list_any (λ name. is_named name text) (map directive_word some)
        → is_some (cond is (Some one) (find (λ one. is_named (directive_word one) text) some)) ≡ (is || list_any (λ name. is_named name text) (map directive_word some))
    by true rest = refl
    by false rest = rest

pub known-some : (text : List ℕ) → is_some (known_directive text) ≡ is_known text
known-some text = some_found text directives

-- a line that is none of some directives isn't one of them
none_named : (name text : List ℕ) (names : List (List ℕ)) → list_any (bytes_eq name) names ≡ true
    → list_any (λ other. is_named other text) names ≡ false → is_named name text ≡ false
none_named name text [] among none = absurd (cc)
none_named name text (other ∷ names) among none =
    let both = or_parts (is_named other text) (list_any (λ next. is_named next text) names) none in
    ⊎_elim
    (λ same. subst (λ said. is_named said text ≡ false) (sym ((bytes_eq-Decides name other).0 same)) both.0)
    (λ differs. none_named name text names (rw differs at among) both.1)
    (cases_Bool (bytes_eq name other))

-- a directive's name is known
abbrev pub IsKnownName : List ℕ → Type 0
IsKnownName name = list_any (bytes_eq name) known_directives ≡ true

pub known_named : (name text : List ℕ) → IsKnownName name → is_known text ≡ false → is_named name text ≡ false
known_named name text known none = none_named name text known_directives known none
