-- What one variable more does to variables of which each name comes once.
use Rattle.std.proofs.Common.{◌≡◌, ℕ, zero, suc, ◌+◌, ◌<◌, ◌≤◌, Bool, true, false, not, cond, Some, None, List, [], ◌∷◌, ◌++◌, map, length, get_or, take, set, refl, sym, ap, ap₂, ◌∙◌, arith, ⊎_elim}
use Rattle.std.specs.Prelude.{bytes_eq, filter}
use Rattle.std.specs.List.{position, position_or_len}
use Rattle.std.proofs.lemmas.Grind.{common_steps}
use Rattle.std.proofs.lemmas.Bool.{both_ways, cases_Bool, false_from_ne_true}
use Rattle.std.proofs.lemmas.List.{append-nil, map-append, reverse-append}
use Rattle.std.proofs.lemmas.List.Elements.{filter_more}
use Rattle.std.proofs.lemmas.List.Quantifiers.{position-Some}
use Rattle.std.proofs.lemmas.Slice.Eq.{bytes_eq-Decides}
use Rattle.indexmap.specs.IndexMap.{insert_entry}
use Rattle.lq_objects.specs.Blocks.{Line}
use Rattle.lq_objects.specs.Objects.{custom_variables, is_variable, last_value, merged_variables, variable_of}

abbrev pub Pair : Type 0
Pair = List ℕ × List ℕ

abbrev is_other : List ℕ → Pair → Bool
is_other name other = not (bytes_eq name other.0)

abbrev pub with_pair : List Pair → Pair → List Pair
with_pair pairs new = insert_entry bytes_eq pairs new.0 new.1

same_name : (first second : List ℕ) → bytes_eq first second ≡ true → second ≡ first
same_name first second same = sym ((bytes_eq-Decides first second).0 same)

is_same_name : (first second : List ℕ) → first ≡ second → bytes_eq first second ≡ true
is_same_name first second same = (bytes_eq-Decides first second).1 same

turned : (first second : List ℕ) (answer : Bool) → bytes_eq first second ≡ answer → bytes_eq second first ≡ answer
turned first second true same = is_same_name second first (same_name first second same)
turned first second false differs =
    false_from_ne_true (bytes_eq second first) (λ same. both_ways (bytes_eq first second) differs (is_same_name first second (same_name second first same)))

-- a new variable that has another name than the first
others_with_other : (name : List ℕ) (new : Pair) → bytes_eq name new.0 ≡ false → (pairs : List Pair)
    → filter (is_other name) (with_pair pairs new) ≡ with_pair (filter (is_other name) pairs) new
others_with_other name new differs [] = rw differs refl
others_with_other name new differs (pair ∷ pairs) = ⊎_elim
    (λ same. rw same (rw (ap (bytes_eq name) (same_name new.0 pair.0 same) ∙ differs) (rw same refl)))
    (λ other. rw other (⊎_elim
    (λ dropped. rw dropped (others_with_other name new differs pairs))
    (λ kept. rw kept (rw other (ap (λ rest. pair ∷ rest) (others_with_other name new differs pairs))))
    (cases_Bool (bytes_eq name pair.0))))
    (cases_Bool (bytes_eq new.0 pair.0))

-- a new variable that has the first's name
others_with_same : (name : List ℕ) (new : Pair) → bytes_eq name new.0 ≡ true → (pairs : List Pair)
    → filter (is_other name) (with_pair pairs new) ≡ filter (is_other name) pairs
others_with_same name new same [] = rw same refl
others_with_same name new same (pair ∷ pairs) = ⊎_elim
    (λ found. rw found (rw (ap (bytes_eq name) (same_name new.0 pair.0 found) ∙ same) refl))
    (λ other. rw other (ap (λ rest. cond (is_other name pair) (pair ∷ rest) rest) (others_with_same name new same pairs)))
    (cases_Bool (bytes_eq new.0 pair.0))

-- ---- the last value

last_value-same : (first new : Pair) (later : List Pair) → bytes_eq first.0 new.0 ≡ true → last_value first (later ++ new ∷ []) ≡ new.1
last_value-same first new later same = rw (reverse-append later (new ∷ [])) (rw same refl)

last_value-other : (first new : Pair) (later : List Pair) → bytes_eq first.0 new.0 ≡ false
    → last_value first (later ++ new ∷ []) ≡ last_value first later
last_value-other first new later differs = rw (reverse-append later (new ∷ [])) (rw differs refl)

merged-push : (pairs : List Pair) (new : Pair) → merged_variables (pairs ++ new ∷ []) ≡ with_pair (merged_variables pairs) new
merged-push [] new = refl
merged-push (first ∷ later) new =
    let step = ap (λ rest. (first.0, last_value first (later ++ new ∷ [])) ∷ filter (is_other first.0) rest) (merged-push later new) in
    ⊎_elim
    (λ same.
    let turn = turned new.0 first.0 true same in
    step ∙ rw same (ap₂ (λ value rest. (first.0, value) ∷ rest) (last_value-same first new later turn) (others_with_same first.0 new turn (merged_variables later))))
    (λ differs.
    let turn = turned new.0 first.0 false differs in
    step ∙ rw differs (ap₂ (λ value rest. (first.0, value) ∷ rest) (last_value-other first new later turn) (others_with_other first.0 new turn (merged_variables later))))
    (cases_Bool (bytes_eq new.0 first.0))

-- ---- one line more

variables_of_more : (lines : List Line) (at : ℕ) (line : Line) (answer : Bool) → at < length lines → line ≡ get_or lines at line
    → is_variable line.text ≡ answer
    → custom_variables (take (at + 1) lines) ≡ merged_variables (map variable_of (filter (λ other. is_variable other.text) (take at lines)) ++ map variable_of (cond answer (line ∷ []) []))
variables_of_more lines at line answer within is tested =
    let variables : List Line = filter (λ other. is_variable other.text) (take at lines) in
    ap (λ kept. merged_variables (map variable_of kept)) (filter_more (λ other. is_variable other.text) lines at line within)
    ∙ ap (λ (next : Line). merged_variables (map variable_of (variables ++ cond (is_variable next.text) (next ∷ []) []))) (sym is)
    ∙ ap (λ test. merged_variables (map variable_of (variables ++ cond test (line ∷ []) []))) tested
    ∙ ap merged_variables (map-append variable_of variables (cond answer (line ∷ []) []))

-- a line of a variable
pub variables-more : (lines : List Line) (at : ℕ) (line : Line) (before after : List Pair) → at < length lines → line ≡ get_or lines at line
    → before ≡ custom_variables (take at lines) → is_variable line.text ≡ true → after ≡ with_pair before (variable_of line)
    → after ≡ custom_variables (take (at + 1) lines)
variables-more lines at line before after within is so_far variable added =
    added ∙ ap (λ pairs. with_pair pairs (variable_of line)) so_far
    ∙ sym (variables_of_more lines at line true within is variable
    ∙ merged-push (map variable_of (filter (λ other. is_variable other.text) (take at lines))) (variable_of line))

-- any other line
pub variables-same : (lines : List Line) (at : ℕ) (line : Line) (before : List Pair) → at < length lines → line ≡ get_or lines at line
    → before ≡ custom_variables (take at lines) → is_variable line.text ≡ false → before ≡ custom_variables (take (at + 1) lines)
variables-same lines at line before within is so_far other =
    so_far ∙ sym (variables_of_more lines at line false within is other
    ∙ ap merged_variables (append-nil (map variable_of (filter (λ next. is_variable next.text) (take at lines)))))

-- ---- a variable among few, which are gone over one by one

abbrev has_name : List ℕ → Pair → Bool
has_name name pair = bytes_eq name pair.0

put_first : (pairs : List Pair) (new : Pair) (place : ℕ) (d : Pair) → place < length pairs → has_name new.0 (get_or pairs place d) ≡ true
    → ((k : ℕ) → k < place → has_name new.0 (get_or pairs k d) ≡ false)
    → set pairs place ((get_or pairs place d).0, new.1) ≡ with_pair pairs new
put_first [] new place d within passes fails = absurd (omega (arith, within))
put_first (pair ∷ pairs) new zero d within passes fails = rw passes refl
put_first (pair ∷ pairs) new (suc place) d within passes fails =
    rw (fails 0 (omega arith))
    (ap (λ rest. pair ∷ rest) (put_first pairs new place d (omega (arith, within)) passes (λ k below. fails (suc k) (omega (arith, below)))))

-- its name is there
pub put-there : (pairs : List Pair) (name value : List ℕ) (place : ℕ) (d : Pair) → position (has_name name) pairs ≡ Some place
    → set pairs place ((get_or pairs place d).0, value) ≡ insert_entry bytes_eq pairs name value
put-there pairs name value place d found =
    let first = position-Some (has_name name) pairs place d found in
    put_first pairs (name, value) place d first.0 first.1 first.2

put_last : (pairs : List Pair) (new : Pair) → length pairs ≤ position_or_len (has_name new.0) pairs → pairs ++ new ∷ [] ≡ with_pair pairs new
put_last [] new past = refl
put_last (pair ∷ pairs) new past = ⊎_elim
    (λ same.
    let first : position_or_len (has_name new.0) (pair ∷ pairs) ≡ 0 = rw same refl in
    absurd (omega (arith, past, first)))
    (λ other.
    let later : position_or_len (has_name new.0) (pair ∷ pairs) ≡ 1 + position_or_len (has_name new.0) pairs = rw other refl in
    rw other (ap (λ rest. pair ∷ rest) (put_last pairs new (omega (arith, past, later)))))
    (cases_Bool (has_name new.0 pair))

-- its name is new
pub put-new : (pairs : List Pair) (name value : List ℕ) → position (has_name name) pairs ≡ None
    → pairs ++ (name, value) ∷ [] ≡ insert_entry bytes_eq pairs name value
put-new pairs name value none =
    let past : length pairs ≤ position_or_len (has_name name) pairs = grind (arith, common_steps) in
    put_last pairs (name, value) past
