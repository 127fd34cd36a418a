-- The parts of a file, one by one.
use Rattle.std.proofs.Common.{◌≡◌, ℕ, ◌+◌, ◌<◌, ◌≤◌, Bool, true, false, Option, Some, None, List, [], ◌∷◌, ◌++◌, length, take, drop, get_or, refl, subst, cond, nat_lt, ⊎_elim, sym, ap, ◌∙◌, arith, take-append-drop}
use Rattle.std.specs.List.{list_any, position, position_or_len}
use Rattle.std.proofs.lemmas.Bool.{cases_lt, le-ltb, lt-ltb, or_parts}
use Rattle.std.proofs.lemmas.List.{drop_more, get_or-take, length-take}
use Rattle.std.proofs.lemmas.List.Sums.{fails_before_first, passes_at_first}
use Rattle.std.proofs.lemmas.List.Folds.{list_any_none}
use Rattle.lq_objects.specs.Blocks.{Line, Part, begin_part, is_closing, parts_of}

abbrev pub part : List Line → Option Line → Part
part lines closing = record { lines = lines; closing = closing }

-- the first part, by the lines up to a closing one
parts_of-front : (front : List Line) (closing : Line) (rest : List Line) → list_any is_closing front ≡ false → is_closing closing ≡ true
    → parts_of (front ++ closing ∷ rest) ≡ part front (Some closing) ∷ parts_of rest
parts_of-front [] closing rest none closes = rw closes refl
parts_of-front (line ∷ front) closing rest none closes =
    let both = or_parts (is_closing line) (list_any is_closing front) none in
    rw both.0 (ap (begin_part line) (parts_of-front front closing rest both.1 closes))

-- the last part, which isn't closed
pub parts_of-open : (line : Line) (lines : List Line) → list_any is_closing (line ∷ lines) ≡ false → parts_of (line ∷ lines) ≡ part (line ∷ lines) None ∷ []
parts_of-open line [] none = rw (or_parts (is_closing line) false none).0 refl
parts_of-open line (next ∷ lines) none =
    let both = or_parts (is_closing line) (list_any is_closing (next ∷ lines)) none in
    rw both.0 (ap (begin_part line) (parts_of-open next lines both.1))

none_some : {X : Type 0} (value : X) → None ≡ Some value → ⊥
none_some value same = cc

length-take-lt : (n : ℕ) (lines : List Line) (i : ℕ) → i < length (take n lines) → i < n
length-take-lt n lines i within = omega (arith, within, length-take n lines)

closed_at_first : (lines : List Line) (closing : Line) → position_or_len is_closing lines < length lines
    → parts_of lines ≡ part (take (position_or_len is_closing lines) lines) (Some (get_or lines (position_or_len is_closing lines) closing))
    ∷ parts_of (drop (position_or_len is_closing lines + 1) lines)
closed_at_first lines closing below =
    let end : ℕ = position_or_len is_closing lines in
    let none : list_any is_closing (take end lines) ≡ false =
    list_any_none is_closing (take end lines) (λ i d within.
    let inside : i < end = length-take-lt end lines i within in
    ap is_closing (get_or-take end lines i d inside) ∙ fails_before_first is_closing lines i d inside) in
    ap parts_of (sym (take-append-drop end lines) ∙ ap (λ rest. take end lines ++ rest) (drop_more lines end closing below))
    ∙ parts_of-front (take end lines) (get_or lines end closing) (drop (end + 1) lines) none (passes_at_first is_closing lines closing below)

some_same : (end n m : ℕ) → Some end ≡ cond (nat_lt n m) (Some n) None → (n ≡ end) × (n < m)
some_same end n m found =
    ⊎_elim (λ below. (let same : Some end ≡ Some n = found ∙ rw (lt-ltb n m below) refl in cc, below))
    (λ above. absurd (none_some end (sym (found ∙ rw (le-ltb n m above) refl))))
    (cases_lt n m)

-- the first part, where a line closes it
pub parts_of-closed : (lines : List Line) (end : ℕ) (closing : Line) → Some end ≡ position is_closing lines
    → parts_of lines ≡ part (take end lines) (Some (get_or lines end closing)) ∷ parts_of (drop (end + 1) lines)
parts_of-closed lines end closing found =
    let place = some_same end (position_or_len is_closing lines) (length lines) found in
    subst (λ (n : ℕ). parts_of lines ≡ part (take n lines) (Some (get_or lines n closing)) ∷ parts_of (drop (n + 1) lines)) place.0
    (closed_at_first lines closing place.1)

not_below : (a b : ℕ) → cond (nat_lt a b) (Some a) None ≡ None → b ≤ a
not_below a b none = ⊎_elim (λ below. absurd (none_some a (sym none ∙ rw (lt-ltb a b below) refl))) (λ above. above) (cases_lt a b)

list_any-from_position : {X : Type 0} (p : X → Bool) (xs : List X) → position p xs ≡ None → list_any p xs ≡ false
list_any-from_position p xs none =
    let past : length xs ≤ position_or_len p xs = not_below (position_or_len p xs) (length xs) none in
    list_any_none p xs (λ i d below. fails_before_first p xs i d (omega (arith, past, below)))

-- the last part, where no line closes it
pub parts_of-unclosed : (lines : List Line) → None ≡ position is_closing lines → 0 < length lines → parts_of lines ≡ part lines None ∷ parts_of []
parts_of-unclosed [] none some = absurd (omega (arith, some))
parts_of-unclosed (line ∷ lines) none some = parts_of-open line lines (list_any-from_position is_closing (line ∷ lines) (sym none))
