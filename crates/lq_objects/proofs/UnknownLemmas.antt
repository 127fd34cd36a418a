-- Which blocks name what isn't there: by their lines, and by their directives.
use Rattle.std.proofs.Common.{◌≡◌, ℕ, ◌+◌, ◌<◌, Bool, true, false, true≢false, not, ◌&&◌, ◌||◌, cond, Option, Some, None, List, [], ◌∷◌, length, get_or, drop, reverse, refl, sym, ap, ap₂, ◌∙◌}
use Rattle.std.specs.Prelude.{find, is_some, option_map}
use Rattle.std.specs.List.{list_any}
use Rattle.std.specs.Option.{option_map_or, option_or}
use Rattle.std.proofs.lemmas.List.{drop_more}
use Rattle.lq_names.specs.Names.{ObjectName}
use Rattle.lq_objects.specs.Blocks.{Line, is_named, value_of}
use Rattle.lq_objects.specs.Kinds.{reference_directive, references}
use Rattle.lq_objects.specs.Faults.{fault_if, first_of, is_unknown, lacks_any_named, lacks_named, names_unknown, unknown_in, unknown_in_block}
use Rattle.lq_objects.specs.Checks.{Tells}
use Rattle.lq_objects.specs.Names.{Block}
use Rattle.lq_objects.specs.declared.fault.FaultyLine.{FaultyLine}
use Rattle.lq_objects.specs.declared.fault.ObjectsErr.{ObjectsErr}
use Rattle.lq_objects.specs.declared.fault.ObjectsErr.TheVariants.{At, Memory}
use Rattle.lq_objects.specs.declared.fault.ObjectsWhat.TheVariants.{UnknownName}
use Rattle.lq_objects.specs.declared.kind.BlockKind.{BlockKind}
use Rattle.lq_objects.specs.declared.kind.Reference.{Reference}
use Rattle.lq_objects.proofs.ListLemmas.{find-last}

-- ---- truths

or_false : (a : Bool) → (a || false) ≡ a
or_false true = refl
or_false false = refl

or_turned : (a b : Bool) → (a || b) ≡ (b || a)
or_turned true true = refl
or_turned true false = refl
or_turned false true = refl
or_turned false false = refl

or_mixed : (a b c d : Bool) → ((a || b) || (c || d)) ≡ ((a || c) || (b || d))
or_mixed true b c d = refl
or_mixed false true true d = refl
or_mixed false true false d = refl
or_mixed false false c d = refl

some-or : {X : Type 0} (first second : Option X) → is_some (option_or first second) ≡ (is_some first || is_some second)
some-or None second = refl
some-or (Some x) second = refl

-- ---- lists

any_either : {X : Type 0} (f g : X → Bool) (xs : List X) → list_any (λ x. f x || g x) xs ≡ (list_any f xs || list_any g xs)
any_either f g [] = refl
any_either f g (x ∷ xs) = ap (λ rest. (f x || g x) || rest) (any_either f g xs) ∙ or_mixed (f x) (g x) (list_any f xs) (list_any g xs)

any_of_none : {X : Type 0} (xs : List X) → list_any (λ x. false) xs ≡ false
any_of_none [] = refl
any_of_none (x ∷ xs) = any_of_none xs

found_one : {X : Type 0} (test : X → Bool) (x : X) → is_some (find test (x ∷ [])) ≡ test x
found_one test x = by (test x)
  where
    by : (is : Bool) → is_some (cond is (Some x) None) ≡ is
    by true = refl
    by false = refl

-- the last one is found where there is any
last_found : {X : Type 0} (test : X → Bool) (xs : List X) → is_some (find test (reverse xs)) ≡ list_any test xs
last_found test [] = refl
last_found test (x ∷ xs) =
    ap is_some (find-last test x xs)
    ∙ some-or (find test (reverse xs)) (find test (x ∷ []))
    ∙ ap₂ (λ later here. later || here) (last_found test xs) (found_one test x)
    ∙ or_turned (list_any test xs) (test x)

-- ---- a directive

-- `found` is the last of the later lines that are the directive; where there is none the line at the front decides
decided : {X : Type 0} (unknown : X → Bool) (is : Bool) (line : X) (found : Option X)
    → option_map_or unknown (option_or found (cond is (Some line) None)) false
    ≡ (((is && not (is_some found)) && unknown line) || option_map_or unknown found false)
decided unknown true line (Some other) = refl
decided unknown false line (Some other) = refl
decided unknown true line None = sym (or_false (unknown line))
decided unknown false line None = refl

mapped : {X Y : Type 0} (unknown : Y → Bool) (said : X → Y) (found : Option X)
    → option_map_or unknown (option_map said found) false ≡ option_map_or (λ x. unknown (said x)) found false
mapped unknown said None = refl
mapped unknown said (Some x) = refl

module _ (known : BlockKind → List ObjectName) where
  lacks_by_line : (line : Line) (later : List Line) (reference : Reference)
      → lacks_named known (line ∷ later) reference ≡ (names_unknown known line later reference || lacks_named known later reference)
  lacks_by_line line later reference =
      let named : Line → Bool = λ other. is_named (reference_directive reference) other.text in
      let said : Line → List ℕ = λ other. value_of (reference_directive reference) other.text in
      let unknown : Line → Bool = λ other. is_unknown known reference (said other) in
      let found : Option Line = find named (reverse later) in
      mapped (is_unknown known reference) said (find named (reverse (line ∷ later)))
      ∙ ap (λ last. option_map_or unknown last false) (find-last named line later)
      ∙ decided unknown (named line) line found
      ∙ ap₂ (λ any rest. ((named line && not any) && unknown line) || rest) (last_found named later) (sym (mapped (is_unknown known reference) said found))

  fault-or : (test : Bool) (line : ℕ) (later : Option FaultyLine) → is_some (option_or (fault_if test line UnknownName) later) ≡ (test || is_some later)
  fault-or true line later = refl
  fault-or false line later = refl

  -- a line is at fault where a directive lacks what it names
  pub unknown-lacks : (kind : BlockKind) (lines : List Line) → is_some (unknown_in known kind lines) ≡ lacks_any_named known lines (references kind)
  unknown-lacks kind [] = sym (any_of_none (references kind))
  unknown-lacks kind (line ∷ later) =
      fault-or (list_any (names_unknown known line later) (references kind)) line.number (unknown_in known kind later)
      ∙ ap (λ rest. list_any (names_unknown known line later) (references kind) || rest) (unknown-lacks kind later)
      ∙ sym (any_either (names_unknown known line later) (lacks_named known later) (references kind))
      ∙ (λ i. list_any (λ reference. sym (lacks_by_line line later reference) i) (references kind))

  -- the same of a block
  pub unknown-block : (block : Block) (kind : BlockKind) (lines : List Line) → kind ≡ block.kind → lines ≡ block.lines
      → lacks_any_named known lines (references kind) ≡ is_some (unknown_in_block known block)
  unknown-block block kind lines same_kind same_lines =
      ap₂ (λ kind lines. lacks_any_named known lines (references kind)) same_kind same_lines
      ∙ sym (unknown-lacks block.kind block.lines)

-- ---- blocks

pub first-here : {X : Type 0} (fault : X → Option FaultyLine) (blocks : List X) (at : ℕ) (block : X) → at < length blocks → block ≡ get_or blocks at block
    → first_of fault (drop at blocks) ≡ option_or (fault block) (first_of fault (drop (at + 1) blocks))
first-here fault blocks at block within is =
    ap (first_of fault) (drop_more blocks at block within ∙ ap (λ next. next ∷ drop (at + 1) blocks) (sym is))

pub tells-first : (error : ObjectsErr) (first later : Option FaultyLine) → Tells error first → Tells error (option_or first later)
tells-first (At line what) first later tells = ap (λ fault. option_or fault later) tells
tells-first (Memory _) first later tells = tt

pub none-first : (first later : Option FaultyLine) → is_some first ≡ false → later ≡ option_or first later
none-first None later none = refl
none-first (Some fault) later none = absurd (true≢false none)
