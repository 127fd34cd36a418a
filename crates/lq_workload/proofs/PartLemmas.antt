-- The lines and the parts of an object file, a block at a time.
use Rattle.std.proofs.Common.{◌≡◌, ℕ, suc, ◌+◌, ◌<◌, Bool, cond, true, false, List, [], ◌∷◌, ◌++◌, map, length, refl, ap, ◌∙◌, arith, codes}
use Rattle.std.specs.Prelude.{◌==◌, not, nat_lt, filter, find, reverse, Option, Some, None}
use Rattle.std.specs.List.{enumerate_from, list_all, list_any}
use Rattle.std.specs.Option.{option_map, option_or}
use Rattle.std.proofs.lemmas.Bool.{and_from, and_parts, lt-ltb, not-true, not_from_false, or_parts}
use Rattle.lq_text.specs.Blanks.{is_blank, without_blanks}
use Rattle.lq_text.specs.Lines.{lines_of}
use Rattle.lq_objects.specs.Blocks.{Line, Part, begin_part, directive, is_closing, is_named, is_telling, numbered_line, opened_word, parts_of, telling_after, value_of}
use Rattle.lq_objects.specs.Faults.{first_of, inner_fault}
use Rattle.lq_objects.specs.Kinds.{kind_named, kind_word}
use Rattle.lq_objects.proofs.ListLemmas.{find-last}
use Rattle.lq_workload.proofs.ByteLemmas.{is_inner, list_all-both, list_all-weaker}
use Rattle.lq_workload.proofs.KindLemmas.{BlockKind, contact_kind, group_kind, host_kind, service_kind}
use Rattle.lq_workload.proofs.LineLemmas.{line_first}
use Rattle.lq_workload.proofs.WordLemmas.{is_solid, solid_inner, trim_kept}

-- ---- lines

-- the text of a line that is read as it stands, and closes no block
pub record IsTold (text : List ℕ) : Type 0 where
  pub inner : list_all is_inner text ≡ true
  pub trim : without_blanks text ≡ text
  pub telling : (number : ℕ) → is_telling (record { number = number; text = text }) ≡ true
  pub more : (number : ℕ) → is_closing (record { number = number; text = text }) ≡ false

pub told_by : (first : ℕ) (front back : List ℕ) → is_blank first ≡ false → (first == 35) ≡ false → (first == 125) ≡ false
    → list_all is_inner (first ∷ front) ≡ true → list_all is_solid back ≡ true → 0 < length back → IsTold ((first ∷ front) ++ back)
told_by first front back solid told more inner ends some = record {
  inner = list_all-both is_inner (first ∷ front) back inner (list_all-weaker is_solid is_inner solid_inner back ends);
  trim = trim_kept first front back solid ends some;
  telling = λ number. and_from (nat_lt 0 (suc (length (front ++ back)))) (not (first == 35)) (lt-ltb 0 (suc (length (front ++ back))) (omega arith)) (not_from_false (first == 35) told);
  more = λ number. rw more refl;
}

-- each of several
abbrev pub Each : (List ℕ → Type 0) → List (List ℕ) → Type 0
Each P [] = Unit {0}
Each P (text ∷ texts) = P text × Each P texts

-- lines, each with its line feed, before a text
abbrev pub lines_text : List (List ℕ) → List ℕ → List ℕ
lines_text [] rest = rest
lines_text (text ∷ texts) rest = text ++ 10 ∷ lines_text texts rest

-- the lines after so many others
abbrev pub told : ℕ → List (List ℕ) → List Line
told before [] = []
told before (text ∷ texts) = record { number = before + 1; text = text } ∷ told (before + 1) texts

abbrev pub tell : ℕ → List ℕ → List Line
tell before bytes = telling_after before (lines_of bytes)

filter_kept : {X : Type 0} (test : X → Bool) (x : X) (xs : List X) → test x ≡ true → filter test (x ∷ xs) ≡ x ∷ filter test xs
filter_kept test x xs passes = rw passes refl

tell_first : (before : ℕ) (text rest : List ℕ) → IsTold text → tell before (text ++ 10 ∷ rest) ≡ record { number = before + 1; text = text } ∷ tell (before + 1) rest
tell_first before text rest is =
    let later : List Line = map numbered_line (enumerate_from (before + 1) (lines_of rest)) in
    ap (telling_after before) (line_first text rest is.inner)
    ∙ ap (λ t. filter is_telling (record { number = before + 1; text = t } ∷ later)) is.trim
    ∙ filter_kept is_telling (record { number = before + 1; text = text }) later (is.telling (before + 1))

tell_all : (texts : List (List ℕ)) (before : ℕ) (rest : List ℕ) → Each IsTold texts → tell before (lines_text texts rest) ≡ told before texts ++ tell (before + length texts) rest
tell_all [] before rest each = ap (λ n. tell n rest) (omega arith)
tell_all (text ∷ texts) before rest each =
    tell_first before text (lines_text texts rest) each.0
    ∙ ap (λ lines. record { number = before + 1; text = text } ∷ lines) (tell_all texts (before + 1) rest each.1)
    ∙ ap (λ n. record { number = before + 1; text = text } ∷ told (before + 1) texts ++ tell n rest) (omega arith)

-- ---- blocks

-- the line that opens a block
abbrev pub opening : BlockKind → List ℕ
opening kind = codes "define " ++ kind_word kind ++ codes " {"

-- the line opens a block of its kind
pub record Opens (kind : BlockKind) : Type 0 where
  pub told : IsTold (opening kind)
  pub word : opened_word (opening kind) ≡ Some (kind_word kind)
  pub found : kind_named (kind_word kind) ≡ Some kind

pub opens_contact : Opens contact_kind
opens_contact = record { told = record { inner = refl; trim = refl; telling = λ number. refl; more = λ number. refl }; word = refl; found = refl }

pub opens_host : Opens host_kind
opens_host = record { told = record { inner = refl; trim = refl; telling = λ number. refl; more = λ number. refl }; word = refl; found = refl }

pub opens_service : Opens service_kind
opens_service = record { told = record { inner = refl; trim = refl; telling = λ number. refl; more = λ number. refl }; word = refl; found = refl }

pub opens_group : Opens group_kind
opens_group = record { told = record { inner = refl; trim = refl; telling = λ number. refl; more = λ number. refl }; word = refl; found = refl }

-- the lines of a block, and the part that they make
abbrev pub block_texts : BlockKind → List (List ℕ) → List (List ℕ)
block_texts kind inner = opening kind ∷ inner ++ codes "}" ∷ []

abbrev pub block_part : ℕ → BlockKind → List (List ℕ) → Part
block_part before kind inner = record {
  lines = record { number = before + 1; text = opening kind } ∷ told (before + 1) inner;
  closing = Some (record { number = before + 1 + length inner + 1; text = codes "}" });
}

-- a part ends at the first line that closes a block
parts_first : (lines : List Line) (closing : Line) (later : List Line) → list_all (λ line. not (is_closing line)) lines ≡ true → is_closing closing ≡ true
    → parts_of (lines ++ closing ∷ later) ≡ record { lines = lines; closing = Some closing } ∷ parts_of later
parts_first [] closing later more ends = rw ends refl
parts_first (line ∷ lines) closing later more ends =
    let both = and_parts (not (is_closing line)) (list_all (λ other. not (is_closing other)) lines) more in
    let here : is_closing line ≡ false = not-true (is_closing line) both.0 in
    rw here (ap (begin_part line) (parts_first lines closing later both.1 ends))

told_more : (texts : List (List ℕ)) (before : ℕ) → Each IsTold texts → list_all (λ line. not (is_closing line)) (told before texts) ≡ true
told_more [] before each = refl
told_more (text ∷ texts) before each = and_from _ _ (not_from_false _ (each.0.more (before + 1))) (told_more texts (before + 1) each.1)

closing_line : (before : ℕ) (rest : List ℕ) → tell before (codes "}" ++ 10 ∷ rest) ≡ record { number = before + 1; text = codes "}" } ∷ tell (before + 1) rest
closing_line before rest = ap (telling_after before) (line_first (codes "}") rest refl)

lines_more : (texts : List (List ℕ)) (last rest : List ℕ) → lines_text (texts ++ last ∷ []) rest ≡ lines_text texts (last ++ 10 ∷ rest)
lines_more [] last rest = refl
lines_more (text ∷ texts) last rest = ap (λ back. text ++ 10 ∷ back) (lines_more texts last rest)

pub block_first : (kind : BlockKind) (inner : List (List ℕ)) (before : ℕ) (rest : List ℕ) → Opens kind → Each IsTold inner
    → parts_of (tell before (lines_text (block_texts kind inner) rest)) ≡ block_part before kind inner ∷ parts_of (tell (before + 1 + length inner + 1) rest)
block_first kind inner before rest opens each =
    let open_line : Line = record { number = before + 1; text = opening kind } in
    let lines : List Line = open_line ∷ told (before + 1) inner in
    let end : Line = record { number = before + 1 + length inner + 1; text = codes "}" } in
    let later : List Line = tell (before + 1 + length inner + 1) rest in
    let all : tell before (lines_text (block_texts kind inner) rest) ≡ lines ++ end ∷ later =
    ap (tell before) (lines_more (opening kind ∷ inner) (codes "}") rest)
    ∙ tell_first before (opening kind) (lines_text inner (codes "}" ++ 10 ∷ rest)) opens.told
    ∙ ap (λ ls. open_line ∷ ls) (tell_all inner (before + 1) (codes "}" ++ 10 ∷ rest) each)
    ∙ ap (λ ls. open_line ∷ told (before + 1) inner ++ ls) (closing_line (before + 1 + length inner) rest) in
    ap parts_of all ∙ parts_first lines end later (and_from _ _ (not_from_false _ (opens.told.more (before + 1))) (told_more inner (before + 1) each)) refl

-- ---- the lines within a block

-- a line within a block of a kind has no fault
abbrev pub IsFine : BlockKind → List ℕ → Type 0
IsFine kind text = (before number : ℕ) → inner_fault before (Some kind) (record { number = number; text = text }) ≡ None

pub inner_fine : (kind : BlockKind) (texts : List (List ℕ)) (before start : ℕ) → Each (IsFine kind) texts
    → first_of (inner_fault before (Some kind)) (told start texts) ≡ None
inner_fine kind [] before start each = refl
inner_fine kind (text ∷ texts) before start each =
    ap (λ fault. option_or fault (first_of (inner_fault before (Some kind)) (told (start + 1) texts))) (each.0 before (start + 1))
    ∙ inner_fine kind texts before (start + 1) each.1

-- ---- the directives of a block

option_or_none : {X : Type 0} (found : Option X) → option_or found None ≡ found
option_or_none None = refl
option_or_none (Some x) = refl

find_none : {X : Type 0} (test : X → Bool) (xs : List X) → list_any test xs ≡ false → find test (reverse xs) ≡ None
find_none test [] none = refl
find_none test (x ∷ xs) none =
    let both = or_parts (test x) (list_any test xs) none in
    find-last test x xs ∙ ap (λ found. option_or found (find test (x ∷ []))) (find_none test xs both.1)
    ∙ ap (λ passes. cond passes (Some x) None) both.0

-- the last line with a directive decides
pub directive_here : (name : List ℕ) (line : Line) (later : List Line) → list_any (λ other. is_named name other.text) later ≡ false
    → is_named name line.text ≡ true → directive name (line ∷ later) ≡ Some (value_of name line.text)
directive_here name line later none here =
    let test : Line → Bool = λ other. is_named name other.text in
    ap (option_map (λ other. value_of name other.text))
    (find-last test line later ∙ ap (λ found. option_or found (find test (line ∷ []))) (find_none test later none)
    ∙ ap (λ passes. cond passes (Some line) None) here)

pub directive_later : (name : List ℕ) (line : Line) (later : List Line) → is_named name line.text ≡ false → directive name (line ∷ later) ≡ directive name later
directive_later name line later other =
    let test : Line → Bool = λ one. is_named name one.text in
    ap (option_map (λ one. value_of name one.text))
    (find-last test line later ∙ ap (λ passes. option_or (find test (reverse later)) (cond passes (Some line) None)) other
    ∙ option_or_none (find test (reverse later)))
