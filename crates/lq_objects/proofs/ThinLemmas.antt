-- The parts of a file, each with its first line and the needed ones after it.
use Rattle.std.proofs.Common.{◌≡◌, ℕ, ◌+◌, Bool, true, false, not, cond, Option, Some, None, List, [], ◌∷◌, ◌++◌, map, refl, sym, ap, ap₂, ◌∙◌, ⊎_elim, true≢false, append_assoc}
use Rattle.std.specs.Prelude.{filter}
use Rattle.std.specs.Option.{option_and_then, option_or}
use Rattle.std.proofs.lemmas.Bool.{cases_Bool, not-true}
use Rattle.std.proofs.lemmas.List.{map-append}
use Rattle.std.proofs.lemmas.Simd.{map-map}
use Rattle.lq_records.specs.declared.base.Rules.{Rules}
use Rattle.lq_objects.specs.Blocks.{Line, Part, begin_part, is_closing, is_telling, numbered_line, opened_word, parts_of, telling_after}
use Rattle.lq_objects.specs.Kinds.{kind_named}
use Rattle.lq_names.specs.Names.{ObjectName}
use Rattle.lq_objects.specs.Names.{Block, is_of, name_of, block_names}
use Rattle.lq_objects.specs.Needed.{is_needed}
use Rattle.lq_objects.specs.Faults.{block_fault, block_of, blocks_of, ending_fault, first_of, inner_fault, known_block, name_fault, part_fault, parts_fault, unknown_fault, unknown_in_block}
use Rattle.lq_objects.specs.Objects.{base_of_blocks, base_of_parts, base_or, command_of, contact_group_of, contact_of, host_group_of, host_of, lines_of_kind, objects_of, period_of, service_group_of, service_of}
use Rattle.lq_objects.specs.declared.kind.BlockKind.{BlockKind}
use Rattle.lq_objects.specs.declared.kind.BlockKind.TheVariants.{Host, Service, HostGroup, ServiceGroup, Contact, ContactGroup, Period, Command}
use Rattle.lq_objects.proofs.LineLemmas.{silent_first, telling_first}
use Rattle.lq_objects.proofs.ListLemmas.{filter-filter}
use Rattle.lq_objects.proofs.NeededLemmas.{command-needed, contact-needed, contact_group-needed, first_of-needed, host-needed, host_group-needed, inner-none, name-needed, needed, period-needed, says_nothing, service-needed, service_group-needed, unknown_in-needed}
use Rattle.lq_objects.proofs.PartLemmas.{part}

-- ---- parts

-- the first line of a part and the needed ones after it
abbrev thin_lines : List Line → List Line
thin_lines [] = []
thin_lines (first ∷ lines) = first ∷ needed lines

abbrev thin_part : Part → Part
thin_part part = record part { lines = thin_lines part.lines }

abbrev pub thin_parts : List Line → List Part
thin_parts lines = map thin_part (parts_of lines)

abbrev begun : Line → List Part → List Part
begun line [] = part (line ∷ []) None ∷ []
begun line (first ∷ parts) = part (line ∷ needed first.lines) first.closing ∷ parts

needed-thin : (lines : List Line) → needed (thin_lines lines) ≡ needed lines
needed-thin [] = refl
needed-thin (first ∷ lines) =
    ap (λ rest. cond (is_needed first) (first ∷ rest) rest) (filter-filter is_needed is_needed (λ line unneeded. unneeded) lines)

thin-begin : (line : Line) (parts : List Part) → map thin_part (begin_part line parts) ≡ begun line (map thin_part parts)
thin-begin line [] = refl
thin-begin line (first ∷ parts) =
    ap (λ lines. part (line ∷ lines) first.closing ∷ map thin_part parts) (sym (needed-thin first.lines))

-- one line before lines that are thinned alike
thin-more : (line : Line) (lines others : List Line) → thin_parts lines ≡ thin_parts others → thin_parts (line ∷ lines) ≡ thin_parts (line ∷ others)
thin-more line lines others same = ⊎_elim
    (λ closes. rw closes (ap (λ parts. part [] (Some line) ∷ parts) same))
    (λ goes_on. rw goes_on (thin-begin line (parts_of lines) ∙ ap (begun line) same ∙ sym (thin-begin line (parts_of others))))
    (cases_Bool (is_closing line))

-- ---- a line that is left out

-- whether a block is open after lines
abbrev pub ends_within : List Line → Bool
ends_within [] = false
ends_within (line ∷ []) = not (is_closing line)
ends_within (line ∷ next ∷ lines) = ends_within (next ∷ lines)

pub ends_within-push : (lines : List Line) (line : Line) → ends_within (lines ++ line ∷ []) ≡ not (is_closing line)
ends_within-push [] line = refl
ends_within-push (first ∷ []) line = refl
ends_within-push (first ∷ next ∷ lines) line = ends_within-push (next ∷ lines) line

left_out : (first line : Line) (parts : List Part) → is_needed line ≡ false
    → map thin_part (begin_part first (begin_part line parts)) ≡ map thin_part (begin_part first parts)
left_out first line [] unneeded = rw unneeded refl
left_out first line (next ∷ parts) unneeded = rw unneeded refl

thin-left_out : (lines : List Line) (line : Line) (rest : List Line) → ends_within lines ≡ true → is_needed line ≡ false
    → thin_parts (lines ++ line ∷ rest) ≡ thin_parts (lines ++ rest)
thin-left_out [] line rest within unneeded = absurd (true≢false (sym within))
thin-left_out (first ∷ []) line rest within unneeded =
    rw (not-true (is_closing first) within, (says_nothing line unneeded).closing) (left_out first line (parts_of rest) unneeded)
thin-left_out (first ∷ next ∷ lines) line rest within unneeded =
    thin-more first ((next ∷ lines) ++ line ∷ rest) ((next ∷ lines) ++ rest) (thin-left_out (next ∷ lines) line rest within unneeded)

-- ---- the lines of a file

-- one line more that is kept
pub thin_kept : (before : ℕ) (line : List ℕ) (lines rest : List (List ℕ)) (kept all : List Line) → lines ≡ line ∷ rest
    → is_telling (numbered_line (before, line)) ≡ true → thin_parts (kept ++ telling_after before lines) ≡ thin_parts all
    → thin_parts ((kept ++ numbered_line (before, line) ∷ []) ++ telling_after (before + 1) rest) ≡ thin_parts all
thin_kept before line lines rest kept all first telling so_far =
    ap thin_parts
    (append_assoc kept (numbered_line (before, line) ∷ []) (telling_after (before + 1) rest)
    ∙ ap (λ more. kept ++ more) (sym (telling_first before line lines rest first telling)))
    ∙ so_far

-- one line more that is left out
pub thin_left : (before : ℕ) (line : List ℕ) (lines rest : List (List ℕ)) (kept all : List Line) → lines ≡ line ∷ rest
    → is_telling (numbered_line (before, line)) ≡ true → ends_within kept ≡ true → is_needed (numbered_line (before, line)) ≡ false
    → thin_parts (kept ++ telling_after before lines) ≡ thin_parts all → thin_parts (kept ++ telling_after (before + 1) rest) ≡ thin_parts all
thin_left before line lines rest kept all first telling within unneeded so_far =
    sym (thin-left_out kept (numbered_line (before, line)) (telling_after (before + 1) rest) within unneeded)
    ∙ ap (λ more. thin_parts (kept ++ more)) (sym (telling_first before line lines rest first telling))
    ∙ so_far

-- one line more that says nothing
pub thin_silent : (before : ℕ) (line : List ℕ) (lines rest : List (List ℕ)) (kept all : List Line) → lines ≡ line ∷ rest
    → is_telling (numbered_line (before, line)) ≡ false → thin_parts (kept ++ telling_after before lines) ≡ thin_parts all
    → thin_parts (kept ++ telling_after (before + 1) rest) ≡ thin_parts all
thin_silent before line lines rest kept all first silent so_far =
    ap (λ more. thin_parts (kept ++ more)) (sym (silent_first before line lines rest first silent)) ∙ so_far

-- ---- faults

ending-needed : (earlier : BlockKind → List ObjectName) (opening : ℕ) (kind : Option BlockKind) (lines : List Line) (closing : Option Line)
    → ending_fault earlier opening kind (needed lines) closing ≡ ending_fault earlier opening kind lines closing
ending-needed earlier opening kind lines None = refl
ending-needed earlier opening None lines (Some closing) = refl
ending-needed earlier opening (Some kind) lines (Some closing) =
    ap (λ name. name_fault kind (earlier kind) name closing.number) (name-needed kind lines)

word-needed : (earlier : BlockKind → List ObjectName) (opening : ℕ) (word : Option (List ℕ)) (lines : List Line) (closing : Option Line)
    → block_fault earlier opening word (needed lines) closing ≡ block_fault earlier opening word lines closing
word-needed earlier opening None lines closing = refl
word-needed earlier opening (Some word) lines closing =
    ap₂ option_or (first_of-needed (inner_fault opening (kind_named word)) (inner-none opening (kind_named word)) lines)
    (ending-needed earlier opening (kind_named word) lines closing)

part-thin : (earlier : BlockKind → List ObjectName) (lines : List Line) (closing : Option Line)
    → part_fault earlier (thin_lines lines) closing ≡ part_fault earlier lines closing
part-thin earlier [] closing = refl
part-thin earlier (opening ∷ lines) closing = word-needed earlier opening.number (opened_word opening.text) lines closing

-- ---- blocks

abbrev thin_block : Block → Block
thin_block block = record block { lines = needed block.lines }

known-thin : (kind : Option BlockKind) (lines : List Line) → known_block kind (needed lines) ≡ map thin_block (known_block kind lines)
known-thin None lines = refl
known-thin (Some kind) lines = refl

block-thin : (lines : List Line) → block_of (thin_lines lines) ≡ map thin_block (block_of lines)
block-thin [] = refl
block-thin (opening ∷ lines) = known-thin (option_and_then kind_named (opened_word opening.text)) lines

blocks-thin : (parts : List Part) → blocks_of (map thin_part parts) ≡ map thin_block (blocks_of parts)
blocks-thin [] = refl
blocks-thin (first ∷ parts) =
    ap₂ (λ here later. here ++ later) (block-thin first.lines) (blocks-thin parts)
    ∙ sym (map-append thin_block (block_of first.lines) (blocks_of parts))

-- what is made of the lines of each block of a kind, where the needed ones give the same
of_kind-thin : {X : Type 0} (made : List Line → X) → ((lines : List Line) → made (needed lines) ≡ made lines) → (kind : BlockKind) (blocks : List Block)
    → map (λ block. made block.lines) (filter (is_of kind) (map thin_block blocks)) ≡ map (λ block. made block.lines) (filter (is_of kind) blocks)
of_kind-thin made same kind [] = refl
of_kind-thin made same kind (block ∷ blocks) =
    let rest = of_kind-thin made same kind blocks in
    ⊎_elim
    (λ is. rw is (ap₂ (λ here later. here ∷ later) (same block.lines) rest))
    (λ other. rw other rest)
    (cases_Bool (is_of kind block))

names-thin : (blocks : List Block) → block_names (map thin_block blocks) ≡ block_names blocks
names-thin blocks = λ i kind. of_kind-thin (name_of kind) (name-needed kind) kind blocks i

objects-of_kind : {X : Type 0} (object_of : List Line → X) → ((lines : List Line) → object_of (needed lines) ≡ object_of lines)
    → (kind : BlockKind) (blocks : List Block) → map object_of (lines_of_kind kind (map thin_block blocks)) ≡ map object_of (lines_of_kind kind blocks)
objects-of_kind object_of same kind blocks =
    map-map object_of (λ (block : Block). block.lines) (filter (is_of kind) (map thin_block blocks))
    ∙ of_kind-thin object_of same kind blocks
    ∙ sym (map-map object_of (λ (block : Block). block.lines) (filter (is_of kind) blocks))

objects-thin : (known : BlockKind → List ObjectName) (rules : Rules) (blocks : List Block)
    → objects_of known rules (map thin_block blocks) ≡ objects_of known rules blocks
objects-thin known rules blocks =
    λ i. record {
      hosts = objects-of_kind (host_of known) (host-needed known) Host blocks i;
      services = objects-of_kind (service_of known) (service-needed known) Service blocks i;
      host_groups = objects-of_kind (host_group_of known) (host_group-needed known) HostGroup blocks i;
      service_groups = objects-of_kind (service_group_of known) (service_group-needed known) ServiceGroup blocks i;
      contacts = objects-of_kind contact_of contact-needed Contact blocks i;
      contact_groups = objects-of_kind (contact_group_of known) (contact_group-needed known) ContactGroup blocks i;
      periods = objects-of_kind period_of period-needed Period blocks i;
      commands = objects-of_kind command_of command-needed Command blocks i;
      rules = rules;
    }

unknown-thin : (known : BlockKind → List ObjectName) (blocks : List Block)
    → first_of (unknown_in_block known) (map thin_block blocks) ≡ first_of (unknown_in_block known) blocks
unknown-thin known [] = refl
unknown-thin known (block ∷ blocks) = ap₂ option_or (unknown_in-needed known block.kind block.lines) (unknown-thin known blocks)

-- ---- the base

parts_fault-thin : (before : List Block) (parts : List Part) → parts_fault (map thin_block before) (map thin_part parts) ≡ parts_fault before parts
parts_fault-thin before [] = refl
parts_fault-thin before (first ∷ parts) =
    ap₂ option_or
    (ap (λ earlier. part_fault earlier (thin_lines first.lines) first.closing) (names-thin before)
    ∙ part-thin (block_names before) first.lines first.closing)
    (ap (λ blocks. parts_fault blocks (map thin_part parts))
    (ap (λ more. map thin_block before ++ more) (block-thin first.lines) ∙ sym (map-append thin_block before (block_of first.lines)))
    ∙ parts_fault-thin (before ++ block_of first.lines) parts)

fault_of-thin : (blocks : List Block) → unknown_fault (map thin_block blocks) ≡ unknown_fault blocks
fault_of-thin blocks = ap (λ known. first_of (unknown_in_block known) (map thin_block blocks)) (names-thin blocks) ∙ unknown-thin (block_names blocks) blocks

base_of_blocks-thin : (rules : Rules) (blocks : List Block) → base_of_blocks rules (map thin_block blocks) ≡ base_of_blocks rules blocks
base_of_blocks-thin rules blocks =
    ap (λ known. objects_of known rules (map thin_block blocks)) (names-thin blocks) ∙ objects-thin (block_names blocks) rules blocks

base-thin : (rules : Rules) (parts : List Part) → base_of_parts rules (map thin_part parts) ≡ base_of_parts rules parts
base-thin rules parts =
    let blocks : List Block = blocks_of parts in
    ap₂ base_or
    (ap₂ option_or (parts_fault-thin [] parts) (ap unknown_fault (blocks-thin parts) ∙ fault_of-thin blocks))
    (ap (base_of_blocks rules) (blocks-thin parts) ∙ base_of_blocks-thin rules blocks)

-- lines that are thinned alike say the same base
pub same_base : (rules : Rules) (lines others : List Line) → thin_parts lines ≡ thin_parts others
    → base_of_parts rules (parts_of lines) ≡ base_of_parts rules (parts_of others)
same_base rules lines others same =
    sym (base-thin rules (parts_of lines)) ∙ ap (base_of_parts rules) same ∙ base-thin rules (parts_of others)
