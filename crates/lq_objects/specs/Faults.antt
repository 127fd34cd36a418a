-- What is wrong with an object file: the first fault in it.
use Rattle.std.specs.Prelude.{ℕ, ◌==◌, ◌&&◌, ◌||◌, nat_lt, nat_le, Bool, true, false, not, Option}
use Rattle.std.specs.Prelude.{Some, None, List, [], ◌∷◌, ◌++◌, length, is_none, is_some, codes}
use Rattle.std.specs.Prelude.{if◌then◌else◌}
use Rattle.std.specs.List.{list_any, list_all}
use Rattle.std.specs.Option.{option_or, option_map_or, option_and_then}
use Rattle.std.specs.Char.{is_ascii_digit}
use Rattle.lq_text.specs.Numbers.{number_of}
use Rattle.lq_objects.specs.Blocks.{directive, Line, Part, is_named, value_of, opened_word}
use Rattle.lq_objects.specs.Kinds.{kind_named, limit, second_directive, references}
use Rattle.lq_objects.specs.Kinds.{reference_directive, target}
use Rattle.lq_names.specs.Names.{ObjectName, is_equal_name, place_of}
use Rattle.lq_objects.specs.Names.{Block, name_of, named_in, block_names}
use Rattle.lq_objects.specs.declared.kind.BlockKind.{BlockKind}
use Rattle.lq_objects.specs.declared.kind.BlockKind.TheVariants as kind
use Rattle.lq_objects.specs.declared.kind.Reference.{Reference}
use Rattle.lq_objects.specs.declared.fault.FaultyLine.{FaultyLine}
use Rattle.lq_objects.specs.declared.fault.ObjectsWhat.{ObjectsWhat}
use Rattle.lq_objects.specs.declared.fault.ObjectsWhat.TheVariants.{Stray, NotFlattened, BadNumber}
use Rattle.lq_objects.specs.declared.fault.ObjectsWhat.TheVariants.{NoName, BadName, Twice, TooMany}
use Rattle.lq_objects.specs.declared.fault.ObjectsWhat.TheVariants.{Unclosed, UnknownName}

-- a fault at a line, where a test holds
abbrev pub fault_if : Bool → ℕ → ObjectsWhat → Option FaultyLine
fault_if test line what = if test then Some (record { line = line; what = what }) else None

-- the first fault of all
abbrev pub first_of : {X : Type 0} → (X → Option FaultyLine) → List X → Option FaultyLine
first_of f [] = None
first_of f (x ∷ xs) = option_or (f x) (first_of f xs)

-- ---- a line in a block

-- the number that a value says, where it is in a range
abbrev pub number_between : ℕ → ℕ → List ℕ → Option ℕ
number_between least most value =
    if nat_lt 0 (length value) && list_all is_ascii_digit value && nat_le least (number_of value)
    && nat_le (number_of value) most
    then Some (number_of value) else None

-- whether a line is a directive with a number that isn't in its range
abbrev pub is_bad : ℕ → ℕ → List ℕ → List ℕ → Bool
is_bad least most name text =
    is_named name text && is_none (number_between least most (value_of name text))

-- hosts and services have numbers
abbrev pub has_numbers : BlockKind → Bool
has_numbers kind.Host = true
has_numbers kind.Service = true
has_numbers kind.HostGroup = false
has_numbers kind.ServiceGroup = false
has_numbers kind.Contact = false
has_numbers kind.ContactGroup = false
has_numbers kind.Period = false
has_numbers kind.Command = false

abbrev pub is_bad_number : BlockKind → List ℕ → Bool
is_bad_number kind text =
    has_numbers kind
    && (is_bad 1 1000000 (codes "max_check_attempts") text
    || is_bad 0 1 (codes "notifications_enabled") text)

-- `use` and `register` stand in files that aren't flattened
abbrev pub is_template : List ℕ → Bool
is_template text = is_named (codes "use") text || is_named (codes "register") text

-- the fault of a line in a block of a known kind
abbrev pub directive_fault : BlockKind → Line → Option FaultyLine
directive_fault kind line =
    option_or (fault_if (is_template line.text) line.number NotFlattened)
    (fault_if (is_bad_number kind line.text) line.number BadNumber)

-- the fault of a line in a block that the line `opening` opens; another opening line shows that it
-- isn't closed
abbrev pub inner_fault : ℕ → Option BlockKind → Line → Option FaultyLine
inner_fault opening None line = fault_if (is_some (opened_word line.text)) opening Unclosed
inner_fault opening (Some kind) line =
    option_or (fault_if (is_some (opened_word line.text)) opening Unclosed)
    (directive_fault kind line)

-- ---- a block's name

abbrev pub is_empty : List ℕ → Bool
is_empty text = length text == 0

abbrev pub lacks_name : BlockKind → ObjectName → Bool
lacks_name kind name =
    is_empty name.first || (is_some (second_directive kind) && is_empty name.second)

-- a host's and a service's names are without `;`
abbrev pub has_separator : List ℕ → Bool
has_separator text = list_any (λ byte. byte == 59) text

abbrev pub is_bad_name : BlockKind → ObjectName → Bool
is_bad_name kind name = has_numbers kind && (has_separator name.first || has_separator name.second)

-- the fault of an object, by its name and the earlier ones of its kind
abbrev pub name_fault : BlockKind → List ObjectName → ObjectName → ℕ → Option FaultyLine
name_fault kind earlier name line =
    option_or (fault_if (lacks_name kind name) line NoName)
    (option_or (fault_if (is_bad_name kind name) line BadName)
    (option_or (fault_if (list_any (is_equal_name name) earlier) line Twice)
    (fault_if (nat_le (limit kind) (length earlier)) line TooMany)))

-- ---- a part

-- the fault where a block ends: it isn't closed, or its object's name is at fault
abbrev pub ending_fault : (BlockKind → List ObjectName) → ℕ → Option BlockKind → List Line
    → Option Line → Option FaultyLine
ending_fault earlier opening kind lines None = Some (record { line = opening; what = Unclosed })
ending_fault earlier opening None lines (Some closing) = None
ending_fault earlier opening (Some kind) lines (Some closing) =
    name_fault kind (earlier kind) (name_of kind lines) closing.number

-- the fault of a block that is open, by its kind
abbrev pub opened_fault : (BlockKind → List ObjectName) → ℕ → Option BlockKind → List Line
    → Option Line → Option FaultyLine
opened_fault earlier opening kind lines closing =
    option_or (first_of (inner_fault opening kind) lines)
    (ending_fault earlier opening kind lines closing)

-- the fault of a block, by the word after `define`
abbrev pub block_fault : (BlockKind → List ObjectName) → ℕ → Option (List ℕ) → List Line
    → Option Line → Option FaultyLine
block_fault earlier opening None lines closing = Some (record { line = opening; what = Stray })
block_fault earlier opening (Some word) lines closing =
    opened_fault earlier opening (kind_named word) lines closing

-- the fault of a part, by the names in the parts before it; its first line opens a block, or is
-- stray
abbrev pub part_fault : (BlockKind → List ObjectName) → List Line → Option Line → Option FaultyLine
part_fault earlier [] None = None
part_fault earlier [] (Some closing) = Some (record { line = closing.number; what = Stray })
part_fault earlier (opening ∷ lines) closing =
    block_fault earlier opening.number (opened_word opening.text) lines closing

-- the block that a part is, where its kind is known
abbrev pub known_block : Option BlockKind → List Line → List Block
known_block None lines = []
known_block (Some kind) lines = record { kind = kind; lines = lines } ∷ []

abbrev pub block_of : List Line → List Block
block_of [] = []
block_of (opening ∷ lines) =
    known_block (option_and_then kind_named (opened_word opening.text)) lines

-- the first fault of all the parts, each after the blocks before it
abbrev pub parts_fault : List Block → List Part → Option FaultyLine
parts_fault before [] = None
parts_fault before (part ∷ parts) =
    option_or (part_fault (block_names before) part.lines part.closing)
    (parts_fault (before ++ block_of part.lines) parts)

-- ---- names that aren't there

-- whether a value names what isn't there
abbrev pub is_unknown : (BlockKind → List ObjectName) → Reference → List ℕ → Bool
is_unknown known reference value =
    option_map_or
    (λ names. list_any (λ name. is_none (place_of (known (target reference)) name)) names)
    (named_in reference value) true

-- whether a block's directive names what isn't there
abbrev pub lacks_named : (BlockKind → List ObjectName) → List Line → Reference → Bool
lacks_named known lines reference =
    option_map_or (is_unknown known reference) (directive (reference_directive reference) lines)
    false

-- whether one of a block's directives does
abbrev pub lacks_any_named : (BlockKind → List ObjectName) → List Line → List Reference → Bool
lacks_any_named known lines references = list_any (lacks_named known lines) references

-- whether a line is the last one with a directive, so that it decides
abbrev pub decides : List ℕ → Line → List Line → Bool
decides name line later =
    is_named name line.text && not (list_any (λ other. is_named name other.text) later)

abbrev pub names_unknown : (BlockKind → List ObjectName) → Line → List Line → Reference → Bool
names_unknown known line later reference =
    decides (reference_directive reference) line later
    && is_unknown known reference (value_of (reference_directive reference) line.text)

-- the first line of a block that decides and names what isn't there
abbrev pub unknown_in : (BlockKind → List ObjectName) → BlockKind → List Line → Option FaultyLine
unknown_in known kind [] = None
unknown_in known kind (line ∷ later) =
    option_or
    (fault_if (list_any (names_unknown known line later) (references kind)) line.number UnknownName)
    (unknown_in known kind later)

abbrev pub unknown_in_block : (BlockKind → List ObjectName) → Block → Option FaultyLine
unknown_in_block known block = unknown_in known block.kind block.lines

abbrev pub unknown_fault : List Block → Option FaultyLine
unknown_fault blocks = first_of (unknown_in_block (block_names blocks)) blocks

-- ---- the file

abbrev pub blocks_of : List Part → List Block
blocks_of [] = []
blocks_of (part ∷ parts) = block_of part.lines ++ blocks_of parts

-- the first fault of a file, names that aren't there after all others
abbrev pub fault_of : List Part → Option FaultyLine
fault_of parts = option_or (parts_fault [] parts) (unknown_fault (blocks_of parts))
