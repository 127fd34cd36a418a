-- The names of objects, and lists of names in directives.
use Rattle.std.specs.Prelude.{ℕ, ◌==◌, Bool, not, Option, Some, None, List, [], ◌∷◌, length, map}
use Rattle.std.specs.Prelude.{filter, bytes_eq}
use Rattle.std.specs.List.{slice_split}
use Rattle.std.specs.Option.{option_map, option_map_or}
use Rattle.lq_text.specs.Blanks.{without_blanks}
use Rattle.lq_records.specs.Clean.{text_of_bytes}
use Rattle.lq_names.specs.Names.{ObjectName, single}
use Rattle.lq_objects.specs.Blocks.{Line, directive}
use Rattle.lq_objects.specs.Kinds.{name_directive, second_directive, kind_word}
use Rattle.lq_objects.specs.declared.kind.BlockKind.{BlockKind}
use Rattle.lq_objects.specs.declared.kind.Reference.{Reference}
use Rattle.lq_objects.specs.declared.kind.Reference.TheVariants.{Parents, ServiceHost, Contacts}
use Rattle.lq_objects.specs.declared.kind.Reference.TheVariants.{ContactGroups, MemberHosts}
use Rattle.lq_objects.specs.declared.kind.Reference.TheVariants.{MemberServices, MemberContacts}

-- ---- names

-- the text of a directive, its bytes that aren't UTF-8 replaced; another text where it is absent
abbrev pub text_or : List ℕ → List ℕ → List Line → List ℕ
text_or absent name lines = option_map_or text_of_bytes (directive name lines) absent

-- the name that a block's directives give its object, an absent one being empty
abbrev pub name_of : BlockKind → List Line → ObjectName
name_of kind lines = record {
  first = text_or [] (name_directive kind) lines;
  second = option_map_or (λ name. text_or [] name lines) (second_directive kind) [];
}

-- a block of a known kind
pub record Block : Type 0 where
  pub kind : BlockKind
  pub lines : List Line

abbrev pub is_of : BlockKind → Block → Bool
is_of kind block = bytes_eq (kind_word block.kind) (kind_word kind)

-- the names of the objects of a kind, in the order of their blocks
abbrev pub block_names : List Block → BlockKind → List ObjectName
block_names blocks kind = map (λ block. name_of kind block.lines) (filter (is_of kind) blocks)

-- ---- lists of names

-- what stands between commas, without blanks round it; empty elements are dropped
abbrev pub pieces_of : List ℕ → List (List ℕ)
pieces_of value =
    filter (λ piece. not (length piece == 0))
    (map without_blanks (slice_split (λ byte. byte == 44) value))

-- the same as texts, their bytes that aren't UTF-8 replaced
abbrev pub elements : List ℕ → List (List ℕ)
elements value = map text_of_bytes (pieces_of value)

-- elements in pairs, None where their number is odd
abbrev pub names_in_pairs : List (List ℕ) → Option (List ObjectName)
names_in_pairs [] = Some []
names_in_pairs (only ∷ []) = None
names_in_pairs (first ∷ second ∷ rest) =
    option_map (λ names. record { first = first; second = second } ∷ names) (names_in_pairs rest)

-- the names in the value of a directive
abbrev pub named_in : Reference → List ℕ → Option (List ObjectName)
named_in Parents value = Some (map single (elements value))
named_in ServiceHost value = Some (single (text_of_bytes value) ∷ [])
named_in Contacts value = Some (map single (elements value))
named_in ContactGroups value = Some (map single (elements value))
named_in MemberHosts value = Some (map single (elements value))
named_in MemberServices value = names_in_pairs (elements value)
named_in MemberContacts value = Some (map single (elements value))
