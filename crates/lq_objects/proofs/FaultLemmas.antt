-- What is known of an object file in which no fault was found: its objects of each kind have good names.
use Rattle.std.proofs.Common.{◌≡◌, ℕ, ◌<◌, ◌≤◌, Bool, true, false, Option, Some, None, List, [], ◌∷◌, ◌++◌, map, length, refl, sym, ap, ◌∙◌, subst, arith, append_assoc, append-nil}
use Rattle.std.specs.Prelude.{filter, nat_le}
use Rattle.std.specs.List.{All, AllPairs, list_any}
use Rattle.std.specs.Option.{option_and_then}
use Rattle.std.proofs.lemmas.Bool.{cond_both, leb-false}
use Rattle.std.proofs.lemmas.List.{length_push, map-append}
use Rattle.std.proofs.lemmas.List.Elements.{All-nil, All-push, filter-append}
use Rattle.std.proofs.lemmas.List.Quantifiers.{all_pairs_push}
use Rattle.std.proofs.lemmas.Option.{none-some, same_Some}
use Rattle.std.proofs.lemmas.Slice.Eq.{bytes_eq-Decides}
use Rattle.lq_objects.specs.Blocks.{Line, Part, opened_word}
use Rattle.lq_objects.specs.Kinds.{kind_named, kind_word, limit}
use Rattle.lq_names.specs.Names.{ObjectName, is_equal_name}
use Rattle.lq_objects.specs.Names.{Block, is_of, name_of, block_names}
use Rattle.lq_objects.specs.Faults.{block_fault, block_of, blocks_of, ending_fault, fault_if, first_of, inner_fault, is_bad_name, lacks_name, name_fault, part_fault, parts_fault, known_block}
use Rattle.lq_objects.specs.declared.kind.BlockKind.{BlockKind}
use Rattle.lq_objects.specs.declared.kind.BlockKind.TheVariants.{Host, Service, HostGroup, ServiceGroup, Contact, ContactGroup, Period, Command}
use Rattle.lq_objects.specs.declared.fault.ObjectsWhat.{ObjectsWhat}
use Rattle.lq_objects.specs.declared.fault.ObjectsWhat.TheVariants.{NoName, BadName, Twice, TooMany}
use Rattle.lq_objects.proofs.ListLemmas.{All-from_list_any, option_or_none}

-- ---- kinds

kind_named-word : (kind : BlockKind) → kind_named (kind_word kind) ≡ Some kind
kind_named-word Host = refl
kind_named-word Service = refl
kind_named-word HostGroup = refl
kind_named-word ServiceGroup = refl
kind_named-word Contact = refl
kind_named-word ContactGroup = refl
kind_named-word Period = refl
kind_named-word Command = refl

-- kinds differ in their words
pub kind_from_is_of : (kind : BlockKind) (block : Block) → is_of kind block ≡ true → block.kind ≡ kind
kind_from_is_of kind block is =
    let same : kind_word block.kind ≡ kind_word kind = (bytes_eq-Decides (kind_word block.kind) (kind_word kind)).0 is in
    same_Some block.kind kind (sym (kind_named-word block.kind) ∙ ap kind_named same ∙ kind_named-word kind)

-- ---- names

-- the names of the objects of a kind: different, whole, without `;` where there may be none, and within the limit
pub record AreFine (kind : BlockKind) (names : List ObjectName) : Type 0 where
  pub different : AllPairs (λ a b. is_equal_name b a ≡ false) names
  pub whole : All (λ name. lacks_name kind name ≡ false) names
  pub plain : All (λ name. is_bad_name kind name ≡ false) names
  pub few : length names ≤ limit kind

-- a name that is none of the earlier ones of its kind
record IsNew (kind : BlockKind) (earlier : List ObjectName) (name : ObjectName) : Type 0 where
  whole : lacks_name kind name ≡ false
  plain : is_bad_name kind name ≡ false
  different : list_any (is_equal_name name) earlier ≡ false
  room : length earlier < limit kind

pub fault_if-none : (test : Bool) (line : ℕ) (what : ObjectsWhat) → fault_if test line what ≡ None → test ≡ false
fault_if-none true line what none = absurd (none-some _ (sym none))
fault_if-none false line what none = refl

name_fault-none : (kind : BlockKind) (earlier : List ObjectName) (name : ObjectName) (line : ℕ) → name_fault kind earlier name line ≡ None → IsNew kind earlier name
name_fault-none kind earlier name line none =
    let first = option_or_none (fault_if (lacks_name kind name) line NoName) _ none in
    let second = option_or_none (fault_if (is_bad_name kind name) line BadName) _ first.1 in
    let third = option_or_none (fault_if (list_any (is_equal_name name) earlier) line Twice) _ second.1 in
    record {
      whole = fault_if-none (lacks_name kind name) line NoName first.0;
      plain = fault_if-none (is_bad_name kind name) line BadName second.0;
      different = fault_if-none (list_any (is_equal_name name) earlier) line Twice third.0;
      room = leb-false (limit kind) (length earlier) (fault_if-none (nat_le (limit kind) (length earlier)) line TooMany third.1);
    }

AreFine-nil : (kind : BlockKind) → AreFine kind []
AreFine-nil kind = record {
  different = λ i j d low high. absurd (omega (arith, high));
  whole = All-nil (λ name. lacks_name kind name ≡ false);
  plain = All-nil (λ name. is_bad_name kind name ≡ false);
  few = omega arith;
}

AreFine-push : (kind : BlockKind) (names : List ObjectName) (name : ObjectName) → AreFine kind names → IsNew kind names name → AreFine kind (names ++ name ∷ [])
AreFine-push kind names name fine new = record {
  different = all_pairs_push (λ a b. is_equal_name b a ≡ false) names name fine.different (All-from_list_any (is_equal_name name) names new.different);
  whole = All-push (λ other. lacks_name kind other ≡ false) names name fine.whole new.whole;
  plain = All-push (λ other. is_bad_name kind other ≡ false) names name fine.plain new.plain;
  few = omega (arith, length_push names name, new.room);
}

-- ---- blocks

-- the objects of each kind have good names
abbrev pub AllFine : List Block → Type 0
AllFine blocks = (kind : BlockKind) → AreFine kind (block_names blocks kind)

pub block_names-append : (before more : List Block) (kind : BlockKind) → block_names (before ++ more) kind ≡ block_names before kind ++ block_names more kind
block_names-append before more kind =
    ap (map (λ block. name_of kind block.lines)) (filter-append (is_of kind) before more)
    ∙ map-append (λ (block : Block). name_of kind block.lines) (filter (is_of kind) before) (filter (is_of kind) more)

AllFine-none : (before : List Block) → AllFine before → AllFine (before ++ [])
AllFine-none before fine = subst AllFine (sym (append-nil before)) fine

AllFine-push : (before : List Block) (block : Block) → AllFine before
    → IsNew block.kind (block_names before block.kind) (name_of block.kind block.lines) → AllFine (before ++ block ∷ [])
AllFine-push before block fine new kind =
    subst (AreFine kind) (sym (block_names-append before (block ∷ []) kind))
    (cond_both (is_of kind block) (block ∷ []) [] (λ blocks. AreFine kind (block_names before kind ++ map (λ other. name_of kind other.lines) blocks))
    (λ is. AreFine-push kind (block_names before kind) (name_of kind block.lines) (fine kind)
    (subst (λ other. IsNew other (block_names before other) (name_of other block.lines)) (kind_from_is_of kind block is) new))
    (λ _. subst (AreFine kind) (sym (append-nil (block_names before kind))) (fine kind)))

-- ---- parts

AllFine-ending : (before : List Block) (opening : ℕ) (found : Option BlockKind) (lines : List Line) (closing : Option Line) → AllFine before
    → ending_fault (block_names before) opening found lines closing ≡ None → AllFine (before ++ known_block found lines)
AllFine-ending before opening None lines closing fine none = AllFine-none before fine
AllFine-ending before opening (Some kind) lines None fine none = absurd (none-some _ (sym none))
AllFine-ending before opening (Some kind) lines (Some closing) fine none =
    AllFine-push before (record { kind = kind; lines = lines }) fine
    (name_fault-none kind (block_names before kind) (name_of kind lines) closing.number none)

AllFine-word : (before : List Block) (opening : ℕ) (word : Option (List ℕ)) (lines : List Line) (closing : Option Line) → AllFine before
    → block_fault (block_names before) opening word lines closing ≡ None → AllFine (before ++ known_block (option_and_then kind_named word) lines)
AllFine-word before opening None lines closing fine none = absurd (none-some _ (sym none))
AllFine-word before opening (Some word) lines closing fine none =
    let both = option_or_none (first_of (inner_fault opening (kind_named word)) lines) _ none in
    AllFine-ending before opening (kind_named word) lines closing fine both.1

AllFine-part : (before : List Block) (lines : List Line) (closing : Option Line) → AllFine before
    → part_fault (block_names before) lines closing ≡ None → AllFine (before ++ block_of lines)
AllFine-part before [] closing fine none = AllFine-none before fine
AllFine-part before (opening ∷ lines) closing fine none = AllFine-word before opening.number (opened_word opening.text) lines closing fine none

AllFine-parts : (before : List Block) (parts : List Part) → AllFine before → parts_fault before parts ≡ None → AllFine (before ++ blocks_of parts)
AllFine-parts before [] fine none = AllFine-none before fine
AllFine-parts before (part ∷ parts) fine none =
    let both = option_or_none (part_fault (block_names before) part.lines part.closing) _ none in
    subst AllFine (append_assoc before (block_of part.lines) (blocks_of parts))
    (AllFine-parts (before ++ block_of part.lines) parts (AllFine-part before part.lines part.closing fine both.0) both.1)

-- ---- the file

pub AllFine-from_parts : (parts : List Part) → parts_fault [] parts ≡ None → AllFine (blocks_of parts)
AllFine-from_parts parts none = AllFine-parts [] parts AreFine-nil none
