-- A file of blocks has no fault where each object is known and has a name of its own.
use Rattle.std.proofs.Common.{inl, inr, subst, ◌≡◌, ℕ, zero, suc, ◌+◌, ◌<◌, Bool, true, false, List, [], ◌∷◌, ◌++◌, map, length, refl, ap, ap₂, sym, ◌∙◌, arith, append_assoc, append-nil, codes, cond}
use Rattle.std.specs.Prelude.{◌&&◌, not, nat_le, bytes_eq, filter, Option, Some, None, is_none, IsOk}
use Rattle.std.specs.List.{list_any}
use Rattle.std.specs.Option.{option_and_then, option_or}
use Rattle.std.proofs.lemmas.Bool.{and_parts, not-true}
use Rattle.std.proofs.lemmas.List.{map-append}
use Rattle.std.proofs.lemmas.List.Elements.{filter-append}
use Rattle.std.proofs.lemmas.Slice.Eq.{bytes_eq-Decides}
use Rattle.lq_names.specs.Names.{ObjectName, is_equal_name, place_of, single}
use Rattle.lq_records.specs.declared.base.Rules.{Rules}
use Rattle.lq_objects.specs.Blocks.{Line, Part, opened_word, parts_of, telling_lines}
use Rattle.lq_objects.specs.Faults.{block_fault, block_of, blocks_of, fault_if, fault_of, first_of, is_bad_name, known_block, lacks_name, name_fault, opened_fault, part_fault, parts_fault, unknown_in, unknown_in_block}
use Rattle.lq_objects.specs.Kinds.{kind_named, kind_word, limit}
use Rattle.lq_objects.specs.Names.{Block, block_names, is_of, name_of}
use Rattle.lq_objects.specs.Objects.{base_of}
use Rattle.lq_objects.specs.declared.fault.FaultyLine.{FaultyLine}
use Rattle.lq_objects.specs.declared.fault.ObjectsWhat.TheVariants.{BadName, NoName, TooMany, Twice}
use Rattle.lq_objects.proofs.ListLemmas.{option_or_none}
use Rattle.lq_workload.specs.Objects.{contact_name, host_name}
use Rattle.lq_workload.specs.Texts.{texts_below}
use Rattle.lq_workload.proofs.KindLemmas.{IsUsed, BlockKind, contact_kind, host_kind}
use Rattle.lq_workload.proofs.PartLemmas.{Each, IsFine, IsTold, Opens, block_first, block_part, block_texts, inner_fine, lines_text, opening, tell, told}

-- ---- names that may be given

-- the contacts and the hosts that a file names are there
pub record HasNames (known : BlockKind → List ObjectName) : Type 0 where
  pub contacts : (contact : ℕ) → contact < 5 → is_none (place_of (known contact_kind) (single (contact_name contact))) ≡ false
  pub hosts : (host : ℕ) → host < 100 → is_none (place_of (known host_kind) (single (host_name host))) ≡ false

-- names that none of those before has, and no more than there may be
abbrev pub fresh : BlockKind → List ObjectName → List ObjectName → Bool
fresh kind earlier [] = true
fresh kind earlier (name ∷ names) =
    (not (list_any (is_equal_name name) earlier) && not (nat_le (limit kind) (length earlier))) && fresh kind (earlier ++ name ∷ []) names

-- the names of a kind among objects
abbrev pub names_of : BlockKind → List (BlockKind × ObjectName) → List ObjectName
names_of kind [] = []
names_of kind (object ∷ objects) = cond (bytes_eq (kind_word object.0) (kind_word kind)) (object.1 ∷ names_of kind objects) (names_of kind objects)

pub names_of-append : (kind : BlockKind) (first second : List (BlockKind × ObjectName)) → names_of kind (first ++ second) ≡ names_of kind first ++ names_of kind second
names_of-append kind [] second = refl
names_of-append kind (object ∷ first) second =
    elim (bytes_eq (kind_word object.0) (kind_word kind)) as (λ is. cond is (object.1 ∷ names_of kind (first ++ second)) (names_of kind (first ++ second))
    ≡ cond is (object.1 ∷ names_of kind first) (names_of kind first) ++ names_of kind second) [
      | true ↦ ap (λ names. object.1 ∷ names) (names_of-append kind first second)
      | false ↦ names_of-append kind first second
    ]

and_assoc : (a b c : Bool) → (a && (b && c)) ≡ ((a && b) && c)
and_assoc true b c = refl
and_assoc false b c = refl

pub fresh-append : (kind : BlockKind) (earlier first second : List ObjectName) → fresh kind earlier (first ++ second) ≡ (fresh kind earlier first && fresh kind (earlier ++ first) second)
fresh-append kind earlier [] second = ap (λ names. fresh kind names second) (sym (append-nil earlier))
fresh-append kind earlier (name ∷ first) second =
    let here : Bool = not (list_any (is_equal_name name) earlier) && not (nat_le (limit kind) (length earlier)) in
    ap (λ rest. here && rest) (fresh-append kind (earlier ++ name ∷ []) first second)
    ∙ and_assoc here (fresh kind (earlier ++ name ∷ []) first) (fresh kind ((earlier ++ name ∷ []) ++ first) second)
    ∙ ap (λ names. (here && fresh kind (earlier ++ name ∷ []) first) && fresh kind names second) (append_assoc earlier (name ∷ []) first)

-- ---- one object

-- A text is the block of an object, and the block has no fault of its own.
pub record IsObject (text : List ℕ) (kind : BlockKind) (name : ObjectName) : Type 0 where
  pub used : IsUsed kind
  pub opens : Opens kind
  pub inner : List (List ℕ)
  pub lines : (rest : List ℕ) → text ++ rest ≡ lines_text (block_texts kind inner) rest
  pub read : Each IsTold inner
  pub fine : Each (IsFine kind) inner
  pub named : (before : ℕ) → name_of kind (told before inner) ≡ name
  pub some : lacks_name kind name ≡ false
  pub good : is_bad_name kind name ≡ false
  pub known : (before : ℕ) (known : BlockKind → List ObjectName) → HasNames known → unknown_in known kind (told before inner) ≡ None

-- ---- a stretch of a file

-- Objects are all that a text says, wherever it stands, and no line of it has a fault where their names may be given.
pub record Stretch (text : List ℕ) (objects : List (BlockKind × ObjectName)) (before : ℕ) : Type 0 where
  pub next : ℕ
  pub parts : List Part
  pub read : (rest : List ℕ) → parts_of (tell before (text ++ rest)) ≡ parts ++ parts_of (tell next rest)
  pub names : (kind : BlockKind) → IsUsed kind → block_names (blocks_of parts) kind ≡ names_of kind objects
  pub faultless : (blocks : List Block) (later : List Part) → ((kind : BlockKind) → IsUsed kind → fresh kind (block_names blocks kind) (names_of kind objects) ≡ true)
      → parts_fault blocks (parts ++ later) ≡ parts_fault (blocks ++ blocks_of parts) later
  pub known : (known : BlockKind → List ObjectName) → HasNames known → first_of (unknown_in_block known) (blocks_of parts) ≡ None

abbrev pub Says : List ℕ → List (BlockKind × ObjectName) → Type 0
Says text objects = (before : ℕ) → Stretch text objects before

pub says_nothing : Says [] []
says_nothing before = record {
  next = before;
  parts = [];
  read = λ rest. refl;
  names = λ kind used. refl;
  faultless = λ blocks later names. ap (λ all. parts_fault all later) (sym (append-nil blocks));
  known = λ known has. refl;
}

-- ---- one object is a stretch

found_kind : (kind : BlockKind) → Opens kind → option_and_then kind_named (opened_word (opening kind)) ≡ Some kind
found_kind kind opens = ap (λ word. option_and_then kind_named word) opens.word ∙ opens.found

block_is : (kind : BlockKind) (inner : List (List ℕ)) (before : ℕ) → Opens kind → block_of (block_part before kind inner).lines ≡ record { kind = kind; lines = told (before + 1) inner } ∷ []
block_is kind inner before opens = ap (λ found. known_block found (told (before + 1) inner)) (found_kind kind opens)

may_be_named : (kind : BlockKind) (earlier : List ObjectName) (name : ObjectName) (number : ℕ) → lacks_name kind name ≡ false → is_bad_name kind name ≡ false
    → list_any (is_equal_name name) earlier ≡ false → nat_le (limit kind) (length earlier) ≡ false → name_fault kind earlier name number ≡ None
may_be_named kind earlier name number some good other few =
    ap (λ test. option_or (fault_if test number NoName) (option_or (fault_if (is_bad_name kind name) number BadName)
    (option_or (fault_if (list_any (is_equal_name name) earlier) number Twice) (fault_if (nat_le (limit kind) (length earlier)) number TooMany)))) some
    ∙ ap (λ test. option_or (fault_if test number BadName)
    (option_or (fault_if (list_any (is_equal_name name) earlier) number Twice) (fault_if (nat_le (limit kind) (length earlier)) number TooMany))) good
    ∙ ap (λ test. option_or (fault_if test number Twice) (fault_if (nat_le (limit kind) (length earlier)) number TooMany)) other
    ∙ ap (λ test. fault_if test number TooMany) few

part_fine : (kind : BlockKind) (inner : List (List ℕ)) (before : ℕ) (earlier : BlockKind → List ObjectName) (name : ObjectName) → Opens kind → Each (IsFine kind) inner
    → name_of kind (told (before + 1) inner) ≡ name → lacks_name kind name ≡ false → is_bad_name kind name ≡ false
    → list_any (is_equal_name name) (earlier kind) ≡ false → nat_le (limit kind) (length (earlier kind)) ≡ false
    → part_fault earlier (block_part before kind inner).lines (block_part before kind inner).closing ≡ None
part_fine kind inner before earlier name opens fine named some good other few =
    let end : Line = record { number = before + 1 + length inner + 1; text = codes "}" } in
    let lines : List Line = told (before + 1) inner in
    ap (λ word. block_fault earlier (before + 1) word lines (Some end)) opens.word
    ∙ ap (λ found. opened_fault earlier (before + 1) found lines (Some end)) opens.found
    ∙ ap (λ fault. option_or fault (name_fault kind (earlier kind) (name_of kind lines) end.number)) (inner_fine kind inner (before + 1) (before + 1) fine)
    ∙ ap (λ n. name_fault kind (earlier kind) n end.number) named
    ∙ may_be_named kind (earlier kind) name end.number some good other few

found_used : (kind : BlockKind) → IsUsed kind → kind_named (kind_word kind) ≡ Some kind
found_used kind (inl is) = subst (λ k. kind_named (kind_word k) ≡ Some k) (sym is) refl
found_used kind (inr (inl is)) = subst (λ k. kind_named (kind_word k) ≡ Some k) (sym is) refl
found_used kind (inr (inr (inl is))) = subst (λ k. kind_named (kind_word k) ≡ Some k) (sym is) refl
found_used kind (inr (inr (inr is))) = subst (λ k. kind_named (kind_word k) ≡ Some k) (sym is) refl

same_kind : (kind other : BlockKind) → Opens kind → IsUsed other → bytes_eq (kind_word kind) (kind_word other) ≡ true → kind ≡ other
same_kind kind other opens used same =
    let found : Some kind ≡ Some other =
    sym opens.found ∙ ap kind_named ((bytes_eq-Decides (kind_word kind) (kind_word other)).0 same) ∙ found_used other used in
    cc

named_by : (is : Bool) (kind other : BlockKind) (lines : List Line) (name : ObjectName) → (is ≡ true → name_of other lines ≡ name)
    → map (λ (block : Block). name_of other block.lines) (cond is (record { kind = kind; lines = lines } ∷ []) []) ≡ cond is (name ∷ []) []
named_by true kind other lines name named = ap (λ found. found ∷ []) (named refl)
named_by false kind other lines name named = refl

-- the block's name is the object's, where the block is of the kind that is asked for
named_once : (kind other : BlockKind) (lines : List Line) (name : ObjectName) → Opens kind → IsUsed other → name_of kind lines ≡ name
    → block_names (record { kind = kind; lines = lines } ∷ []) other ≡ names_of other ((kind, name) ∷ [])
named_once kind other lines name opens used named =
    named_by (bytes_eq (kind_word kind) (kind_word other)) kind other lines name
    (λ same. ap (λ k. name_of k lines) (sym (same_kind kind other opens used same)) ∙ named)

pub says_object : (text : List ℕ) (kind : BlockKind) (name : ObjectName) → IsObject text kind name → Says text ((kind, name) ∷ [])
says_object text kind name is before =
    let part : Part = block_part before kind is.inner in
    let one : names_of kind ((kind, name) ∷ []) ≡ name ∷ [] = ap (λ same. cond same (name ∷ []) []) ((bytes_eq-Decides (kind_word kind) (kind_word kind)).1 refl) in
    record {
      next = before + 1 + length is.inner + 1;
      parts = part ∷ [];
      read = λ rest. ap (λ bytes. parts_of (tell before bytes)) (is.lines rest) ∙ block_first kind is.inner before rest is.opens is.read;
      names = λ other used. ap (λ blocks. block_names (blocks ++ []) other) (block_is kind is.inner before is.opens)
          ∙ named_once kind other (told (before + 1) is.inner) name is.opens used (is.named (before + 1));
      faultless = λ blocks later names.
          let earlier : List ObjectName = block_names blocks kind in
          let new : fresh kind earlier (name ∷ []) ≡ true = ap (fresh kind earlier) (sym one) ∙ names kind is.used in
          let both = and_parts (not (list_any (is_equal_name name) earlier)) (not (nat_le (limit kind) (length earlier)))
          (and_parts (not (list_any (is_equal_name name) earlier) && not (nat_le (limit kind) (length earlier))) true new).0 in
          ap (λ fault. option_or fault (parts_fault (blocks ++ block_of part.lines) later))
          (part_fine kind is.inner before (block_names blocks) name is.opens is.fine (is.named (before + 1)) is.some is.good
          (not-true (list_any (is_equal_name name) earlier) both.0) (not-true (nat_le (limit kind) (length earlier)) both.1))
          ∙ ap (λ found. parts_fault (blocks ++ found) later) (sym (append-nil (block_of part.lines)));
      known = λ known has. ap (λ blocks. first_of (unknown_in_block known) (blocks ++ [])) (block_is kind is.inner before is.opens)
          ∙ ap (λ fault. option_or fault None) (is.known (before + 1) known has);
    }

-- ---- one stretch after another

blocks_of-append : (first second : List Part) → blocks_of (first ++ second) ≡ blocks_of first ++ blocks_of second
blocks_of-append [] second = refl
blocks_of-append (part ∷ first) second =
    ap (λ blocks. block_of part.lines ++ blocks) (blocks_of-append first second) ∙ sym (append_assoc (block_of part.lines) (blocks_of first) (blocks_of second))

block_names-append : (first second : List Block) (kind : BlockKind) → block_names (first ++ second) kind ≡ block_names first kind ++ block_names second kind
block_names-append first second kind =
    ap (map (λ (block : Block). name_of kind block.lines)) (filter-append (is_of kind) first second)
    ∙ map-append (λ (block : Block). name_of kind block.lines) (filter (is_of kind) first) (filter (is_of kind) second)

first_of-append : {X : Type 0} (fault : X → Option FaultyLine) (first second : List X) → first_of fault first ≡ None → first_of fault (first ++ second) ≡ first_of fault second
first_of-append fault [] second none = refl
first_of-append fault (x ∷ first) second none =
    let both = option_or_none (fault x) (first_of fault first) none in
    ap (λ found. option_or found (first_of fault (first ++ second))) both.0 ∙ first_of-append fault first second both.1

pub says_both : (text more : List ℕ) (objects others : List (BlockKind × ObjectName)) → Says text objects → Says more others → Says (text ++ more) (objects ++ others)
says_both text more objects others first second before =
    let a : Stretch text objects before = first before in
    let b : Stretch more others a.next = second a.next in
    record {
      next = b.next;
      parts = a.parts ++ b.parts;
      read = λ rest. ap (λ bytes. parts_of (tell before bytes)) (append_assoc text more rest) ∙ a.read (more ++ rest)
          ∙ ap (λ later. a.parts ++ later) (b.read rest) ∙ sym (append_assoc a.parts b.parts (parts_of (tell b.next rest)));
      names = λ kind used. ap (λ blocks. block_names blocks kind) (blocks_of-append a.parts b.parts)
          ∙ block_names-append (blocks_of a.parts) (blocks_of b.parts) kind ∙ ap₂ (λ x y. x ++ y) (a.names kind used) (b.names kind used)
          ∙ sym (names_of-append kind objects others);
      faultless = λ blocks later names.
          let apart : (kind : BlockKind) → IsUsed kind → (fresh kind (block_names blocks kind) (names_of kind objects)
          && fresh kind (block_names blocks kind ++ names_of kind objects) (names_of kind others)) ≡ true =
          λ kind used. sym (ap (fresh kind (block_names blocks kind)) (names_of-append kind objects others)
          ∙ fresh-append kind (block_names blocks kind) (names_of kind objects) (names_of kind others)) ∙ names kind used in
          ap (parts_fault blocks) (append_assoc a.parts b.parts later)
          ∙ a.faultless blocks (b.parts ++ later) (λ kind used. (and_parts _ _ (apart kind used)).0)
          ∙ b.faultless (blocks ++ blocks_of a.parts) later
          (λ kind used. ap (λ earlier. fresh kind earlier (names_of kind others))
          (block_names-append blocks (blocks_of a.parts) kind ∙ ap (λ found. block_names blocks kind ++ found) (a.names kind used))
          ∙ (and_parts _ _ (apart kind used)).1)
          ∙ ap (λ all. parts_fault all later)
          (append_assoc blocks (blocks_of a.parts) (blocks_of b.parts) ∙ ap (λ found. blocks ++ found) (sym (blocks_of-append a.parts b.parts)));
      known = λ known has. ap (first_of (unknown_in_block known)) (blocks_of-append a.parts b.parts)
          ∙ first_of-append (unknown_in_block known) (blocks_of a.parts) (blocks_of b.parts) (a.known known has) ∙ b.known known has;
    }

-- the objects of the numbers below a number
abbrev pub objects_below : ℕ → (ℕ → List (BlockKind × ObjectName)) → List (BlockKind × ObjectName)
objects_below zero objects = []
objects_below (suc count) objects = objects_below count objects ++ objects count

pub says_below : (count : ℕ) (text : ℕ → List ℕ) (objects : ℕ → List (BlockKind × ObjectName)) → ((place : ℕ) → place < count → Says (text place) (objects place))
    → Says (texts_below count text) (objects_below count objects)
unfolding texts_below
says_below zero text objects each = says_nothing
says_below (suc count) text objects each =
    says_both (texts_below count text) (text count) (objects_below count objects) (objects count)
    (says_below count text objects (λ place less. each place (omega arith))) (each count (omega arith))

-- ---- the whole file

pub file_faultless : (text : List ℕ) (objects : List (BlockKind × ObjectName)) → Says text objects → ((kind : BlockKind) → IsUsed kind → fresh kind [] (names_of kind objects) ≡ true)
    → HasNames (λ kind. names_of kind objects) → fault_of (parts_of (telling_lines text)) ≡ None
file_faultless text objects says names has =
    let all : Stretch text objects 0 = says 0 in
    let blocks : List Block = blocks_of all.parts in
    let parts : parts_of (telling_lines text) ≡ all.parts =
    ap (λ bytes. parts_of (tell 0 bytes)) (sym (append-nil text)) ∙ all.read [] ∙ append-nil all.parts in
    let known : HasNames (block_names blocks) = record {
      contacts = λ contact less. ap (λ found. is_none (place_of found (single (contact_name contact)))) (all.names contact_kind (inl refl)) ∙ has.contacts contact less;
      hosts = λ host less. ap (λ found. is_none (place_of found (single (host_name host)))) (all.names host_kind (inr (inl refl))) ∙ has.hosts host less;
    } in
    ap fault_of parts
    ∙ ap (λ fault. option_or fault (first_of (unknown_in_block (block_names blocks)) blocks))
    (ap (parts_fault []) (sym (append-nil all.parts)) ∙ all.faultless [] [] names)
    ∙ all.known (block_names blocks) known

pub base_accepted : (text : List ℕ) (rules : Rules) → fault_of (parts_of (telling_lines text)) ≡ None → IsOk (base_of text rules)
unfolding base_of
base_accepted text rules none = rw none refl
