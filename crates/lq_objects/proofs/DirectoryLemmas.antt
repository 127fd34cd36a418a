-- The names of blocks, kept by kind.
use Rattle.std.proofs.Common.{◌≡◌, ℕ, suc, zero, ◌<◌, Bool, true, Some, List, [], ◌∷◌, map, length, get_or, take, refl, sym, ap, ◌∙◌, arith, ⊎_elim}
use Rattle.std.specs.Prelude.{filter, slice_get}
use Rattle.std.proofs.lemmas.Bool.{cases_Bool}
use Rattle.std.proofs.lemmas.List.{length-map}
use Rattle.std.proofs.lemmas.Simd.{map-map}
use Rattle.lq_names.specs.Names.{ObjectName, both_parts}
use Rattle.lq_records.specs.declared.base.Base.{Base}
use Rattle.lq_records.specs.declared.base.Rules.{Rules}
use Rattle.lq_objects.specs.Blocks.{Line}
use Rattle.lq_objects.specs.Directories.{AreNamesOf, directory_of, names_in}
use Rattle.lq_objects.specs.Names.{Block, block_names, is_of, name_of}
use Rattle.lq_objects.specs.Drafts.{count_of_kind}
use Rattle.lq_objects.specs.Objects.{command_of, contact_group_of, contact_of, host_group_of, host_of, lines_of_kind, objects_of, period_of, service_group_of, service_of}
use Rattle.lq_objects.proofs.ListLemmas.{map-agree}
use Rattle.lq_objects.specs.declared.directory.Directory.{Directory}
use Rattle.lq_objects.specs.declared.kind.BlockKind.{BlockKind}
use Rattle.lq_objects.specs.declared.kind.BlockKind.TheVariants.{Host, Service, HostGroup, ServiceGroup, Contact, ContactGroup, Period, Command}

known_of : (blocks : List Block) (kind : BlockKind) → names_in (directory_of blocks) kind ≡ block_names blocks kind
known_of blocks Host = refl
known_of blocks Service = refl
known_of blocks HostGroup = refl
known_of blocks ServiceGroup = refl
known_of blocks Contact = refl
known_of blocks ContactGroup = refl
known_of blocks Period = refl
known_of blocks Command = refl

-- the directory of blocks knows their names
pub known-directory : (directory : Directory) (blocks : List Block) → directory ≡ directory_of blocks → names_in directory ≡ block_names blocks
known-directory directory blocks is = ap names_in is ∙ (λ i kind. known_of blocks kind i)

-- ---- the names by which objects are found

named_as : {X : Type 0} (kind : BlockKind) (object_of : List Line → X) (name : X → List ℕ × List ℕ) (blocks : List Block)
    → ((lines : List Line) → both_parts (name_of kind lines) ≡ name (object_of lines))
    → map both_parts (block_names blocks kind) ≡ map name (map object_of (lines_of_kind kind blocks))
named_as kind object_of name blocks same =
    let kept : List Block = filter (is_of kind) blocks in
    map-map both_parts (λ (block : Block). name_of kind block.lines) kept
    ∙ map-agree (λ (block : Block). both_parts (name_of kind block.lines)) (λ (block : Block). name (object_of block.lines)) (λ block. same block.lines) kept
    ∙ sym (map-map (λ lines. name (object_of lines)) (λ (block : Block). block.lines) kept)
    ∙ sym (map-map name object_of (lines_of_kind kind blocks))

-- the names of blocks are those of their objects
pub names_of-blocks : (names : BlockKind → List ObjectName) (rules : Rules) (blocks : List Block) → AreNamesOf (directory_of blocks) (objects_of names rules blocks)
names_of-blocks names rules blocks = record {
  hosts = named_as Host (host_of names) (λ host. (host.host_name, [])) blocks (λ _. refl);
  services = named_as Service (service_of names) (λ service. (service.host_name, service.service_description)) blocks (λ _. refl);
  host_groups = named_as HostGroup (host_group_of names) (λ group. (group.hostgroup_name, [])) blocks (λ _. refl);
  service_groups = named_as ServiceGroup (service_group_of names) (λ group. (group.servicegroup_name, [])) blocks (λ _. refl);
  contacts = named_as Contact contact_of (λ contact. (contact.contact_name, [])) blocks (λ _. refl);
  contact_groups = named_as ContactGroup (contact_group_of names) (λ group. (group.contactgroup_name, [])) blocks (λ _. refl);
}

-- ---- the name of a block's object, at its object's place

own_kind : (kind : BlockKind) (lines : List Line) → is_of kind (record { kind = kind; lines = lines }) ≡ true
own_kind Host lines = refl
own_kind Service lines = refl
own_kind HostGroup lines = refl
own_kind ServiceGroup lines = refl
own_kind Contact lines = refl
own_kind ContactGroup lines = refl
own_kind Period lines = refl
own_kind Command lines = refl

-- the place of an element among those that are kept is how many are kept before it
kept_at : {X Y : Type 0} (p : X → Bool) (f : X → Y) (xs : List X) (at : ℕ) (x : X) → at < length xs → x ≡ get_or xs at x → p x ≡ true
    → slice_get (map f (filter p xs)) (length (filter p (take at xs))) ≡ Some (f x)
kept_at p f [] at x within is kept = absurd (omega (arith, within))
kept_at p f (y ∷ ys) zero x within is kept = rw (ap p (sym is) ∙ kept) (ap (λ y. Some (f y)) (sym is))
kept_at p f (y ∷ ys) (suc at) x within is kept =
    let rest = kept_at p f ys at x (omega (arith, within)) is kept in
    ⊎_elim (λ keeps. rw keeps rest) (λ drops. rw drops rest) (cases_Bool (p y))

made_of : {X : Type 0} (object_of : List Line → X) (kind : BlockKind) (blocks : List Block)
    → length (map object_of (lines_of_kind kind blocks)) ≡ length (filter (is_of kind) blocks)
made_of object_of kind blocks =
    length-map (lines_of_kind kind blocks) object_of ∙ length-map (filter (is_of kind) blocks) (λ (block : Block). block.lines)

count_of_kind-blocks : (names : BlockKind → List ObjectName) (rules : Rules) (blocks : List Block) (kind : BlockKind)
    → count_of_kind (objects_of names rules blocks) kind ≡ length (filter (is_of kind) blocks)
count_of_kind-blocks names rules blocks Host = made_of (host_of names) Host blocks
count_of_kind-blocks names rules blocks Service = made_of (service_of names) Service blocks
count_of_kind-blocks names rules blocks HostGroup = made_of (host_group_of names) HostGroup blocks
count_of_kind-blocks names rules blocks ServiceGroup = made_of (service_group_of names) ServiceGroup blocks
count_of_kind-blocks names rules blocks Contact = made_of contact_of Contact blocks
count_of_kind-blocks names rules blocks ContactGroup = made_of (contact_group_of names) ContactGroup blocks
count_of_kind-blocks names rules blocks Period = made_of period_of Period blocks
count_of_kind-blocks names rules blocks Command = made_of command_of Command blocks

-- the name of a block's object stands at the place that its object gets
pub own_name-at : (directory : Directory) (rules : Rules) (blocks : List Block) (at : ℕ) (block : Block) (base : Base)
    → directory ≡ directory_of blocks → at < length blocks → block ≡ get_or blocks at block
    → base ≡ objects_of (names_in directory) rules (take at blocks)
    → slice_get (map both_parts (names_in directory block.kind)) (count_of_kind base block.kind) ≡ Some (both_parts (name_of block.kind block.lines))
own_name-at directory rules blocks at block base names within is so_far =
    let kept : List Block = filter (is_of block.kind) blocks in
    let before : ℕ = length (filter (is_of block.kind) (take at blocks)) in
    ap (λ known. slice_get (map both_parts (known block.kind)) (count_of_kind base block.kind)) (known-directory directory blocks names)
    ∙ ap (slice_get (map both_parts (block_names blocks block.kind)))
    (ap (λ base. count_of_kind base block.kind) so_far ∙ count_of_kind-blocks (names_in directory) rules (take at blocks) block.kind)
    ∙ ap (λ parts. slice_get parts before) (map-map both_parts (λ (one : Block). name_of block.kind one.lines) kept)
    ∙ kept_at (is_of block.kind) (λ (one : Block). both_parts (name_of block.kind one.lines)) blocks at block within is (own_kind block.kind block.lines)
