-- The objects of one block more.
use Rattle.std.proofs.Common.{◌≡◌, ℕ, ◌+◌, ◌<◌, List, [], ◌∷◌, ◌++◌, map, length, get_or, take, refl, sym, ap, ◌∙◌}
use Rattle.std.specs.Prelude.{filter}
use Rattle.std.proofs.lemmas.List.{append-nil, map-append, take_more}
use Rattle.std.proofs.lemmas.List.Elements.{filter-append}
use Rattle.lq_records.specs.declared.base.Rules.{Rules}
use Rattle.lq_records.specs.declared.base.Base.{Base}
use Rattle.lq_objects.specs.Blocks.{Line}
use Rattle.lq_names.specs.Names.{ObjectName}
use Rattle.lq_objects.specs.Names.{Block, is_of}
use Rattle.lq_objects.specs.Objects.{command_of, contact_group_of, contact_of, host_group_of, host_of, lines_of_kind, objects_of, period_of, service_group_of, service_of, with_object}
use Rattle.lq_objects.specs.declared.kind.BlockKind.{BlockKind}
use Rattle.lq_objects.specs.declared.kind.BlockKind.TheVariants.{Host, Service, HostGroup, ServiceGroup, Contact, ContactGroup, Period, Command}

-- the objects of a base, and after them those of another
abbrev joined : Base → Base → Base
joined base more = record {
  hosts = base.hosts ++ more.hosts;
  services = base.services ++ more.services;
  host_groups = base.host_groups ++ more.host_groups;
  service_groups = base.service_groups ++ more.service_groups;
  contacts = base.contacts ++ more.contacts;
  contact_groups = base.contact_groups ++ more.contact_groups;
  periods = base.periods ++ more.periods;
  commands = base.commands ++ more.commands;
  rules = base.rules;
}

of_kind-append : {X : Type 0} (object_of : List Line → X) (kind : BlockKind) (blocks more : List Block)
    → map object_of (lines_of_kind kind (blocks ++ more)) ≡ map object_of (lines_of_kind kind blocks) ++ map object_of (lines_of_kind kind more)
of_kind-append object_of kind blocks more =
    ap (λ kept. map object_of (map (λ (block : Block). block.lines) kept)) (filter-append (is_of kind) blocks more)
    ∙ ap (map object_of) (map-append (λ (block : Block). block.lines) (filter (is_of kind) blocks) (filter (is_of kind) more))
    ∙ map-append object_of (lines_of_kind kind blocks) (lines_of_kind kind more)

objects_of-append : (known : BlockKind → List ObjectName) (rules : Rules) (blocks more : List Block)
    → objects_of known rules (blocks ++ more) ≡ joined (objects_of known rules blocks) (objects_of known rules more)
objects_of-append known rules blocks more =
    rw (of_kind-append (host_of known) Host blocks more, of_kind-append (service_of known) Service blocks more)
    (rw (of_kind-append (host_group_of known) HostGroup blocks more, of_kind-append (service_group_of known) ServiceGroup blocks more)
    (rw (of_kind-append contact_of Contact blocks more, of_kind-append (contact_group_of known) ContactGroup blocks more)
    (rw (of_kind-append period_of Period blocks more, of_kind-append command_of Command blocks more) refl)))

joined-one : (known : BlockKind → List ObjectName) (rules : Rules) (base : Base) (kind : BlockKind) (lines : List Line)
    → joined base (objects_of known rules (record { kind = kind; lines = lines } ∷ [])) ≡ with_object known base kind lines
joined-one known rules base Host lines = simp append-nil refl
joined-one known rules base Service lines = simp append-nil refl
joined-one known rules base HostGroup lines = simp append-nil refl
joined-one known rules base ServiceGroup lines = simp append-nil refl
joined-one known rules base Contact lines = simp append-nil refl
joined-one known rules base ContactGroup lines = simp append-nil refl
joined-one known rules base Period lines = simp append-nil refl
joined-one known rules base Command lines = simp append-nil refl

pub objects_of-push : (known : BlockKind → List ObjectName) (rules : Rules) (blocks : List Block) (block : Block)
    → objects_of known rules (blocks ++ block ∷ []) ≡ with_object known (objects_of known rules blocks) block.kind block.lines
objects_of-push known rules blocks block =
    objects_of-append known rules blocks (block ∷ [])
    ∙ joined-one known rules (objects_of known rules blocks) block.kind block.lines

-- one block more of those of a file
pub objects_of-more : (known : BlockKind → List ObjectName) (rules : Rules) (blocks : List Block) (at : ℕ) (block : Block) → at < length blocks
    → block ≡ get_or blocks at block
    → with_object known (objects_of known rules (take at blocks)) block.kind block.lines ≡ objects_of known rules (take (at + 1) blocks)
objects_of-more known rules blocks at block within is =
    sym (ap (objects_of known rules) (take_more blocks at block within ∙ ap (λ next. take at blocks ++ next ∷ []) (sym is))
    ∙ objects_of-push known rules (take at blocks) block)
