-- A base that is read from an object file is sound.
use Rattle.std.proofs.Common.{◌≡◌, ◌≢◌, ℕ, ◌<◌, ◌≤◌, Bool, false, Option, Some, None, Result, Ok, Err, IfOk, List, [], ◌∷◌, map, length, get_or, refl, sym, ap, ◌∙◌, subst, arith, true≢false}
use Rattle.std.specs.Prelude.{codes, filter}
use Rattle.std.specs.List.{All, AllPairs, slice_get}
use Rattle.std.proofs.lemmas.Bool.{both_ways, and_from, or_parts}
use Rattle.std.proofs.lemmas.List.{length-map}
use Rattle.std.proofs.lemmas.List.Elements.{All-map, All-weaker}
use Rattle.std.proofs.lemmas.Simd.{map-map}
use Rattle.std.proofs.lemmas.Slice.Eq.{bytes_eq-Decides}
use Rattle.lq_records.specs.Sound.{AreLimited, AreLinked, AreNamed, AreNames, ArePlaces, AreSoundFields, HasNoSemicolon, IsSound}
use Rattle.lq_records.specs.declared.base.Base.{Base}
use Rattle.lq_records.specs.declared.base.Host.{Host}
use Rattle.lq_records.specs.declared.base.Rules.{Rules}
use Rattle.lq_records.specs.declared.base.Service.{Service}
use Rattle.lq_objects.specs.Blocks.{Line, Part, parts_of, telling_lines}
use Rattle.lq_objects.specs.Kinds.{limit}
use Rattle.lq_names.specs.Names.{ObjectName, is_equal_name}
use Rattle.lq_objects.specs.Names.{Block, is_of, name_of, block_names, text_or}
use Rattle.lq_objects.specs.Faults.{blocks_of, fault_of, is_bad_name, is_empty, lacks_name, parts_fault, unknown_fault}
use Rattle.lq_objects.specs.Objects.{base_of, base_of_blocks, base_of_parts, base_or, command_of, contact_group_of, contact_of, fields_of, host_group_of, host_of, lines_of_kind, period_of, service_group_of, service_of}
use Rattle.lq_objects.specs.Reading.{Reads}
use Rattle.lq_objects.specs.declared.fault.FaultyLine.{FaultyLine}
use Rattle.lq_objects.specs.declared.fault.ObjectsErr.{ObjectsErr}
use Rattle.lq_objects.specs.declared.kind.BlockKind.{BlockKind}
use Rattle.lq_objects.specs.declared.kind.BlockKind.TheVariants as kind
use Rattle.lq_objects.specs.declared.kind.Reference.TheVariants as reference
use Rattle.lq_objects.proofs.ListLemmas.{All-unmap, AllPairs-by, AllPairs-map, AllPairs-unmap, map-agree, option_or_none}
use Rattle.lq_objects.proofs.FaultLemmas.{AllFine, AllFine-from_parts, AreFine}
use Rattle.lq_objects.proofs.PlaceLemmas.{All-known, HasHost, contact_group_ids-places, contact_ids-places, host-found, host-named, host-within, host_ids-places, number_or-bounded, service_ids-places, services-differ}

-- ---- names

-- a text that has a byte
is_empty-false : (text : List ℕ) → is_empty text ≡ false → text ≢ []
is_empty-false [] some none = true≢false some
is_empty-false (byte ∷ text) some none = absurd (cc)

-- names of one part differ in it
first-differs : (a b : ObjectName) → a.second ≡ b.second → is_equal_name b a ≡ false → a.first ≢ b.first
first-differs a b seconds different firsts =
    both_ways (is_equal_name b a) different
    (and_from _ _ ((bytes_eq-Decides b.first a.first).1 (sym firsts)) ((bytes_eq-Decides b.second a.second).1 (sym seconds)))

-- the names of the objects of one kind, where each is of one part
AreNames-from_fine : (kind : BlockKind) (all : List (List Line)) → ((lines : List Line) → (name_of kind lines).second ≡ [])
    → AreFine kind (map (name_of kind) all) → AreNames (map (λ lines. (name_of kind lines).first) all)
AreNames-from_fine kind all seconds fine = record {
  different = AllPairs-map (λ a b. a ≢ b) (λ lines. (name_of kind lines).first) all
      (λ i j d low high.
      let a : List Line = get_or all i d in
      let b : List Line = get_or all j d in
      first-differs (name_of kind a) (name_of kind b) (seconds a ∙ sym (seconds b))
      (AllPairs-unmap (λ a b. is_equal_name b a ≡ false) (name_of kind) all fine.different i j d low high));
  some = All-map (λ name. name ≢ []) (λ lines. (name_of kind lines).first) all
      (λ k d within. is_empty-false _ (or_parts _ _ (All-unmap (λ name. lacks_name kind name ≡ false) (name_of kind) all fine.whole k d within)).0);
}

-- a file that says a base has no fault
fault_none : (fault : Option FaultyLine) (whole base : Base) → base_or fault whole ≡ Ok base → (fault ≡ None) × (whole ≡ base)
fault_none None whole base read = (refl, cc)
fault_none (Some fault) whole base read = absurd (cc)

-- services with one host differ in their descriptions
abbrev AreApart : Service → Service → Type 0
AreApart a b = a.host ≡ b.host → a.service_description ≢ b.service_description

-- ---- the objects of blocks

module _ (rules : Rules) (blocks : List Block) (fine : AllFine blocks) (none : unknown_fault blocks ≡ None) where
  -- the names of a kind, by the lines of its blocks
  block_names-lines : (kind : BlockKind) → block_names blocks kind ≡ map (name_of kind) (lines_of_kind kind blocks)
  block_names-lines kind = sym (map-map (name_of kind) (λ (block : Block). block.lines) (filter (is_of kind) blocks))

  fine_lines : (kind : BlockKind) → AreFine kind (map (name_of kind) (lines_of_kind kind blocks))
  fine_lines kind = subst (AreFine kind) (block_names-lines kind) (fine kind)

  -- there are as many objects of a kind as names
  count_of : {X : Type 0} (kind : BlockKind) (object_of : List Line → X) → length (map object_of (lines_of_kind kind blocks)) ≡ length (block_names blocks kind)
  count_of kind object_of =
      length-map (lines_of_kind kind blocks) object_of ∙ sym (length-map (lines_of_kind kind blocks) (name_of kind)) ∙ sym (ap length (block_names-lines kind))

  limited_of : {X : Type 0} (kind : BlockKind) (object_of : List Line → X) → length (map object_of (lines_of_kind kind blocks)) ≤ limit kind
  limited_of kind object_of = subst (λ n. n ≤ limit kind) (sym (count_of kind object_of)) (fine kind).few

  are_limited : AreLimited (base_of_blocks rules blocks)
  are_limited = record {
    hosts = limited_of kind.Host (host_of (block_names blocks));
    services = limited_of kind.Service (service_of (block_names blocks));
    host_groups = limited_of kind.HostGroup (host_group_of (block_names blocks));
    service_groups = limited_of kind.ServiceGroup (service_group_of (block_names blocks));
    contacts = limited_of kind.Contact contact_of;
    contact_groups = limited_of kind.ContactGroup (contact_group_of (block_names blocks));
    periods = limited_of kind.Period period_of;
    commands = limited_of kind.Command command_of;
  }

  -- the names of the objects of a kind, as a field of theirs
  named_of : {X : Type 0} (kind : BlockKind) (object_of : List Line → X) (name : X → List ℕ) → ((lines : List Line) → (name_of kind lines).second ≡ [])
      → ((lines : List Line) → name (object_of lines) ≡ (name_of kind lines).first) → AreNames (map name (map object_of (lines_of_kind kind blocks)))
  named_of kind object_of name seconds firsts =
      subst AreNames (sym (map-map name object_of (lines_of_kind kind blocks) ∙ map-agree _ _ firsts (lines_of_kind kind blocks)))
      (AreNames-from_fine kind (lines_of_kind kind blocks) seconds (fine_lines kind))

  -- what holds of the names of a kind, at the lines of their blocks
  whole_lines : (kind : BlockKind) → All (λ lines. lacks_name kind (name_of kind lines) ≡ false) (lines_of_kind kind blocks)
  whole_lines kind = All-unmap (λ name. lacks_name kind name ≡ false) (name_of kind) (lines_of_kind kind blocks) (fine_lines kind).whole

  plain_lines : (kind : BlockKind) → All (λ lines. is_bad_name kind (name_of kind lines) ≡ false) (lines_of_kind kind blocks)
  plain_lines kind = All-unmap (λ name. is_bad_name kind name ≡ false) (name_of kind) (lines_of_kind kind blocks) (fine_lines kind).plain

  -- each service names a host that is there
  with_hosts : All (HasHost (block_names blocks)) (lines_of_kind kind.Service blocks)
  with_hosts k d within =
      host-found (block_names blocks) _ (All-known (block_names blocks) kind.Service blocks none k d within) (whole_lines kind.Service k d within)

  services_differ : AllPairs AreApart (base_of_blocks rules blocks).services
  services_differ =
      let known : BlockKind → List ObjectName = block_names blocks in
      let all : List (List Line) = lines_of_kind kind.Service blocks in
      AllPairs-map AreApart (service_of known) all
      (AllPairs-by (λ a b. is_equal_name (name_of kind.Service b) (name_of kind.Service a) ≡ false) (λ a b. AreApart (service_of known a) (service_of known b))
      (HasHost known) all (λ a b host host' different same. services-differ known a b host host' different (ap (λ id. id.0) same))
      (AllPairs-unmap (λ a b. is_equal_name b a ≡ false) (name_of kind.Service) all (fine_lines kind.Service).different) with_hosts)

  -- what holds of the objects of a kind, by a test of their names
  by_names : {X : Type 0} (kind : BlockKind) (object_of : List Line → X) (P : X → Type 0) (test : ObjectName → Bool)
      → All (λ lines. test (name_of kind lines) ≡ false) (lines_of_kind kind blocks)
      → ((lines : List Line) → test (name_of kind lines) ≡ false → P (object_of lines)) → All P (map object_of (lines_of_kind kind blocks))
  by_names kind object_of P test all each =
      All-map P object_of (lines_of_kind kind blocks)
      (All-weaker (λ lines. test (name_of kind lines) ≡ false) (λ lines. P (object_of lines)) each (lines_of_kind kind blocks) all)

  are_named : AreNamed (base_of_blocks rules blocks)
  are_named =
      let known : BlockKind → List ObjectName = block_names blocks in
      record {
        hosts = named_of kind.Host (host_of known) (λ host. host.host_name) (λ _. refl) (λ _. refl);
        services = services_differ;
        descriptions = by_names kind.Service (service_of known) (λ service. service.service_description ≢ []) (lacks_name kind.Service)
            (whole_lines kind.Service) (λ lines whole. is_empty-false (text_or [] (codes "service_description") lines) (or_parts _ _ whole).1);
        host_groups = named_of kind.HostGroup (host_group_of known) (λ group. group.hostgroup_name) (λ _. refl) (λ _. refl);
        service_groups = named_of kind.ServiceGroup (service_group_of known) (λ group. group.servicegroup_name) (λ _. refl) (λ _. refl);
        contacts = named_of kind.Contact contact_of (λ contact. contact.contact_name) (λ _. refl) (λ _. refl);
        contact_groups = named_of kind.ContactGroup (contact_group_of known) (λ group. group.contactgroup_name) (λ _. refl) (λ _. refl);
        periods = named_of kind.Period period_of (λ period. period.timeperiod_name) (λ _. refl) (λ _. refl);
        commands = named_of kind.Command command_of (λ command. command.command_name) (λ _. refl) (λ _. refl);
        plain_hosts = by_names kind.Host (host_of known) (λ host. HasNoSemicolon host.host_name) (is_bad_name kind.Host) (plain_lines kind.Host)
            (λ lines plain. (or_parts _ _ plain).0);
        plain_services = by_names kind.Service (service_of known) (λ service. HasNoSemicolon service.service_description) (is_bad_name kind.Service)
            (plain_lines kind.Service) (λ lines plain. (or_parts _ _ plain).1);
      }

  fields_sound : (own_name : List ℕ) (lines : List Line) → AreSoundFields (base_of_blocks rules blocks) (fields_of (block_names blocks) own_name lines)
  fields_sound own_name lines =
      let known : BlockKind → List ObjectName = block_names blocks in
      let attempts = number_or-bounded 1 1 1000000 (codes "max_check_attempts") lines (omega arith) (omega arith) in
      let notifications = number_or-bounded 1 0 1 (codes "notifications_enabled") lines (omega arith) (omega arith) in
      record {
        attempts = attempts.0;
        attempts_most = attempts.1;
        notifications = notifications.1;
        contacts = contact_ids-places known reference.Contacts lines (count_of kind.Contact contact_of);
        contact_groups = contact_group_ids-places known reference.ContactGroups lines (count_of kind.ContactGroup (contact_group_of known));
      }

  -- what holds of each object that the blocks of a kind say
  each_of : {X : Type 0} (kind : BlockKind) (object_of : List Line → X) (P : X → Type 0) → ((lines : List Line) → P (object_of lines))
      → All P (map object_of (lines_of_kind kind blocks))
  each_of kind object_of P each =
      All-map P object_of (lines_of_kind kind blocks) (λ k d within. each (get_or (lines_of_kind kind blocks) k d))

  hosts_within : All (λ service. service.host.0 < length (base_of_blocks rules blocks).hosts) (base_of_blocks rules blocks).services
  hosts_within =
      let known : BlockKind → List ObjectName = block_names blocks in
      let services : List (List Line) = lines_of_kind kind.Service blocks in
      subst (λ n. All (λ (service : Service). service.host.0 < n) (map (service_of known) services)) (sym (count_of kind.Host (host_of known)))
      (All-map (λ service. service.host.0 < length (known kind.Host)) (service_of known) services
      (λ k d within. host-within known (get_or services k d) (with_hosts k d within)))

  -- the names of the hosts, by the names of their blocks
  host_names : map (λ (name : ObjectName). name.first) (block_names blocks kind.Host) ≡ map (λ (host : Host). host.host_name) (base_of_blocks rules blocks).hosts
  host_names =
      let hosts : List (List Line) = lines_of_kind kind.Host blocks in
      ap (map (λ (name : ObjectName). name.first)) (block_names-lines kind.Host)
      ∙ map-map (λ (name : ObjectName). name.first) (name_of kind.Host) hosts
      ∙ sym (map-map (λ (host : Host). host.host_name) (host_of (block_names blocks)) hosts)

  hosts_named : All (λ service. slice_get (map (λ (host : Host). host.host_name) (base_of_blocks rules blocks).hosts) service.host.0 ≡ Some service.host_name) (base_of_blocks rules blocks).services
  hosts_named =
      let known : BlockKind → List ObjectName = block_names blocks in
      let services : List (List Line) = lines_of_kind kind.Service blocks in
      subst (λ names. All (λ (service : Service). slice_get names service.host.0 ≡ Some service.host_name) (map (service_of known) services)) host_names
      (All-map (λ service. slice_get (map (λ (name : ObjectName). name.first) (known kind.Host)) service.host.0 ≡ Some service.host_name) (service_of known) services
      (λ k d within. host-named known (get_or services k d) (with_hosts k d within)))

  are_linked : AreLinked (base_of_blocks rules blocks)
  are_linked =
      let base : Base = base_of_blocks rules blocks in
      let known : BlockKind → List ObjectName = block_names blocks in
      let hosts : length base.hosts ≡ length (known kind.Host) = count_of kind.Host (host_of known) in
      let services : length base.services ≡ length (known kind.Service) = count_of kind.Service (service_of known) in
      let contacts : length base.contacts ≡ length (known kind.Contact) = count_of kind.Contact contact_of in
      record {
        parents = each_of kind.Host (host_of known) (λ host. ArePlaces (length base.hosts) (map (λ id. id.0) host.parents))
            (λ lines. host_ids-places known reference.Parents lines hosts);
        host_fields = each_of kind.Host (host_of known) (λ host. AreSoundFields base host.fields)
            (λ lines. fields_sound (text_or [] (codes "host_name") lines) lines);
        service_hosts = hosts_within;
        service_names = hosts_named;
        service_fields = each_of kind.Service (service_of known) (λ service. AreSoundFields base service.fields)
            (λ lines. fields_sound (text_or [] (codes "service_description") lines) lines);
        host_groups = each_of kind.HostGroup (host_group_of known) (λ group. ArePlaces (length base.hosts) (map (λ id. id.0) group.members))
            (λ lines. host_ids-places known reference.MemberHosts lines hosts);
        service_groups = each_of kind.ServiceGroup (service_group_of known) (λ group. ArePlaces (length base.services) (map (λ id. id.0) group.members))
            (λ lines. service_ids-places known reference.MemberServices lines services);
        contact_groups = each_of kind.ContactGroup (contact_group_of known) (λ group. ArePlaces (length base.contacts) (map (λ id. id.0) group.members))
            (λ lines. contact_ids-places known reference.MemberContacts lines contacts);
      }

  blocks_sound : IsSound (base_of_blocks rules blocks)
  blocks_sound = record { limited = are_limited; named = are_named; linked = are_linked }

-- ---- the file

parts_sound : (rules : Rules) (parts : List Part) (base : Base) → base_of_parts rules parts ≡ Ok base → IsSound base
parts_sound rules parts base read =
    let none = fault_none (fault_of parts) _ base read in
    let both = option_or_none (parts_fault [] parts) (unknown_fault (blocks_of parts)) none.0 in
    subst IsSound none.1 (blocks_sound rules (blocks_of parts) (AllFine-from_parts parts both.0) both.1)

pub base_sound : (bytes : List ℕ) (rules : Rules) (base : Base) → base_of bytes rules ≡ Ok base → IsSound base
unfolding base_of
base_sound bytes rules base read = parts_sound rules (parts_of (telling_lines bytes)) base read

-- what was read is sound
pub reads_sound : (bytes : List ℕ) (rules : Rules) (result : Result Base ObjectsErr)
    → Reads result (base_of bytes rules) → IfOk result (λ base. IsSound base)
reads_sound bytes rules (Ok base) read = base_sound bytes rules base read
reads_sound bytes rules (Err e) read = tt
