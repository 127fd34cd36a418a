use Rattle.std.proofs.Common.{refl, subst, drop, ◌+◌, ◌≡◌, length, map, take, sym, ap, ◌∙◌, arith}
use Rattle.std.specs.Prelude.{slice_get}
use Rattle.std.proofs.lemmas.List.{drop_all, length-map}
use Rattle.std.proofs.lemmas.Option.{same_Some, slice_get_within}
use Rattle.lq_names.specs.Names.{both_parts}
use Rattle.lq_objects.specs.Checks.{Tells, TellsUnknown}
use Rattle.lq_objects.specs.Directories.{names_in}
use Rattle.lq_objects.specs.Drafts.{base_of_draft, count_of_kind}
use Rattle.lq_objects.specs.Faults.{first_of, unknown_in_block}
use Rattle.lq_objects.specs.Names.{name_of}
use Rattle.lq_objects.specs.Objects.{objects_of, with_object}
use Rattle.lq_objects.proofs.DirectoryLemmas.{own_name-at}
use Rattle.lq_objects.proofs.ObjectLemmas.{objects_of-more}
use Rattle.lq_objects.proofs.UnknownLemmas.{first-here, none-first, tells-first, unknown-block}
use Rattle.lq_objects.proofs.objects.draft_of.Goals as goal

pub loop-block-init : goal.loop-block-init
loop-block-init c = record { draft = c.new-draft.ensures (names_in c.args.directory.now); fault = refl }

pub parts_at-requires : goal.parts_at-requires
parts_at-requires c =
    let block = c.block-item.result in
    let base = base_of_draft c.loop-block.draft in
    let own = own_name-at c.args.directory.now c.args.rules c.args.blocks.now c.loop-block.block-index block base c.requires c.loop-block-test.true c.block-item.is c.loop-block.invariant.draft in
    let within = slice_get_within (map both_parts (names_in c.args.directory.now block.kind)) (count_of_kind base block.kind) (both_parts (name_of block.kind block.lines)) own in
    let count : c.count.result ≡ count_of_kind base block.kind = c.count.ensures ∙ ap (count_of_kind base) c.kind-kind.ensures in
    let names : c.of.result.now ≡ names_in c.args.directory.now block.kind = c.of.ensures ∙ ap (names_in c.args.directory.now) c.kind-kind.ensures in
    omega (arith, within, count, length-map (names_in c.args.directory.now block.kind) both_parts, ap length names)

pub add_to-requires : goal.add_to-requires
add_to-requires c =
    let block = c.block-item.result in
    let base = base_of_draft c.loop-block.draft in
    let own = own_name-at c.args.directory.now c.args.rules c.args.blocks.now c.loop-block.block-index block base c.requires c.loop-block-test.true c.block-item.is c.loop-block.invariant.draft in
    let count : c.count.result ≡ count_of_kind base block.kind = c.count.ensures ∙ ap (count_of_kind base) c.kind-kind.ensures in
    let names : c.of.result.now ≡ names_in c.args.directory.now block.kind = c.of.ensures ∙ ap (names_in c.args.directory.now) c.kind-kind.ensures in
    let found = sym c.parts_at.ensures ∙ ap (λ names. slice_get (map both_parts names) c.count.result) names
    ∙ ap (slice_get (map both_parts (names_in c.args.directory.now block.kind))) count ∙ own in
    same_Some c.parts_at.result.now (both_parts (name_of block.kind block.lines)) found
    ∙ sym (ap (λ lines. both_parts (name_of block.kind lines)) c.lines.ensures)
    ∙ sym (ap (λ kind. both_parts (name_of kind c.lines.result.now)) c.kind-kind.ensures)

pub objects_err-requires : goal.objects_err-requires
objects_err-requires c =
    subst (TellsUnknown c.in-Err.error)
    (unknown-block (names_in c.args.directory.now) c.block-item.result c.kind-kind.result c.lines.result.now c.kind-kind.ensures c.lines.ensures)
    (c.in-Err.ensures {u = tt}).unknown

pub returns-in-Err-clause-fault : goal.returns-in-Err-clause-fault
returns-in-Err-clause-fault c =
    let fault = unknown_in_block (names_in c.args.directory.now) in
    let blocks = c.args.blocks.now in
    let at = c.loop-block.block-index in
    subst (Tells c.objects_err.result) (sym (first-here fault blocks at c.block-item.result c.loop-block-test.true c.block-item.is) ∙ c.loop-block.invariant.fault)
    (tells-first c.objects_err.result (fault c.block-item.result) (first_of fault (drop (at + 1) blocks)) c.objects_err.ensures)

pub returns-clause-fault : goal.returns-clause-fault
returns-clause-fault c =
    sym c.loop-block.invariant.fault
    ∙ ap (first_of (unknown_in_block (names_in c.args.directory.now))) (drop_all c.loop-block.block-index c.args.blocks.now c.loop-block-test.false)

pub loop-block-preserved : goal.loop-block-preserved
loop-block-preserved c =
    let names = names_in c.args.directory.now in
    let fault = unknown_in_block names in
    let blocks = c.args.blocks.now in
    let at = c.loop-block.block-index in
    let block = c.block-item.result in
    let base = objects_of names c.args.rules (take at blocks) in
    let made = c.in_default.ensures {u = tt} in
    let known = sym (unknown-block names block c.kind-kind.result c.lines.result.now c.kind-kind.ensures c.lines.ensures) ∙ made.unknown in
    record {
      draft =
          made.object
          ∙ ap (λ before. with_object names before c.kind-kind.result c.lines.result.now) c.loop-block.invariant.draft
          ∙ ap (λ kind. with_object names base kind c.lines.result.now) c.kind-kind.ensures
          ∙ ap (with_object names base block.kind) c.lines.ensures
          ∙ objects_of-more names c.args.rules blocks at block c.loop-block-test.true c.block-item.is;
      fault =
          none-first (fault block) (first_of fault (drop (at + 1) blocks)) known
          ∙ sym (first-here fault blocks at block c.loop-block-test.true c.block-item.is)
          ∙ c.loop-block.invariant.fault;
    }
