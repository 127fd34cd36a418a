-- The base of a file, or the fault that decides.
use Rattle.std.proofs.Common.{◌≡◌, Option, Some, None, Result, Ok, Err, List, [], IfOk, IsErrAnd, sym, ap, ◌∙◌, subst}
use Rattle.std.specs.Option.{option_or}
use Rattle.lq_records.specs.declared.base.Base.{Base}
use Rattle.lq_records.specs.declared.base.Rules.{Rules}
use Rattle.lq_objects.specs.Blocks.{Part}
use Rattle.lq_objects.specs.Checks.{Checks, Tells}
use Rattle.lq_objects.specs.Directories.{directory_of, names_in}
use Rattle.lq_objects.specs.Faults.{blocks_of, first_of, parts_fault, unknown_fault, unknown_in_block}
use Rattle.lq_objects.specs.Names.{Block}
use Rattle.lq_objects.specs.Objects.{base_of_blocks, base_of_parts, base_or, objects_of}
use Rattle.lq_objects.specs.Reading.{Reads}
use Rattle.lq_objects.specs.declared.directory.Directory.{Directory}
use Rattle.lq_objects.specs.declared.fault.FaultyLine.{FaultyLine}
use Rattle.lq_objects.specs.declared.fault.ObjectsErr.{ObjectsErr}
use Rattle.lq_objects.specs.declared.fault.ObjectsErr.TheVariants.{At, Memory}
use Rattle.lq_objects.proofs.DirectoryLemmas.{known-directory}

-- an error that is passed on
pub reads_passed : (result : Result Base ObjectsErr) (error : ObjectsErr) (read : Result Base FaultyLine) → IsErrAnd result (λ passed. passed ≡ error)
    → Reads {X = Base} (Err error) read → Reads result read
reads_passed (Ok base) error read passed reads = absurd passed
reads_passed (Err other) error read passed reads = subst (λ (e : ObjectsErr). Reads {X = Base} (Err e) read) (sym passed) reads

module _ (rules : Rules) (parts : List Part) where
  -- by what the parts and the names in them have for faults
  by_faults : (first unknown : Option FaultyLine) → parts_fault [] parts ≡ first → unknown_fault (blocks_of parts) ≡ unknown
      → base_of_parts rules parts ≡ base_or (option_or first unknown) (base_of_blocks rules (blocks_of parts))
  by_faults first unknown is names =
      ap (λ found. base_or (option_or found (unknown_fault (blocks_of parts))) (base_of_blocks rules (blocks_of parts))) is
      ∙ ap (λ found. base_or (option_or first found) (base_of_blocks rules (blocks_of parts))) names

  pub reads_fault : (error : ObjectsErr) → Tells error (parts_fault [] parts) → Reads (Err error) (base_of_parts rules parts)
  reads_fault (At line what) fault = by_faults (Some (record { line = line; what = what })) _ fault (λ i. unknown_fault (blocks_of parts))
  reads_fault (Memory _) fault = tt

  module _ (directory : Directory) (blocks : List Block) (fine : parts_fault [] parts ≡ None) (all : blocks ≡ blocks_of parts)
      (is : directory ≡ directory_of blocks) where
    unknown_is : first_of (unknown_in_block (names_in directory)) blocks ≡ unknown_fault (blocks_of parts)
    unknown_is = ap (λ names. first_of (unknown_in_block names) blocks) (known-directory directory blocks is) ∙ ap unknown_fault all

    reads_unknown : (fault : FaultyLine) → Some fault ≡ first_of (unknown_in_block (names_in directory)) blocks → base_of_parts rules parts ≡ Err fault
    reads_unknown fault found = by_faults None (Some fault) fine (sym (found ∙ unknown_is))

    reads_base : None ≡ first_of (unknown_in_block (names_in directory)) blocks
        → base_of_parts rules parts ≡ Ok (objects_of (names_in directory) rules blocks)
    reads_base none =
        by_faults None None fine (sym (none ∙ unknown_is))
        ∙ ap (λ found. Ok (base_of_blocks rules found)) (sym all)
        ∙ ap (λ names. Ok (objects_of names rules blocks)) (sym (known-directory directory blocks is))

    pub reads_made : (result : Result Base ObjectsErr) → Checks result (first_of (unknown_in_block (names_in directory)) blocks)
        → IfOk result (λ base. base ≡ objects_of (names_in directory) rules blocks) → Reads result (base_of_parts rules parts)
    reads_made (Ok base) none made = reads_base (sym none) ∙ ap Ok (sym made)
    reads_made (Err (At line what)) fault made = reads_unknown (record { line = line; what = what }) (sym fault)
    reads_made (Err (Memory _)) fault made = tt
