-- What reading a part answers, and what it leaves.
use Rattle.std.specs.Prelude.{◌≡◌, Bool, true, false, Option, Some, None, Result, Ok, Err}
use Rattle.std.specs.Prelude.{List, [], ◌∷◌}
use Rattle.lq_objects.specs.Directories.{with_name}
use Rattle.lq_objects.specs.Names.{Block, name_of}
use Rattle.lq_objects.specs.declared.directory.Directory.{Directory}
use Rattle.lq_objects.specs.declared.fault.FaultyLine.{FaultyLine}
use Rattle.lq_objects.specs.declared.fault.ObjectErr.{ObjectErr}
use Rattle.lq_objects.specs.declared.fault.ObjectErr.TheVariants as made
use Rattle.lq_objects.specs.declared.fault.ObjectsErr.{ObjectsErr}
use Rattle.lq_objects.specs.declared.fault.ObjectsErr.TheVariants.{At, Memory}

-- an error is the fault, or out of memory
abbrev pub Tells : ObjectsErr → Option FaultyLine → Type 0
Tells (At line what) fault = fault ≡ Some (record { line = line; what = what })
Tells (Memory _) fault = Unit {0}

-- without an error there is no fault
abbrev pub Checks : {X : Type 0} → Result X ObjectsErr → Option FaultyLine → Type 0
Checks (Ok _) fault = fault ≡ None
Checks (Err error) fault = Tells error fault

-- an error is that something is unknown, or out of memory
abbrev pub TellsUnknown : ObjectErr → Bool → Type 0
TellsUnknown made.UnknownName unknown = unknown ≡ true
TellsUnknown (made.Memory _) unknown = Unit {0}

-- without an error nothing is unknown
abbrev pub MakesUnless : {X : Type 0} → Result X ObjectErr → Bool → Type 0
MakesUnless (Ok _) unknown = unknown ≡ false
MakesUnless (Err error) unknown = TellsUnknown error unknown

-- the names with those of further blocks
abbrev pub with_blocks : Directory → List Block → Directory
with_blocks directory [] = directory
with_blocks directory (block ∷ blocks) =
    with_blocks (with_name directory block.kind (name_of block.kind block.lines)) blocks
