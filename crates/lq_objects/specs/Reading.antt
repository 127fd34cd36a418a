-- What reading an object file answers.
use Rattle.std.specs.Prelude.{◌≡◌, ℕ, Result, Ok, Err, List, codes}
use Rattle.lq_objects.specs.declared.fault.FaultyLine.{FaultyLine}
use Rattle.lq_objects.specs.declared.fault.ObjectsErr.{ObjectsErr}
use Rattle.lq_objects.specs.declared.fault.ObjectsErr.TheVariants.{At, Memory}
use Rattle.lq_objects.specs.declared.fault.ObjectsWhat.{ObjectsWhat}
use Rattle.lq_objects.specs.declared.fault.ObjectsWhat.TheVariants.{Stray, NotFlattened, BadNumber}
use Rattle.lq_objects.specs.declared.fault.ObjectsWhat.TheVariants.{NoName, BadName, Twice, TooMany}
use Rattle.lq_objects.specs.declared.fault.ObjectsWhat.TheVariants.{Unclosed, UnknownName}

-- a result is what was read, or out of memory
abbrev pub Reads : {X : Type 0} → Result X ObjectsErr → Result X FaultyLine → Type 0
Reads (Ok found) read = read ≡ Ok found
Reads (Err (At line what)) read = read ≡ Err (record { line = line; what = what })
Reads (Err (Memory _)) read = Unit {0}

-- the words for what is wrong in a line
abbrev pub what_text : ObjectsWhat → List ℕ
what_text Stray = codes "stray line"
what_text NotFlattened = codes "not flattened"
what_text BadNumber = codes "bad number"
what_text NoName = codes "no name"
what_text BadName = codes "bad name"
what_text Twice = codes "twice"
what_text TooMany = codes "too many"
what_text Unclosed = codes "unclosed"
what_text UnknownName = codes "unknown name"
