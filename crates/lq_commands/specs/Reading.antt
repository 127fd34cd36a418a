-- What reading gives.
use Rattle.std.specs.Prelude.{◌≡◌, Option, Some, None, Result, Ok, Err}
use Rattle.lq_commands.specs.declared.field.FieldErr.{FieldErr}
use Rattle.lq_commands.specs.declared.field.FieldErr.TheVariants as fault
use Rattle.lq_commands.specs.declared.order.CommandErr.{CommandErr}
use Rattle.lq_commands.specs.declared.order.CommandErr.TheVariants as error

-- the value, or that there is none, is what the definition says; running out of memory is free
abbrev pub GivesValue : {X : Type 0} → Result X FieldErr → Option X → Type 0
GivesValue (Ok value) read = read ≡ Some value
GivesValue (Err fault.Faulty) read = read ≡ None
GivesValue (Err fault.Memory) read = Unit {0}

-- the order, or that the line has no time, is what the definition says; running out of memory is
-- free
abbrev pub ReadsOrder : {X : Type 0} → Result X CommandErr → Option X → Type 0
ReadsOrder (Ok order) read = read ≡ Some order
ReadsOrder (Err error.NoTime) read = read ≡ None
ReadsOrder (Err error.Memory) read = Unit {0}
