-- What a check that is ready to be made checks.
use Rattle.std.specs.Prelude.{Bool}
use Rattle.std.specs.declared.cmp.Ordering.TheVariants.{Equal}
use Rattle.lq_filter.specs.declared.check.Check.{Check}
use Rattle.lq_filter.specs.declared.check.Comparison.TheVariants as by
use Rattle.lq_filter.specs.declared.check.Property.{Property}
use Rattle.lq_filter.specs.declared.check.Property.TheVariants.{Compares, Matches}
use Rattle.lq_filter.specs.declared.element_check.ElementCheck.{ElementCheck}
use Rattle.lq_filter.specs.declared.number_check.NumberCheck.{NumberCheck}
use Rattle.lq_filter.specs.declared.ready_check.ReadyProperty.{ReadyProperty}
use Rattle.lq_filter.specs.declared.ready_check.ReadyProperty.TheVariants as ready
use Rattle.lq_filter.specs.declared.text_check.TextCheck.{TextCheck}

abbrev pub property_of : ReadyProperty → Property
property_of (ready.Compares comparison) = Compares comparison.now
property_of (ready.Matches pattern) = Matches pattern

abbrev pub check_of : Bool → ReadyProperty → Check
check_of negated property = record { negated = negated; property = property_of property }

-- the check that asks so of a number
abbrev pub check_of_number : NumberCheck → Check
check_of_number check =
    record { negated = check.negated; property = Compares (by.Number check.ordering check.operand) }

-- the check that asks so for a text
abbrev pub check_of_text : TextCheck → Check
check_of_text check =
    record { negated = check.negated; property = Compares (by.Text Equal check.operand.now) }

-- the check that asks so for an element
abbrev pub check_of_element : ElementCheck → Check
check_of_element check =
    record { negated = check.negated; property = Compares (by.Contains check.element.now) }
