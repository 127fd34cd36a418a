-- What a header that is made ready is a header of.
use Rattle.lq_filter.specs.declared.header.Header.{Header}
use Rattle.lq_filter.specs.declared.header.Header.TheVariants as header
use Rattle.lq_filter.specs.declared.read.Test.{Test}
use Rattle.lq_filter.specs.declared.ready.ReadyHeader.{ReadyHeader}
use Rattle.lq_filter.specs.declared.ready.ReadyHeader.TheVariants as ready
use Rattle.lq_filter.specs.declared.ready_test.ReadyTest.{ReadyTest}

abbrev pub test_of_ready : ReadyTest → Test
test_of_ready test = record { column = test.column; check = test.check }

abbrev pub header_of : ReadyHeader → Header
header_of (ready.Test test) = header.Test (test_of_ready test)
header_of (ready.Join join) = header.Join join
header_of ready.Negate = header.Negate
