-- The separators of the manual's header `Separators` where no line names any: a line feed, `;`, `,`
-- and `|`.
use Rattle.lq_records.specs.declared.format.Separators.{Separators}

abbrev pub usual_separators : Separators
usual_separators = record { row = 10; column = 59; list = 44; pair = 124 }
