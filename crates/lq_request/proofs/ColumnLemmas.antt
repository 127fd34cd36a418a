-- Each table has columns.
use Rattle.std.proofs.Common.{◌<◌, List, length, arith, length-append}
use Rattle.std.proofs.lemmas.List.{length-map}
use Rattle.std.specs.List.{flat_map}
use Rattle.lq_schema.specs.Order.{own_columns}
use Rattle.lq_schema.specs.declared.columns.Col.{Col}
use Rattle.lq_schema.specs.Schema.{columns_of, joined_of, part, part_columns, subject_of}
use Rattle.lq_schema.specs.declared.columns.Prefix.TheVariants as prefix
use Rattle.lq_schema.specs.declared.columns.Subject.{Subject}
use Rattle.lq_schema.specs.declared.columns.Subject.TheVariants as subject
use Rattle.lq_schema.specs.declared.columns.Table.{Table}

some_own : (about : Subject) → 0 < length (own_columns about)
some_own subject.Host = omega arith
some_own subject.Service = omega arith
some_own subject.HostGroup = omega arith
some_own subject.ServiceGroup = omega arith
some_own subject.Contact = omega arith
some_own subject.ContactGroup = omega arith
some_own subject.Command = omega arith
some_own subject.Period = omega arith
some_own subject.Downtime = omega arith
some_own subject.Comment = omega arith
some_own subject.Line = omega arith
some_own subject.Slice = omega arith
some_own subject.Program = omega arith
some_own subject.Schema = omega arith

pub some_column : (table : Table) → 0 < length (columns_of table)
unfolding columns_of
some_column table =
    let first : List Col = part_columns (part prefix.Own (subject_of table)) in
    omega (arith, some_own (subject_of table), length-map {B = Col} (own_columns (subject_of table)) (λ column. record { prefix = prefix.Own; own = column }), length-append first (flat_map part_columns (joined_of table)))
