use Rattle.lq_records.specs.declared.object.Object.TheVariants as object
use Rattle.lq_columns.proofs.host.HostRow.contains.Goals as goal

pub returns-in-Object : goal.returns-in-Object
returns-in-Object c = record {
  value = λ s view same. rw c.in-Object.is (rw (← same) at c.object_contains.ensures.value (object.Host c.args.self.now.id));
  given = rw c.in-Object.is c.object_contains.ensures.given;
}
