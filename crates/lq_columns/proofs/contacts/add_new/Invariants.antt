use Rattle.std.proofs.Common.{◌≡◌, drop}
use Rattle.lq_columns.specs.Distinct.{with_new}
use Rattle.lq_columns.proofs.contacts.add_new.Given as goal

abbrev pub invariant-loop-id : goal.invariant-loop-id
invariant-loop-id l = with_new l.found.items (drop l.id-index l.ids) ≡ with_new l.fn.found.items l.ids
