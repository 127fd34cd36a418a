use Rattle.std.proofs.Common.{◌≡◌, ◌<◌, ℕ, false, bytes_eq, get_or}
use Rattle.lq_records.specs.declared.base.Contact.{Contact}
use Rattle.lq_columns.proofs.contacts.contact_named.Given as goal

abbrev pub invariant-loop-place : goal.invariant-loop-place
invariant-loop-place l = (place : ℕ) (contact : Contact) → place < l.place → bytes_eq (get_or l.contacts place contact).contact_name l.name ≡ false
