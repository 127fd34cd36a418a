use Rattle.std.proofs.Common.{◌≡◌, ◌<◌, List, true, length, get_or, bytes_eq, ap, sym, ◌∙◌, arith}
use Rattle.lq_records.specs.declared.base.Contact.{Contact}
use Rattle.lq_columns.proofs.Sought.{named_at, named_nowhere}
use Rattle.lq_columns.proofs.contacts.contact_named.Goals as goal

pub returns-then-eq : goal.returns-then-eq
returns-then-eq c =
    let contacts = c.args.base.now.contacts in
    let name = c.args.name.now in
    let place = c.loop-place.place in
    let contact = c.index-contacts-place.result in
    let within : place < length contacts = rw c.as_slice-contacts.ensures at c.loop-place-test.true in
    let own : contact ≡ get_or contacts place contact = c.index-contacts-place.is ∙ ap (λ (those : List Contact). get_or those place contact) c.as_slice-contacts.ensures in
    let here : bytes_eq (get_or contacts place contact).contact_name name ≡ true
    = ap (λ (each : Contact). bytes_eq each.contact_name name) (sym own) ∙ ap (λ text. bytes_eq text name) (sym c.as_str.ensures) ∙ sym c.eq.ensures ∙ c.if-eq.true in
    record { same = λ id. named_at contacts c.requires.named.contacts.different name place contact within here id.0 }

pub returns : goal.returns
returns c =
    let all = ap length c.as_slice-contacts.ensures in
    record {
      same = λ id. named_nowhere c.args.base.now.contacts c.requires.named.contacts.different c.args.name.now
          (λ place contact below. rw c.as_slice-contacts.ensures at (c.loop-place.invariant place contact (omega (arith, below, all, c.loop-place-test.false)))) id.0;
    }
