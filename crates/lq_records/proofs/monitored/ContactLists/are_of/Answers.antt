use Rattle.std.proofs.lemmas.Slice.Eq.{slice_eq-Decides}
use Rattle.lq_records.proofs.Contacts.{contacts_decided, groups_decided}
use Rattle.lq_records.proofs.monitored.ContactLists.are_of.Goals as goal

-- src/monitored.rt:62:5
pub returns-then-eq : goal.returns-then-eq
returns-then-eq c = λ holds i. record {
  contacts = (slice_eq-Decides contacts_decided c.args.self.now.contacts c.args.fields.now.contacts c.eq.result c.eq.ensures).0 c.if-eq.true i;
  contact_groups = (slice_eq-Decides groups_decided c.args.self.now.contact_groups c.args.fields.now.contact_groups c.eq-then-eq.result c.eq-then-eq.ensures).0 holds i;
}
