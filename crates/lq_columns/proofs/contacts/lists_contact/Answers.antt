use Rattle.std.proofs.Common.{None, Some, sym, ◌∙◌}
use Rattle.lq_columns.specs.Names.{contacts_of}
use Rattle.lq_columns.proofs.Sought.{by_id, is_none}
use Rattle.lq_columns.proofs.contacts.lists_contact.Goals as goal

pub returns-in-Some : goal.returns-in-Some
returns-in-Some c = λ name named.
    c.lists_id.ensures ∙ sym (by_id c.args.base.now c.args.fields.now (Some c.in-Some.contact) name (rw c.in-Some.is at named))

pub returns-in-None : goal.returns-in-None
returns-in-None c = λ name named.
    sym (by_id c.args.base.now c.args.fields.now None name (rw c.in-None.is at named) ∙ is_none (contacts_of c.args.base.now c.args.fields.now))
