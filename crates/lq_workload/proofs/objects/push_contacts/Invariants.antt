use Rattle.std.proofs.Common.{◌≡◌, ◌++◌, string_bytes}
use Rattle.lq_workload.specs.Objects.{contact_block}
use Rattle.lq_workload.specs.Texts.{texts_below}
use Rattle.lq_workload.proofs.objects.push_contacts.Given as goal

abbrev pub invariant-loop-contact : goal.invariant-loop-contact
invariant-loop-contact l =
    string_bytes l.text ≡ string_bytes l.initial.text ++ texts_below l.contact contact_block
