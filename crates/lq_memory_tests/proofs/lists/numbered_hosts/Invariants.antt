use Rattle.std.proofs.Common.{◌≡◌, List, [], map, length}
use Rattle.lq_names.specs.Names.{both_parts}
use Rattle.lq_records.specs.declared.base.Host.{Host}
use Rattle.lq_memory_tests.proofs.lists.numbered_hosts.Given as goal

abbrev pub invariant-loop-number : goal.invariant-loop-number
invariant-loop-number l =
    (map both_parts l.names ≡ map (λ (host : Host). (host.host_name, [])) l.hosts.items) × (length l.hosts.items ≡ l.number-counter)
