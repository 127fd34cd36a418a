use Rattle.std.proofs.Common.{◌≡◌, ◌+◌, ◌-◌, ◌≤◌, length, drop}
use Rattle.std.specs.List.{prefix_len}
use Rattle.std.specs.Char.{is_ascii_digit}
use Rattle.lq_text.proofs.seconds.digit_count.Given as goal

abbrev pub invariant-digits : goal.invariant-digits
invariant-digits l = record {
  within : l.count ≤ length l.bytes;
  digits : l.count + prefix_len is_ascii_digit (drop l.count l.bytes) ≡ prefix_len is_ascii_digit l.bytes;
}

abbrev pub decreases-digits : goal.decreases-digits
decreases-digits l = length l.bytes - l.count
