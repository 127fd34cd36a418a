use Rattle.std.proofs.Common.{◌≡◌, ◌+◌, ◌-◌, ◌≤◌, length, drop}
use Rattle.std.specs.List.{prefix_len}
use Rattle.lq_text.specs.Blanks.{is_blank}
use Rattle.lq_request.proofs.words.blank_length.Given as goal

abbrev pub invariant-blanks : goal.invariant-blanks
invariant-blanks l = record {
  within : l.at ≤ length l.bytes;
  blanks : l.at + prefix_len is_blank (drop l.at l.bytes) ≡ prefix_len is_blank l.bytes;
}

abbrev pub decreases-blanks : goal.decreases-blanks
decreases-blanks l = length l.bytes - l.at
