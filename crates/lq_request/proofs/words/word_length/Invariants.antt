use Rattle.std.proofs.Common.{◌≡◌, ◌+◌, ◌-◌, ◌≤◌, length, drop}
use Rattle.std.specs.List.{position_or_len}
use Rattle.lq_text.specs.Blanks.{is_blank}
use Rattle.lq_request.proofs.words.word_length.Given as goal

abbrev pub invariant-word : goal.invariant-word
invariant-word l = record {
  within : l.at ≤ length l.bytes;
  blanks : l.at + position_or_len is_blank (drop l.at l.bytes) ≡ position_or_len is_blank l.bytes;
}

abbrev pub decreases-word : goal.decreases-word
decreases-word l = length l.bytes - l.at
