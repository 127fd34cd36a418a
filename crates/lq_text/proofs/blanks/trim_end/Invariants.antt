use Rattle.std.proofs.Common.{◌≡◌, ◌+◌, ◌-◌, ◌≤◌, length, take}
use Rattle.std.specs.List.{suffix_len}
use Rattle.lq_text.specs.Blanks.{is_blank}
use Rattle.lq_text.proofs.blanks.trim_end.Given as goal

abbrev pub invariant-blanks : goal.invariant-blanks
invariant-blanks l = record {
  within : l.end ≤ length l.bytes;
  blanks : length l.bytes - l.end + suffix_len is_blank (take l.end l.bytes) ≡ suffix_len is_blank l.bytes;
}

abbrev pub decreases-blanks : goal.decreases-blanks
decreases-blanks l = l.end
