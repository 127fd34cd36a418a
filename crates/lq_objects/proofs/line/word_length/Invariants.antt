use Rattle.std.proofs.Common.{◌≡◌, ◌+◌, ◌-◌, ◌≤◌, length, drop}
use Rattle.std.specs.Prelude.{not}
use Rattle.std.specs.List.{prefix_len}
use Rattle.lq_text.specs.Blanks.{is_blank}
use Rattle.lq_objects.proofs.line.word_length.Given as goal

abbrev pub invariant-word : goal.invariant-word
invariant-word l = record {
  within : l.end ≤ length l.text;
  name : l.end + prefix_len (λ byte. not (is_blank byte)) (drop l.end l.text) ≡ prefix_len (λ byte. not (is_blank byte)) l.text;
}

abbrev pub decreases-word : goal.decreases-word
decreases-word l = length l.text - l.end
