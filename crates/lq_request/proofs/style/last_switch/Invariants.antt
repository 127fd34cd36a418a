use Rattle.std.proofs.Common.{◌≡◌, ◌-◌, ◌≤◌, None, length, drop}
use Rattle.std.specs.List.{filter_map, last_or}
use Rattle.lq_text.specs.Lines.{lines_of}
use Rattle.lq_request.specs.Style.{switch_of_line}
use Rattle.lq_request.proofs.style.last_switch.Given as goal

abbrev pub invariant-lines : goal.invariant-lines
invariant-lines l = record {
  within : l.at ≤ length l.bytes;
  last : last_or l.last (filter_map (switch_of_line l.name l.on) (lines_of (drop l.at l.bytes)))
      ≡ last_or None (filter_map (switch_of_line l.name l.on) (lines_of l.bytes));
}

abbrev pub decreases-lines : goal.decreases-lines
decreases-lines l = length l.bytes - l.at
