use Rattle.std.proofs.Common.{◌≡◌, length}
use Rattle.lq_log.specs.Book.{last_time}
use Rattle.lq_live.specs.Edits.{play_edits}
use Rattle.lq_live.specs.Kept.{HasRoom, IsIndexed, Timely, state_of}
use Rattle.lq_live.proofs.edit.play.Given as goal

abbrev pub invariant-edits : goal.invariant-edits
invariant-edits l = record {
  left : play_edits l.edit-iterator.rest.items (state_of l.live) ≡ play_edits l.fn.edits.items (state_of l.initial.live);
  timely : Timely (last_time l.live.log.entries) l.edit-iterator.rest.items;
  room : HasRoom l.live (length l.edit-iterator.rest.items);
  index : IsIndexed l.live;
}
