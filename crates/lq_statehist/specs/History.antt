-- The slices of the history of an object.
use Rattle.std.specs.Prelude.{ℕ, List, map}
use Rattle.lq_records.specs.declared.object.Object.{Object}
use Rattle.lq_statehist.specs.Facts.{Subject, known_at}
use Rattle.lq_statehist.specs.Notes.{Note}
use Rattle.lq_statehist.specs.Tiling.{HistoryPiece, pieces_between}
use Rattle.lq_statehist.specs.declared.slice.Slice.{Slice}

-- a piece of the history of an object
abbrev pub slice_of : Object → HistoryPiece → Slice
slice_of about piece = record {
  object = about;
  from = piece.from;
  until = piece.until;
  state = piece.known.facts.state;
  host_down = piece.known.facts.host_down;
  in_downtime = piece.known.facts.in_downtime;
  in_host_downtime = piece.known.facts.in_host_downtime;
  is_flapping = piece.known.facts.is_flapping;
  in_period = piece.known.facts.in_period;
  line = piece.known.line;
}

-- the history of an object from a second up to before another, by what a log says
abbrev pub history : Subject → List Note → ℕ → ℕ → List Slice
history about notes from until =
    map (slice_of about.object) (pieces_between (known_at about notes) from until)
