-- How the code works: one pass over what the log says, in which the last piece may still grow.
use Rattle.std.specs.Prelude.{◌≡◌, ℕ, ◌≤◌, ◌<◌, negsuc, false, true, Option, Some, None, List, []}
use Rattle.std.specs.Prelude.{◌∷◌, fold, unwrap_or}
use Rattle.lq_statehist.specs.Facts.{Known, Subject, down_in, downtime_fact, flapping_fact}
use Rattle.lq_statehist.specs.Facts.{line_fact, output_in, period_fact, state_in}
use Rattle.lq_statehist.specs.Notes.{Note, Said, State, Downtime, Flapping, Period}
use Rattle.lq_statehist.specs.Tiling.{HistoryPiece, with_piece_before}
use Rattle.lq_records.specs.declared.object.Object.TheVariants as object
use Rattle.lq_statehist.specs.declared.current.Current.{Current}
use Rattle.lq_statehist.specs.declared.line.Line.{Line}
use Rattle.lq_statehist.specs.declared.line.Said.{Said as LineSaid}
use Rattle.lq_statehist.specs.declared.line.Said.TheVariants as said
use Rattle.lq_statehist.specs.declared.pass.Stretch.{Stretch}
use Rattle.lq_statehist.specs.declared.subject.Subject.{Subject as LineSubject}

-- ---- what the code's values are

abbrev pub said_of : LineSaid → Said
said_of (said.State object state output) = State object state output.now
said_of (said.Downtime object on) = Downtime object on
said_of (said.Flapping object on) = Flapping object on
said_of (said.Period name on) = Period name.now on

abbrev pub note_of : Line → Note
note_of line = record { time = line.time; place = line.place; said = said_of line.said }

abbrev pub subject_of_lines : LineSubject → Subject
subject_of_lines about =
    record { object = about.object; host = about.host; period = about.period.now }

abbrev pub known_of : Current → Known
known_of known = record {
  facts = record {
    state = known.state;
    output = known.output.now;
    host_down = known.host_down;
    in_downtime = known.in_downtime;
    in_host_downtime = known.in_host_downtime;
    is_flapping = known.is_flapping;
    in_period = known.in_period;
  };
  line = known.line;
}

abbrev pub piece_of_stretch : Stretch → HistoryPiece
piece_of_stretch stretch =
    record { from = stretch.from; until = stretch.until; known = known_of stretch.known }

-- ---- line by line

-- what is known without a log
abbrev pub unknown : Known
unknown = record {
  facts = record {
    state = negsuc 0;
    output = [];
    host_down = false;
    in_downtime = false;
    in_host_downtime = false;
    is_flapping = false;
    in_period = true;
  };
  line = None;
}

-- what is known after one more line
abbrev pub known_after_note : Subject → Known → Note → Known
known_after_note about known note = record {
  facts = record {
    state = unwrap_or (state_in about.object note.said) known.facts.state;
    output = unwrap_or (output_in about.object note.said) known.facts.output;
    host_down = unwrap_or (down_in (object.Host about.host) note.said) known.facts.host_down;
    in_downtime = unwrap_or (downtime_fact about.object note.said) known.facts.in_downtime;
    in_host_downtime =
        unwrap_or (downtime_fact (object.Host about.host) note.said) known.facts.in_host_downtime;
    is_flapping = unwrap_or (flapping_fact about.object note.said) known.facts.is_flapping;
    in_period = unwrap_or (period_fact about.period note.said) known.facts.in_period;
  };
  line = unwrap_or (line_fact about.object note note.said) known.line;
}

-- what is known after more lines
abbrev pub all_noted : Subject → Known → List Note → Known
all_noted about known notes = fold (known_after_note about) known notes

-- the seconds of notes rise
abbrev pub RisesFrom : ℕ → List Note → Type 0
RisesFrom second [] = Unit {0}
RisesFrom second (note ∷ notes) = (second ≤ note.time) × RisesFrom note.time notes

-- ---- piece by piece

-- what still grows, before what is to come
abbrev pub before : Option HistoryPiece → List HistoryPiece → List HistoryPiece
before None pieces = pieces
before (Some piece) pieces = with_piece_before piece pieces

-- at each second from one up to before another one thing is known
abbrev pub IsKnownThroughout : (ℕ → Known) → Known → ℕ → ℕ → Type 0
IsKnownThroughout at known from until =
    (second : ℕ) → from ≤ second → second < until → at second ≡ known
