-- What a log tells of an object at a second.
use Rattle.std.specs.Prelude.{ℕ, ℤ, pos, negsuc, ◌==◌, ◌&&◌, not, nat_le, Bool, true, false, Option}
use Rattle.std.specs.Prelude.{Some, None, List, [], length, filter, fold, bytes_eq, unwrap_or}
use Rattle.std.specs.Prelude.{if◌then◌else◌, int_lt}
use Rattle.lq_records.specs.Object.{is_same_object}
use Rattle.lq_records.specs.declared.ids.HostId.{HostId}
use Rattle.lq_records.specs.declared.object.Object.{Object}
use Rattle.lq_records.specs.declared.object.Object.TheVariants as object
use Rattle.lq_statehist.specs.Notes.{Note, Said, State, Downtime, Flapping, Period}

-- an object whose history is told, the host that it is or runs on, and the name of the time period
-- in which people are notified about it
pub record Subject : Type 0 where
  pub object : Object
  pub host : HostId
  pub period : List ℕ

-- What is told of an object: its state, -1 before the first one, and the output of the check; that
-- its host's state is above 0; that it is in a downtime, and its host; that it is flapping; that
-- its time period is on.
pub record Facts : Type 0 where
  pub state : ℤ
  pub output : List ℕ
  pub host_down : Bool
  pub in_downtime : Bool
  pub in_host_downtime : Bool
  pub is_flapping : Bool
  pub in_period : Bool

-- what is told, and the place of the line that told the state
pub record Known : Type 0 where
  pub facts : Facts
  pub line : Option ℕ

-- ---- what one line says

abbrev pub where_holds : {A : Type 0} → Bool → A → Option A
where_holds test value = if test then Some value else None

abbrev pub state_in : Object → Said → Option ℤ
state_in about (State object state output) = where_holds (is_same_object about object) state
state_in about _ = None

abbrev pub output_in : Object → Said → Option (List ℕ)
output_in about (State object state output) = where_holds (is_same_object about object) output
output_in about _ = None

abbrev pub line_fact : Object → Note → Said → Option (Option ℕ)
line_fact about note (State object state output) =
    where_holds (is_same_object about object) (Some note.place)
line_fact about note _ = None

-- that an object is down: a host whose state is above 0
abbrev pub down_in : Object → Said → Option Bool
down_in about (State object state output) =
    where_holds (is_same_object about object) (int_lt (pos 0) state)
down_in about _ = None

abbrev pub downtime_fact : Object → Said → Option Bool
downtime_fact about (Downtime object on) = where_holds (is_same_object about object) on
downtime_fact about _ = None

abbrev pub flapping_fact : Object → Said → Option Bool
flapping_fact about (Flapping object on) = where_holds (is_same_object about object) on
flapping_fact about _ = None

-- of the time period with a name; nothing of one without a name
abbrev pub period_fact : List ℕ → Said → Option Bool
period_fact period (Period name on) =
    where_holds (not (length period == 0) && bytes_eq name period) on
period_fact period _ = None

-- ---- what the lines up to a second say

-- what the last one says that says something; before the first one, what holds without a log
abbrev pub last_said : {A : Type 0} → (Note → Option A) → A → List Note → A
last_said says before notes = fold (λ known note. unwrap_or (says note) known) before notes

abbrev pub facts_after : Subject → List Note → Facts
facts_after about notes = record {
  state = last_said (λ note. state_in about.object note.said) (negsuc 0) notes;
  output = last_said (λ note. output_in about.object note.said) [] notes;
  host_down = last_said (λ note. down_in (object.Host about.host) note.said) false notes;
  in_downtime = last_said (λ note. downtime_fact about.object note.said) false notes;
  in_host_downtime =
      last_said (λ note. downtime_fact (object.Host about.host) note.said) false notes;
  is_flapping = last_said (λ note. flapping_fact about.object note.said) false notes;
  in_period = last_said (λ note. period_fact about.period note.said) true notes;
}

abbrev pub known_after : Subject → List Note → Known
known_after about notes = record {
  facts = facts_after about notes;
  line = last_said (λ note. line_fact about.object note note.said) None notes;
}

-- those whose second is no later than a second
abbrev pub up_to : ℕ → List Note → List Note
up_to second notes = filter (λ note. nat_le note.time second) notes

-- what is told of an object at a second: each fact is that of the last line up to it
abbrev pub known_at : Subject → List Note → ℕ → Known
known_at about notes second = known_after about (up_to second notes)
