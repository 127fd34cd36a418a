-- The entry of a log line.
use Rattle.std.specs.Prelude.{◌≡◌, ℕ, pos, max, ◌==◌, ◌&&◌, nat_eq, Option, Some, None, List, []}
use Rattle.std.specs.Prelude.{◌∷◌, unwrap_or, codes, if◌then◌else◌}
use Rattle.std.specs.List.{list_any, starts_with}
use Rattle.std.specs.Option.{option_map, option_and_then}
use Rattle.lq_text.specs.Blanks.{is_blank}
use Rattle.lq_text.specs.Seconds.{second_of, text_after_second}
use Rattle.lq_events.specs.declared.log_entry.Kind.{Kind}
use Rattle.lq_events.specs.declared.log_entry.Kind.TheVariants as kind
use Rattle.lq_events.specs.declared.log_entry.LogEntry.{LogEntry}
use Rattle.lq_log.specs.Fields.{with_fields}
use Rattle.lq_log.specs.Forms.{LineForm, form_named}

-- an entry of a class and a kind that says nothing more
abbrev pub blank : ℕ → Kind → LogEntry
blank class kind = record {
  time = 0;
  class = class;
  kind = kind;
  message = [];
  host = [];
  service = [];
  state = pos 0;
  word = [];
  attempt = 0;
  contact = [];
  command = [];
  output = [];
  comment = [];
}

-- ---- texts with a form

-- the character `:`
abbrev pub colon : ℕ
colon = 58

-- what stands before the first colon with a blank after it, and what follows that blank; None where
-- there is no such colon
unfoldable pub parts_at_colon : List ℕ → Option (List ℕ × List ℕ)
parts_at_colon [] = None
parts_at_colon (byte ∷ []) = None
parts_at_colon (byte ∷ next ∷ text) =
    if (byte == colon) && is_blank next then Some ([], text)
    else option_map (λ parts. (byte ∷ parts.0, parts.1)) (parts_at_colon (next ∷ text))

-- what a text of a form says
abbrev pub entry_of_fields : List ℕ → LineForm → Option LogEntry
entry_of_fields text form = with_fields form.fields text (blank form.class form.kind)

-- the text before the colon is a form's name, the one after it has that form's fields
abbrev pub entry_of_parts : List ℕ × List ℕ → Option LogEntry
entry_of_parts parts = option_and_then (entry_of_fields parts.1) (form_named parts.0)

-- ---- other texts

-- what a text begins with that tells of the program's own run
abbrev pub program_beginnings : List (List ℕ)
program_beginnings =
    codes "LOG VERSION" ∷ codes "LOG ROTATION" ∷ codes "Nagios " ∷ codes "Caught "
    ∷ codes "Successfully shutdown" ∷ codes "Bailing out" ∷ codes "Finished daemonizing"
    ∷ codes "Auto-save of retention data" ∷ []

-- class 2 tells of the program's own run, class 0 of anything else
abbrev pub other : List ℕ → LogEntry
other text =
    blank (if list_any (starts_with nat_eq text) program_beginnings then 2 else 0) kind.Other

-- ---- the entry

-- What a text says. One with a form's name and not its fields says no more than a text without a
-- form.
unfoldable pub entry_of_text : List ℕ → LogEntry
entry_of_text text = unwrap_or (option_and_then entry_of_parts (parts_at_colon text)) (other text)

-- the entry of a line, by the time of the entry before it; None where no second in brackets stands
-- at its front
abbrev pub entry_of : List ℕ → ℕ → Option LogEntry
entry_of line before =
    option_map
    (λ second. record (entry_of_text (text_after_second line))
    { time = max second before; message = line })
    (second_of line)

-- An entry that a line gives after some time: the line is its message, and after the entry's own
-- time it gives the entry again.
abbrev pub IsOfLine : LogEntry → Type 0
IsOfLine entry = entry_of entry.message entry.time ≡ Some entry
