-- The type of a line, by which people know what it tells, and its options.
use Rattle.std.specs.Prelude.{ℕ, List, []}
use Rattle.std.specs.Option.{option_map_or}
use Rattle.lq_text.specs.Seconds.{second_of, text_after_second}
use Rattle.lq_events.specs.declared.log_entry.LogEntry.{LogEntry}
use Rattle.lq_log.specs.Entries.{parts_at_colon}

-- the text of a line: what follows its second and the blanks after it
abbrev pub text_of_entry : LogEntry → List ℕ
text_of_entry entry =
    option_map_or (λ second. text_after_second entry.message) (second_of entry.message)
    entry.message

-- the text before the first colon with a blank after it, or the whole text
abbrev pub line_type : LogEntry → List ℕ
line_type entry =
    option_map_or (λ parts. parts.0) (parts_at_colon (text_of_entry entry)) (text_of_entry entry)

-- the text after that blank, or nothing
abbrev pub line_options : LogEntry → List ℕ
line_options entry = option_map_or (λ parts. parts.1) (parts_at_colon (text_of_entry entry)) []
