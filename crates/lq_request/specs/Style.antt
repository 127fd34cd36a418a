-- How a reply to a message is given, and what becomes of the connection.
use Rattle.std.specs.Prelude.{ℕ, ◌+◌, Bool, true, false, Option, Some, None, unwrap_or, List, take}
use Rattle.std.specs.Prelude.{drop, bytes_eq, codes, position, ◌==◌, if◌then◌else◌}
use Rattle.std.specs.List.{filter_map, last_or}
use Rattle.lq_text.specs.Lines.{lines_of}
use Rattle.lq_text.specs.Blanks.{without_blanks}
use Rattle.lq_request.specs.declared.style.Style.{Style}

abbrev pub is_colon : ℕ → Bool
is_colon byte = byte == 58

abbrev pub switch_of : List ℕ → List ℕ → Option Bool
switch_of on word =
    if bytes_eq word on then Some true
    else if bytes_eq word (codes "off") then Some false
    else None

-- what a switch says: it is the word that turns it on, or `off`, with or without blanks around it
unfoldable pub switch_value : List ℕ → List ℕ → Option Bool
switch_value on value = switch_of on (without_blanks value)

abbrev pub switch_at : List ℕ → List ℕ → List ℕ → Option ℕ → Option Bool
switch_at name on line None = None
switch_at name on line (Some colon) =
    if bytes_eq (take colon line) name then switch_value on (drop (colon + 1) line) else None

-- what a line says of a switch with a name: something where it is a well-formed line of that name
unfoldable pub switch_of_line : List ℕ → List ℕ → List ℕ → Option Bool
switch_of_line name on line = switch_at name on line (position is_colon line)

-- what the last well-formed line of that name says among all lines; without one the switch is off
unfoldable pub last_switch : List ℕ → List ℕ → List (List ℕ) → Bool
last_switch name on lines =
    unwrap_or (last_or None (filter_map (switch_of_line name on) lines)) false

-- the style that a message asks for
unfoldable pub style_of : List ℕ → Style
style_of message = record {
  fixed16 = last_switch (codes "ResponseHeader") (codes "fixed16") (lines_of message);
  keep = last_switch (codes "KeepAlive") (codes "on") (lines_of message);
}
