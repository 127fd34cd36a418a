-- Patterns: which texts are patterns, and in which texts a pattern is found.
use Rattle.std.specs.Prelude.{ℕ, ◌==◌, ◌&&◌, nat_le, Bool, false, not, Option, Some, None, is_some}
use Rattle.std.specs.Prelude.{List, length, chars, if◌then◌else◌}
use Rattle.std.specs.List.{list_any}
use Rattle.regex.specs.Patterns.{Config, Re, default_config, find_str}
use Rattle.regex_syntax.specs.Brackets.{Nested}
use Rattle.regex_syntax.specs.Grammar.{Names, read}

-- the text of a pattern, and whether letters match in either case
pub record PatternText : Type 0 where
  pub folded : Bool
  pub source : List ℕ

-- the options with which the text is read
abbrev pub options : Bool → Config
options folded =
    record default_config { flags = record default_config.flags { case_insensitive = folded } }

-- what nests at most 250 deep
abbrev pub within_depth : Option (Nested Re × Names) → Option Re
within_depth None = None
within_depth (Some (nested, names)) = if nat_le nested.depth 250 then Some nested.value else None

-- what the grammar of the library `regex` reads in the text
unfoldable pub tree_of : PatternText → Option Re
tree_of pattern = within_depth (read (options pattern.folded) (chars pattern.source))

-- at most 200 bytes, and no `{`, which is 123
abbrev pub is_plain_pattern : List ℕ → Bool
is_plain_pattern source = nat_le (length source) 200 && not (list_any (λ byte. byte == 123) source)

abbrev pub is_pattern : PatternText → Bool
is_pattern pattern = is_plain_pattern pattern.source && is_some (tree_of pattern)

abbrev pub pattern_text : Bool → List ℕ → PatternText
pattern_text folded source = record { folded = folded; source = source }

-- the pattern of a text, None where the text is no pattern
abbrev pub pattern_of : Bool → List ℕ → Option PatternText
pattern_of folded source =
    if is_pattern (pattern_text folded source) then Some (pattern_text folded source) else None

abbrev pub is_matched_by : Option Re → List ℕ → Bool
is_matched_by None text = false
is_matched_by (Some tree) text = is_some (find_str tree text 0)

-- whether a pattern is found somewhere in a text
abbrev pub is_found : PatternText → List ℕ → Bool
is_found pattern text = is_matched_by (tree_of pattern) text
