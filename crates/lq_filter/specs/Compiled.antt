-- How a compiled pattern and its matcher stand to the pattern's text.
use Rattle.std.specs.Prelude.{◌≡◌, ◌<◌, ℕ, Bool, List, is_some, slice_index}
use Rattle.regex.specs.Patterns.{find_str}
use Rattle.regex.specs.Strings.{IsReadFromSource, matcher_pattern, regex_config}
use Rattle.regex.specs.declared.string.matcher.Matcher.{Matcher}
use Rattle.regex.specs.declared.string.regex.Regex.{Regex}
use Rattle.lq_filter.specs.Patterns.{PatternText, is_found, options}

-- a compiled pattern is what the grammar reads in its text
pub record IsCompiled (folded : Bool) (regex : Regex) : Type 0 where
  pub config : regex_config regex ≡ options folded
  pub read : IsReadFromSource regex

-- a matcher finds a match exactly in those texts in which the pattern is found
abbrev pub IsMatcherOf : PatternText → Matcher → Type 0
IsMatcherOf pattern matcher =
    (text : List ℕ) → ((k : ℕ) → slice_index text k < 256)
    → is_some (find_str (matcher_pattern matcher) text 0) ≡ is_found pattern text
