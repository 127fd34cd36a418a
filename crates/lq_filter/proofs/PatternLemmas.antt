-- What `regex` says of a compiled pattern, or of a refusal, as what the grammar reads.
use Rattle.std.proofs.Common.{◌≡◌, ◌≢◌, ◌⊎◌, ◌<◌, ◌≤◌, ◌&&◌, ℕ, Bool, true, false, Option, None, Some, IfSome, is_some, List, length, refl, inl, inr, slice_index, if◌then◌else◌}
use Rattle.std.specs.Option.{IsSomeAnd}
use Rattle.std.specs.Str.{chars}
use Rattle.std.proofs.lemmas.Bool.{le-leb, lt-leb}
use Rattle.regex.specs.Patterns.{Re, Reads, Refuses, SameCaptures, find_str}
use Rattle.regex.specs.Strings.{regex_names, regex_pattern, regex_source}
use Rattle.regex.specs.declared.string.regex.Regex.{Regex}
use Rattle.regex.proofs.ForCallers.{is_match_alike}
use Rattle.regex_syntax.specs.Brackets.{Nested}
use Rattle.regex_syntax.specs.Grammar.{Names, group_count, read}
use Rattle.regex_syntax.specs.declared.error.ErrorKind.{ErrorKind}
use Rattle.regex_syntax.specs.declared.error.ErrorKind.TheVariants.{OutOfMemory}
use Rattle.lq_filter.specs.Compiled.{IsCompiled}
use Rattle.lq_filter.specs.Patterns.{PatternText, is_found, is_matched_by, is_plain_pattern, options, pattern_of, pattern_text, tree_of, within_depth}

-- what `Reads` says of what the grammar found
abbrev IsRead : Option (Nested Re × Names) → Re → Names → Type 0
IsRead found tree names = IsSomeAnd found (λ (nested, others).
    (nested.depth ≤ 250) × SameCaptures tree nested.value × (names ≡ others) × (group_count tree ≤ length names))

some_tree : (found : Option (Nested Re × Names)) (tree : Re) (names : Names) → IsRead found tree names → is_some (within_depth found) ≡ true
some_tree None tree names is = absurd is
some_tree (Some (nested, others)) tree names is = rw (le-leb nested.depth 250 is.0) refl

no_tree : (found : Option (Nested Re × Names)) → (found ≡ None) ⊎ IfSome found (λ (nested, _). 250 < nested.depth) → is_some (within_depth found) ≡ false
no_tree None refused = refl
no_tree (Some (nested, others)) (inl none) = cc
no_tree (Some (nested, others)) (inr deep) = rw (lt-leb nested.depth 250 deep) refl

same_matches : (found : Option (Nested Re × Names)) (tree : Re) (names : Names) → IsRead found tree names
    → (text : List ℕ) → ((k : ℕ) → slice_index text k < 256) → is_some (find_str tree text 0) ≡ is_matched_by (within_depth found) text
same_matches None tree names is text bytes = absurd is
same_matches (Some (nested, others)) tree names is text bytes = rw (le-leb nested.depth 250 is.0) (is_match_alike is.1 text bytes true 0)

by_both : (pattern : PatternText) (plain some : Bool) → plain ≡ true → some ≡ true → Some pattern ≡ (if plain && some then Some pattern else None)
by_both pattern plain some is_plain is_some = rw (is_plain, is_some) refl

by_tree : (pattern : PatternText) (plain some : Bool) → some ≡ false → None ≡ (if plain && some then Some pattern else None)
by_tree pattern true some none = rw none refl
by_tree pattern false some none = refl

-- what the grammar reads in the text of a compiled pattern
read_of : (folded : Bool) (regex : Regex) → IsCompiled folded regex
    → IsRead (read (options folded) (chars (regex_source regex))) (regex_pattern regex) (regex_names regex)
unfolding Reads
read_of folded regex is = rw is.config at is.read

-- ---- what `build` answers

pub is_pattern_of : (folded : Bool) (regex : Regex) → is_plain_pattern (regex_source regex) ≡ true → IsCompiled folded regex
    → Some (pattern_text folded (regex_source regex)) ≡ pattern_of folded (regex_source regex)
unfolding tree_of
is_pattern_of folded regex plain is =
    let source = regex_source regex in
    by_both (pattern_text folded source) (is_plain_pattern source) _ plain (some_tree (read (options folded) (chars source)) (regex_pattern regex) (regex_names regex) (read_of folded regex is))

pub no_pattern_of : (folded : Bool) (source : List ℕ) (kind : ErrorKind) → kind ≢ OutOfMemory → Refuses (options folded) source kind → None ≡ pattern_of folded source
unfolding tree_of Refuses
no_pattern_of folded source kind syntax (inl memory) = absurd (syntax memory)
no_pattern_of folded source kind syntax (inr (inl none)) = by_tree (pattern_text folded source) (is_plain_pattern source) _ (no_tree (read (options folded) (chars source)) (inl none))
no_pattern_of folded source kind syntax (inr (inr deep)) = by_tree (pattern_text folded source) (is_plain_pattern source) _ (no_tree (read (options folded) (chars source)) (inr deep.1))

-- ---- what a search answers

pub found_alike : (folded : Bool) (regex : Regex) → IsCompiled folded regex
    → (text : List ℕ) → ((k : ℕ) → slice_index text k < 256) → is_some (find_str (regex_pattern regex) text 0) ≡ is_found (pattern_text folded (regex_source regex)) text
unfolding tree_of
found_alike folded regex is = same_matches (read (options folded) (chars (regex_source regex))) (regex_pattern regex) (regex_names regex) (read_of folded regex is)
