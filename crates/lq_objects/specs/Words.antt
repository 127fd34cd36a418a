-- The word at the front of a text.
use Rattle.std.specs.Prelude.{ℕ, not, List}
use Rattle.std.specs.List.{prefix_len}
use Rattle.lq_text.specs.Blanks.{is_blank}

-- how many bytes the word at the front of a text has
abbrev pub word_length : List ℕ → ℕ
word_length text = prefix_len (λ byte. not (is_blank byte)) text
