-- Blanks, and the text between them.
use Rattle.std.specs.Prelude.{ℕ, ◌-◌, ◌==◌, ◌||◌, Bool, not, List, length, take, drop, filter}
use Rattle.std.specs.List.{prefix_len, suffix_len, slice_split}

-- a blank is a space, 32, or a tab, 9
abbrev pub is_blank : ℕ → Bool
is_blank byte = byte == 32 || byte == 9

-- the bytes without the blanks at their front
abbrev pub without_front : List ℕ → List ℕ
without_front bytes = drop (prefix_len is_blank bytes) bytes

-- the bytes without the blanks at their end
abbrev pub without_end : List ℕ → List ℕ
without_end bytes = take (length bytes - suffix_len is_blank bytes) bytes

-- the bytes without the blanks at both ends
abbrev pub without_blanks : List ℕ → List ℕ
without_blanks bytes = without_end (without_front bytes)

-- what stands between blanks
abbrev pub words_of : List ℕ → List (List ℕ)
words_of bytes = filter (λ word. not (length word == 0)) (slice_split is_blank bytes)
