-- The text of any bytes.
use Rattle.std.specs.Prelude.{ℕ, zero, suc, Option, Some, None, List, [], ◌∷◌, ◌++◌, find, length}
use Rattle.std.specs.Prelude.{take}
use Rattle.std.specs.Char.{encode_utf8}
use Rattle.std.specs.Str.{is_utf8}

-- the character that begins at the front: of its fronts the shortest that is UTF-8
abbrev pub first_char : List ℕ → Option (List ℕ)
first_char bytes = find is_utf8 (take 1 bytes ∷ take 2 bytes ∷ take 3 bytes ∷ take 4 bytes ∷ [])

-- how many bytes of a character follow its first one
abbrev pub bytes_left : Option (List ℕ) → ℕ
bytes_left None = 0
bytes_left (Some []) = 0
bytes_left (Some (byte ∷ bytes)) = length bytes

-- the character U+FFFD
abbrev pub replacement : List ℕ
replacement = encode_utf8 0xFFFD

-- the first byte of a character is kept, and a byte at which none begins becomes U+FFFD
abbrev pub cleaned_byte : Option (List ℕ) → ℕ → List ℕ
cleaned_byte None byte = replacement
cleaned_byte (Some char) byte = byte ∷ []

-- the text of bytes, the first `left` of which belong to a character that began before them
abbrev pub cleaned_after : ℕ → List ℕ → List ℕ
cleaned_after left [] = []
cleaned_after (suc left) (byte ∷ bytes) = byte ∷ cleaned_after left bytes
cleaned_after zero (byte ∷ bytes) =
    let char = first_char (byte ∷ bytes) in
    cleaned_byte char byte ++ cleaned_after (bytes_left char) bytes

-- the text of bytes
unfoldable pub text_of_bytes : List ℕ → List ℕ
text_of_bytes bytes = cleaned_after 0 bytes
