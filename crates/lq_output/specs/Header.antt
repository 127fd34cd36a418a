-- What stands before a body by the manual's `ResponseHeader: fixed16`, and the reply to what is
-- refused.
use Rattle.std.specs.Prelude.{ℕ, ◌+◌, ◌-◌, Bool, true, false, List, [], ◌∷◌, ◌++◌, length}
use Rattle.std.specs.Prelude.{replicate}
use Rattle.std.specs.Fmt.{decimal}
use Rattle.lq_records.specs.declared.refusal.Refusal.{Refusal}

-- the digits of a number with as many blanks before them as a width asks for
abbrev pub right_aligned : ℕ → ℕ → List ℕ
right_aligned width number = replicate (width - length (decimal number)) 32 ++ decimal number

-- the code, a blank, the length in 11 places, a line feed
abbrev pub header_text : ℕ → ℕ → List ℕ
header_text code len = decimal code ++ (32 ∷ (right_aligned 11 len ++ 10 ∷ []))

-- the body is the text and a line feed; where it isn't asked for, a refusal has no byte
abbrev pub refusal_text : Refusal → Bool → List ℕ
refusal_text refusal true =
    header_text refusal.code (length refusal.text + 1) ++ (refusal.text ++ 10 ∷ [])
refusal_text refusal false = []
