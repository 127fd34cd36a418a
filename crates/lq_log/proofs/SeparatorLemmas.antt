-- Whether a text has a `;`.
use Rattle.std.proofs.Common.{◌≡◌, ℕ, ◌+◌, ◌<◌, ◌==◌, Bool, true, false, not, List, [], ◌∷◌, length, refl, arith, cond}
use Rattle.std.specs.List.{list_any, position_or_len}
use Rattle.lq_log.specs.Fields.{has_semicolon, is_separator}

-- a byte passes a test, or the rest has one that does
none_step : (p : ℕ → Bool) (byte : ℕ) (bytes : List ℕ) (test : Bool) → p byte ≡ test → (position_or_len p bytes ≡ length bytes → list_any p bytes ≡ false)
    → cond (not test) (1 + position_or_len p bytes) 0 ≡ length (byte ∷ bytes) → list_any p (byte ∷ bytes) ≡ false
none_step p byte bytes true is later all = absurd (omega (arith, all))
none_step p byte bytes false is later all = rw is (later (omega (arith, all)))

lacks : (p : ℕ → Bool) (bytes : List ℕ) → position_or_len p bytes ≡ length bytes → list_any p bytes ≡ false
lacks p [] all = refl
lacks p (byte ∷ bytes) all = none_step p byte bytes (p byte) refl (lacks p bytes) all

some_step : (p : ℕ → Bool) (byte : ℕ) (bytes : List ℕ) (test : Bool) → p byte ≡ test → (position_or_len p bytes < length bytes → list_any p bytes ≡ true)
    → cond (not test) (1 + position_or_len p bytes) 0 < length (byte ∷ bytes) → list_any p (byte ∷ bytes) ≡ true
some_step p byte bytes true is later below = rw is refl
some_step p byte bytes false is later below = rw is (later (omega (arith, below)))

has : (p : ℕ → Bool) (bytes : List ℕ) → position_or_len p bytes < length bytes → list_any p bytes ≡ true
has p [] below = absurd (omega (arith, below))
has p (byte ∷ bytes) below = some_step p byte bytes (p byte) refl (has p bytes) below

pub lacks_separator : (text : List ℕ) → position_or_len (λ byte. byte == 59) text ≡ length text → has_semicolon text ≡ false
lacks_separator text all = lacks is_separator text all

pub separator_found : (text : List ℕ) → position_or_len (λ byte. byte == 59) text < length text → has_semicolon text ≡ true
separator_found text below = has is_separator text below
