-- What follows a second is text.
use Rattle.std.proofs.Common.{⊎_elim, ◌≡◌, ℕ, zero, suc, ◌+◌, ◌<◌, ◌≤◌, ◌==◌, ◌&&◌, Bool, true, Some, List, length, get_or, drop, refl, sym, subst, arith, nat_lt, nat_le}
use Rattle.std.proofs.lemmas.Bool.{and_parts, cases_lt}
use Rattle.std.proofs.lemmas.List.{get_or_past}
use Rattle.std.proofs.lemmas.Option.{cond_some}
use Rattle.std.proofs.lemmas.Bool.Decides.{nat_tests}
use Rattle.std.proofs.lemmas.List.Sums.{prefix_len-le-length, prefix_len_passes}
use Rattle.std.proofs.lemmas.Str.{IsCharBoundary-after_ascii, IsCharBoundary-from_drop, IsUtf8-drop}
use Rattle.std.specs.List.{prefix_len}
use Rattle.std.specs.Str.{IsCharBoundary, IsUtf8}
use Rattle.lq_text.specs.Blanks.{is_blank}
use Rattle.lq_text.specs.Seconds.{digits_of, has_second, second_of, text_after_second}

-- after an ASCII byte
after_ascii : (bytes : List ℕ) (at past : ℕ) → past ≡ at + 1 → IsUtf8 bytes → at < length bytes → get_or bytes at 0 < 128 → IsUtf8 (drop past bytes)
after_ascii bytes at past is utf8 within small = rw is (IsUtf8-drop bytes (at + 1) utf8 (IsCharBoundary-after_ascii bytes at utf8 within small))

after_blanks : (bytes : List ℕ) (count : ℕ) → count ≡ prefix_len is_blank bytes → IsUtf8 bytes → IsUtf8 (drop count bytes)
after_blanks bytes zero is utf8 = utf8
after_blanks bytes (suc at) is utf8 =
    let most : prefix_len is_blank bytes ≤ length bytes = prefix_len-le-length is_blank bytes in
    let blank : is_blank (get_or bytes at 0) ≡ true = prefix_len_passes is_blank bytes at 0 (omega (arith, is)) in
    after_ascii bytes at (suc at) (omega arith) utf8 (omega (arith, is, most)) (grind (arith, nat_tests, blank))

-- a byte that isn't 0 stands within the list
within : (bytes : List ℕ) (at byte : ℕ) → 0 < byte → get_or bytes at 0 ≡ byte → at < length bytes
within bytes at byte some is = ⊎_elim (λ below. below) (λ past. absurd (omega (arith, get_or_past bytes at 0 past, is, some))) (cases_lt at (length bytes))

last_holds : (a b c d : Bool) → (a && b && c && d) ≡ true → d ≡ true
last_holds a b c d is = (and_parts (a && b && c) d is).1

text_utf8 : (line : List ℕ) → IsUtf8 line → has_second line ≡ true → IsUtf8 (text_after_second line)
text_utf8 line utf8 is =
    let bracket : (get_or line (length (digits_of line) + 1) 0 == 93) ≡ true
    = last_holds (get_or line 0 0 == 91) (nat_lt 0 (length (digits_of line))) (nat_le (length (digits_of line)) 12) (get_or line (length (digits_of line) + 1) 0 == 93) is in
    let byte : get_or line (length (digits_of line) + 1) 0 ≡ 93 = grind (arith, nat_tests, bracket) in
    let beyond : IsUtf8 (drop (length (digits_of line) + 2) line)
    = after_ascii line (length (digits_of line) + 1) (length (digits_of line) + 2) (omega arith) utf8 (within line _ 93 (omega arith) byte) (omega (arith, byte)) in
    after_blanks (drop (length (digits_of line) + 2) line) _ refl beyond

pub text_boundary : (line : List ℕ) (place second : ℕ) → IsUtf8 line → place ≤ length line → Some second ≡ second_of line → drop place line ≡ text_after_second line → IsCharBoundary line place
text_boundary line place second utf8 fits is beyond =
    IsCharBoundary-from_drop line place fits (subst IsUtf8 (sym beyond) (text_utf8 line utf8 (cond_some (has_second line) _ second (sym is)).0))
