-- The digits of a header, written from the right into blanks.
use Rattle.std.proofs.Common.{◌≡◌, ℕ, suc, ◌+◌, ◌-◌, ◌/◌, ◌%◌, ◌<◌, ◌≤◌, ◌^◌, List, [], ◌∷◌, ◌++◌, drop, length, replicate, take, sym, ap, ◌∙◌, append_assoc, arith, length-append}
use Rattle.std.proofs.lemmas.Fmt.{decimal_digit, decimal_step, length-decimal-le}
use Rattle.std.proofs.lemmas.List.{drop_at, length-replicate, replicate-append-replicate, take-append-drop, take_at}
use Rattle.std.specs.Fmt.{decimal}
use Rattle.lq_output.specs.Header.{header_text}

-- one more digit than the number without its last one has
length_step : (n : ℕ) → 10 ≤ n → n < 2 ^ 64 → length (decimal n) ≡ length (decimal (n / 10)) + 1
length_step n more fits = ap length (decimal_step n more fits) ∙ length-append (decimal (n / 10)) ((48 + n % 10) ∷ [])

pub three_digits : (code : ℕ) → 100 ≤ code → code ≤ 999 → length (decimal code) ≡ 3
three_digits code least most =
    let hundreds : (code / 10) / 10 < 10 = omega arith in
    let last : length (decimal code) ≡ length (decimal (code / 10)) + 1 = length_step code (omega arith) (omega arith) in
    let middle : length (decimal (code / 10)) ≡ length (decimal ((code / 10) / 10)) + 1 = length_step (code / 10) (omega arith) (omega arith) in
    let first : length (decimal ((code / 10) / 10)) ≡ 1 = ap length (decimal_digit ((code / 10) / 10) hundreds) in
    omega arith

pub few_digits : (len : ℕ) → len < 100000000000 → length (decimal len) ≤ 11
few_digits len few = length-decimal-le 11 len (omega arith) few (omega arith)

-- the code is written at the very beginning
pub code_written : (code at : ℕ) (first rest : List ℕ)
    → length (decimal code) ≡ 3 → at + length (decimal code) ≡ 3 → drop at first ≡ decimal code ++ rest → first ≡ decimal code ++ rest
code_written code at first rest three place written =
    let none : at ≡ 0 = omega arith in
    ap (λ n. drop n first) (sym none) ∙ written

-- the first of some blanks
split_blanks : (before after : List ℕ) (few more : ℕ)
    → before ++ (replicate (few + more) 32 ++ after) ≡ (before ++ replicate few 32) ++ (replicate more 32 ++ after)
split_blanks before after few more =
    ap (λ blanks. before ++ (blanks ++ after)) (sym (replicate-append-replicate few more 32))
    ∙ ap (λ rest. before ++ rest) (append_assoc (replicate few 32) (replicate more 32) after)
    ∙ sym (append_assoc before (replicate few 32) (replicate more 32 ++ after))

module _ (code len at : ℕ) (first second : List ℕ)
    (three : length (decimal code) ≡ 3) (few : length (decimal len) ≤ 11)
    (begun : first ≡ decimal code ++ (replicate 12 32 ++ 10 ∷ []))
    (place : at + length (decimal len) ≡ 15)
    (written : drop at second ≡ decimal len ++ drop 15 first) (before : take at second ≡ take at first) where
  blanks : ℕ
  blanks = 11 - length (decimal len)

  front : take at first ≡ decimal code ++ replicate (suc blanks) 32
  unfolding blanks
  front =
      let count : 12 ≡ suc blanks + length (decimal len) = omega arith in
      let split : first ≡ (decimal code ++ replicate (suc blanks) 32) ++ (replicate (length (decimal len)) 32 ++ 10 ∷ []) =
      begun ∙ ap (λ n. decimal code ++ (replicate n 32 ++ 10 ∷ [])) count ∙ split_blanks (decimal code) (10 ∷ []) (suc blanks) (length (decimal len)) in
      ap (take at) split
      ∙ take_at (decimal code ++ replicate (suc blanks) 32) (replicate (length (decimal len)) 32 ++ 10 ∷ []) at
      (omega (arith, length-append (decimal code) (replicate (suc blanks) 32), length-replicate {A = ℕ} (suc blanks) 32))

  end : drop 15 first ≡ 10 ∷ []
  end =
      ap (drop 15) (begun ∙ sym (append_assoc (decimal code) (replicate 12 32) (10 ∷ [])))
      ∙ drop_at (decimal code ++ replicate 12 32) (10 ∷ []) 15
      (omega (arith, length-append (decimal code) (replicate 12 32), length-replicate {A = ℕ} 12 32))

  pub header_written : second ≡ header_text code len
  unfolding blanks
  header_written =
      sym (take-append-drop at second) ∙ ap (λ those. those ++ drop at second) (before ∙ front)
      ∙ ap (λ those. (decimal code ++ replicate (suc blanks) 32) ++ those) (written ∙ ap (λ last. decimal len ++ last) end)
      ∙ append_assoc (decimal code) (replicate (suc blanks) 32) (decimal len ++ 10 ∷ [])
      ∙ ap (λ rest. decimal code ++ (32 ∷ rest)) (sym (append_assoc (replicate blanks 32) (decimal len) (10 ∷ [])))
