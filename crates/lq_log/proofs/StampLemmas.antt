-- A line with its second reads as that second and its text.
use Rattle.std.proofs.Common.{◌≡◌, ℕ, suc, ◌+◌, ◌-◌, ◌*◌, ◌/◌, ◌%◌, ◌^◌, ◌<◌, ◌≤◌, ◌==◌, ◌&&◌, Bool, true, false, Some, None, List, [], ◌∷◌, ◌++◌, length, get_or, take, drop, max, option_map, refl, sym, ap, subst, append_assoc, ◌∙◌, arith, nat_lt, nat_le, decimal, codes, if◌then◌else◌}
use Rattle.std.proofs.lemmas.Bool.{and_parts, and_from, le-leb, lt-ltb}
use Rattle.std.proofs.lemmas.Bool.Decides.{nat_tests}
use Rattle.std.proofs.lemmas.Fmt.{decimal_by_steps, decimal_nonempty, length-decimal-le}
use Rattle.std.proofs.lemmas.List.Folds.{list_all-append}
use Rattle.std.proofs.lemmas.List.Sums.{fold-append}
use Rattle.std.proofs.lemmas.List.{get_or-append_right}
use Rattle.std.proofs.Math.Nat.{div-add-mod}
use Rattle.std.proofs.Math.Seq.{drop-append-add, take-append_seam}
use Rattle.std.specs.Char.{is_ascii_digit}
use Rattle.std.specs.List.{list_all, prefix_len}
use Rattle.lq_text.specs.Blanks.{is_blank, without_front}
use Rattle.lq_text.specs.Numbers.{number_of}
use Rattle.lq_text.specs.Seconds.{digits_of, has_second, second_of, text_after_second}
use Rattle.lq_events.specs.declared.log_entry.LogEntry.{LogEntry}
use Rattle.lq_log.specs.Entries.{entry_of, entry_of_text}
use Rattle.lq_log.specs.Written.{downtime_fields, form_text, has_no_service, next_field, object_text, line_at_second, state_word, type_word, entry_of_form}
use Rattle.lq_log.specs.declared.written.Form.{Form}
use Rattle.lq_log.specs.declared.written.Form.TheVariants as form

-- ---- a number's digits

-- digits that say a number
pub record Says (number : ℕ) (digits : List ℕ) : Type 0 where
  pub value : number_of digits ≡ number
  pub all : list_all is_ascii_digit digits ≡ true

one_digit : (n : ℕ) → n < 10 → Says n ((48 + n) ∷ [])
one_digit n small = record { value = omega arith; all = grind (arith, nat_tests, small) }

more_digits : (n : ℕ) (digits : List ℕ) → 10 ≤ n → Says (n / 10) digits → Says n (digits ++ (48 + n % 10) ∷ [])
more_digits n digits large says =
    let small : n % 10 < 10 = omega arith in
    let whole : 10 * (n / 10) + n % 10 ≡ n = div-add-mod n 10 in
    let last : list_all is_ascii_digit ((48 + n % 10) ∷ []) ≡ true = grind (arith, nat_tests, small) in
    record {
      value = fold-append (λ number digit. number * 10 + (digit - 48)) 0 digits ((48 + n % 10) ∷ [])
          ∙ ap (λ front. front * 10 + ((48 + n % 10) - 48)) says.value ∙ omega (arith, whole);
      all = list_all-append is_ascii_digit digits ((48 + n % 10) ∷ []) ∙ and_from _ _ says.all last;
    }

pub decimal_says : (n : ℕ) → n < 2 ^ 64 → Says n (decimal n)
decimal_says n small = decimal_by_steps Says one_digit more_digits n small

-- ---- a line

line : List ℕ → List ℕ → List ℕ
line digits text = 91 ∷ (digits ++ 93 ∷ 32 ∷ text)

front_digits : (digits back : List ℕ) → list_all is_ascii_digit digits ≡ true → prefix_len is_ascii_digit (digits ++ 93 ∷ back) ≡ length digits
front_digits [] back all = refl
front_digits (digit ∷ digits) back all =
    let parts = and_parts (is_ascii_digit digit) (list_all is_ascii_digit digits) all in
    let rest : prefix_len is_ascii_digit (digits ++ 93 ∷ back) ≡ length digits = front_digits digits back parts.1 in
    rw parts.0 (omega (arith, rest))

line_digits : (digits text : List ℕ) → list_all is_ascii_digit digits ≡ true → digits_of (line digits text) ≡ digits
unfolding line
line_digits digits text all =
    ap (λ count. take count (digits ++ 93 ∷ 32 ∷ text)) (front_digits digits (32 ∷ text) all) ∙ take-append_seam digits (93 ∷ 32 ∷ text)

closing : (digits text : List ℕ) → get_or (line digits text) (length digits + 1) 0 ≡ 93
unfolding line
closing digits text =
    let first : length digits + 1 - (length digits + 1) ≡ 0 = omega arith in
    get_or-append_right (91 ∷ digits) (93 ∷ 32 ∷ text) (length digits + 1) (length digits + 1) 0 (omega arith) (omega arith)
    ∙ ap (λ place. get_or (93 ∷ 32 ∷ text) place 0) first

has_test : List ℕ → List ℕ → Bool
has_test bytes digits = (get_or bytes 0 0 == 91) && nat_lt 0 (length digits) && nat_le (length digits) 12 && (get_or bytes (length digits + 1) 0 == 93)

line_has_second : (digits text : List ℕ) → list_all is_ascii_digit digits ≡ true → 0 < length digits → length digits ≤ 12 → has_second (line digits text) ≡ true
unfolding line has_test
line_has_second digits text all some short =
    ap (has_test (line digits text)) (line_digits digits text all)
    ∙ and_from _ _ (and_from _ _ (lt-ltb 0 (length digits) some) (le-leb (length digits) 12 short)) (ap (λ byte. byte == 93) (closing digits text))

line_second : (digits text : List ℕ) → list_all is_ascii_digit digits ≡ true → 0 < length digits → length digits ≤ 12 → second_of (line digits text) ≡ Some (number_of digits)
line_second digits text all some short =
    ap (λ test. if test then Some (number_of (digits_of (line digits text))) else None) (line_has_second digits text all some short)
    ∙ ap (λ found. Some (number_of found)) (line_digits digits text all)

line_text : (digits text : List ℕ) → list_all is_ascii_digit digits ≡ true → text_after_second (line digits text) ≡ without_front text
unfolding line
line_text digits text all =
    let after : length digits + 2 ≡ length (91 ∷ digits) + 1 = omega arith in
    let blank : 1 + prefix_len is_blank text ≡ suc (prefix_len is_blank text) = omega arith in
    ap (λ found. without_front (drop (length found + 2) (line digits text))) (line_digits digits text all)
    ∙ ap without_front (ap (λ count. drop count (line digits text)) after ∙ drop-append-add (91 ∷ digits) (93 ∷ 32 ∷ text) 1)
    ∙ ap (λ count. drop count (32 ∷ text)) blank

-- ---- a form's line

alert_begins : (of_host : Bool) (object state hard attempt output : List ℕ)
    → let text : List ℕ = (if of_host then codes "HOST ALERT: " else codes "SERVICE ALERT: ") ++ object ++ state ++ hard ++ attempt ++ output in
    without_front text ≡ text
alert_begins true object state hard attempt output = refl
alert_begins false object state hard attempt output = refl

downtime_begins : (of_host : Bool) (object fields : List ℕ)
    → let text : List ℕ = (if of_host then codes "HOST DOWNTIME ALERT: " else codes "SERVICE DOWNTIME ALERT: ") ++ object ++ fields in
    without_front text ≡ text
downtime_begins true object fields = refl
downtime_begins false object fields = refl

text_begins : (form : Form) → without_front (form_text form) ≡ form_text form
unfolding form_text
text_begins (form.External text) = refl
text_begins (form.Alert host service state hard attempt output) =
    alert_begins (has_no_service service) (object_text host service) (next_field (state_word service state)) (next_field (type_word hard)) (next_field (decimal attempt)) (next_field output)
text_begins (form.Downtime host service change) =
    downtime_begins (has_no_service service) (object_text host service) (next_field (downtime_fields service change))

stamped_line : (time : ℕ) (text : List ℕ) → line (decimal time) text ≡ line_at_second time text
unfolding line_at_second line
stamped_line time text = ap (λ rest. 91 ∷ rest) (sym (append_assoc (decimal time) (93 ∷ 32 ∷ []) text))

-- the entry of a form's line, for any message
of_form : ℕ → Form → List ℕ → LogEntry
of_form time form message = record (entry_of_text (form_text form)) { time = time; message = message }

own_line : (time : ℕ) (form : Form) → time < 10 ^ 12 → entry_of (line (decimal time) (form_text form)) 0 ≡ Some (of_form time form (line (decimal time) (form_text form)))
unfolding of_form
own_line time form small =
    let says : Says time (decimal time) = decimal_says time (omega (arith, small)) in
    let some : 0 < length (decimal time) = decimal_nonempty time (omega (arith, small)) in
    let short : length (decimal time) ≤ 12 = length-decimal-le 12 time (omega arith) small (omega (arith, small)) in
    let whole : List ℕ = line (decimal time) (form_text form) in
    let later : max time 0 ≡ time = omega arith in
    ap (option_map (λ second. record (entry_of_text (text_after_second whole)) { time = max second 0; message = whole })) (line_second (decimal time) (form_text form) says.all some short)
    ∙ ap (λ second. Some (record (entry_of_text (text_after_second whole)) { time = max second 0; message = whole })) says.value
    ∙ ap (λ second. Some (record (entry_of_text (text_after_second whole)) { time = second; message = whole })) later
    ∙ ap (λ text. Some (record (entry_of_text text) { time = time; message = whole })) (line_text (decimal time) (form_text form) says.all ∙ text_begins form)

pub own_text : (time : ℕ) (form : Form) (entry : LogEntry) → time < 10 ^ 12 → entry ≡ entry_of_form time form → entry_of entry.message 0 ≡ Some entry
unfolding of_form
own_text time form entry small is =
    rw is (subst (λ message. entry_of message 0 ≡ Some (of_form time form message)) (stamped_line time (form_text form)) (own_line time form small))
