-- The objects of a workload, one by one.
use Rattle.std.proofs.Common.{inl, inr, ◌≡◌, ℕ, zero, suc, ◌+◌, ◌*◌, ◌^◌, ◌<◌, true, false, List, [], ◌∷◌, ◌++◌, map, length, refl, ap, sym, ◌∙◌, arith, append_assoc, append-nil, codes}
use Rattle.std.specs.Prelude.{◌==◌, ◌||◌, None, is_none}
use Rattle.std.specs.Fmt.{decimal, digits}
use Rattle.std.specs.List.{list_all, list_any}
use Rattle.std.specs.Option.{option_map_or, option_or}
use Rattle.std.proofs.lemmas.Bool.{and_right, ne_eqb, or_from}
use Rattle.lq_text.specs.Blanks.{is_blank}
use Rattle.lq_names.specs.Names.{ObjectName, place_of, single}
use Rattle.lq_records.specs.Clean.{text_of_bytes}
use Rattle.lq_objects.specs.Blocks.{Line, is_named}
use Rattle.lq_objects.specs.Faults.{fault_if, is_unknown, names_unknown}
use Rattle.lq_objects.specs.Names.{elements, text_or}
use Rattle.lq_objects.specs.declared.fault.ObjectsWhat.TheVariants.{UnknownName}
use Rattle.lq_workload.specs.Objects.{contact_block, contact_name, directive_line, group_block, group_name, host_block, host_name, members, service_block, service_description}
use Rattle.lq_workload.specs.Texts.{texts_below}
use Rattle.lq_workload.proofs.ByteLemmas.{is_inner, list_all-both}
use Rattle.lq_workload.proofs.FileLemmas.{HasNames, IsObject}
use Rattle.lq_workload.proofs.KindLemmas.{BlockKind, contact_kind, contacts_reference, group_kind, host_kind, host_reference, members_reference, service_kind}
use Rattle.lq_workload.proofs.LineLemmas.{concat_onto}
use Rattle.lq_workload.proofs.PartLemmas.{IsFine, IsTold, directive_here, directive_later, opens_contact, opens_group, opens_host, opens_service, told, told_by}
use Rattle.lq_workload.proofs.WordLemmas.{IsWord, cleaned_word, decimal_word, elements_more, elements_word, is_letter, is_solid, letter_before, named_text, no_separator, value_named, value_solid, word_solid}

-- ---- names

name_word : (letter n : ℕ) → is_letter letter ≡ true → n < 2 ^ 64 → IsWord (letter ∷ decimal n)
name_word letter n is small = letter_before letter (decimal n) is (decimal_word n small)

-- the text of a directive that no later line has
text_of : (name word : List ℕ) (number : ℕ) (later : List Line) → IsWord word → list_any (λ other. is_named name other.text) later ≡ false
    → text_or [] name (record { number = number; text = name ++ 32 ∷ word } ∷ later) ≡ word
text_of name word number later is none =
    ap (λ found. option_map_or text_of_bytes found []) (directive_here name (record { number = number; text = name ++ 32 ∷ word }) later none (named_text name word))
    ∙ ap text_of_bytes (value_named name word is) ∙ cleaned_word word is

-- ---- names of others

-- each of several words is among names
abbrev AllThere : List ObjectName → List (List ℕ) → Type 0
AllThere names [] = Unit {0}
AllThere names (word ∷ words) = (is_none (place_of names (single word)) ≡ false) × AllThere names words

none_unknown : (names : List ObjectName) (words : List (List ℕ)) → AllThere names words
    → list_any (λ name. is_none (place_of names name)) (map single words) ≡ false
none_unknown names [] there = refl
none_unknown names (word ∷ words) there = or_from _ _ there.0 (none_unknown names words there.1)

contacts_known : (known : BlockKind → List ObjectName) (contact number : ℕ) (later : List Line) → HasNames known → contact < 5
    → names_unknown known (record { number = number; text = codes "contacts" ++ 32 ∷ contact_name contact }) later contacts_reference ≡ false
contacts_known known contact number later has less =
    let word : IsWord (contact_name contact) = name_word 99 contact refl (omega (arith, less)) in
    and_right _ _
    (ap (is_unknown known contacts_reference) (value_named (codes "contacts") (contact_name contact) word)
    ∙ ap (λ words. list_any (λ name. is_none (place_of (known contact_kind) name)) (map single words)) (elements_word (contact_name contact) word)
    ∙ none_unknown (known contact_kind) (contact_name contact ∷ []) (has.contacts contact less, tt))

service_host_known : (known : BlockKind → List ObjectName) (host number : ℕ) (later : List Line) → HasNames known → host < 100
    → names_unknown known (record { number = number; text = codes "host_name" ++ 32 ∷ host_name host }) later host_reference ≡ false
service_host_known known host number later has less =
    let word : IsWord (host_name host) = name_word 104 host refl (omega (arith, less)) in
    and_right _ _
    (ap (is_unknown known host_reference) (value_named (codes "host_name") (host_name host) word)
    ∙ ap (λ name. list_any (λ found. is_none (place_of (known host_kind) found)) (single name ∷ [])) (cleaned_word (host_name host) word)
    ∙ none_unknown (known host_kind) (host_name host ∷ []) (has.hosts host less, tt))

-- ---- contacts

solid_decimal : (n : ℕ) → n < 2 ^ 64 → list_all is_solid (decimal n) ≡ true
solid_decimal n small = word_solid (decimal n) (decimal_word n small).letters

-- a line that ends in a number
told_number : (first : ℕ) (front : List ℕ) (n : ℕ) → n < 2 ^ 64 → is_blank first ≡ false → (first == 35) ≡ false → (first == 125) ≡ false
    → list_all is_inner (first ∷ front) ≡ true → IsTold ((first ∷ front) ++ decimal n)
told_number first front n small solid said more inner = told_by first front (decimal n) solid said more inner (solid_decimal n small) (decimal_word n small).some

-- the pieces of a block
abbrev block_pieces : List ℕ → List (List ℕ) → List (List ℕ)
block_pieces kind directives = codes "define " ∷ kind ∷ codes " {\n" ∷ directives ++ codes "}\n" ∷ []

name_there : (letter : ℕ) (word : List ℕ) → (length (letter ∷ word) == 0) ≡ false
name_there letter word = ne_eqb (suc (length word)) 0 (λ is. omega (arith, is))

pub contact_object : (contact : ℕ) → contact < 5 → IsObject (contact_block contact) contact_kind (single (contact_name contact))
unfolding contact_block
contact_object contact less =
    let small : contact < 2 ^ 64 = omega (arith, less) in
    record {
      used = inl refl;
      opens = opens_contact;
      inner = (codes "contact_name c" ++ decimal contact) ∷ [];
      lines = λ rest. concat_onto (block_pieces (codes "contact") (directive_line (codes "contact_name") (contact_name contact))) rest;
      read = (told_number 99 (codes "ontact_name c") contact small refl refl refl refl, tt);
      fine = ((λ before number. refl), tt);
      named = λ before. ap (λ first. record { first = first; second = [] })
          (text_of (codes "contact_name") (contact_name contact) (before + 1) [] (name_word 99 contact refl small) refl);
      some = or_from _ _ (name_there 99 (decimal contact)) refl;
      good = refl;
      known = λ before known has. refl;
    }

-- ---- hosts

good_host_name : (host : ℕ) → host < 2 ^ 64 → list_any (λ byte. byte == 59) (host_name host) ≡ false
good_host_name host small = no_separator (host_name host) (name_word 104 host refl small).letters

abbrev host_later : ℕ → ℕ → List (List ℕ)
host_later host contact = (codes "alias Host " ++ decimal host) ∷ (codes "address 10.0.0." ++ decimal host) ∷ (codes "contacts c" ++ decimal contact) ∷ []

pub host_object : (host contact : ℕ) → host < 100 → contact < 5 → IsObject (host_block host contact) host_kind (single (host_name host))
unfolding host_block
host_object host contact less few =
    let small : host < 2 ^ 64 = omega (arith, less) in
    let low : contact < 2 ^ 64 = omega (arith, few) in
    record {
      used = inr (inl refl);
      opens = opens_host;
      inner = (codes "host_name h" ++ decimal host) ∷ host_later host contact;
      lines = λ rest. concat_onto (block_pieces (codes "host")
          (directive_line (codes "host_name") (host_name host) ++ directive_line (codes "alias") (codes "Host " ++ decimal host)
          ++ directive_line (codes "address") (codes "10.0.0." ++ decimal host) ++ directive_line (codes "contacts") (contact_name contact))) rest;
      read = (
        told_number 104 (codes "ost_name h") host small refl refl refl refl,
        (
          told_number 97 (codes "lias Host ") host small refl refl refl refl,
          (
            told_number 97 (codes "ddress 10.0.0.") host small refl refl refl refl,
            (told_number 99 (codes "ontacts c") contact low refl refl refl refl, tt),
          ),
        ),
      );
      fine = ((λ before number. refl), ((λ before number. refl), ((λ before number. refl), ((λ before number. refl), tt))));
      named = λ before. ap (λ first. record { first = first; second = [] })
          (text_of (codes "host_name") (host_name host) (before + 1) (told (before + 1) (host_later host contact)) (name_word 104 host refl small) refl);
      some = or_from _ _ (name_there 104 (decimal host)) refl;
      good = or_from _ _ (good_host_name host small) refl;
      known = λ before known has. ap (λ test. option_or (fault_if (test || false) (before + 1 + 1 + 1 + 1) UnknownName) None)
          (contacts_known known contact (before + 1 + 1 + 1 + 1) [] has few);
    }

-- ---- services

attempts_fine : (attempts : ℕ) → 0 < attempts → attempts < 4 → IsFine service_kind (codes "max_check_attempts " ++ decimal attempts)
unfolding digits
attempts_fine zero some few = absurd (omega (arith, some))
attempts_fine (suc zero) some few = λ before number. refl
attempts_fine (suc (suc zero)) some few = λ before number. refl
attempts_fine (suc (suc (suc zero))) some few = λ before number. refl
attempts_fine (suc (suc (suc (suc attempts)))) some few = absurd (omega (arith, few))

abbrev service_last : ℕ → ℕ → List (List ℕ)
service_last attempts contact = (codes "max_check_attempts " ++ decimal attempts) ∷ (codes "contacts c" ++ decimal contact) ∷ []

abbrev service_later : ℕ → ℕ → ℕ → List (List ℕ)
service_later service attempts contact = (codes "service_description s" ++ decimal service) ∷ service_last attempts contact

abbrev service_inner : ℕ → ℕ → ℕ → ℕ → List (List ℕ)
service_inner host service attempts contact = (codes "host_name h" ++ decimal host) ∷ service_later service attempts contact

pub service_object : (host service attempts contact : ℕ) → host < 100 → service < 10 → 0 < attempts → attempts < 4 → contact < 5
    → IsObject (service_block host service attempts contact) service_kind (record { first = host_name host; second = service_description service })
unfolding service_block
service_object host service attempts contact less one some three few =
    let small : host < 2 ^ 64 = omega (arith, less) in
    let short : service < 2 ^ 64 = omega (arith, one) in
    let low : attempts < 2 ^ 64 = omega (arith, three) in
    let contact_small : contact < 2 ^ 64 = omega (arith, few) in
    record {
      used = inr (inr (inl refl));
      opens = opens_service;
      inner = service_inner host service attempts contact;
      lines = λ rest. concat_onto (block_pieces (codes "service")
          (directive_line (codes "host_name") (host_name host) ++ directive_line (codes "service_description") (service_description service)
          ++ directive_line (codes "max_check_attempts") (decimal attempts) ++ directive_line (codes "contacts") (contact_name contact))) rest;
      read = (
        told_number 104 (codes "ost_name h") host small refl refl refl refl,
        (
          told_number 115 (codes "ervice_description s") service short refl refl refl refl,
          (
            told_number 109 (codes "ax_check_attempts ") attempts low refl refl refl refl,
            (told_number 99 (codes "ontacts c") contact contact_small refl refl refl refl, tt),
          ),
        ),
      );
      fine = ((λ before number. refl), ((λ before number. refl), (attempts_fine attempts some three, ((λ before number. refl), tt))));
      named = λ before. ap (λ first. record { first = first; second = text_or [] (codes "service_description") (told before (service_inner host service attempts contact)) })
          (text_of (codes "host_name") (host_name host) (before + 1) (told (before + 1) (service_later service attempts contact)) (name_word 104 host refl small) refl)
          ∙ ap (λ second. record { first = host_name host; second = second })
          (ap (λ found. option_map_or text_of_bytes found []) (directive_later (codes "service_description") (record { number = before + 1; text = codes "host_name h" ++ decimal host })
          (told (before + 1) (service_later service attempts contact)) refl)
          ∙ text_of (codes "service_description") (service_description service) (before + 1 + 1) (told (before + 1 + 1) (service_last attempts contact)) (name_word 115 service refl short) refl);
      some = or_from _ _ (name_there 104 (decimal host)) (name_there 115 (decimal service));
      good = or_from _ _ (good_host_name host small) (no_separator (service_description service) (name_word 115 service refl short).letters);
      known = λ before known has.
          ap (λ test. option_or (fault_if (test || false) (before + 1) UnknownName)
          (option_or (fault_if (names_unknown known (record { number = before + 1 + 1 + 1 + 1; text = codes "contacts c" ++ decimal contact }) [] contacts_reference || false)
          (before + 1 + 1 + 1 + 1) UnknownName) None))
          (service_host_known known host (before + 1) (told (before + 1) (service_later service attempts contact)) has less)
          ∙ ap (λ test. option_or (fault_if (test || false) (before + 1 + 1 + 1 + 1) UnknownName) None)
          (contacts_known known contact (before + 1 + 1 + 1 + 1) [] has few);
    }

-- ---- groups of hosts

-- words, each after a comma
abbrev after : List (List ℕ) → List ℕ
after [] = []
after (word ∷ words) = 44 ∷ (word ++ after words)

abbrev words_below : ℕ → (ℕ → List ℕ) → List (List ℕ)
words_below zero word = []
words_below (suc count) word = words_below count word ++ word count ∷ []

after-append : (first second : List (List ℕ)) → after (first ++ second) ≡ after first ++ after second
after-append [] second = refl
after-append (word ∷ first) second = ap (λ back. 44 ∷ back) (ap (λ back. word ++ back) (after-append first second) ∙ sym (append_assoc word (after first) (after second)))

texts_after : (count : ℕ) (word : ℕ → List ℕ) → texts_below count (λ place. 44 ∷ word place) ≡ after (words_below count word)
unfolding texts_below
texts_after zero word = refl
texts_after (suc count) word =
    ap (λ front. front ++ 44 ∷ word count) (texts_after count word)
    ∙ ap (λ back. after (words_below count word) ++ 44 ∷ back) (sym (append-nil (word count)))
    ∙ sym (after-append (words_below count word) (word count ∷ []))

abbrev AllWords : List (List ℕ) → Type 0
AllWords [] = Unit {0}
AllWords (word ∷ words) = IsWord word × AllWords words

all_words : (count : ℕ) (word : ℕ → List ℕ) → ((place : ℕ) → place < count → IsWord (word place)) → AllWords (words_below count word)
all_words zero word each = tt
all_words (suc count) word each = words_more (words_below count word) (word count) (all_words count word (λ place less. each place (omega arith))) (each count (omega arith))
  where
    words_more : (words : List (List ℕ)) (last : List ℕ) → AllWords words → IsWord last → AllWords (words ++ last ∷ [])
    words_more [] last all is = (is, tt)
    words_more (one ∷ words) last all is = (all.0, words_more words last all.1 is)

all_there : (names : List ObjectName) (count : ℕ) (word : ℕ → List ℕ) → ((place : ℕ) → place < count → is_none (place_of names (single (word place))) ≡ false)
    → AllThere names (words_below count word)
all_there names zero word each = tt
all_there names (suc count) word each =
    there_more (words_below count word) (word count) (all_there names count word (λ place less. each place (omega arith))) (each count (omega arith))
  where
    there_more : (words : List (List ℕ)) (last : List ℕ) → AllThere names words → is_none (place_of names (single last)) ≡ false → AllThere names (words ++ last ∷ [])
    there_more [] last all is = (is, tt)
    there_more (one ∷ words) last all is = (all.0, there_more words last all.1 is)

after_solid : (words : List (List ℕ)) → AllWords words → list_all is_solid (after words) ≡ true
after_solid [] all = refl
after_solid (word ∷ words) all = list_all-both is_solid word (after words) (word_solid word all.0.letters) (after_solid words all.1)

elements_after : (words : List (List ℕ)) (word : List ℕ) → IsWord word → AllWords words → elements (word ++ after words) ≡ word ∷ words
elements_after [] word is all = ap elements (append-nil word) ∙ elements_word word is
elements_after (next ∷ words) word is all = elements_more word (next ++ after words) is ∙ ap (λ later. word ∷ later) (elements_after words next all.0 all.1)

-- the names in a group after the first
abbrev further : ℕ → ℕ → List ℕ
further group tens = host_name ((tens + 1) * 10 + group)

members_are : (group : ℕ) → members group ≡ host_name group ++ after (words_below 9 (further group))
members_are group = ap (λ back. host_name group ++ back) (texts_after 9 (further group))

further_words : (group : ℕ) → group < 10 → AllWords (words_below 9 (further group))
further_words group less = all_words 9 (further group) (λ tens few. name_word 104 ((tens + 1) * 10 + group) refl (omega arith))

members_solid : (group : ℕ) → group < 10 → list_all is_solid (members group) ≡ true
members_solid group less =
    ap (list_all is_solid) (members_are group)
    ∙ list_all-both is_solid (host_name group) (after (words_below 9 (further group))) (word_solid (host_name group) (name_word 104 group refl (omega (arith, less))).letters)
    (after_solid (words_below 9 (further group)) (further_words group less))

members_known : (known : BlockKind → List ObjectName) (group number : ℕ) (later : List Line) → HasNames known → group < 10
    → names_unknown known (record { number = number; text = codes "members" ++ 32 ∷ members group }) later members_reference ≡ false
members_known known group number later has less =
    let words : List (List ℕ) = words_below 9 (further group) in
    and_right _ _
    (ap (is_unknown known members_reference) (value_solid (codes "members") (members group) (members_solid group less) (omega arith))
    ∙ ap (λ value. list_any (λ name. is_none (place_of (known host_kind) name)) (map single (elements value))) (members_are group)
    ∙ ap (λ found. list_any (λ name. is_none (place_of (known host_kind) name)) (map single found))
    (elements_after words (host_name group) (name_word 104 group refl (omega (arith, less))) (further_words group less))
    ∙ none_unknown (known host_kind) (host_name group ∷ words)
    (has.hosts group (omega (arith, less)), all_there (known host_kind) 9 (further group) (λ tens few. has.hosts ((tens + 1) * 10 + group) (omega arith))))

pub group_object : (group : ℕ) → group < 10 → IsObject (group_block group) group_kind (single (group_name group))
unfolding group_block
group_object group less =
    let small : group < 2 ^ 64 = omega (arith, less) in
    record {
      used = inr (inr (inr refl));
      opens = opens_group;
      inner = (codes "hostgroup_name g" ++ decimal group) ∷ (codes "members " ++ members group) ∷ [];
      lines = λ rest. concat_onto (block_pieces (codes "hostgroup")
          (directive_line (codes "hostgroup_name") (group_name group) ++ directive_line (codes "members") (members group))) rest;
      read = (
        told_number 104 (codes "ostgroup_name g") group small refl refl refl refl,
        (told_by 109 (codes "embers ") (members group) refl refl refl refl (members_solid group less) (omega arith), tt),
      );
      fine = ((λ before number. refl), ((λ before number. refl), tt));
      named = λ before. ap (λ first. record { first = first; second = [] })
          (text_of (codes "hostgroup_name") (group_name group) (before + 1) (told (before + 1) ((codes "members " ++ members group) ∷ [])) (name_word 103 group refl small) refl);
      some = or_from _ _ (name_there 103 (decimal group)) refl;
      good = refl;
      known = λ before known has. ap (λ test. option_or (fault_if (test || false) (before + 1 + 1) UnknownName) None)
          (members_known known group (before + 1 + 1) [] has less);
    }
