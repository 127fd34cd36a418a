-- The text of cells in each format. The separators are those of the manual's header `Separators`;
-- how CSV writes lists, which RFC 4180 doesn't know, is own.
use Rattle.std.specs.Prelude.{ℕ, Bool, ◌||◌, ◌==◌, List, [], ◌∷◌, ◌++◌, map, if◌then◌else◌}
use Rattle.std.specs.List.{flat_map, list_any}
use Rattle.std.specs.Fmt.{decimal, signed_decimal}
use Rattle.json.specs.Print.{quoted}
use Rattle.lq_schema.specs.Value.{Value, Number, Millionths, Words, Texts, Numbers, Pairs}
use Rattle.lq_records.specs.Micros.{micro_text}
use Rattle.lq_records.specs.declared.format.Format.{Format}
use Rattle.lq_records.specs.declared.format.Format.TheVariants as format
use Rattle.lq_output.specs.declared.layout.Layout.{Layout}
use Rattle.lq_records.specs.declared.format.Separators.{Separators}

-- In this file and the others 10 is a line feed, 13 a carriage return, 34 `"`, 44 `,`, 59 `;`,
-- 91 `[`, 93 `]` and 124 `|`.

-- texts with the same text between them
abbrev pub joined_texts : List ℕ → List (List ℕ) → List ℕ
joined_texts between [] = []
joined_texts between (text ∷ texts) = text ++ flat_map (λ later. between ++ later) texts

-- ---- csv

-- a service: its host's name and its description with a separator between them
abbrev pub pair_text : ℕ → List ℕ × List ℕ → List ℕ
pair_text separator pair = pair.0 ++ separator ∷ pair.1

-- a value with nothing quoted, by the separators of lists and of pairs
abbrev pub plain_text : ℕ → ℕ → Value → List ℕ
plain_text list pair (Number number) = signed_decimal number
plain_text list pair (Millionths number) = micro_text number
plain_text list pair (Words text) = text
plain_text list pair (Texts texts) = joined_texts (list ∷ []) texts
plain_text list pair (Numbers numbers) = joined_texts (list ∷ []) (map decimal numbers)
plain_text list pair (Pairs pairs) = joined_texts (list ∷ []) (map (pair_text pair) pairs)

-- a line of one value, with the byte that ends it
abbrev pub plain_line : Separators → Value → List ℕ
plain_line separators value =
    plain_text separators.list separators.pair value ++ separators.row ∷ []

-- ---- CSV

-- whether RFC 4180 quotes a field with this byte
abbrev pub is_special : ℕ → Bool
is_special byte = (byte == 44) || (byte == 34) || (byte == 13) || (byte == 10)

-- a quote is written twice
abbrev pub doubled_quote : ℕ → List ℕ
doubled_quote byte = if byte == 34 then 34 ∷ 34 ∷ [] else byte ∷ []

-- a text as a field of RFC 4180
abbrev pub csv_field : List ℕ → List ℕ
csv_field text =
    if list_any is_special text then 34 ∷ (flat_map doubled_quote text ++ 34 ∷ []) else text

-- the items of a list have `,` between them, the parts of a pair `|`; digits need no quotes
abbrev pub field_text : Value → List ℕ
field_text (Number number) = signed_decimal number
field_text (Millionths number) = micro_text number
field_text (Words text) = csv_field text
field_text (Texts texts) = csv_field (plain_text 44 124 (Texts texts))
field_text (Numbers numbers) = csv_field (plain_text 44 124 (Numbers numbers))
field_text (Pairs pairs) = csv_field (plain_text 44 124 (Pairs pairs))

-- ---- json

-- a list of the texts of its items
abbrev pub json_list : List (List ℕ) → List ℕ
json_list items = 91 ∷ (joined_texts (44 ∷ []) items ++ 93 ∷ [])

-- a service is a list of two texts
abbrev pub json_pair : List ℕ × List ℕ → List ℕ
json_pair pair = json_list (quoted pair.0 ∷ quoted pair.1 ∷ [])

-- a text is what `serde_json` writes of it
abbrev pub json_text : Value → List ℕ
json_text (Number number) = signed_decimal number
json_text (Millionths number) = micro_text number
json_text (Words text) = quoted text
json_text (Texts texts) = json_list (map quoted texts)
json_text (Numbers numbers) = json_list (map decimal numbers)
json_text (Pairs pairs) = json_list (map json_pair pairs)

-- ---- each format

abbrev pub text_in : Format → Separators → Value → List ℕ
text_in format.Csv separators value = plain_text separators.list separators.pair value
text_in format.Quoted separators value = field_text value
text_in format.Json separators value = json_text value

-- the text of a cell
abbrev pub cell_text : Layout → Value → List ℕ
cell_text layout value = text_in layout.format layout.separators value
