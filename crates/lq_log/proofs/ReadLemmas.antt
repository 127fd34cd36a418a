-- What a text says, by its form and its fields.
use Rattle.std.proofs.Common.{◌≡◌, ℕ, ◌==◌, false, Some, None, List, [], ◌∷◌, length, refl, ap, ◌∙◌, unwrap_or}
use Rattle.std.proofs.lemmas.Bool.{true≢false}
use Rattle.std.specs.Option.{option_and_then}
use Rattle.lq_events.specs.declared.log_entry.LogEntry.{LogEntry}
use Rattle.lq_log.specs.Entries.{entry_of_parts, other, parts_at_colon, entry_of_text}
use Rattle.lq_log.specs.Fields.{has_semicolon, with_fields}
use Rattle.lq_log.specs.declared.field.Field.{Field}

pub said_by_form : (text : List ℕ) (entry : LogEntry) → Some entry ≡ option_and_then entry_of_parts (parts_at_colon text) → entry ≡ entry_of_text text
unfolding entry_of_text
said_by_form text entry is = ap (λ found. unwrap_or found (other text)) is

pub said_without_form : (text : List ℕ) (entry : LogEntry) → None ≡ option_and_then entry_of_parts (parts_at_colon text) → entry ≡ other text → entry ≡ entry_of_text text
unfolding entry_of_text
said_without_form text entry none is = is ∙ ap (λ found. unwrap_or found (other text)) none

pub field_missing : (fields later : List Field) (field : Field) (text : List ℕ) (entry : LogEntry) → fields ≡ field ∷ later → (length later == 0) ≡ false
    → has_semicolon text ≡ false → None ≡ with_fields fields text entry
field_missing fields [] field text entry is more lacks = absurd (true≢false more)
field_missing fields (next ∷ later) field text entry is more lacks = rw (is, lacks) refl
