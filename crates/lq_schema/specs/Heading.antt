-- What is said of a column beside its values.
use Rattle.std.specs.Prelude.{ℕ, List}
use Rattle.lq_schema.specs.declared.columns.ColKind.{ColKind}

-- the name of a column on its subject, and the kind of its values
pub record Heading : Type 0 where
  pub name : List ℕ
  pub kind : ColKind

abbrev pub heading : List ℕ → ColKind → Heading
heading name kind = record { name = name; kind = kind }
