-- The fault of a part, by the line that opens it.
use Rattle.std.proofs.Common.{◌≡◌, ℕ, Option, Some, List, ◌∷◌, sym, ap, ◌∙◌}
use Rattle.lq_objects.specs.Blocks.{Line, opened_word}
use Rattle.lq_objects.specs.Kinds.{kind_named}
use Rattle.lq_names.specs.Names.{ObjectName}
use Rattle.lq_objects.specs.Faults.{block_fault, opened_fault, part_fault}
use Rattle.lq_objects.specs.declared.kind.BlockKind.{BlockKind}

pub opened_fault-part : (earlier : BlockKind → List ObjectName) (all lines : List Line) (opening : Line) (closing : Option Line) (word : List ℕ) (kind : Option BlockKind) (number : ℕ)
    → all ≡ opening ∷ lines → Some word ≡ opened_word opening.text → kind ≡ kind_named word → number ≡ opening.number
    → opened_fault earlier number kind lines closing ≡ part_fault earlier all closing
opened_fault-part earlier all lines opening closing word kind number first opens is at =
    ap (λ place. opened_fault earlier place kind lines closing) at
    ∙ ap (λ found. opened_fault earlier opening.number found lines closing) is
    ∙ ap (λ found. block_fault earlier opening.number found lines closing) opens
    ∙ ap (λ part. part_fault earlier part closing) (sym first)
