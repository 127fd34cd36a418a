-- The order that a line gives.
use Rattle.std.specs.Prelude.{ℕ, Option, List}
use Rattle.std.specs.Option.{option_map}
use Rattle.lq_text.specs.Seconds.{second_of, text_after_second}
use Rattle.lq_records.specs.Clean.{text_of_bytes}
use Rattle.lq_records.specs.declared.base.Base.{Base}
use Rattle.lq_commands.specs.Commands.{act_of}
use Rattle.lq_commands.specs.declared.order.Order.{Order}

-- the command's text: what follows the second and the blanks after it, its bytes that aren't UTF-8
-- replaced
abbrev pub order_text : List ℕ → List ℕ
order_text line = text_of_bytes (text_after_second line)

-- the order of a line; None where no second in brackets begins it
abbrev pub order_of : Base → List ℕ → Option Order
order_of base line =
    option_map
    (λ time. record {
      time = time;
      text = order_text line;
      act = act_of base (order_text line);
    })
    (second_of line)
