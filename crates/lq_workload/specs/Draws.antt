-- The numbers that a generator draws.
use Rattle.std.specs.Prelude.{ℕ, ◌+◌, ◌*◌, ◌/◌, ◌%◌, ◌^◌, zero, suc}

-- the number that a draw leaves
unfoldable pub after_draw : ℕ → ℕ
after_draw number = (number * 6364136223846793005 + 1442695040888963407) % 2 ^ 64

-- what is drawn below a number
unfoldable pub draw_below : ℕ → ℕ → ℕ
draw_below below number = after_draw number / 2 ^ 33 % below

-- the number that several draws leave
unfoldable pub after_draws : ℕ → ℕ → ℕ
after_draws zero number = number
after_draws (suc count) number = after_draw (after_draws count number)

-- what is drawn after several other draws
abbrev pub drawn_after : ℕ → ℕ → ℕ → ℕ
drawn_after count below number = draw_below below (after_draws count number)
