use Rattle.std.proofs.Common.{◌≡◌, drop, map, string_bytes}
use Rattle.lq_program.specs.Words.{given_with}
use Rattle.lq_program.proofs.command_line.said_after.Given as goal

abbrev pub invariant-loop-word : goal.invariant-loop-word
invariant-loop-word l = given_with l.said (map string_bytes (drop l.word-index l.words)) ≡ given_with l.before (map string_bytes l.words)
