-- What the code has read of a command line, as a part of the line.
use Rattle.std.specs.Prelude.{ℕ, Option, Some, None, List, [], ◌∷◌, ◌++◌, if◌then◌else◌}
use Rattle.std.specs.Option.{option_and_then, option_copied, option_map, option_to_list}
use Rattle.lq_program.specs.declared.command_line.Asked.{Asked}
use Rattle.lq_program.specs.declared.command_line.Awaited.{Awaited}
use Rattle.lq_program.specs.declared.command_line.Awaited.TheVariants as awaited
use Rattle.lq_program.specs.declared.command_line.Choice.{Choice}
use Rattle.lq_program.specs.declared.command_line.Said.{Said}
use Rattle.lq_program.specs.declared.command_line.Subcommand.{Subcommand}
use Rattle.lq_program.specs.declared.command_line.Subcommand.TheVariants as subcommand
use Rattle.lq_program.specs.declared.command_line.Values.{Values}
use Rattle.lq_program.specs.CommandLine.{Ask, Given, GivenWords, Load, Wanted, Work, given_of}
use Rattle.lq_program.specs.CommandLine.{is_value, line_of, only_operands, with_value}

-- ---- what the code has found

abbrev pub given_by_values : Values → Given
given_by_values values = record {
  operand = values.operand.now;
  log = option_copied values.log;
  service_auth = option_copied values.service_auth;
  group_auth = option_copied values.group_auth;
}

abbrev pub wanted_by : Asked → Wanted
wanted_by asked =
    record { path = asked.path.now; log = option_copied asked.log; rules = asked.rules }

abbrev pub work_by : Subcommand → Work
work_by (subcommand.Ask asked) = Ask (wanted_by asked)
work_by (subcommand.Load number) = Load number

-- ---- a line with what was read before it

abbrev pub with_said : Said → GivenWords → GivenWords
with_said said line = record {
  operands = option_to_list (option_copied said.operand) ++ line.operands;
  logs = option_to_list (option_copied said.log) ++ line.logs;
  service_auths = option_to_list (option_copied said.service_auth) ++ line.service_auths;
  group_auths = option_to_list (option_copied said.group_auth) ++ line.group_auths;
}

-- the line of words that begin with an option's value
abbrev pub value_line : Choice → List (List ℕ) → Option GivenWords
value_line choice [] = None
value_line choice (value ∷ words) =
    if is_value value then option_map (with_value choice value) (line_of words) else None

-- the line of words, by what the first of them is
abbrev pub later_line : Awaited → List (List ℕ) → Option GivenWords
later_line awaited.Any words = line_of words
later_line (awaited.Value choice) words = value_line choice words
later_line awaited.Operand words = Some (only_operands words)

-- what is given by what was read and by the line of the words to come
abbrev pub given_before : Said → Option GivenWords → Option Given
given_before said later = option_and_then (λ line. given_of (with_said said line)) later

abbrev pub given_with : Said → List (List ℕ) → Option Given
given_with said words = given_before said (later_line said.awaited words)
