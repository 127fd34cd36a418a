-- What the words of a command line ask.
use Rattle.std.specs.Prelude.{ℕ, ◌||◌, ◌&&◌, ◌==◌, nat_le, nat_lt, Bool, true, false, not, Option}
use Rattle.std.specs.Prelude.{Some, None, is_none, List, [], ◌∷◌, bytes_eq, codes, length}
use Rattle.std.specs.Prelude.{slice_index, if◌then◌else◌}
use Rattle.std.specs.Char.{is_ascii_digit}
use Rattle.std.specs.List.{after_first, before_first, list_all}
use Rattle.std.specs.Option.{is_some, option_and_then, option_map, option_map_or}
use Rattle.lq_text.specs.Numbers.{number_of}
use Rattle.lq_records.specs.declared.base.Rules.{Rules}
use Rattle.lq_program.specs.declared.command_line.Choice.{Choice}
use Rattle.lq_program.specs.declared.command_line.Choice.TheVariants as choice

-- ---- single words

-- a word that may be a value where it stands by itself: it is `-`, or doesn't begin with `-`
abbrev pub is_value : List ℕ → Bool
is_value word = bytes_eq word (codes "-") || not (slice_index word 0 == 45)

-- the option with a name
abbrev pub choice_named : List ℕ → Option Choice
choice_named name =
    if bytes_eq name (codes "--log") then Some choice.Log
    else if bytes_eq name (codes "--service-auth") then Some choice.ServiceAuth
    else if bytes_eq name (codes "--group-auth") then Some choice.GroupAuth
    else None

-- ---- a line

-- the values that stand by themselves, and those of each option, in their order
pub record GivenWords : Type 0 where
  pub operands : List (List ℕ)
  pub logs : List (List ℕ)
  pub service_auths : List (List ℕ)
  pub group_auths : List (List ℕ)

-- words that are values alone, as those after `--` are
abbrev pub only_operands : List (List ℕ) → GivenWords
only_operands words =
    record { operands = words; logs = []; service_auths = []; group_auths = [] }

-- a line with one more value before the others
abbrev pub with_operand : List ℕ → GivenWords → GivenWords
with_operand word line = record line { operands = word ∷ line.operands }

abbrev pub with_value : Choice → List ℕ → GivenWords → GivenWords
with_value choice.Log value line = record line { logs = value ∷ line.logs }
with_value choice.ServiceAuth value line =
    record line { service_auths = value ∷ line.service_auths }
with_value choice.GroupAuth value line = record line { group_auths = value ∷ line.group_auths }

-- the character `=`
abbrev pub is_equals : ℕ → Bool
is_equals byte = byte == 61

-- an option and its value in one word, as `--log=FILE`
abbrev pub with_option_and_value : List ℕ → GivenWords → Option GivenWords
with_option_and_value word line =
    option_map (λ about. with_value about (after_first is_equals word) line)
    (choice_named (before_first is_equals word))

-- The line that words make. An option stands before its value, or in one word with it; `--` ends
-- the options. None where a value is missing, or a word is no value and no option.
abbrev pub line_of : List (List ℕ) → Option GivenWords
line_of [] = Some (only_operands [])
line_of (word ∷ []) =
    if bytes_eq word (codes "--") then Some (only_operands [])
    else if is_value word then Some (with_operand word (only_operands []))
    else if is_some (choice_named word) then None
    else with_option_and_value word (only_operands [])
line_of (word ∷ next ∷ words) =
    if bytes_eq word (codes "--") then Some (only_operands (next ∷ words))
    else if is_value word then option_map (with_operand word) (line_of (next ∷ words))
    else option_map_or
    (λ about. if is_value next then option_map (with_value about next) (line_of words) else None)
    (choice_named word)
    (option_and_then (with_option_and_value word) (line_of (next ∷ words)))

-- ---- one value and each option at most once

-- the one value that stands by itself, and the value of each option that stands
pub record Given : Type 0 where
  pub operand : List ℕ
  pub log : Option (List ℕ)
  pub service_auth : Option (List ℕ)
  pub group_auth : Option (List ℕ)

abbrev pub one : List (List ℕ) → Option (List ℕ)
one (word ∷ []) = Some word
one _ = None

abbrev pub at_most_one : List (List ℕ) → Option (Option (List ℕ))
at_most_one [] = Some None
at_most_one (word ∷ []) = Some (Some word)
at_most_one _ = None

abbrev pub all_of : Option (List ℕ) → Option (Option (List ℕ)) → Option (Option (List ℕ))
    → Option (Option (List ℕ)) → Option Given
all_of (Some operand) (Some log) (Some service_auth) (Some group_auth) = Some (record {
  operand = operand;
  log = log;
  service_auth = service_auth;
  group_auth = group_auth;
})
all_of _ _ _ _ = None

abbrev pub given_of : GivenWords → Option Given
given_of line =
    all_of (one line.operands) (at_most_one line.logs) (at_most_one line.service_auths)
    (at_most_one line.group_auths)

-- ---- `ask`

-- an object file, a log where one is to be read, and the rules by which contacts see services and
-- groups
pub record Wanted : Type 0 where
  pub path : List ℕ
  pub log : Option (List ℕ)
  pub rules : Rules

-- whether a rule is strict, by the value of its option
abbrev pub strictness_of : List ℕ → Option Bool
strictness_of word =
    if bytes_eq word (codes "strict") then Some true
    else if bytes_eq word (codes "loose") then Some false
    else None

-- without its option it is as usual
abbrev pub rule : Bool → Option (List ℕ) → Option Bool
rule usually value = option_map_or strictness_of value (Some usually)

abbrev pub with_rules : Given → Option Bool → Option Bool → Option Wanted
with_rules given (Some service_strict) (Some group_strict) = Some (record {
  path = given.operand;
  log = given.log;
  rules = record { service_strict = service_strict; group_strict = group_strict };
})
with_rules _ _ _ = None

-- the value is the path of the object file; rules are loose for services and strict for groups,
-- where no option says else
abbrev pub wanted_of : Given → Option Wanted
wanted_of given = with_rules given (rule false given.service_auth) (rule true given.group_auth)

-- ---- `load`

-- the number that digits say, up to a largest one
abbrev pub number_up_to : ℕ → List ℕ → Option ℕ
number_up_to most digits =
    if nat_lt 0 (length digits) && list_all is_ascii_digit digits && nat_le (number_of digits) most
    then Some (number_of digits) else None

-- the value is the workload's number, and no option stands
abbrev pub load_of : Given → Option ℕ
load_of given =
    if is_none given.log && is_none given.service_auth && is_none given.group_auth
    then number_up_to 1000000 given.operand else None

-- ---- the whole

-- what a command line asks: to serve a connection, or to run the workload of a number
pub data Work : Type 0 where
  Ask : Wanted → Work
  Load : ℕ → Work

abbrev pub given_by : List (List ℕ) → Option Given
given_by words = option_and_then given_of (line_of words)

-- what `ask OBJECTS` with its options or `load N` asks; None where the words are outside the
-- grammar
unfoldable pub asked_words : List (List ℕ) → Option Work
asked_words [] = None
asked_words (command ∷ words) =
    if bytes_eq command (codes "ask")
    then option_map Ask (option_and_then wanted_of (given_by words))
    else if bytes_eq command (codes "load")
    then option_map Load (option_and_then load_of (given_by words))
    else None

abbrev pub wanted_in : Option Work → Option Wanted
wanted_in None = None
wanted_in (Some (Ask wanted)) = Some wanted
wanted_in (Some (Load number)) = None

abbrev pub number_of_work : Option Work → Option ℕ
number_of_work None = None
number_of_work (Some (Ask wanted)) = None
number_of_work (Some (Load number)) = Some number

-- what `ask` asks, where the command is `ask`
abbrev pub asked_connection : List (List ℕ) → Option Wanted
asked_connection words = wanted_in (asked_words words)

-- the number of `load`, where the command is `load`
abbrev pub asked_load : List (List ℕ) → Option ℕ
asked_load words = number_of_work (asked_words words)
