-- The lists of names by which a formula's propositions are parted, and what a subcommand asks for that takes them.
use Rattle.std.specs.Prelude.{◌≡◌, ◌≢◌, ◌⊎◌, ◌-◌, ◌==◌, Bool, true, false, List, [], None, ℕ, cond}
use Rattle.std.specs.Prelude.{drop, length, map, option_map, take}
use Rattle.std.specs.Char.{is_ascii_whitespace}
use Rattle.std.specs.List.{prefix_len, slice_split, suffix_len}
use Rattle.omega_cli_command.specs.Options.{GivesNoLifting, GivesWritten, text_of}
use Rattle.omega_cli_command.specs.TwoTexts.{HasOther}
use Rattle.omega_cli_command.specs.Values.{GivesFlag}
use Rattle.omega_cli_command.specs.declared.formula_judge.FormulaJudge.{FormulaJudge}
use Rattle.omega_cli_command.specs.declared.formula_judge.FormulaJudge.TheVariants as judge
use Rattle.omega_cli_command.specs.declared.options.OptionName.TheVariants as name
use Rattle.omega_cli_command.specs.declared.options.Options.{Options}
use Rattle.omega_cli_command.specs.declared.other.Other.{Other}
use Rattle.omega_cli_command.specs.declared.partition.Partition.{Partition}
use Rattle.omega_cli_command.specs.declared.subcommand.Subcommand.{Subcommand}
use Rattle.omega_cli_command.specs.declared.subcommand.Subcommand.TheVariants as sub
use Rattle.omega_cli_command.specs.declared.synthesis.Synthesis.{Synthesis}
use Rattle.omega_cli_command.specs.declared.synthesis.Synthesis.TheVariants as asked

-- ---- lists of names

-- the byte between two names
abbrev pub comma : ℕ
comma = 44

-- a text without the white space before it, and without that after it
abbrev pub without_front : List ℕ → List ℕ
without_front text = drop (prefix_len is_ascii_whitespace text) text

abbrev pub without_back : List ℕ → List ℕ
without_back text = take (length text - suffix_len is_ascii_whitespace text) text

-- a text without the white space around it
abbrev pub bare_name : List ℕ → List ℕ
bare_name text = without_back (without_front text)

-- the names that a text lists: its parts between commas, without the white space around each; none if it has nothing
-- but white space
abbrev pub listed_names : List ℕ → List (List ℕ)
listed_names text = cond (length (bare_name text) == 0) []
    (map bare_name (slice_split (λ byte. byte == comma) text))

-- the lists are given, one of them or both
pub record GivesPartition (options : Options) (partition : Partition) : Type 0 where
  pub outs : option_map (λ names. names.items) partition.outs
      ≡ option_map listed_names (text_of name.Outs options)
  pub ins : option_map (λ names. names.items) partition.ins
      ≡ option_map listed_names (text_of name.Ins options)
  pub one : (text_of name.Outs options ≢ None) ⊎ (text_of name.Ins options ≢ None)

-- ---- what is asked for

-- the options ask `realize` for this of a formula
abbrev pub GivesSynthesis : Options → Synthesis → Type 0
GivesSynthesis options asked.Decide = GivesWritten options false false false false
GivesSynthesis options asked.Controller = GivesWritten options true false false false
GivesSynthesis options (asked.Circuit binary) = GivesWritten options false false true binary
GivesSynthesis options asked.Game = GivesWritten options false true false false

-- the subcommand, with these options, asks for this of a formula of the command line
abbrev pub AsksSynthesis : Subcommand → Options → Synthesis → Partition → Type 0
AsksSynthesis subcommand options asked partition = (subcommand ≡ sub.Realize)
    × (text_of name.Formula options ≢ None) × (text_of name.File options ≡ None)
    × GivesFlag (text_of name.Lift options) false × GivesNoLifting options
    × GivesSynthesis options asked × GivesPartition options partition

-- `verify`, with these options, asks whether what the input has is right for a formula of the command line
abbrev pub AsksForFormula : Subcommand → Options → (explain counter_strategy : Bool) → Other
    → Partition → Type 0
AsksForFormula subcommand options explain counter_strategy source partition =
    (subcommand ≡ sub.Verify) × HasOther (text_of name.Formula options) source
    × (text_of name.Specification options ≡ None) × (text_of name.Automaton options ≡ None)
    × (text_of name.Game options ≡ None) × (text_of name.From options ≡ None)
    × GivesFlag (text_of name.Winners options) false × GivesFlag (text_of name.Names options) false
    × GivesFlag (text_of name.Explain options) explain
    × GivesFlag (text_of name.CounterStrategy options) counter_strategy
    × GivesPartition options partition

-- the subcommand, with these options, asks for this of the text of the input, for the formula that the other has
abbrev pub AsksFormulaJudge : Subcommand → Options → FormulaJudge → Other → Partition → Type 0
AsksFormulaJudge subcommand options (judge.Controller explain) =
    AsksForFormula subcommand options explain false
AsksFormulaJudge subcommand options (judge.CounterStrategy explain) =
    AsksForFormula subcommand options explain true
