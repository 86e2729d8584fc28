-- What is requested by what `clap` found in the words.
use Rattle.std.specs.Prelude.{◌≡◌, ◌≢◌, ◌⊎◌, List, [], Option, Some, None, ℕ, codes, unwrap_or}
use Rattle.clap.specs.Words.{Row, all_of, first_of}
use Rattle.clap.specs.declared.error.kind.ErrorKind.{ErrorKind}
use Rattle.clap.specs.declared.error.kind.ErrorKind.TheVariants.{DisplayHelp, DisplayVersion}
use Rattle.omega_cli_command.specs.Mistakes.{IsWrong}
use Rattle.omega_cli_command.specs.Options.{formulas_of, text_of}
use Rattle.omega_cli_command.specs.Request.{Asks, IsFault}
use Rattle.omega_cli_command.specs.Subcommands.{name_of}
use Rattle.omega_cli_command.specs.declared.subcommand.Subcommand.{Subcommand}
use Rattle.omega_cli_command.specs.declared.mistake.Mistake.{Mistake}
use Rattle.omega_cli_command.specs.declared.mistake.Mistake.TheVariants as mistake
use Rattle.omega_cli_command.specs.declared.options.OptionName.{OptionName}
use Rattle.omega_cli_command.specs.declared.options.OptionName.TheVariants as name
use Rattle.omega_cli_command.specs.declared.options.Options.{Options}
use Rattle.omega_cli_command.specs.declared.request.Request.{Request}
use Rattle.omega_cli_command.specs.declared.request.Request.TheVariants as request

-- how `clap` knows an option, or the operand
abbrev pub id_of : OptionName → List ℕ
id_of name.Format = codes "format"
id_of name.Player = codes "player"
id_of name.From = codes "from"
id_of name.Budget = codes "budget"
id_of name.Search = codes "search"
id_of name.By = codes "by"
id_of name.Effort = codes "effort"
id_of name.Game = codes "game"
id_of name.Automaton = codes "automaton"
id_of name.Specification = codes "specification"
id_of name.CounterStrategy = codes "counter-strategy"
id_of name.Explain = codes "explain"
id_of name.Names = codes "names"
id_of name.Word = codes "word"
id_of name.WordText = codes "word-text"
id_of name.ForSome = codes "some"
id_of name.Formula = codes "formula"
id_of name.Outs = codes "outs"
id_of name.Ins = codes "ins"
id_of name.Negated = codes "negated"
id_of name.Deterministic = codes "deterministic"
id_of name.Status = codes "status"
id_of name.With = codes "with"
id_of name.Trim = codes "trim"
id_of name.In = codes "in"
id_of name.To = codes "to"
id_of name.Controller = codes "controller"
id_of name.AsGame = codes "as-game"
id_of name.Aiger = codes "aiger"
id_of name.Binary = codes "binary"
id_of name.Lift = codes "lift"
id_of name.Solution = codes "solution"
id_of name.Walk = codes "walk"
id_of name.Legend = codes "legend"
id_of name.Lasso = codes "lasso"
id_of name.Depth = codes "depth"
id_of name.Progress = codes "progress"
id_of name.Stream = codes "stream"
id_of name.AtLeast = codes "at-least"
id_of name.Winners = codes "winners"
id_of name.Min = codes "min"
id_of name.Json = codes "json"
id_of name.Lenient = codes "lenient"
id_of name.Verbose = codes "verbose"
id_of name.File = codes "file"

-- the texts of all formulas, in their order
abbrev pub given_formulas : List Row → List (List ℕ)
given_formulas rows = unwrap_or (all_of (id_of name.Formula) rows) []

-- a fault with the message of the mistake is requested; want of memory has no message
abbrev pub IsFaultOf : Mistake → Request → Type 0
IsFaultOf found request = IsFault request × (found ≢ mistake.Memory)

-- this is requested by the subcommand with these options, or is a fault that says what is wrong
abbrev pub IsRequestOf : Subcommand → Options → Request → Type 0
IsRequestOf subcommand options request = Asks subcommand options request
    ⊎ ((found : Mistake) × IsWrong subcommand options found × IsFaultOf found request)

-- this is requested by the subcommand with the options that `clap` found after it
abbrev pub IsRequestFor : Subcommand → List Row → Request → Type 0
IsRequestFor subcommand rows request =
    (options : Options) × ((name : OptionName) → text_of name options ≡ first_of (id_of name) rows)
    × (formulas_of options ≡ given_formulas rows) × IsRequestOf subcommand options request

-- this is requested by the subcommand of the name that `clap` found; a fault if it found none, or if none has the name
abbrev pub IsRequestFound : Option (List ℕ × List Row) → Request → Type 0
IsRequestFound None request = IsFault request
IsRequestFound (Some (name, rows)) request =
    ((subcommand : Subcommand) × (name ≡ name_of subcommand) × IsRequestFor subcommand rows request)
    ⊎ (((subcommand : Subcommand) → name ≡ name_of subcommand → ⊥) × IsFault request)

-- this is made of an error of `clap`: help if the user requested a text, else a fault
abbrev pub IsPrinted : ErrorKind → Request → Type 0
IsPrinted kind (request.Help text) = (kind ≡ DisplayHelp) ⊎ (kind ≡ DisplayVersion)
IsPrinted kind (request.Fault text) = (kind ≢ DisplayHelp) × (kind ≢ DisplayVersion)
IsPrinted kind (request.Do task) = ⊥
