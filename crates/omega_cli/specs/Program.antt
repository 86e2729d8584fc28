-- The command line as `clap` has it: the subcommands, with the options and the operand of each.
use Rattle.std.specs.Prelude.{ℕ, List, [], ◌∷◌, Some, true, false, codes}
use Rattle.clap.specs.Simple.{new_shape}
use Rattle.clap.specs.Words.{App, Rule, Shape, Text, new_rule}
use Rattle.clap.specs.declared.builder.action.ArgAction.TheVariants.{Append, SetTrue}

-- an option without a text
abbrev pub flag : Text → Rule
flag name = record (new_rule name) { long = Some name; action = Some SetTrue }

-- an option without a text, which also has a letter
abbrev pub lettered : ℕ → Text → Rule
lettered letter name = record (flag name) { short = Some letter }

-- an option without a text, which has another name on the command line
abbrev pub named : (shown : Text) → Text → Rule
named shown name = record (flag name) { long = Some shown }

-- an option with a text, which may be left out
abbrev pub optional : Text → Rule
optional name = record (new_rule name) { long = Some name; value_names = 1 }

-- the same, which also has a letter
abbrev pub optional_lettered : ℕ → Text → Rule
optional_lettered letter name = record (optional name) { short = Some letter }

-- the same, which may be given several times
abbrev pub optional_repeated : ℕ → Text → Rule
optional_repeated letter name = record (optional_lettered letter name) { action = Some Append }

-- an option with a text, which may be left out and has another name on the command line
abbrev pub optional_as : (shown : Text) → Text → Rule
optional_as shown name = record (optional name) { long = Some shown }

-- an option with a text, which has to be given
abbrev pub required : Text → Rule
required name = record (new_rule name) { long = Some name; value_names = 1; required = true }

-- the same, which also has a letter
abbrev pub required_lettered : ℕ → Text → Rule
required_lettered letter name = record (required name) { short = Some letter }

-- the same, which may be given several times
abbrev pub required_repeated : ℕ → Text → Rule
required_repeated letter name = record (required_lettered letter name) { action = Some Append }

-- an option with a text, which has to be given and has another name on the command line
abbrev pub required_as : (shown : Text) → Text → Rule
required_as shown name = record (required name) { long = Some shown }

-- a text without an option's name, which may be left out
abbrev pub operand : Text → Rule
operand name = record (new_rule name) { value_names = 1 }

-- a subcommand with these options
abbrev pub with_options : Text → List Rule → Shape
with_options name options = record (new_shape name) { rules = options }

-- ---- the subcommands, each with the flag for more on a refusal and the operand that names a file

-- the flag for more on a refusal than its line; 118 is the letter v
abbrev pub verbose : Rule
verbose = lettered 118 (codes "verbose")

abbrev pub show : Shape
show = with_options (codes "show") (optional (codes "format") ∷ flag (codes "json")
    ∷ flag (codes "lenient") ∷ verbose ∷ operand (codes "file") ∷ [])

abbrev pub check : Shape
check = with_options (codes "check") (optional (codes "format") ∷ optional (codes "at-least")
    ∷ flag (codes "lenient") ∷ verbose ∷ operand (codes "file") ∷ [])

abbrev pub canon : Shape
canon = with_options (codes "canon") (optional (codes "format") ∷ optional (codes "from")
    ∷ flag (codes "min") ∷ flag (codes "binary") ∷ flag (codes "lenient") ∷ verbose
    ∷ operand (codes "file") ∷ [])

abbrev pub solve : Shape
solve = with_options (codes "solve") (optional (codes "player") ∷ optional (codes "from")
    ∷ flag (codes "search") ∷ optional (codes "by") ∷ optional (codes "effort")
    ∷ optional (codes "budget") ∷ flag (codes "progress") ∷ flag (codes "lenient") ∷ verbose
    ∷ operand (codes "file") ∷ [])

-- 102 is the letter f
abbrev pub verify : Shape
verify = with_options (codes "verify")
    (optional (codes "game") ∷ optional (codes "automaton") ∷ optional (codes "specification")
    ∷ optional_lettered 102 (codes "formula") ∷ optional (codes "outs") ∷ optional (codes "ins")
    ∷ flag (codes "counter-strategy") ∷ flag (codes "winners") ∷ optional (codes "from")
    ∷ flag (codes "explain") ∷ flag (codes "names") ∷ flag (codes "lenient") ∷ verbose
    ∷ operand (codes "file") ∷ [])

abbrev pub empty : Shape
empty =
    with_options (codes "empty") (flag (codes "search") ∷ flag (codes "word") ∷ flag (codes "names")
    ∷ flag (codes "status") ∷ flag (codes "stream") ∷ optional (codes "at-least")
    ∷ optional (codes "budget") ∷ flag (codes "progress") ∷ verbose ∷ operand (codes "file") ∷ [])

abbrev pub game : Shape
game = with_options (codes "game") (verbose ∷ operand (codes "file") ∷ [])

abbrev pub automaton : Shape
automaton = with_options (codes "automaton") (verbose ∷ operand (codes "file") ∷ [])

abbrev pub accepts : Shape
accepts = with_options (codes "accepts") (required_as (codes "word") (codes "word-text")
    ∷ flag (codes "some") ∷ flag (codes "explain") ∷ verbose ∷ operand (codes "file") ∷ [])

abbrev pub contained : Shape
contained = with_options (codes "contained") (required (codes "in") ∷ flag (codes "explain")
    ∷ flag (codes "stream") ∷ optional (codes "at-least") ∷ verbose ∷ operand (codes "file") ∷ [])

abbrev pub equal : Shape
equal = with_options (codes "equal") (optional (codes "to") ∷ optional_repeated 102 (codes "formula")
    ∷ flag (codes "explain") ∷ verbose ∷ operand (codes "file") ∷ [])

abbrev pub satisfies : Shape
satisfies = with_options (codes "satisfies") (required_repeated 102 (codes "formula")
    ∷ optional_as (codes "word") (codes "word-text") ∷ flag (codes "explain")
    ∷ flag (codes "stream") ∷ optional (codes "at-least") ∷ verbose ∷ operand (codes "file") ∷ [])

abbrev pub meet : Shape
meet = with_options (codes "meet")
    (required (codes "with") ∷ flag (codes "trim") ∷ verbose ∷ operand (codes "file") ∷ [])

abbrev pub join : Shape
join = with_options (codes "join") (required (codes "with") ∷ verbose ∷ operand (codes "file") ∷ [])

abbrev pub complement : Shape
complement = with_options (codes "complement")
    (flag (codes "stream") ∷ optional (codes "at-least") ∷ verbose ∷ operand (codes "file") ∷ [])

abbrev pub trim : Shape
trim = with_options (codes "trim")
    (flag (codes "stream") ∷ optional (codes "at-least") ∷ verbose ∷ operand (codes "file") ∷ [])

abbrev pub ltl : Shape
ltl = with_options (codes "ltl") (optional_lettered 102 (codes "formula") ∷ flag (codes "negated")
    ∷ flag (codes "deterministic") ∷ verbose ∷ operand (codes "file") ∷ [])

abbrev pub realize : Shape
realize = with_options (codes "realize")
    (optional_lettered 102 (codes "formula") ∷ optional (codes "outs") ∷ optional (codes "ins")
    ∷ flag (codes "controller") ∷ flag (codes "aiger") ∷ flag (codes "binary")
    ∷ named (codes "game") (codes "as-game") ∷ flag (codes "lift") ∷ optional (codes "budget")
    ∷ flag (codes "progress") ∷ verbose ∷ operand (codes "file") ∷ [])

abbrev pub draw : Shape
draw = with_options (codes "draw")
    (optional (codes "format") ∷ optional (codes "from") ∷ optional (codes "depth")
    ∷ optional (codes "solution") ∷ optional (codes "walk") ∷ flag (codes "legend")
    ∷ flag (codes "lasso") ∷ flag (codes "lenient") ∷ verbose ∷ operand (codes "file") ∷ [])

-- ---- the program

-- the subcommands are in the order in which help lists them, and one has to be named
abbrev pub program : App
program = record {
  top = record (new_shape (codes "omega"))
      { is_leaf = false; has_version = true; subcommand_required = true };
  subs = show ∷ check ∷ canon ∷ solve ∷ verify ∷ empty ∷ game ∷ automaton ∷ accepts ∷ contained
      ∷ equal ∷ satisfies ∷ meet ∷ join ∷ complement ∷ trim ∷ ltl ∷ realize ∷ draw ∷ [];
}
