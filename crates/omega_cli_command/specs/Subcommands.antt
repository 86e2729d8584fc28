-- The names of the subcommands, and the options that they take.
use Rattle.std.specs.Prelude.{◌≡◌, ◌⊎◌, List, ℕ, codes}
use Rattle.omega_cli_command.specs.declared.options.OptionName.{OptionName}
use Rattle.omega_cli_command.specs.declared.options.OptionName.TheVariants as name
use Rattle.omega_cli_command.specs.declared.subcommand.Subcommand.{Subcommand}
use Rattle.omega_cli_command.specs.declared.subcommand.Subcommand.TheVariants as sub

-- the name of a subcommand on a command line
abbrev pub name_of : Subcommand → List ℕ
name_of sub.Show = codes "show"
name_of sub.Check = codes "check"
name_of sub.Canon = codes "canon"
name_of sub.Solve = codes "solve"
name_of sub.Verify = codes "verify"
name_of sub.Empty = codes "empty"
name_of sub.Game = codes "game"
name_of sub.Automaton = codes "automaton"
name_of sub.Accepts = codes "accepts"
name_of sub.Contained = codes "contained"
name_of sub.Equal = codes "equal"
name_of sub.Satisfies = codes "satisfies"
name_of sub.Meet = codes "meet"
name_of sub.Join = codes "join"
name_of sub.Complement = codes "complement"
name_of sub.Trim = codes "trim"
name_of sub.Ltl = codes "ltl"
name_of sub.Realize = codes "realize"
name_of sub.Draw = codes "draw"

-- the subcommand reads a game, or texts of either format, or may read a game
abbrev pub HasGames : Subcommand → Type 0
HasGames subcommand = (subcommand ≡ sub.Show) ⊎ (subcommand ≡ sub.Check) ⊎ (subcommand ≡ sub.Canon)
    ⊎ (subcommand ≡ sub.Draw) ⊎ (subcommand ≡ sub.Solve) ⊎ (subcommand ≡ sub.Verify)

-- the subcommand takes the option
abbrev pub HasOption : Subcommand → OptionName → Type 0
HasOption subcommand name.Format = (subcommand ≡ sub.Show) ⊎ (subcommand ≡ sub.Check)
    ⊎ (subcommand ≡ sub.Canon) ⊎ (subcommand ≡ sub.Draw)
HasOption subcommand name.Player = subcommand ≡ sub.Solve
HasOption subcommand name.From = (subcommand ≡ sub.Solve) ⊎ (subcommand ≡ sub.Canon)
    ⊎ (subcommand ≡ sub.Verify) ⊎ (subcommand ≡ sub.Draw)
HasOption subcommand name.Budget =
    (subcommand ≡ sub.Solve) ⊎ (subcommand ≡ sub.Empty) ⊎ (subcommand ≡ sub.Realize)
HasOption subcommand name.Search = (subcommand ≡ sub.Solve) ⊎ (subcommand ≡ sub.Empty)
HasOption subcommand name.By = subcommand ≡ sub.Solve
HasOption subcommand name.Effort = subcommand ≡ sub.Solve
HasOption subcommand name.Game = subcommand ≡ sub.Verify
HasOption subcommand name.Automaton = subcommand ≡ sub.Verify
HasOption subcommand name.Specification = subcommand ≡ sub.Verify
HasOption subcommand name.CounterStrategy = subcommand ≡ sub.Verify
HasOption subcommand name.Explain = (subcommand ≡ sub.Verify) ⊎ (subcommand ≡ sub.Accepts)
    ⊎ (subcommand ≡ sub.Contained) ⊎ (subcommand ≡ sub.Equal) ⊎ (subcommand ≡ sub.Satisfies)
HasOption subcommand name.Names = (subcommand ≡ sub.Verify) ⊎ (subcommand ≡ sub.Empty)
HasOption subcommand name.Word = subcommand ≡ sub.Empty
HasOption subcommand name.WordText = (subcommand ≡ sub.Accepts) ⊎ (subcommand ≡ sub.Satisfies)
HasOption subcommand name.ForSome = subcommand ≡ sub.Accepts
HasOption subcommand name.Formula = (subcommand ≡ sub.Satisfies) ⊎ (subcommand ≡ sub.Ltl)
    ⊎ (subcommand ≡ sub.Equal) ⊎ (subcommand ≡ sub.Realize) ⊎ (subcommand ≡ sub.Verify)
HasOption subcommand name.Outs = (subcommand ≡ sub.Realize) ⊎ (subcommand ≡ sub.Verify)
HasOption subcommand name.Ins = (subcommand ≡ sub.Realize) ⊎ (subcommand ≡ sub.Verify)
HasOption subcommand name.Negated = subcommand ≡ sub.Ltl
HasOption subcommand name.Deterministic = subcommand ≡ sub.Ltl
HasOption subcommand name.Status = subcommand ≡ sub.Empty
HasOption subcommand name.With = (subcommand ≡ sub.Meet) ⊎ (subcommand ≡ sub.Join)
HasOption subcommand name.Trim = subcommand ≡ sub.Meet
HasOption subcommand name.In = subcommand ≡ sub.Contained
HasOption subcommand name.To = subcommand ≡ sub.Equal
HasOption subcommand name.Controller = subcommand ≡ sub.Realize
HasOption subcommand name.AsGame = subcommand ≡ sub.Realize
HasOption subcommand name.Aiger = subcommand ≡ sub.Realize
HasOption subcommand name.Binary = (subcommand ≡ sub.Realize) ⊎ (subcommand ≡ sub.Canon)
HasOption subcommand name.Lift = subcommand ≡ sub.Realize
HasOption subcommand name.Solution = subcommand ≡ sub.Draw
HasOption subcommand name.Walk = subcommand ≡ sub.Draw
HasOption subcommand name.Legend = subcommand ≡ sub.Draw
HasOption subcommand name.Lasso = subcommand ≡ sub.Draw
HasOption subcommand name.Depth = subcommand ≡ sub.Draw
HasOption subcommand name.Progress =
    (subcommand ≡ sub.Solve) ⊎ (subcommand ≡ sub.Empty) ⊎ (subcommand ≡ sub.Realize)
HasOption subcommand name.Stream = (subcommand ≡ sub.Empty) ⊎ (subcommand ≡ sub.Contained)
    ⊎ (subcommand ≡ sub.Satisfies) ⊎ (subcommand ≡ sub.Complement) ⊎ (subcommand ≡ sub.Trim)
HasOption subcommand name.AtLeast = (subcommand ≡ sub.Check) ⊎ (subcommand ≡ sub.Empty)
    ⊎ (subcommand ≡ sub.Contained) ⊎ (subcommand ≡ sub.Satisfies) ⊎ (subcommand ≡ sub.Complement)
    ⊎ (subcommand ≡ sub.Trim)
HasOption subcommand name.Winners = subcommand ≡ sub.Verify
HasOption subcommand name.Min = subcommand ≡ sub.Canon
HasOption subcommand name.Json = subcommand ≡ sub.Show
HasOption subcommand name.Lenient = HasGames subcommand
HasOption subcommand name.Verbose = Unit {0}
HasOption subcommand name.File = Unit {0}
