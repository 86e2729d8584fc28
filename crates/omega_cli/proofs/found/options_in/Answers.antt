-- `options_in`: the first value of an id is that of its row.
use Rattle.std.proofs.Common.{◌∙◌, ap, List, [], Option, ℕ, slice_get, unwrap_or}
use Rattle.clap.proofs.WalkLemmas.{first_value-rows, raw_values-rows}
use Rattle.clap.specs.Words.{found_of, rows_of}
use Rattle.omega_cli.specs.Found.{id_of}
use Rattle.omega_cli_command.specs.declared.options.OptionName.TheVariants.{Aiger, AsGame, AtLeast, Automaton, Binary, Budget, By, Controller, CounterStrategy, Depth, Deterministic, Effort, Explain, File, ForSome, Format, Formula, From, Game, In, Ins, Json, Lasso, Legend, Lenient, Lift, Min, Names, Negated, Outs, Player, Progress, Search, Solution, Specification, Status, Stream, To, Trim, Verbose, Walk, Winners, With, Word, WordText}
use Rattle.omega_cli.proofs.Formulas.{first_given}
use Rattle.omega_cli.proofs.found.options_in.Goals as goal

pub returns-clause-formulas : goal.returns-clause-formulas
returns-clause-formulas c =
    ap (λ (given : Option (List (List ℕ))). unwrap_or given []) (c.get_strs.ensures ∙ raw_values-rows (found_of c.args.found.now) (id_of Formula))

pub returns-clause-texts : goal.returns-clause-texts
returns-clause-texts c Format = c.get_str.ensures ∙ first_value-rows (found_of c.args.found.now) (id_of Format)
returns-clause-texts c Player = c.get_str-2.ensures ∙ first_value-rows (found_of c.args.found.now) (id_of Player)
returns-clause-texts c From = c.get_str-3.ensures ∙ first_value-rows (found_of c.args.found.now) (id_of From)
returns-clause-texts c Budget = c.get_str-4.ensures ∙ first_value-rows (found_of c.args.found.now) (id_of Budget)
returns-clause-texts c Search = c.get_str-5.ensures ∙ first_value-rows (found_of c.args.found.now) (id_of Search)
returns-clause-texts c By = c.get_str-6.ensures ∙ first_value-rows (found_of c.args.found.now) (id_of By)
returns-clause-texts c Effort = c.get_str-7.ensures ∙ first_value-rows (found_of c.args.found.now) (id_of Effort)
returns-clause-texts c Game = c.get_str-8.ensures ∙ first_value-rows (found_of c.args.found.now) (id_of Game)
returns-clause-texts c Automaton = c.get_str-9.ensures ∙ first_value-rows (found_of c.args.found.now) (id_of Automaton)
returns-clause-texts c Specification = c.get_str-10.ensures ∙ first_value-rows (found_of c.args.found.now) (id_of Specification)
returns-clause-texts c CounterStrategy = c.get_str-11.ensures ∙ first_value-rows (found_of c.args.found.now) (id_of CounterStrategy)
returns-clause-texts c Explain = c.get_str-12.ensures ∙ first_value-rows (found_of c.args.found.now) (id_of Explain)
returns-clause-texts c Names = c.get_str-13.ensures ∙ first_value-rows (found_of c.args.found.now) (id_of Names)
returns-clause-texts c Word = c.get_str-14.ensures ∙ first_value-rows (found_of c.args.found.now) (id_of Word)
returns-clause-texts c WordText = c.get_str-15.ensures ∙ first_value-rows (found_of c.args.found.now) (id_of WordText)
returns-clause-texts c ForSome = c.get_str-16.ensures ∙ first_value-rows (found_of c.args.found.now) (id_of ForSome)
returns-clause-texts c Formula =
    ap (λ (given : Option (List (List ℕ))). slice_get (unwrap_or given []) 0) (c.get_strs.ensures ∙ raw_values-rows (found_of c.args.found.now) (id_of Formula))
    ∙ first_given (rows_of (found_of c.args.found.now))
returns-clause-texts c Outs = c.get_str-17.ensures ∙ first_value-rows (found_of c.args.found.now) (id_of Outs)
returns-clause-texts c Ins = c.get_str-18.ensures ∙ first_value-rows (found_of c.args.found.now) (id_of Ins)
returns-clause-texts c Negated = c.get_str-19.ensures ∙ first_value-rows (found_of c.args.found.now) (id_of Negated)
returns-clause-texts c Deterministic = c.get_str-20.ensures ∙ first_value-rows (found_of c.args.found.now) (id_of Deterministic)
returns-clause-texts c Status = c.get_str-21.ensures ∙ first_value-rows (found_of c.args.found.now) (id_of Status)
returns-clause-texts c With = c.get_str-22.ensures ∙ first_value-rows (found_of c.args.found.now) (id_of With)
returns-clause-texts c Trim = c.get_str-23.ensures ∙ first_value-rows (found_of c.args.found.now) (id_of Trim)
returns-clause-texts c In = c.get_str-24.ensures ∙ first_value-rows (found_of c.args.found.now) (id_of In)
returns-clause-texts c To = c.get_str-25.ensures ∙ first_value-rows (found_of c.args.found.now) (id_of To)
returns-clause-texts c Controller = c.get_str-26.ensures ∙ first_value-rows (found_of c.args.found.now) (id_of Controller)
returns-clause-texts c AsGame = c.get_str-27.ensures ∙ first_value-rows (found_of c.args.found.now) (id_of AsGame)
returns-clause-texts c Aiger = c.get_str-28.ensures ∙ first_value-rows (found_of c.args.found.now) (id_of Aiger)
returns-clause-texts c Binary = c.get_str-29.ensures ∙ first_value-rows (found_of c.args.found.now) (id_of Binary)
returns-clause-texts c Lift = c.get_str-30.ensures ∙ first_value-rows (found_of c.args.found.now) (id_of Lift)
returns-clause-texts c Solution = c.get_str-31.ensures ∙ first_value-rows (found_of c.args.found.now) (id_of Solution)
returns-clause-texts c Walk = c.get_str-32.ensures ∙ first_value-rows (found_of c.args.found.now) (id_of Walk)
returns-clause-texts c Legend = c.get_str-33.ensures ∙ first_value-rows (found_of c.args.found.now) (id_of Legend)
returns-clause-texts c Lasso = c.get_str-34.ensures ∙ first_value-rows (found_of c.args.found.now) (id_of Lasso)
returns-clause-texts c Depth = c.get_str-35.ensures ∙ first_value-rows (found_of c.args.found.now) (id_of Depth)
returns-clause-texts c Progress = c.get_str-36.ensures ∙ first_value-rows (found_of c.args.found.now) (id_of Progress)
returns-clause-texts c Stream = c.get_str-37.ensures ∙ first_value-rows (found_of c.args.found.now) (id_of Stream)
returns-clause-texts c AtLeast = c.get_str-38.ensures ∙ first_value-rows (found_of c.args.found.now) (id_of AtLeast)
returns-clause-texts c Winners = c.get_str-39.ensures ∙ first_value-rows (found_of c.args.found.now) (id_of Winners)
returns-clause-texts c Min = c.get_str-40.ensures ∙ first_value-rows (found_of c.args.found.now) (id_of Min)
returns-clause-texts c Json = c.get_str-41.ensures ∙ first_value-rows (found_of c.args.found.now) (id_of Json)
returns-clause-texts c Lenient = c.get_str-42.ensures ∙ first_value-rows (found_of c.args.found.now) (id_of Lenient)
returns-clause-texts c Verbose = c.get_str-43.ensures ∙ first_value-rows (found_of c.args.found.now) (id_of Verbose)
returns-clause-texts c File = c.get_str-44.ensures ∙ first_value-rows (found_of c.args.found.now) (id_of File)
