-- What `realize` is asked of a formula, by its flags.
use Rattle.std.specs.Prelude.{Bool, false, true}
use Rattle.omega_cli_command.specs.declared.synthesis.Synthesis.{Synthesis}
use Rattle.omega_cli_command.specs.declared.synthesis.Synthesis.TheVariants as asked

-- for the game, or else for the winner's automaton, or else for a circuit, or else for the decision
abbrev pub synthesis_asked : (controller as_game aiger binary : Bool) → Synthesis
synthesis_asked controller true aiger binary = asked.Game
synthesis_asked true false aiger binary = asked.Controller
synthesis_asked false false true binary = asked.Circuit binary
synthesis_asked false false false binary = asked.Decide
