-- The format of a text, where a subcommand takes several.
use Rattle.std.proofs.Common.{◌≢◌, ◌∙◌, inl, refl, sym}
use Rattle.omega_cli_command.specs.Faulty.{IsFaulty}
use Rattle.omega_cli_command.specs.Formats.{AsksOfAny, LeavesFormat, for_automata, for_circuits}
use Rattle.omega_cli_command.specs.Mistakes.{IsMistake}
use Rattle.omega_cli_command.specs.Options.{GivesFormat}
use Rattle.omega_cli_command.specs.Subcommands.{HasOption}
use Rattle.omega_cli_command.specs.Task.{AsksFor}
use Rattle.omega_cli_command.specs.declared.command.Command.TheVariants as command
use Rattle.omega_cli_command.specs.declared.format.Format.TheVariants.{Aiger, Hoa}
use Rattle.omega_cli_command.specs.declared.mistake.Mistake.{Mistake}
use Rattle.omega_cli_command.specs.declared.mistake.Mistake.TheVariants as mistake
use Rattle.omega_cli_command.specs.declared.one_text.OneText.{OneText}
use Rattle.omega_cli_command.specs.declared.one_text.OneText.TheVariants as one
use Rattle.omega_cli_command.specs.declared.options.OptionName.TheVariants as name
use Rattle.omega_cli_command.specs.declared.options.Options.{Options}
use Rattle.omega_cli_command.specs.declared.subcommand.Subcommand.{Subcommand}
use Rattle.omega_cli_command.specs.private.Tasks.{default_task}

-- what is wrong with the format is a mistake if it is not left to a text
pub format_is_mistaken : (subcommand : Subcommand) (options : Options) (found : Mistake) → HasOption subcommand name.Format
    → (LeavesFormat options → ⊥) → IsFaulty name.Format options found → IsMistake subcommand options found
format_is_mistaken subcommand options (mistake.Missing option) has left (is, required, none) =
    inl (rw is has, rw is (refl, required, none), λ _. left, λ formula. absurd (cc (sym is ∙ formula)), λ word. absurd (cc (sym is ∙ word)))
format_is_mistaken subcommand options (mistake.Value option text reason) has left (is, given, nothing, why) =
    (rw is has, inl (rw is (refl, given, nothing, why)))
format_is_mistaken subcommand options mistake.Unknown has left faulty = absurd faulty
format_is_mistaken subcommand options (mistake.Conflict one other) has left faulty = absurd faulty
format_is_mistaken subcommand options (mistake.OnlyWith option format) has left faulty = absurd faulty
format_is_mistaken subcommand options mistake.Memory has left faulty = absurd faulty

-- a command of automata, or of circuits, is asked for with their format, if that of games in its place is without one
pub others_are_asked : (subcommand : Subcommand) (options : Options) (game : OneText) → AsksOfAny subcommand options game
    → (GivesFormat options Hoa → AsksFor subcommand options (default_task (for_automata (command.OneText game))))
    × (GivesFormat options Aiger → game ≢ one.DrawGame
    → AsksFor subcommand options (default_task (for_circuits (command.OneText game))))
others_are_asked subcommand options one.Show asks =
    (λ format. ((format, asks), rw asks.0 (refl, refl)), λ format _. ((format, asks), rw asks.0 (refl, refl)))
others_are_asked subcommand options one.ShowJson asks =
    (λ format. ((format, asks), rw asks.0 (refl, refl)), λ format _. ((format, asks), rw asks.0 (refl, refl)))
others_are_asked subcommand options one.Check asks =
    (λ format. ((format, asks.0, rw asks.1 refl), rw asks.0 (refl, refl)), λ format _. ((format, asks), rw asks.0 (refl, refl)))
others_are_asked subcommand options one.Canon asks = (
  λ format. ((format, asks), rw asks.0 (refl, refl)),
  λ format _. ((asks.0, format, asks.1, asks.2, asks.3), rw asks.0 (refl, refl)),
)
others_are_asked subcommand options one.DrawGame asks =
    (λ format. ((format, asks), rw asks.0 (refl, refl)), λ format other. absurd (other refl))
others_are_asked subcommand options (one.CanonPart from) asks = absurd asks
others_are_asked subcommand options (one.CanonLeast from) asks = absurd asks
others_are_asked subcommand options one.ShowCircuit asks = absurd asks
others_are_asked subcommand options one.ShowCircuitJson asks = absurd asks
others_are_asked subcommand options one.CheckCircuit asks = absurd asks
others_are_asked subcommand options (one.CanonCircuit binary) asks = absurd asks
others_are_asked subcommand options (one.Solve player from) asks = absurd asks
others_are_asked subcommand options (one.Search from by effort) asks = absurd asks
others_are_asked subcommand options (one.Empty word names status) asks = absurd asks
others_are_asked subcommand options (one.EmptySearch word names status) asks = absurd asks
others_are_asked subcommand options one.Game asks = absurd asks
others_are_asked subcommand options one.CircuitAutomaton asks = absurd asks
others_are_asked subcommand options one.Complement asks = absurd asks
others_are_asked subcommand options one.Trim asks = absurd asks
others_are_asked subcommand options (one.Ltl negated) asks = absurd asks
others_are_asked subcommand options (one.LtlDeterministic negated) asks = absurd asks
others_are_asked subcommand options (one.Realize controller) asks = absurd asks
others_are_asked subcommand options (one.RealizeByLifting controller) asks = absurd asks
others_are_asked subcommand options (one.RealizeCircuit binary) asks = absurd asks
others_are_asked subcommand options one.RealizabilityGame asks = absurd asks
others_are_asked subcommand options (one.DrawPart from depth) asks = absurd asks
others_are_asked subcommand options one.DrawAutomaton asks = absurd asks
others_are_asked subcommand options one.DrawLasso asks = absurd asks
