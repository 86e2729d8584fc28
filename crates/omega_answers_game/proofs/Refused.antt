-- A refusal of a part of a game is a refusal of that part of the text of the game.
use Rattle.std.proofs.Common.{List, ℕ}
use Rattle.omega_text.specs.Cases.{or_memory}
use Rattle.omega_text.specs.declared.refusal.Refusal.{Refusal}
use Rattle.omega_text.specs.declared.refusal.Refusal.TheVariants.{Automaton, Circuit, Game, Io, Memory, Task, Text}
use Rattle.omega_game_values.specs.Game.{Node}
use Rattle.omega_pg.specs.game.Text.{IsGameText}
use Rattle.omega_answers_game.specs.Part.{IsPartTextRefusal}
use Rattle.omega_answers_game.specs.private.steps.PartRefusal.{IsPartRefusal}

-- the part that a node reaches
pub part-refused : (text : List ℕ) (game : List Node) (identifier : ℕ) (refusal : Refusal) → IsGameText text game
    → IsPartRefusal game identifier refusal → or_memory (IsPartTextRefusal text identifier) refusal
part-refused text game identifier (Task fault) read h = (h.0, record { game = game; read = read; unknown = h.1 })
part-refused text game identifier Memory read h = tt
part-refused text game identifier (Text fault) read h = absurd h
part-refused text game identifier (Game fault) read h = absurd h
part-refused text game identifier (Automaton fault) read h = absurd h
part-refused text game identifier (Circuit fault) read h = absurd h
part-refused text game identifier Io read h = absurd h
