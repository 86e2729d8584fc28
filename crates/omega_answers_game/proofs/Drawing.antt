-- What refuses the drawing of a game that was read refuses that of its text.
use Rattle.std.proofs.Common.{List, Option, None, Some, ℕ, refl}
use Rattle.omega_text.specs.Cases.{or_memory}
use Rattle.omega_text.specs.declared.refusal.Refusal.{Refusal}
use Rattle.omega_text.specs.declared.refusal.Refusal.TheVariants.{Automaton, Circuit, Game, Io, Memory, Task, Text}
use Rattle.omega_io.specs.Refused.{IsAbout}
use Rattle.omega_io.specs.declared.refused.Which.{Which}
use Rattle.omega_io.specs.declared.refused.Which.TheVariants.{File, Input}
use Rattle.omega_game_values.specs.Game.{Node}
use Rattle.omega_pg.specs.game.Text.{IsGameText}
use Rattle.omega_answers_game.specs.Part.{HasIdentifier, IsPartText}
use Rattle.omega_answers_game.specs.Verify.{IsJudgedGame, IsJudgedGameRefusal}
use Rattle.omega_answers_game.specs.private.steps.Drawn.{IsUnknownFrom}
use Rattle.omega_answers_game.proofs.Parts.{part_has_identifier}

-- a refusal of one of two texts, if what refuses them is said otherwise
pub about_as : (none file input file' input' : Refusal → Type 0) (text : Option Which) (refusal : Refusal) → (file refusal → file' refusal)
    → (input refusal → input' refusal) → IsAbout none file input text refusal → IsAbout none file' input' text refusal
about_as none file input file' input' None refusal of_file of_input about = about
about_as none file input file' input' (Some File) refusal of_file of_input about = of_file about
about_as none file input file' input' (Some Input) refusal of_file of_input about = of_input about

-- an identifier that no node of the game has
pub unknown_refused_or_memory : (text : List ℕ) (game : List Node) (from : Option ℕ) (refusal : Refusal) → IsGameText text game
    → IsUnknownFrom game from refusal → or_memory (IsJudgedGameRefusal text from) refusal
unknown_refused_or_memory text game None refusal read unknown = absurd unknown
unknown_refused_or_memory text game (Some identifier) refusal read (is, unknown) =
    rw is (refl, record { game = game; read = read; unknown = unknown })

-- it is a refusal of drawing the game
pub unknown_or_memory : (game : List Node) (from : Option ℕ) (refusal : Refusal) → IsUnknownFrom game from refusal
    → or_memory (IsUnknownFrom game from) refusal
unknown_or_memory game None refusal unknown = absurd unknown
unknown_or_memory game (Some identifier) refusal (is, unknown) = rw is (refl, unknown)

-- a refusal of drawing the game is one of its text
pub unknown_text_or_memory : (text : List ℕ) (game : List Node) (from : Option ℕ) (refusal : Refusal) → IsGameText text game
    → or_memory (IsUnknownFrom game from) refusal → or_memory (IsJudgedGameRefusal text from) refusal
unknown_text_or_memory text game from Memory read h = tt
unknown_text_or_memory text game from (Task fault) read h = unknown_refused_or_memory text game from (Task fault) read h
unknown_text_or_memory text game from (Text fault) read h = unknown_refused_or_memory text game from (Text fault) read h
unknown_text_or_memory text game from (Game fault) read h = unknown_refused_or_memory text game from (Game fault) read h
unknown_text_or_memory text game from (Automaton fault) read h = unknown_refused_or_memory text game from (Automaton fault) read h
unknown_text_or_memory text game from (Circuit fault) read h = unknown_refused_or_memory text game from (Circuit fault) read h
unknown_text_or_memory text game from Io read h = unknown_refused_or_memory text game from Io read h

-- the part that the node of an identifier reaches has that node
part_has : (text : List ℕ) (game : List Node) (identifier : ℕ) → IsPartText text identifier game → (place : ℕ) × HasIdentifier game identifier place
part_has text game identifier part = part_has_identifier part.game game identifier part.part_of

-- so no identifier of a judged game is unknown
pub judged_known : (text : List ℕ) (game : List Node) (from : Option ℕ) (refusal : Refusal) → IsJudgedGame text from game
    → IsUnknownFrom game from refusal → ⊥
judged_known text game None refusal judged unknown = unknown
judged_known text game (Some identifier) refusal judged unknown =
    let has = part_has text game identifier judged in unknown.1 has.0 has.1
