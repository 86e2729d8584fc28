-- What refuses to lift for both players in turns refuses the game.
use Rattle.std.proofs.Common.{List, ℕ}
use Rattle.omega_text.specs.declared.refusal.Refusal.{Refusal}
use Rattle.omega_text.specs.declared.refusal.Refusal.TheVariants.{Automaton, Circuit, Game, Io, Memory, Task, Text}
use Rattle.omega_game_values.specs.Game.{Node}
use Rattle.omega_answers_game.specs.declared.solve.asked.Asked.TheVariants.{Both}
use Rattle.omega_answers_game.specs.solve.Refusing.{IsWideRefusal}
use Rattle.omega_arrays.specs.Solving.{IsWholeRefusal}

pub whole_refused : (nodes : List Node) (budget : ℕ) (refusal : Refusal) → IsWideRefusal nodes Both refusal → IsWholeRefusal nodes budget refusal
whole_refused nodes budget (Task fault) (e, wide) = rw e wide
whole_refused nodes budget Memory h = tt
whole_refused nodes budget (Text fault) h = h
whole_refused nodes budget (Game fault) h = h
whole_refused nodes budget (Automaton fault) h = h
whole_refused nodes budget (Circuit fault) h = h
whole_refused nodes budget Io h = h
