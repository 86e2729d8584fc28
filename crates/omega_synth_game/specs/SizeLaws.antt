-- Laws of the sizes of the game of an automaton: they are numbers of the automaton, whoever lists the classes of its
-- states, and so a game is too large in one way or not at all.
use Rattle.std.specs.Prelude.{◌≡◌, ℕ, List, length}
use Rattle.omega_text.specs.declared.refusal.game.GameFault.{GameFault}
use Rattle.omega_text.specs.declared.refusal.task.TaskFault.{TaskFault}
use Rattle.omega_hoa_automaton.specs.Automaton.{Description}
use Rattle.omega_synth_game.specs.Making.{AreClassesOf, IsMakingFault, IsSomeUnjudged}
use Rattle.omega_synth_game.specs.Sizes.{IsGameSmall, IsSizeFault, edge_total, node_total}

-- however the classes of all states are listed, the game has as many nodes and as many edges
abbrev pub GameSizesAreOne : Type 0
GameSizesAreOne = (a : Description) (controlled : List ℕ) (one other : List (List (List ℕ)))
    → length one ≡ a.states → AreClassesOf a controlled one
    → length other ≡ a.states → AreClassesOf a controlled other
    → (node_total a one ≡ node_total a other) × (edge_total a one ≡ edge_total a other)

-- a game that is too large is not small
abbrev pub LargeGamesAreNotSmall : Type 0
LargeGamesAreNotSmall = (a : Description) (controlled : List ℕ) (fault : GameFault)
    → IsSizeFault a controlled fault → ¬ IsGameSmall a controlled

-- a game has one fault of its size
abbrev pub SizeFaultsAreOne : Type 0
SizeFaultsAreOne = (a : Description) (controlled : List ℕ) (one other : GameFault)
    → IsSizeFault a controlled one → IsSizeFault a controlled other → one ≡ other

-- if a game is too large, no state mentions too many inputs where this would refuse the rounds: they have no fault but
-- that a label is not judged
abbrev pub LargeGamesMentionFew : Type 0
LargeGamesMentionFew = (a : Description) (controlled : List ℕ) (size : GameFault) (fault : TaskFault)
    → IsSizeFault a controlled size → (making : IsMakingFault a controlled fault)
    → IsSomeUnjudged a controlled making.numbers fault
