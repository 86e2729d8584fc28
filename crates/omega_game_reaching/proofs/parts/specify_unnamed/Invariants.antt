-- What holds in the loop of `specify_unnamed`: adds the specification of the node at a place, without its name.
use Rattle.std.proofs.Common.{◌≡◌, ◌∷◌, ◌++◌, [], take}
use Rattle.omega_game_values.specs.Game.{node_at}
use Rattle.omega_game_reaching.proofs.Specifying.{with_list}
use Rattle.omega_game_reaching.proofs.parts.specify_unnamed.Given as goal

abbrev pub invariant-loop-index : goal.invariant-loop-index
invariant-loop-index l = l.builder ≡ l.fn.builder ++ with_list l.game (node_at l.game l.place) (take l.index l.successors) ∷ []
