-- the states so far are exclusive
use Rattle.std.proofs.Common.{ℕ, ◌<◌, get_or}
use Rattle.omega_hoa_edges.specs.AutomatonLabels.{labels_of, undefined}
use Rattle.omega_hoa_edges.specs.Letters.{AreExclusive}
use Rattle.omega_synth_game.proofs.exclusive.are_seen_apart.Given as goal

abbrev pub invariant-loop-state : goal.invariant-loop-state
invariant-loop-state l =
    (place : ℕ) → place < l.state-index → (count : ℕ) → AreExclusive (labels_of count (get_or l.states place (undefined 0)))
