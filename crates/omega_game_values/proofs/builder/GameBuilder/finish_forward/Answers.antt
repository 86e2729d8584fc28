-- `GameBuilder::finish_forward`: the forward game of the specifications.
use Rattle.std.proofs.Common.{ℕ, ◌<◌, ◌≤◌, ◌+◌, None, [], length, get_or, arith, sym, ◌∙◌}
use Rattle.std.proofs.lemmas.Bool.{OnFalse_at}
use Rattle.std.proofs.lemmas.List.Sorted.{length_permutation}
use Rattle.omega_game_values.specs.declared.node_spec.NodeSpec.{NodeSpec}
use Rattle.omega_game_values.specs.declared.player.Player.TheVariants.{Zero}
use Rattle.omega_game_values.specs.private.layout.Collected.{ids_of}
use Rattle.omega_game_values.proofs.building.Duplicates.{fault_of-permutation, some_duplicate}
use Rattle.omega_game_values.proofs.building.Rearranged.{faultless-rearranged, game_of-rearranged, refused-rearranged}
use Rattle.omega_game_values.proofs.building.Refusals.{duplicate_refused}
use Rattle.omega_game_values.proofs.builder.GameBuilder.finish_forward.Goals as goal

-- any specification
none : NodeSpec
none = record { id = 0; priority = 0; owner = Zero; successors = []; name = None }

pub returns-then-not-has_rising_ids-clause-refused : goal.returns-then-not-has_rising_ids-clause-refused
returns-then-not-has_rising_ids-clause-refused c =
    let falls : (k : ℕ) × (k + 1 < length (ids_of c.in_ok-sorted.sorted)) × (get_or (ids_of c.in_ok-sorted.sorted) (k + 1) 0 ≤ get_or (ids_of c.in_ok-sorted.sorted) k 0) =
    OnFalse_at c.if-not-has_rising_ids.true c.has_rising_ids-2.ensures.falling in
    sym (fault_of-permutation c.args.self c.in_ok-sorted.sorted c.in_ok-sorted.ensures.permutation)
    ∙ duplicate_refused c.in_ok-sorted.sorted none (some_duplicate c.in_ok-sorted.sorted none falls.0 c.in_ok-sorted.ensures.rising falls.1 falls.2)

pub game_of_sorted-requires-2-clause-some : goal.game_of_sorted-requires-2-clause-some
game_of_sorted-requires-2-clause-some c = omega (arith, length_permutation c.args.self c.in_ok-sorted.sorted c.in_ok-sorted.ensures.permutation, c.requires)

pub game_of_sorted-requires-2-clause-rising : goal.game_of_sorted-requires-2-clause-rising
game_of_sorted-requires-2-clause-rising c = c.has_rising_ids-2.ensures.rising c.if-not-has_rising_ids.false

pub returns-clause-game : goal.returns-clause-game
returns-clause-game c = game_of-rearranged c.game_of_sorted-2.result c.args.self c.in_ok-sorted.sorted c.in_ok-sorted.ensures.permutation c.game_of_sorted-2.ensures.game

pub returns-clause-faultless : goal.returns-clause-faultless
returns-clause-faultless c = faultless-rearranged c.game_of_sorted-2.result c.args.self c.in_ok-sorted.sorted c.in_ok-sorted.ensures.permutation c.game_of_sorted-2.ensures.faultless

pub returns-clause-refused : goal.returns-clause-refused
returns-clause-refused c = refused-rearranged c.game_of_sorted-2.result c.args.self c.in_ok-sorted.sorted c.in_ok-sorted.ensures.permutation c.game_of_sorted-2.ensures.refused
