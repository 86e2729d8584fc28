-- What holds in the loop of `Solution::places_given`: the places found so far are those given to the player
-- before the one looked at.
use Rattle.omega_game_values.proofs.solutions.Given.{AreGivenBefore}
use Rattle.omega_game_values.proofs.solution.Solution.places_given.Given as goal

abbrev pub invariant-loop-place : goal.invariant-loop-place
invariant-loop-place l = AreGivenBefore l.self.winners l.player l.place l.places.items
