-- `lost_by`: a lasso against the player's choices begins at a node given to the player.
use Rattle.omega_game_values.proofs.solutions.Given.{given-wins, given-within}
use Rattle.omega_answers_game.proofs.Explaining.{cycle-inside, found-none, found-some, loses-given, stem-inside}
use Rattle.omega_answers_game.proofs.verify.explaining.lost_by.Goals as goal

pub counterexample-requires-clause-places : goal.counterexample-requires-clause-places
counterexample-requires-clause-places c =
    rw c.as_slice.ensures.value (given-within c.args.solution.now c.args.player _ _ c.in_ok-places.ensures.given c.requires.winners)

pub returns-clause-wins : goal.returns-clause-wins
returns-clause-wins c =
    let given = given-wins c.args.game.now c.args.solution.now c.args.player _ c.in_ok-places.ensures.given c.requires.winners in
    found-none c.in_ok-found.found _
    (λ none. given.0 ((rw (c.as_slice.ensures.value, c.strategy-strategy.ensures) at c.in_ok-found.ensures.none).0 none))

pub returns-clause-loses : goal.returns-clause-loses
returns-clause-loses c =
    found-some c.in_ok-found.found _ _
    (λ lasso lost. loses-given c.args.game.now c.args.solution.now c.args.player _ _ lasso c.requires.winners c.strategy-strategy.ensures
    c.in_ok-places.ensures.given (rw c.as_slice.ensures.value at lost))
    c.in_ok-found.ensures.lasso

pub returns-clause-inside : goal.returns-clause-inside
returns-clause-inside c =
    let inside = given-within c.args.solution.now c.args.player _ _ c.in_ok-places.ensures.given c.requires.winners in
    found-some c.in_ok-found.found _ _
    (λ lasso lost. stem-inside c.args.game.now c.args.player _ c.keeps_limits.ensures.game c.in_ok-places.places.items lasso inside (rw c.as_slice.ensures.value at lost))
    c.in_ok-found.ensures.lasso

pub returns-clause-round : goal.returns-clause-round
returns-clause-round c =
    let inside = given-within c.args.solution.now c.args.player _ _ c.in_ok-places.ensures.given c.requires.winners in
    found-some c.in_ok-found.found _ _
    (λ lasso lost. cycle-inside c.args.game.now c.args.player _ c.keeps_limits.ensures.game c.in_ok-places.places.items lasso inside (rw c.as_slice.ensures.value at lost))
    c.in_ok-found.ensures.lasso
