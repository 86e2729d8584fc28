-- `wins_given`: winning from the places given to a player is winning from the nodes given to that player.
use Rattle.std.proofs.lemmas.Result.{IfOk-weaker}
use Rattle.omega_game_values.proofs.solutions.Given.{given-wins, given-within}
use Rattle.omega_answers_game.proofs.verify.wins_given.Goals as goal

pub check_strategy-requires-clause-places : goal.check_strategy-requires-clause-places
check_strategy-requires-clause-places c =
    rw c.as_slice.ensures.value (given-within c.args.solution.now c.args.player _ _ c.in_ok-places.ensures.given c.requires.winners)

pub returns-clause-wins : goal.returns-clause-wins
returns-clause-wins c =
    let given = given-wins c.args.game.now c.args.solution.now c.args.player _ c.in_ok-places.ensures.given c.requires.winners in
    IfOk-weaker c.check_strategy.result _ _ (λ answer wins. (λ t. given.0 (wins.0 t), λ all. wins.1 (given.1 all)))
    (rw (c.as_slice.ensures.value, c.strategy-strategy.ensures) at c.check_strategy.ensures.wins)
