-- `lifted_for_both`: what was found for both players is a right solution, and what was refused is a fault of the game.
use Rattle.std.proofs.Common.{None, ap, ◌∙◌, rules}
use Rattle.omega_game_values.specs.declared.player.Player.TheVariants.{One, Zero}
use Rattle.omega_answers_game.specs.declared.solve.asked.Asked.TheVariants.{Both}
use Rattle.omega_answers_game.specs.solve.Refusing.{IsSolveGameRefusal}
use Rattle.omega_answers_game.specs.solve.Winners.{winners_of}
use Rattle.omega_answers_game.proofs.Solving.{found_for, refused-solving, solving_for}
use Rattle.omega_answers_game.proofs.Solutions.{right_solution}
use Rattle.omega_arrays.proofs.lifting.lifted_for_both.Goals as goal

pub returns-in_err-zero-clause-refused : goal.returns-in_err-zero-clause-refused
returns-in_err-zero-clause-refused c =
    let refused : IsSolveGameRefusal c.args.game.now Both None c.args.budget c.in_err-zero.field-0.0 =
    refused-solving c.args.game.now Both Zero c.args.budget _ (λ fits other _. c.requires.narrow other) tt
    (solving_for _ _ c.requires.given Zero c.args.budget _ c.in_err-zero.ensures.refused) in
    search rules

pub returns-in_err-one-clause-refused : goal.returns-in_err-one-clause-refused
returns-in_err-one-clause-refused c =
    let refused : IsSolveGameRefusal c.args.game.now Both None c.args.budget c.in_err-one.field-0.0 =
    refused-solving c.args.game.now Both One c.args.budget _ (λ fits other _. c.requires.narrow other) tt
    (solving_for _ _ c.requires.given One c.args.budget _ c.in_err-one.ensures.refused) in
    search rules

pub returns-clause-exact : goal.returns-clause-exact
returns-clause-exact c =
    let same = c.requires.given in
    let narrow = c.requires.narrow in
    (right_solution c.args.game.now c.args.budget c.in_ok-zero.zero c.in_ok-one.one _ c.keeps_limits.ensures.game
    (narrow Zero) (narrow One) (found_for _ _ same Zero c.args.budget _ c.in_ok-zero.ensures.found) (found_for _ _ same One c.args.budget _ c.in_ok-one.ensures.found)
    (c.from_vec.ensures ∙ c.in_ok-winners.ensures.winners ∙ ap winners_of c.as_slice.ensures.value) c.from_vec-2.ensures
    c.from_vec-3.ensures c.regions_are_apart.ensures c.regions_cover.ensures).exact

pub returns-clause-lifts : goal.returns-clause-lifts
returns-clause-lifts c =
    let same = c.requires.given in (
      (found_for _ _ same Zero c.args.budget _ c.in_ok-zero.ensures.found).ended,
      (found_for _ _ same One c.args.budget _ c.in_ok-one.ensures.found).ended,
    )
