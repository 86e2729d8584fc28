-- the winner's choices win
use Rattle.std.proofs.Common.{◌≡◌, ◌<◌, List, Option, ℕ, length, sym, ap, ◌∙◌, subst, arith, get_or}
use Rattle.omega_game_values.specs.Solution.{winner_at}
use Rattle.omega_game_values.specs.declared.player.Player.{Player}
use Rattle.omega_game_values.specs.declared.player.Player.TheVariants.{One, Zero}
use Rattle.omega_synth_rounds.specs.Extracting.{IsWinningFrom}
use Rattle.omega_synth_realize.proofs.Strategies.{game_count, solution_wins}
use Rattle.omega_synth_realize.proofs.solving.by_solution.Goals as goal

pub bounds-as_slice-start : goal.bounds-as_slice-start
bounds-as_slice-start c =
    omega (arith, ap length c.as_slice.ensures, c.requires.exact.fits.winners, game_count c.args.rounds.now c.args.game.now c.requires.game)

pub controller_outcome-requires-clause-winning : goal.controller_outcome-requires-clause-winning
controller_outcome-requires-clause-winning c =
    let below : c.args.start < length c.args.game.now = omega (arith, game_count c.args.rounds.now c.args.game.now c.requires.game) in
    let won : winner_at c.args.solution.now c.args.start ≡ Zero =
    ap (λ (list : List Player). get_or list c.args.start Zero) (sym c.as_slice.ensures) ∙ c.in-Zero.is in
    subst (λ (choices : List (Option ℕ)). IsWinningFrom c.args.game.now Zero choices c.args.start) (sym c.as_slice-in-Zero.ensures)
    (solution_wins c.choices_are_entries.ensures c.args.game.now c.args.solution.now c.requires.exact Zero c.args.start below won)

pub counter_strategy_outcome-requires-clause-winning : goal.counter_strategy_outcome-requires-clause-winning
counter_strategy_outcome-requires-clause-winning c =
    let below : c.args.start < length c.args.game.now = omega (arith, game_count c.args.rounds.now c.args.game.now c.requires.game) in
    let won : winner_at c.args.solution.now c.args.start ≡ One =
    ap (λ (list : List Player). get_or list c.args.start Zero) (sym c.as_slice.ensures) ∙ c.in-One.is in
    subst (λ (choices : List (Option ℕ)). IsWinningFrom c.args.game.now One choices c.args.start) (sym c.as_slice-in-One.ensures)
    (solution_wins c.choices_are_entries.ensures c.args.game.now c.args.solution.now c.requires.exact One c.args.start below won)
