-- `judged`: what is accepted is exact.
use Rattle.std.proofs.Common.{rules, ◌≡◌, length}
use Rattle.omega_game_search.proofs.Accepting.{is_exact}
use Rattle.omega_game_search.proofs.judging.winning_solution.Goals as goal

pub returns-clause-exact : goal.returns-clause-exact
returns-clause-exact c =
    let entries : length c.from_vec.result ≡ length c.args.game.now = search rules in
    let given_zero : c.from_vec.result ≡ c.as_slice.result.now = search rules in
    let given_one : c.from_vec.result ≡ c.as_slice-3.result.now = search rules in
    is_exact c.args.game.now _ c.regions_are_apart.ensures c.keeps_limits.ensures.game entries
    (rw given_zero c.in_ok-zero.ensures.chosen) (rw given_one c.in_ok-one.ensures.chosen)
    (c.in_ok-is_accepted.ensures.accepted c.if-not-branch.false)
