-- `first_repeat`: no identifiers differ at first, and the first that is not new came before.
use Rattle.std.proofs.Common.{◌≡◌, false, not, get_or, rules}
use Rattle.omega_pg_diagnostics.specs.GameCauses.{is_among}
use Rattle.omega_pg_diagnostics.proofs.games.Repeats.{first_repeat_at, none_differ}
use Rattle.omega_pg_diagnostics.proofs.game_causes.first_repeat.Goals as goal

pub loop-id-init : goal.loop-id-init
loop-id-init c = record { so_far = c.requires; different = none_differ }

pub returns-then-not-branch-clause-repeat : goal.returns-then-not-branch-clause-repeat
returns-then-not-branch-clause-repeat c =
    let again : false ≡ not (is_among (get_or c.args.ids.now c.loop-id.id-index 0) c.loop-id.nodes.keys) = search rules in
    first_repeat_at c.args.ids.now c.loop-id.nodes.keys c.loop-id.id-index c.loop-id-test.true c.loop-id.invariant.so_far
    c.loop-id.invariant.different again
