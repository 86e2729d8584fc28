-- `may_choose`: successors are places of the game.
use Rattle.std.proofs.Common.{◌<◌, length}
use Rattle.std.proofs.lemmas.List.Elements.{All-same}
use Rattle.omega_pg_diagnostics.proofs.solutions.Choices.{successors_are_places}
use Rattle.omega_pg_diagnostics.proofs.solution_causes.may_choose.Goals as goal

pub has_id-requires : goal.has_id-requires
has_id-requires c =
    All-same (λ w. w < length c.args.game.now) _ _ c.successors.ensures
    (successors_are_places c.args.game.now c.args.place c.keeps_limits.ensures.game)
