-- `said_choice`: the choice that a line says, or why it is wrong.
use Rattle.std.proofs.Common.{inr, ◌<◌, ◌≢◌, length, sym}
use Rattle.std.proofs.lemmas.List.Elements.{All-same}
use Rattle.omega_game_values.specs.Game.{identifier_at}
use Rattle.omega_pg.proofs.solutions.Judging.{none_mapped}
use Rattle.omega_pg.proofs.games.Listed.{successors_are_places}
use Rattle.omega_pg.proofs.solution.lines.said_choice.Goals as goal

pub place_with-requires : goal.place_with-requires
place_with-requires c =
    All-same (λ w. w < length c.args.game.now) _ _ c.successors.ensures (successors_are_places c.args.game.now c.args.place c.len.ensures.game)

pub returns-in-Some-clause-wrong : goal.returns-in-Some-clause-wrong
returns-in-Some-clause-wrong c =
    none_mapped c.place_with.result c.map.result _ _ c.map.ensures.variant
    (λ others. inr (inr (rw c.in-Some.is
    (inr (All-same (λ w. identifier_at c.args.game.now w ≢ c.in-Some.chosen) _ _ (sym c.successors.ensures) others)))))
    c.place_with.ensures.none
