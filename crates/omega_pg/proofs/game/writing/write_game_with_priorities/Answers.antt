-- `write_game_with_priorities`: a line for each place, after the header.
use Rattle.std.proofs.Common.{arith}
use Rattle.omega_game_values.specs.Game.{greatest_identifier}
use Rattle.omega_pg.specs.game.Canonical.{header_line}
use Rattle.omega_pg.proofs.games.Prioritized.{all_written, nodes_more, prioritized}
use Rattle.omega_pg.proofs.game.writing.write_game_with_priorities.Goals as goal

pub loop-place-preserved : goal.loop-place-preserved
loop-place-preserved c =
    nodes_more (prioritized c.args.game.now c.args.priorities.now) c.loop-place.place (header_line (greatest_identifier c.args.game.now)) _ _
    c.loop-place.invariant c.in_ok-write_node_with.ensures.ok

pub returns-clause-text : goal.returns-clause-text
returns-clause-text c =
    all_written c.args.game.now c.args.priorities.now c.loop-place.place c.loop-place.out.items
    (omega (arith, c.loop-place-test.false, c.loop-place.auto.place-end, c.len-nodes.ensures.count)) c.loop-place.invariant
