-- `write_game`: a line for each place, after the header.
use Rattle.std.proofs.Common.{arith}
use Rattle.omega_game_values.specs.Game.{greatest_identifier}
use Rattle.omega_pg.specs.game.Canonical.{header_line}
use Rattle.omega_pg.proofs.games.Lines.{all_lines, lines_more}
use Rattle.omega_pg.proofs.game.writing.write_game.Goals as goal

pub loop-place-preserved : goal.loop-place-preserved
loop-place-preserved c =
    lines_more c.args.game.now c.loop-place.place (header_line (greatest_identifier c.args.game.now)) _ _
    (omega (arith, c.loop-place-test.true, c.loop-place.auto.place-end, c.len-nodes.ensures.count)) c.loop-place.invariant c.in_ok-write_node.ensures.ok

pub returns-clause-text : goal.returns-clause-text
returns-clause-text c =
    all_lines c.args.game.now c.loop-place.place c.loop-place.out.items
    (omega (arith, c.loop-place-test.false, c.loop-place.auto.place-end, c.len-nodes.ensures.count)) c.loop-place.invariant
