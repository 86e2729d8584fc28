-- `write_solution`: a line for each place, after the header.
use Rattle.std.proofs.Common.{arith}
use Rattle.omega_pg.specs.solution.Text.{line_at}
use Rattle.omega_pg.proofs.solutions.Choices.{lines_more, solution_front, text_written}
use Rattle.omega_pg.proofs.solution.writing.write_solution.Goals as goal

pub loop-place-preserved : goal.loop-place-preserved
loop-place-preserved c =
    lines_more (line_at c.args.game.now c.args.solution.now) c.loop-place.place (solution_front c.args.game.now) _ _
    c.loop-place.invariant c.in_ok-write_line.ensures.ok

pub returns-clause-text : goal.returns-clause-text
returns-clause-text c =
    text_written c.args.game.now c.args.solution.now c.loop-place.place c.loop-place.out.items
    (omega (arith, c.loop-place-test.false, c.loop-place.auto.place-end, c.len-nodes.ensures.count)) c.loop-place.invariant
