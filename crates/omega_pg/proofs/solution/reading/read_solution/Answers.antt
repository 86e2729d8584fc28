-- `read_solution`: what the lines come to is the solution of the text, or its refusal.
use Rattle.omega_pg.specs.private.solution.reader.Lines.{KeepsLines}
use Rattle.omega_pg.proofs.solutions.Texts.{read_for, solution_read, solution_refused}
use Rattle.omega_pg.proofs.solution.reading.read_solution.Goals as goal

pub returns-clause-solution : goal.returns-clause-solution
returns-clause-solution c =
    let read = read_for KeepsLines c.args.bytes.now c.args.game.now c.new-2.result c.in_ok-greatest.field-0 c.new-2.ensures.game c.in_ok-greatest.ensures.read in
    solution_read c.args.bytes.now c.args.game.now _ _ _ read c.finish.result (c.finish.ensures.judged read.all_taken.state.lines read.all_taken.keeps.kept)

pub returns-clause-refused : goal.returns-clause-refused
returns-clause-refused c =
    let read = read_for KeepsLines c.args.bytes.now c.args.game.now c.new-2.result c.in_ok-greatest.field-0 c.new-2.ensures.game c.in_ok-greatest.ensures.read in
    solution_refused c.args.bytes.now c.args.game.now _ _ _ read c.finish.result (c.finish.ensures.judged read.all_taken.state.lines read.all_taken.keeps.kept)
