-- `SolutionReader::take_semicolon`: the header or a line ends, and is kept.
use Rattle.std.proofs.Common.{ap}
use Rattle.omega_pg.specs.private.solution.reader.Automaton.{after_semicolon}
use Rattle.omega_pg.proofs.solutions.Steps.{header_ends, line_ends}
use Rattle.omega_pg.proofs.solution.reader.SolutionReader.take_semicolon.Goals as goal

pub returns-in-Number-clause-takes : goal.returns-in-Number-clause-takes
returns-in-Number-clause-takes g c = λ state keeps. header_ends _ _ state _ _ _ _ c.in-Number.is keeps

pub returns-in_ok-add-in-Winner-clause-takes : goal.returns-in_ok-add-in-Winner-clause-takes
returns-in_ok-add-in-Winner-clause-takes g c = λ state keeps.
    line_ends _ _ state _ _ _ _ _ _ _ (ap (λ stage. after_semicolon stage state) c.in-Winner.is) keeps c.in_ok-add-in-Winner.ensures.kept

pub returns-in_ok-add-in-Chosen-clause-takes : goal.returns-in_ok-add-in-Chosen-clause-takes
returns-in_ok-add-in-Chosen-clause-takes g c = λ state keeps.
    line_ends _ _ state _ _ _ _ _ _ _ (ap (λ stage. after_semicolon stage state) c.in-Chosen.is) keeps c.in_ok-add-in-Chosen.ensures.kept
