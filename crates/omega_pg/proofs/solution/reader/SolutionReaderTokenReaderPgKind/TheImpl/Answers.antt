-- `SolutionReader` as a reader of tokens: what it takes begins a solution text, what it refuses does not,
-- and at its end there is a text.
use Rattle.omega_text.specs.Lexeme.{lexeme_of}
use Rattle.omega_pg.proofs.solutions.Steps.{judged_end, taken_on_all}
use Rattle.omega_pg.proofs.solution.reader.SolutionReaderTokenReaderPgKind.TheImpl.Goals as goal

pub take-tells : goal.take-tells
take-tells g _ c = record {
  takes = taken_on_all g.L.SolutionLines.keeps c.result c.args.self.now c.new.self.now (lexeme_of c.args.token.now) c.ensures.game c.ensures.takes;
  memory = c.ensures.memory;
}

pub is_complete-tells : goal.is_complete-tells
is_complete-tells g _ c = λ start lexemes has. judged_end g.L.SolutionLines.keeps c.result start c.args.self.now lexemes c.ensures has
