-- `WrittenSolution` as a reader of tokens: it takes all of them.
use Rattle.omega_pg_diagnostics.proofs.reading.Reading.{always_whole, taken_on}
use Rattle.omega_pg_diagnostics.specs.private.WrittenSolution.{step}
use Rattle.omega_text.specs.Lexeme.{lexeme_of}
use Rattle.omega_pg_diagnostics.proofs.written_solution.WrittenSolutionTokenReaderPgKind.TheImpl.Goals as goal

pub take-tells : goal.take-tells
take-tells _ c = record {
  takes = taken_on step c.result c.args.self.now c.new.self.now (lexeme_of c.args.token.now) c.ensures.stepped c.ensures.taken;
  memory = c.ensures.memory;
}

pub is_complete-tells : goal.is_complete-tells
is_complete-tells _ c = λ start lexemes reached. always_whole c.result lexemes c.ensures
