-- `FormulaMeasurer` as a reader of tokens: what it takes begins a formula, and what it refuses does not; it is complete
-- exactly at the end of a formula.
use Rattle.omega_text.specs.Lexeme.{lexeme_of}
use Rattle.omega_ltl_text.proofs.Measuring.{measured_end, measured_on_all}
use Rattle.omega_ltl_text.proofs.measurer.FormulaMeasurerTokenReaderFormulaKind.TheImpl.Goals as goal

pub take-tells : goal.take-tells
take-tells _ c = record {
  takes = measured_on_all c.result c.args.self.now c.new.self.now (lexeme_of c.args.token.now) c.ensures.goes c.ensures.size;
  memory = c.ensures.memory;
}

pub is_complete-tells : goal.is_complete-tells
is_complete-tells _ c = λ start lexemes has. measured_end c.result start c.args.self.now lexemes c.ensures has
