-- `LenientReader` as a reader of tokens: what it takes begins a lenient text, what it refuses does not,
-- and at its end there is a text.
use Rattle.omega_text.specs.Lexeme.{lexeme_of}
use Rattle.omega_pg_lenient.specs.private.Automaton.{LenientState}
use Rattle.omega_pg_lenient.proofs.grammar.Decided.{judged_end, taken_reached_all}
use Rattle.omega_pg_lenient.proofs.reader.LenientReaderTokenReaderLenientKind.TheImpl.Goals as goal

pub take-tells : goal.take-tells
take-tells _ c = record {
  takes = taken_reached_all LenientState c.result c.args.self.now c.new.self.now (lexeme_of c.args.token.now) c.ensures.takes;
  memory = c.ensures.memory;
}

pub is_complete-tells : goal.is_complete-tells
is_complete-tells _ c = λ start lexemes reached. judged_end c.result c.args.self.now lexemes c.ensures reached
