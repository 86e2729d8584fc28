-- `GameReader` as a reader of tokens: what it takes begins a game text, what it refuses does not,
-- and at its end there is a text.
use Rattle.omega_text.specs.Lexeme.{lexeme_of}
use Rattle.omega_pg.specs.private.game.reader.Automaton.{GameReaderState}
use Rattle.omega_pg.proofs.games.Grammar.{judged_end, taken_reached_all}
use Rattle.omega_pg.proofs.games.Pieces.{run_forward, run_inside, run_reached_all}
use Rattle.omega_pg.proofs.game.reader.GameReaderTokenReaderPgKind.TheImpl.Goals as goal

pub take-tells : goal.take-tells
take-tells _ c = record {
  takes = taken_reached_all GameReaderState c.result c.args.self.now c.new.self.now (lexeme_of c.args.token.now) c.ensures.takes;
  memory = c.ensures.memory;
}

pub take_run-tells : goal.take_run-tells
take_run-tells _ c =
    let source = c.args.source.now in
    let old = c.args.self.now in
    let new = c.new.self.now in
    record {
      takes = run_reached_all GameReaderState c.result source c.args.from old new c.ensures.leads;
      forward = run_forward c.result source c.args.from old new c.ensures.leads;
      inside = run_inside c.result source c.args.from old new c.ensures.leads;
      memory = c.ensures.memory;
    }

pub is_complete-tells : goal.is_complete-tells
is_complete-tells _ c = λ start lexemes reached. judged_end c.result c.args.self.now lexemes c.ensures reached
