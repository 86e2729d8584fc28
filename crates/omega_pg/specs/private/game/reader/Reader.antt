-- A reader as the state of the automaton.
use Rattle.omega_pg.specs.private.game.reader.Automaton.{GameReaderState}
use Rattle.omega_pg.specs.declared.game.reader.GameReader.TheInside.{Inside}

-- the state that a reader keeps
abbrev pub game_reader_state : Inside → GameReaderState
game_reader_state reader = record {
  stage = reader.stage;
  header = reader.header;
  specs = reader.specs;
  header_too_small = reader.header_too_small;
}
