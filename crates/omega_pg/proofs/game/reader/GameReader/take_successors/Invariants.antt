-- The successors so far lead on, and the last specification stays open.
use Rattle.std.proofs.Common.{◌≡◌, ◌-◌, length}
use Rattle.omega_pg.specs.declared.game.stage.GameStage.TheVariants.{Listed}
use Rattle.omega_pg.specs.private.game.reader.Pieces.{LeadsOn}
use Rattle.omega_pg.specs.private.game.reader.Reader.{game_reader_state}
use Rattle.omega_pg.proofs.game.reader.GameReader.take_successors.Given as goal

abbrev pub invariant-loop-successor : goal.invariant-loop-successor
invariant-loop-successor l = record {
  leads : LeadsOn l.source l.from l.at l.fn.self (game_reader_state l.self-inside);
  listed : l.self-inside.stage ≡ Listed;
}

abbrev pub decreases-loop-successor : goal.decreases-loop-successor
decreases-loop-successor l = length l.source - l.at
