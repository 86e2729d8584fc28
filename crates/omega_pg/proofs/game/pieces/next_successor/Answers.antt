-- A comma, and a number after it.
use Rattle.std.proofs.Common.{arith}
use Rattle.omega_pg.proofs.games.Pieces.{comma_piece, number_piece, piece_on}
use Rattle.omega_pg.proofs.game.pieces.next_successor.Goals as goal

pub returns-clause-piece : goal.returns-clause-piece
returns-clause-piece c =
    piece_on _ _ _ _ _ _
    (comma_piece c.args.source.now c.args.at (omega arith) c.if-source-at-ne44.false)
    (number_piece _ _ _ c.in_ok-id.ensures.token c.in_ok-id.ensures.number)
