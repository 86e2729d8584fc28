-- Four numbers, one after the other.
use Rattle.omega_pg.proofs.games.Pieces.{head_piece, number_piece}
use Rattle.omega_pg.proofs.game.pieces.next_head.Goals as goal

pub returns-clause-piece : goal.returns-clause-piece
returns-clause-piece c =
    head_piece _ _ _ _ _ _ _ _ _ _ _
    (number_piece _ _ _ c.in_ok-id.ensures.token c.in_ok-id.ensures.number)
    (number_piece _ _ _ c.in_ok-priority.ensures.token c.in_ok-priority.ensures.number)
    (number_piece _ _ _ c.in_ok-owner.ensures.token c.in_ok-owner.ensures.number)
    (number_piece _ _ _ c.in_ok-first.ensures.token c.in_ok-first.ensures.number)
    c.in_ok-player.ensures
