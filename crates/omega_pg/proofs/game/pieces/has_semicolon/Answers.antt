-- The byte of a semicolon is one.
use Rattle.std.proofs.lemmas.Bool.{eqb-true}
use Rattle.omega_pg.proofs.games.Pieces.{semicolon_piece}
use Rattle.omega_pg.proofs.game.pieces.has_semicolon.Goals as goal

pub returns-then-at-source : goal.returns-then-at-source
returns-then-at-source c = λ same. semicolon_piece c.args.source.now c.args.at c.if-at-source.true (eqb-true _ 59 same)
