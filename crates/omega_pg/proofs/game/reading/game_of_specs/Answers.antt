-- `built`: if the header is too small, that is the refusal unless another comes first.
use Rattle.omega_pg.proofs.game.reading.game_of_specs.Goals as goal

pub returns-in-Err-clause-refused : goal.returns-in-Err-clause-refused
returns-in-Err-clause-refused c = rw c.if-not-too_small.false (c.first_of.ensures c.args.specs c.in-Err.ensures.refused)
