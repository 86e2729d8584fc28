-- `write_solution`: the entries of all places hold the solution.
use Rattle.std.proofs.Common.{◌∙◌, subst, ℕ}
use Rattle.omega_arrays.specs.private.Written.{AreWritten}
use Rattle.omega_arrays.proofs.Answering.{held_back, players_written}
use Rattle.omega_arrays.proofs.answer.write_solution.Goals as goal

pub returns-clause-held : goal.returns-clause-held
returns-clause-held c =
    held_back c.args.game.now c.args.solution.now c.keeps_limits.ensures.game c.keeps_limits.ensures.limits c.requires.fits
    c.write_places.new.winners c.write_places.new.choices (c.write_places.auto.winners ∙ c.requires.winners)
    (subst (λ (n : ℕ). AreWritten c.args.solution.now n c.write_places.new.winners c.write_places.new.choices) c.requires.winners c.write_places.ensures)

pub returns-clause-players : goal.returns-clause-players
returns-clause-players c =
    players_written c.args.game.now c.args.solution.now c.keeps_limits.ensures.game c.keeps_limits.ensures.limits c.requires.fits
    c.write_places.new.winners c.write_places.new.choices (c.write_places.auto.winners ∙ c.requires.winners)
    (subst (λ (n : ℕ). AreWritten c.args.solution.now n c.write_places.new.winners c.write_places.new.choices) c.requires.winners c.write_places.ensures)
