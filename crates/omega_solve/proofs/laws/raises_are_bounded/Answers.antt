-- Lifts and places given up are together at most the bound.
use Rattle.omega_solve.proofs.turning.Raising.{raised_boundedly}
use Rattle.omega_solve.proofs.laws.raises_are_bounded.Goals as goal

pub returns : goal.returns
returns c = raised_boundedly
