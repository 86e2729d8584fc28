-- the blocks so far are apart
use Rattle.std.proofs.Common.{ℕ, ◌<◌, length}
use Rattle.omega_synth_game.specs.private.Exclusive.{AreApartIn}
use Rattle.omega_synth_game.proofs.exclusive.is_apart.Given as goal

abbrev pub invariant-loop-block : goal.invariant-loop-block
invariant-loop-block l = (block : ℕ) → block < l.block → AreApartIn l.mentioned block l.state (length l.state.edges)
